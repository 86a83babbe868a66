-- `meanings::chains::number_on` meets its contract. The invariant: as many are counted above the next row on the chain as above the row.
use Rattle.scopes.proofs.ChainLaws.{link_less, count_start, count_hit, count_next, count_end}
use Rattle.scopes.proofs.TableLaws.{counts_below}
use native.Mathlib.Omega.{arith}
use Rattle.meanings.proofs.chains.number_on.Goals as goal

pub loop-next-init : goal.loop-next-init
loop-next-init c = let pre = c.requires in
    count_start _ _ _ _ _ _ pre.2 pre.3 c.scope_at-scope.ensures.0 c.b_at-space.ensures _ pre.4 c.at-next.ensures

pub number_at-requires : goal.number_at-requires
number_at-requires c = counts_below _ _ _ _ c.requires.1 (omega arith)

pub returns-then-is_declared : goal.returns-then-is_declared
returns-then-is_declared c = let pre = c.requires in
    count_hit _ _ _ _ _ _ pre.2 pre.3 c.scope_at-scope.ensures.0 c.b_at-space.ensures _ c.loop-next-test.true c.loop-next.invariant _ c.is_declared.ensures c.if-is_declared.true _ c.number_at.ensures.0

pub loop-next-smaller : goal.loop-next-smaller
loop-next-smaller c = link_less _ _ _ _ c.requires.2 _ _ _ c.loop-next-test.true c.loop-next.invariant.2 c.loop-next.invariant.1 c.at-next-in-loop-next.ensures

pub loop-next-preserved : goal.loop-next-preserved
loop-next-preserved c = let pre = c.requires in
    count_next _ _ _ _ _ _ pre.2 pre.3 c.scope_at-scope.ensures.0 c.b_at-space.ensures _ c.loop-next-test.true c.loop-next.invariant _ c.is_declared.ensures c.if-is_declared.false _ c.at-next-in-loop-next.ensures

pub returns : goal.returns
returns c = count_end _ _ _ _ _ c.loop-next.invariant.0 c.loop-next-test.false
