-- `scopes::lookup::first_on` meets its contract. The invariant: the first row that is sought, above the next row on the chain or found below.
use Rattle.scopes.proofs.ChainLaws.{link_less, first_start, first_next, first_end}
use Rattle.scopes.proofs.TableLaws.{counts_below}
use native.Mathlib.Omega.{arith}
use borrow.Author.Rules.{rules}
use Rattle.scopes.proofs.lookup.first_on.Goals as goal

pub loop-next-init : goal.loop-next-init
loop-next-init c = let pre = c.requires in
    let chain = c.chain_of.ensures in
    first_start _ _ _ _ _ _ pre.3 pre.2 _ _ _ c.sought_by.ensures chain.0 chain.1 c.at-next.ensures

pub is_sought-requires : goal.is_sought-requires
is_sought-requires c = (search rules, counts_below _ _ _ _ c.requires.1 (omega arith))

pub loop-next-smaller : goal.loop-next-smaller
loop-next-smaller c = link_less _ _ _ _ c.requires.2 _ _ _ c.loop-next-test.true c.loop-next.invariant.2 c.loop-next.invariant.1 c.at-next-in-loop-next.ensures

pub loop-next-preserved : goal.loop-next-preserved
loop-next-preserved c = let pre = c.requires in
    first_next _ _ _ _ _ _ pre.3 pre.2 _ _ c.loop-next-test.true c.loop-next.invariant _ c.is_sought.ensures _ c.chosen-first.ensures _ c.at-next-in-loop-next.ensures

pub returns : goal.returns
returns c = (first_end _ _ _ _ _ _ _ c.loop-next.invariant.0 c.loop-next-test.false, search rules)
