-- `meanings::chains::note_numbers` meets its contract.
use Rattle.scopes.proofs.ChainLaws.{chain_space, chains_on}
use Rattle.scopes.proofs.TableLaws.{counts_none, scopes_kept, counts_on, counts_below}
use native.Mathlib.Omega.{arith}
use borrow.Author.Rules.{rules}
use Prim.Native.Nat.{◌<◌}
use Rattle.meanings.proofs.chains.note_numbers.Goals as goal

pub loop-row-init : goal.loop-row-init
loop-row-init c = (search rules, search (counts_none, rules), search rules, search rules, search rules, search rules)

pub number_on-number-requires : goal.number_on-number-requires
number_on-number-requires c = (search rules, search rules, search rules, chain_space _ _ _ _ _ c.scope_at.ensures.0 c.b_at.ensures c.chain_of-chain.ensures.0, search rules, search rules)

pub loop-row-preserved : goal.loop-row-preserved
loop-row-preserved c = let chain = c.chain_of-chain.ensures in
    let turn = c.loop-row.invariant in
    let pre = c.requires in
    let low : c.loop-row.row < 4096 = omega (arith, turn.3, c.loop-row-test.true, c.rows_in-rows.ensures, pre.2) in (
      scopes_kept _ _ _ _ _ c.put.ensures turn.0,
      counts_on _ _ _ _ _ c.put.ensures turn.1 (omega (arith, low, turn.4, pre.3)) c.number_on-number.ensures,
      chains_on _ _ _ _ turn.2 low (omega (arith, turn.5, pre.4)) _ (chain_space _ _ _ _ _ c.scope_at.ensures.0 c.b_at.ensures chain.0) chain.1 _ c.link.ensures,
      search rules,
      search rules,
      search rules,
    )

pub returns : goal.returns
returns c = (search rules, counts_below _ _ _ _ c.loop-row.invariant.1 (omega arith))
