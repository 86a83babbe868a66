-- `meanings::tables::note_scopes` meets its contract.
use Rattle.scopes.proofs.TableLaws.{scopes_on, scopes_ways}
use native.Mathlib.Omega.{arith}
use borrow.Author.Rules.{rules}
use Rattle.meanings.proofs.tables.note_scopes.Goals as goal

pub loop-row-init : goal.loop-row-init
loop-row-init c = (search scopes_ways, search scopes_ways, search rules, search rules)

pub scope_behind-next-requires : goal.scope_behind-next-requires
scope_behind-next-requires c = (search rules, search rules, search rules)

pub loop-row-preserved : goal.loop-row-preserved
loop-row-preserved c = let turn = c.loop-row.invariant in (
  scopes_on _ _ _ turn.0 (omega arith) _ _ c.put.ensures turn.1,
  search rules,
  search rules,
  search rules,
)

pub returns : goal.returns
returns c = search scopes_ways
