-- `scopes::tables::is_declared` meets its contract.
use Rattle.scopes.proofs.TableLaws.{count_ways}
use Rattle.scopes.proofs.tables.is_declared.Goals as goal

pub scope_at-requires : goal.scope_at-requires
scope_at-requires c = search count_ways

pub code_at-requires : goal.code_at-requires
code_at-requires c = search count_ways

pub b_at-requires : goal.b_at-requires
b_at-requires c = search count_ways

pub returns : goal.returns
returns c = search count_ways
