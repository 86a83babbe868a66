-- `scopes::tables::scope_at` meets its contract.
use Rattle.std.proofs.Common.{rules}
use Rattle.scopes.proofs.TableLaws.{scope_there}
use Rattle.scopes.proofs.tables.scope_at.Goals as goal

pub returns-then-row-lt4096 : goal.returns-then-row-lt4096
returns-then-row-lt4096 c = scope_there _ _ c.requires (search rules) _ _ c.if-row-lt4096.true c.at.ensures
