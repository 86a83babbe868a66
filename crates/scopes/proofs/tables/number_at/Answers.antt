-- `scopes::tables::number_at` meets its contract.
use Rattle.scopes.proofs.TableLaws.{count_ways}
use Rattle.scopes.proofs.tables.number_at.Goals as goal

pub returns : goal.returns
returns c = search count_ways
