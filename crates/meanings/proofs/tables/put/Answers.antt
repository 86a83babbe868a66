-- `meanings::tables::put` meets its contract.
use Rattle.scopes.proofs.TableLaws.{table_ways}
use Rattle.meanings.proofs.tables.put.Goals as goal

pub returns-else-i-table : goal.returns-else-i-table
returns-else-i-table c = search table_ways
