-- `read_row::on_path` meets its contract.
use Rattle.read_row.proofs.Steps.{path_else, path_none, path_on}
use borrow.Author.Rules.{rules}
use Rattle.read_row.proofs.on_path.Goals as goal

pub returns-then-s-ne-PATHING : goal.returns-then-s-ne-PATHING
returns-then-s-ne-PATHING c = search (path_else, path_none, path_on, rules)

pub returns-then-paths-eq0 : goal.returns-then-paths-eq0
returns-then-paths-eq0 c = search (path_else, path_none, path_on, rules)

pub returns : goal.returns
returns c = search (path_else, path_none, path_on, rules)
