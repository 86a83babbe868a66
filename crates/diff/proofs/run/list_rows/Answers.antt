-- `diff::run::list_rows` meets its contract.
use borrow.Author.Rules.{rules}
use Rattle.diff.proofs.Runs.{rows_short, rows_room, rows_listed}
use Rattle.diff.proofs.run.list_rows.Goals as goal

pub returns-then-list-size : goal.returns-then-list-size
returns-then-list-size c = search (rows_short, rules)

pub put_list-requires : goal.put_list-requires
put_list-requires c = (search rules, search (rows_room, rules))

pub returns : goal.returns
returns c = search (rows_listed, rules)
