-- `diff::run::put_list` meets its contract.
use borrow.Author.Rules.{rules}
use Rattle.diff.proofs.Runs.{same_room, same_done, opening_room, other_room, other_done}
use Rattle.diff.proofs.run.put_list.Goals as goal

pub put_rest-requires : goal.put_rest-requires
put_rest-requires c = search (same_room, rules)

pub returns-then-same : goal.returns-then-same
returns-then-same c = search (same_done, rules)

pub put_opening-requires : goal.put_opening-requires
put_opening-requires c = (search rules, search (opening_room, rules))

pub put_rest-requires-2 : goal.put_rest-requires-2
put_rest-requires-2 c = search (other_room, rules)

pub returns : goal.returns
returns c = search (other_done, rules)
