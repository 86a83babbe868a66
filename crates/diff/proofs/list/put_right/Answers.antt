-- `diff::list::put_right` meets its contract.
use borrow.Author.Rules.{rules}
use Rattle.diff.proofs.Ways.{goes_starts, goes_stops, ends_stops, goes_done, ends_done, right_within, right_room, right_again}
use Rattle.diff.proofs.list.put_right.Goals as goal

pub loop-j-init : goal.loop-j-init
loop-j-init c = (search (goes_starts, rules), search rules)

pub returns-then-end-j : goal.returns-then-end-j
returns-then-end-j c = (search (goes_stops, rules), search (ends_stops, rules))

pub put_field-behind-requires : goal.put_field-behind-requires
put_field-behind-requires c = (search rules, search (right_within, rules), search (right_room, rules))

pub loop-j-preserved : goal.loop-j-preserved
loop-j-preserved c = (search (right_again, rules), search rules)

pub returns : goal.returns
returns c = (search (goes_done, rules), search (ends_done, rules))
