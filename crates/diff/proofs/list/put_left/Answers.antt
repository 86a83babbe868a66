-- `diff::list::put_left` meets its contract.
use borrow.Author.Rules.{rules}
use Rattle.diff.proofs.Ways.{goes_starts, goes_stops, ends_stops, goes_done, ends_done, left_room, left_again}
use Rattle.diff.proofs.list.put_left.Goals as goal

pub loop-i-init : goal.loop-i-init
loop-i-init c = (search (goes_starts, rules), search rules)

pub returns-then-end-i : goal.returns-then-end-i
returns-then-end-i c = (search (goes_stops, rules), search (ends_stops, rules))

pub put_entry-requires : goal.put_entry-requires
put_entry-requires c = search (left_room, rules)

pub loop-i-preserved : goal.loop-i-preserved
loop-i-preserved c = (search (left_again, rules), search rules)

pub returns : goal.returns
returns c = (search (goes_done, rules), search (ends_done, rules))
