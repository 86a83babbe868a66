-- `member_with::run::room_in` meets its contract.
use Rattle.member_with.proofs.Ways.{room_none, room_whole, room_low}
use borrow.Author.Rules.{rules}
use Rattle.member_with.proofs.run.room_in.Goals as goal

pub returns-then-work-size : goal.returns-then-work-size
returns-then-work-size c = (search (room_none, rules), search rules, search rules)

pub returns-else-work-size : goal.returns-else-work-size
returns-else-work-size c = (search (room_whole, rules), search (room_low, rules), search rules)
