-- `member::room_in` meets its contract.
use borrow.Author.Rules.{rules}
use Rattle.member.proofs.Ways.{room_none, room_whole}
use Rattle.member.proofs.room_in.Goals as goal

pub returns-then-area-lt-AREA : goal.returns-then-area-lt-AREA
returns-then-area-lt-AREA c = (search (room_none, room_whole, rules), search rules, search rules)

pub returns-else-area-lt-AREA : goal.returns-else-area-lt-AREA
returns-else-area-lt-AREA c = (search (room_none, room_whole, rules), search rules, search rules)
