-- `mend::run::has_room` meets its contract.
use Rattle.mend.proofs.Ways.{room_short, room_right}
use borrow.Author.Rules.{rules}
use Rattle.mend.proofs.run.has_room.Goals as goal

pub returns-then-room-size : goal.returns-then-room-size
returns-then-room-size c = search (room_short, rules)

pub returns : goal.returns
returns c = search (room_right, rules)
