-- `batch_with::room_in` meets its contract.
use borrow.Author.Rules.{rules}
use Rattle.batch_with.proofs.Ways.{room_none, room_whole}
use Rattle.batch_with.proofs.room_in.Goals as goal

pub returns-then-small : goal.returns-then-small
returns-then-small c = (search (room_none, rules), search rules)

pub returns-else-small : goal.returns-else-small
returns-else-small c = (search (room_whole, rules), search rules)
