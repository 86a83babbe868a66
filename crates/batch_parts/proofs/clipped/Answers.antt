-- `batch_parts::clipped` meets its contract.
use borrow.Author.Rules.{rules}
use Rattle.batch_parts.proofs.Ways.{member_ways}
use Rattle.batch_parts.proofs.clipped.Goals as goal

pub returns-then-rest-n : goal.returns-then-rest-n
returns-then-rest-n c = (search member_ways, search rules)

pub returns-else-rest-n : goal.returns-else-rest-n
returns-else-rest-n c = (search member_ways, search rules)
