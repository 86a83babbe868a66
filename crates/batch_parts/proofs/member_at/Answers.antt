-- `batch_parts::member_at` meets its contract. The invariant: the member is the same one of those that are left.
use borrow.Author.Rules.{rules}
use Rattle.batch_parts.proofs.Ways.{member_ways}
use Rattle.batch_parts.proofs.member_at.Goals as goal

pub returns-then-lengths-i : goal.returns-then-lengths-i
returns-then-lengths-i c = search member_ways

pub loop-k-init : goal.loop-k-init
loop-k-init c = (search member_ways, search rules, search rules, search rules)

pub loop-k-preserved : goal.loop-k-preserved
loop-k-preserved c = (search member_ways, search rules, search rules, search rules)

pub returns : goal.returns
returns c = search member_ways
