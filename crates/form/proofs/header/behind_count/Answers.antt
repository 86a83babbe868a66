-- `form::header::behind_count` meets its contract.
use Rattle.form.proofs.HeaderTests.{behind_four, behind_two}
use borrow.Author.Rules.{rules}
use Rattle.form.proofs.header.behind_count.Goals as goal

pub returns-then-long : goal.returns-then-long
returns-then-long c = search (behind_four, rules)

pub returns-else-long : goal.returns-else-long
returns-else-long c = search (behind_two, rules)
