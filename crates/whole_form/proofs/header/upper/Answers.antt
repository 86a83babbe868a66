-- `whole_form::header::upper` meets its contract.
use Rattle.whole_form.proofs.Headers.{upper_long, upper_short}
use borrow.Author.Rules.{rules}
use Rattle.whole_form.proofs.header.upper.Goals as goal

pub returns-then-long : goal.returns-then-long
returns-then-long c = search (upper_long, upper_short, rules)

pub returns-else-long : goal.returns-else-long
returns-else-long c = search (upper_long, upper_short, rules)
