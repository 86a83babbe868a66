-- `form::header::row_count` meets its contract.
use native.Mathlib.Omega.{arith}
use Rattle.form.proofs.HeaderTests.{count_short, count_long}
use borrow.Author.Rules.{rules}
use Rattle.form.proofs.header.row_count.Goals as goal

pub returns-then-long : goal.returns-then-long
returns-then-long c = (search (count_long, rules), omega arith)

pub returns-else-long : goal.returns-else-long
returns-else-long c = (search (count_short, rules), omega arith)
