-- `form::header::byte_at` meets its contract.
use native.Mathlib.Omega.{arith}
use Rattle.kit.proofs.Laws.{past}
use borrow.Author.Rules.{rules}
use Rattle.form.proofs.header.byte_at.Goals as goal

pub returns-else-i-form : goal.returns-else-i-form
returns-else-i-form c = (search (past, rules), omega arith)
