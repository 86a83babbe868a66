-- `form_bytes::byte_at` meets its contract.
use borrow.Author.Rules.{rules}
use Rattle.kit.proofs.Laws.{past}
use Rattle.form_bytes.proofs.byte_at.Goals as goal

pub returns-else-at-form : goal.returns-else-at-form
returns-else-at-form c = search (past, rules)
