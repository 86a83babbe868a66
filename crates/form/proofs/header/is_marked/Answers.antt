-- `form::header::is_marked` meets its contract.
use Rattle.form.proofs.HeaderTests.{marked_short, marked_found}
use borrow.Author.Rules.{rules}
use Rattle.form.proofs.header.is_marked.Goals as goal

pub returns-then-form-lt6 : goal.returns-then-form-lt6
returns-then-form-lt6 c = search (marked_short, rules)

pub returns : goal.returns
returns c = search (marked_found, rules)
