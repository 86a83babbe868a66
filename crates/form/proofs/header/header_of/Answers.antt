-- `form::header::header_of` meets its contract.
use Rattle.form.proofs.HeaderTests.{header_input}
use borrow.Author.Rules.{rules}
use Rattle.form.proofs.header.header_of.Goals as goal

pub returns : goal.returns
returns c = search (header_input, rules)
