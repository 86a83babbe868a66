-- `back_notes::named::name_rows` meets its contract.
use Rattle.back_notes.proofs.Ways.{names_all}
use borrow.Author.Rules.{rules}
use Rattle.back_notes.proofs.named.name_rows.Goals as goal

pub returns : goal.returns
returns c = search (names_all, rules)
