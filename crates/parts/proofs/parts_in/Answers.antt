-- `parts::parts_in` meets its contract: its definition is what the reads find.
use Rattle.parts.proofs.Laws.{parts_found}
use borrow.Author.Rules.{rules}
use Rattle.parts.proofs.parts_in.Goals as goal

pub returns : goal.returns
returns c = search (parts_found, rules)
