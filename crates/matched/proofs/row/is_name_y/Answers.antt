-- `matched::row::is_name_y` meets its contract.
use Rattle.comparing.specs.Laws.Parts.{is_name_y}
use borrow.Author.Rules.{rules}
use Rattle.matched.proofs.row.is_name_y.Goals as goal

pub returns : goal.returns
returns c = unfold is_name_y in search rules
