-- `matched::row::all_same` meets its contract.
use borrow.Author.Rules.{rules}
use Rattle.matched.specs.Counted.{all_same}
use Rattle.matched.proofs.row.all_same.Goals as goal

pub returns : goal.returns
returns c = unfold all_same in search rules
