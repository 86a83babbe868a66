-- `matched::fields::is_behind` meets its contract.
use borrow.Author.Rules.{rules}
use Rattle.matched.specs.Alike.{is_behind}
use Rattle.matched.proofs.fields.is_behind.Goals as goal

pub returns : goal.returns
returns c = unfold is_behind in search rules
