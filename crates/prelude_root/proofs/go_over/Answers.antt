-- `prelude_root::go_over` meets its contract.
use Rattle.prelude_root.proofs.Ways.{turn_is}
use borrow.Author.Rules.{rules}
use Rattle.prelude_root.proofs.go_over.Goals as goal

pub returns : goal.returns
returns c = (search (turn_is, rules), search rules, search rules)
