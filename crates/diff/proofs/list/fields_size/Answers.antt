-- `diff::list::fields_size` meets its contract.
use borrow.Author.Rules.{rules}
use Rattle.diff.proofs.Ways.{size_starts, size_stops, size_again, size_done}
use Rattle.diff.proofs.list.fields_size.Goals as goal

pub loop-i-init : goal.loop-i-init
loop-i-init c = (search (size_starts, rules), search rules, search rules, search rules)

pub returns-then-end-i : goal.returns-then-end-i
returns-then-end-i c = (search (size_stops, rules), search rules)

pub loop-i-preserved : goal.loop-i-preserved
loop-i-preserved c = (search (size_again, rules), search rules, search rules, search rules)

pub returns : goal.returns
returns c = (search (size_done, rules), search rules)
