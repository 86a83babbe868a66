-- `limits::of_input` meets its contract.
use borrow.Author.Rules.{rules}
use Rattle.limits.proofs.Laws.{entry_two, entry_newer, entry_else}
use Rattle.limits.proofs.of_input.Goals as goal

pub returns-then-i-eq1 : goal.returns-then-i-eq1
returns-then-i-eq1 c = search (entry_two, rules)

pub returns-then-i-eq2 : goal.returns-then-i-eq2
returns-then-i-eq2 c = search (entry_newer, rules)

pub returns-else-i-eq2 : goal.returns-else-i-eq2
returns-else-i-eq2 c = search (entry_else, rules)
