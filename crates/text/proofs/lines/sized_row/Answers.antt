-- `text::lines::sized_row` meets its contract.
use Rattle.kit.proofs.Laws.{picks}
use Rattle.kit.specs.Pick.{pick}
use Rattle.text.specs.Lines.{sized}
use borrow.Author.Rules.{rules}
use Rattle.text.proofs.lines.sized_row.Goals as goal

pub returns-then-code-gt255 : goal.returns-then-code-gt255
unfolding sized pick
returns-then-code-gt255 c = search picks

pub returns-then-b-gt255 : goal.returns-then-b-gt255
unfolding sized pick
returns-then-b-gt255 c = search picks

pub returns-then-e-gt65535 : goal.returns-then-e-gt65535
unfolding sized pick
returns-then-e-gt65535 c = search picks

pub returns-then-x-gt4294967295 : goal.returns-then-x-gt4294967295
unfolding sized pick
returns-then-x-gt4294967295 c = search picks

pub returns-then-y-gt4294967295 : goal.returns-then-y-gt4294967295
unfolding sized pick
returns-then-y-gt4294967295 c = search picks

pub returns-then-z-gt4294967295 : goal.returns-then-z-gt4294967295
unfolding sized pick
returns-then-z-gt4294967295 c = search picks

pub overflow_cast-result : goal.overflow_cast-result
unfolding sized pick
overflow_cast-result c = search rules

pub overflow_cast-result-2 : goal.overflow_cast-result-2
unfolding sized pick
overflow_cast-result-2 c = search rules

pub overflow_cast-result-3 : goal.overflow_cast-result-3
unfolding sized pick
overflow_cast-result-3 c = search rules

pub overflow_cast-result-4 : goal.overflow_cast-result-4
unfolding sized pick
overflow_cast-result-4 c = search rules

pub overflow_cast-result-5 : goal.overflow_cast-result-5
unfolding sized pick
overflow_cast-result-5 c = search rules

pub overflow_cast-result-6 : goal.overflow_cast-result-6
unfolding sized pick
overflow_cast-result-6 c = search rules

pub returns : goal.returns
unfolding sized pick
returns c = search picks
