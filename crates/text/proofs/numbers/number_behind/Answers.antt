-- `text::numbers::number_behind` meets its contract.
use Rattle.text.proofs.NumberLaws.{number_ways}
use Rattle.text.proofs.numbers.number_behind.Goals as goal

pub returns-then-line-at : goal.returns-then-line-at
returns-then-line-at c = search number_ways

pub returns-then-line-at-2 : goal.returns-then-line-at-2
returns-then-line-at-2 c = search number_ways

pub returns-else-line-at-2 : goal.returns-else-line-at-2
returns-else-line-at-2 c = search number_ways
