-- `text::numbers::number_in` meets its contract.
use Rattle.text.proofs.NumberLaws.{number_ways}
use Rattle.text.proofs.numbers.number_in.Goals as goal

pub returns-then-line-from : goal.returns-then-line-from
returns-then-line-from c = search number_ways

pub returns-then-is_digit : goal.returns-then-is_digit
returns-then-is_digit c = search number_ways

pub returns-else-is_digit : goal.returns-else-is_digit
returns-else-is_digit c = search number_ways
