-- `text::numbers::with_digit` meets its contract.
use Rattle.text.proofs.NumberLaws.{digit_ways}
use Rattle.text.proofs.numbers.with_digit.Goals as goal

pub overflow_sub-longer : goal.overflow_sub-longer
overflow_sub-longer c = search digit_ways

pub overflow_cast-longer : goal.overflow_cast-longer
overflow_cast-longer c = search digit_ways

pub overflow_add-longer : goal.overflow_add-longer
overflow_add-longer c = search digit_ways

pub returns-then-longer-lt-LARGE : goal.returns-then-longer-lt-LARGE
returns-then-longer-lt-LARGE c = search digit_ways

pub returns-else-longer-lt-LARGE : goal.returns-else-longer-lt-LARGE
returns-else-longer-lt-LARGE c = search digit_ways
