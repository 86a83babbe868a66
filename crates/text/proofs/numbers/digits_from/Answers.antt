-- `text::numbers::digits_from` meets its contract. The invariant: the digits from here on make of the number so far what all of them make.
use Rattle.text.proofs.NumberLaws.{digits_ways}
use Rattle.text.proofs.numbers.digits_from.Goals as goal

pub loop-end-init : goal.loop-end-init
loop-end-init c = search digits_ways

pub with_digit-value-requires : goal.with_digit-value-requires
with_digit-value-requires c = search digits_ways

pub loop-end-preserved : goal.loop-end-preserved
loop-end-preserved c = search digits_ways

pub returns-else-is_digit : goal.returns-else-is_digit
returns-else-is_digit c = search digits_ways

pub returns : goal.returns
returns c = search digits_ways
