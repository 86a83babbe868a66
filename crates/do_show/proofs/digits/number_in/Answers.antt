-- `do_show::digits::number_in` meets its contract. The invariant: the digits from here on make of the number so far what all of them make.
use Rattle.do_show.proofs.Laws.{text_on, text_ways}
use Rattle.do_show.proofs.digits.number_in.Goals as goal

pub returns-then-text-eq0 : goal.returns-then-text-eq0
returns-then-text-eq0 c = search text_ways

pub loop-i-init : goal.loop-i-init
loop-i-init c = search text_ways

pub returns-in_err-number : goal.returns-in_err-number
returns-in_err-number c = search text_ways

pub loop-i-preserved : goal.loop-i-preserved
loop-i-preserved c = text_on _ _ _ _ c.loop-i.invariant c.loop-i-test.true _ c.with_digit.ensures _ c.in_ok-number.was

pub returns : goal.returns
returns c = search text_ways
