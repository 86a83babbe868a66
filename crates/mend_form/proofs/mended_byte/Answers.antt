-- `mend_form::mended_byte` meets its contract.
use Rattle.mend_form.proofs.Laws.{byte_ways}
use Rattle.mend_form.proofs.mended_byte.Goals as goal

pub returns-then-part-eq0 : goal.returns-then-part-eq0
returns-then-part-eq0 c = search byte_ways

pub returns-then-j-eq2 : goal.returns-then-j-eq2
returns-then-j-eq2 c = search byte_ways

pub returns-then-j-eq3 : goal.returns-then-j-eq3
returns-then-j-eq3 c = search byte_ways

pub returns-then-code-eq-OUTER : goal.returns-then-code-eq-OUTER
returns-then-code-eq-OUTER c = search byte_ways

pub returns-then-stays : goal.returns-then-stays
returns-then-stays c = search byte_ways

pub returns-else-stays : goal.returns-else-stays
returns-else-stays c = search byte_ways
