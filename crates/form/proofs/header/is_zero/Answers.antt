-- `form::header::is_zero` meets its contract. The invariant: from here on is as from the start.
use Rattle.form.proofs.HeaderTests.{zero_ways}
use Rattle.form.proofs.header.is_zero.Goals as goal

pub returns-then-form-i-ne0 : goal.returns-then-form-i-ne0
returns-then-form-i-ne0 c = search zero_ways

pub loop-i-preserved : goal.loop-i-preserved
loop-i-preserved c = search zero_ways

pub returns : goal.returns
returns c = search zero_ways
