-- `whole_form::header::count_byte` meets its contract.
use Rattle.whole_form.proofs.Headers.{byte_ways}
use Rattle.whole_form.proofs.header.count_byte.Goals as goal

pub returns-in-6 : goal.returns-in-6
returns-in-6 c = search byte_ways

pub returns-in-7 : goal.returns-in-7
returns-in-7 c = search byte_ways

pub returns-in-8 : goal.returns-in-8
returns-in-8 c = search byte_ways

pub returns-in-9 : goal.returns-in-9
returns-in-9 c = search byte_ways

pub returns-in_default : goal.returns-in_default
returns-in_default c = search byte_ways
