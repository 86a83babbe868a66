-- `name_file::with_byte` meets its contract.
use Rattle.name_file.proofs.Laws.{byte_ways}
use Rattle.name_file.proofs.with_byte.Goals as goal

pub returns-in-Start : goal.returns-in-Start
returns-in-Start c = search byte_ways

pub returns-in-Number : goal.returns-in-Number
returns-in-Number c = search byte_ways

pub returns-in-Blank : goal.returns-in-Blank
returns-in-Blank c = search byte_ways

pub returns-in-Letters : goal.returns-in-Letters
returns-in-Letters c = search byte_ways

pub returns-in_default : goal.returns-in_default
returns-in_default c = search byte_ways
