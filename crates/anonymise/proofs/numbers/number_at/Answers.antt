-- `anonymise::numbers::number_at` meets its contract.
use Rattle.anonymise.proofs.Names.{numbers}
use Rattle.anonymise.proofs.numbers.number_at.Goals as goal

pub returns-in-Number : goal.returns-in-Number
returns-in-Number c = search numbers

pub returns-in-Name : goal.returns-in-Name
returns-in-Name c = search numbers
