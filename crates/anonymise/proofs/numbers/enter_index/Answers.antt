-- `anonymise::numbers::enter_index` meets its contract.
use Rattle.anonymise.proofs.Names.{enters}
use Rattle.anonymise.proofs.numbers.enter_index.Goals as goal

pub returns-in-Number : goal.returns-in-Number
returns-in-Number c = search enters

pub returns-in-Name : goal.returns-in-Name
returns-in-Name c = search enters
