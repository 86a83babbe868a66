-- `anonymise::numbers::enter` meets its contract.
use Rattle.anonymise.proofs.Names.{enters}
use Rattle.anonymise.proofs.numbers.enter.Goals as goal

pub returns-then-name-eq0 : goal.returns-then-name-eq0
returns-then-name-eq0 c = search enters

pub returns-in-Some : goal.returns-in-Some
returns-in-Some c = search enters

pub returns-in-None : goal.returns-in-None
returns-in-None c = search enters
