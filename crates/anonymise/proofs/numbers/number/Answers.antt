-- `anonymise::numbers::number` meets its contract.
use Rattle.anonymise.proofs.Names.{numbers}
use Rattle.anonymise.proofs.numbers.number.Goals as goal

pub returns-then-name-eq0 : goal.returns-then-name-eq0
returns-then-name-eq0 c = search numbers

pub returns-then-name-ge-FIRST_FRESH : goal.returns-then-name-ge-FIRST_FRESH
returns-then-name-ge-FIRST_FRESH c = search numbers

pub returns-in-Some : goal.returns-in-Some
returns-in-Some c = search numbers

pub returns-in-None : goal.returns-in-None
returns-in-None c = search numbers
