-- `known::file::what_is` meets its contract.
use Rattle.known.proofs.Laws.{ways}
use Rattle.known.proofs.file.what_is.Goals as goal

pub returns-then-number-eq-NOT_A_FORM : goal.returns-then-number-eq-NOT_A_FORM
returns-then-number-eq-NOT_A_FORM c = search ways

pub returns-then-number-gt-DEEP : goal.returns-then-number-gt-DEEP
returns-then-number-gt-DEEP c = search ways

pub returns-then-resolved : goal.returns-then-resolved
returns-then-resolved c = search ways

pub returns-else-resolved : goal.returns-else-resolved
returns-else-resolved c = search ways
