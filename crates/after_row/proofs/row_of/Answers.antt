-- `after_row::row_of` meets its contract.
use mathlib.Core.Path.{refl}
use native.Mathlib.Omega.{arith}
use Rattle.kit.proofs.Laws.{yes!, no!, tests}
use Rattle.after_row.proofs.row_of.Goals as goal

pub returns-then-left-lt-PAST : goal.returns-then-left-lt-PAST
returns-then-left-lt-PAST c = (yes! _ (omega tests) refl, omega arith)

pub returns-else-left-lt-PAST : goal.returns-else-left-lt-PAST
returns-else-left-lt-PAST c = (no! _ (omega tests) refl, omega arith)
