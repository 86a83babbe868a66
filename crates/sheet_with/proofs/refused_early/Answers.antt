-- `sheet_with::refused_early` meets its contract.
use Rattle.sheet_with.proofs.Ways.{ways}
use Rattle.sheet_with.proofs.refused_early.Goals as goal

pub returns-then-not-is_sound : goal.returns-then-not-is_sound
returns-then-not-is_sound c = search ways

pub returns-then-enough : goal.returns-then-enough
returns-then-enough c = search ways

pub returns-else-enough : goal.returns-else-enough
returns-else-enough c = search ways
