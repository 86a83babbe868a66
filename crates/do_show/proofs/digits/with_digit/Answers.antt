-- `do_show::digits::with_digit` meets its contract.
use Rattle.do_show.proofs.Laws.{ways}
use Rattle.do_show.proofs.digits.with_digit.Goals as goal

pub returns-then-digit-lt48 : goal.returns-then-digit-lt48
returns-then-digit-lt48 c = search ways

pub returns-then-digit-gt57 : goal.returns-then-digit-gt57
returns-then-digit-gt57 c = search ways

pub returns-then-longer-lt4294967296 : goal.returns-then-longer-lt4294967296
returns-then-longer-lt4294967296 c = search ways

pub returns-else-longer-lt4294967296 : goal.returns-else-longer-lt4294967296
returns-else-longer-lt4294967296 c = search ways
