-- `back_notes::named::key` meets its contract.
use Rattle.back_notes.proofs.Ways.{naming}
use Rattle.back_notes.proofs.named.key.Goals as goal

pub returns-then-number-lt65535 : goal.returns-then-number-lt65535
returns-then-number-lt65535 c = search naming

pub returns-else-number-lt65535 : goal.returns-else-number-lt65535
returns-else-number-lt65535 c = search naming
