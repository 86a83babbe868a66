-- `read_row::more` meets its contract.
use Rattle.kit.proofs.Laws.{picks}
use Rattle.read_row.specs.Machine.{more_decls_t}
use Rattle.read_row.proofs.more.Goals as goal

pub returns-then-decls-lt2 : goal.returns-then-decls-lt2
unfolding more_decls_t
returns-then-decls-lt2 c = search picks

pub returns-else-decls-lt2 : goal.returns-else-decls-lt2
unfolding more_decls_t
returns-else-decls-lt2 c = search picks
