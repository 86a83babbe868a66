-- `names::scope_at` meets its contract.
use Rattle.names.proofs.Laws.{ways}
use Rattle.names.proofs.scope_at.Goals as goal

pub offset_bounds-scopes-k : goal.offset_bounds-scopes-k
offset_bounds-scopes-k c = search ways

pub bounds-scopes-k : goal.bounds-scopes-k
bounds-scopes-k c = search ways

pub returns-then-k-scopes : goal.returns-then-k-scopes
returns-then-k-scopes c = search ways

pub returns-else-k-scopes : goal.returns-else-k-scopes
returns-else-k-scopes c = search ways
