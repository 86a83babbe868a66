-- `walk::scopes::+field_walk_fields_walk_scope_walk` meets its contract. A cycle of three. The measure: three times the scopes that may still be opened, and a little.
use Rattle.std.proofs.Common.{◌≡◌, ◌-◌, ◌/◌, ◌+◌, ◌*◌, length}
use Rattle.walk.specs.Open.{Served}
use Rattle.walk.specs.Scopes.{fields_walk_t, scope_walk_t}
use Rattle.walk.proofs.Opens.{Same}
use Rattle.walk.proofs.scopes.+field_walk_fields_walk_scope_walk.Given as goal

abbrev pub decreases-field_walk : goal.decreases-field_walk
decreases-field_walk l = 3 * (length l.scopes.now - l.s.depth) + 1

abbrev pub decreases-fields_walk : goal.decreases-fields_walk
decreases-fields_walk l = 3 * (length l.scopes.now - l.s.depth) + 2

abbrev pub decreases-scope_walk : goal.decreases-scope_walk
decreases-scope_walk l = 3 * (length l.scopes.now - l.s.depth)

abbrev pub invariant-fields_walk-loop-turns : goal.invariant-fields_walk-loop-turns
invariant-fields_walk-loop-turns l =
    (fields_walk_t l.rows l.ends (scope_walk_t l.rows l.ends (length l.initial.scopes - l.depth)) l.entered l.names l.scopes l.out l.cur l.depth l.turns ≡ fields_walk_t l.rows l.ends (scope_walk_t l.rows l.ends (length l.initial.scopes - l.depth)) l.initial.entered l.initial.names l.initial.scopes l.initial.out l.initial.cur l.depth (length l.rows / 16)) × Served l.entered l.known l.names l.chains l.initial.cur.used × (l.cur.used ≡ l.initial.cur.used) × (l.scopes ≡ l.initial.scopes) × Same l.entered l.initial.entered l.known l.initial.known l.names l.initial.names l.chains l.initial.chains l.out l.initial.out

abbrev pub decreases-fields_walk-loop-turns : goal.decreases-fields_walk-loop-turns
decreases-fields_walk-loop-turns l = l.turns
