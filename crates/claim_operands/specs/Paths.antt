-- References with PATHs, as the code tries them: `ss` are the slots that were entered for the claim.
use Rattle.std.specs.Prelude.{Bool, false, List, ℕ, zero, suc, eqb, leb, get_or, Option, Some, None}
use Rattle.kit.specs.Pick.{pick}
use Rattle.parts.specs.PartsAt.{parts}
use Rattle.parts.specs.declared.Parts.{Parts}
use Rattle.names.specs.Table.{Slot}
use Rattle.claim_scopes.specs.Entries.{look_t}
use Rattle.claim_reach.specs.Alias.{through_export_t}
use Rattle.claim_reach.specs.declared.alias.Sought.{Sought}

-- a row that is not there
abbrev pub no_parts : Parts
no_parts = parts 0 0 0 0 0 0

-- the number of an instance, of which the next alias is sought
abbrev pub onward : Sought → (number : ℕ) → Sought
onward s number = record { used = s.used; scope = s.scope; space = 10; number = number }

unfoldable pub or_stop : Option ℕ → (ℕ → Option ℕ) → Option ℕ
or_stop (Some n) f = f n
or_stop None f = None

-- through one alias for each of the first `count` of these rows, the last of them first
unfoldable pub through_paths_t : List Slot → (claim : List ℕ) → List Parts → (count : ℕ) → Sought → Option ℕ
through_paths_t ss claim qs zero s = Some s.number
through_paths_t ss claim qs (suc k) s = or_stop (through_export_t ss claim s (get_or qs k no_parts).x) (λ n. through_paths_t ss claim qs k (onward s n))

-- the space of the instance that a path to an item of this space starts from
unfoldable pub instance_space : (space : ℕ) → ℕ
instance_space space = pick (leb space 6) 6 10

-- is it this number?
unfoldable pub is_number : Option ℕ → (number : ℕ) → Bool
is_number (Some own) number = eqb number own
is_number None number = false

-- is it the number of the instance that the input's reference q starts from?
unfoldable pub instance_t : List Slot → (scope : ℕ) → Parts → (number : ℕ) → Bool
instance_t ss scope q number = pick (eqb q.e 0) (eqb number q.x) (is_number (look_t ss scope (instance_space q.b) q.x) number)
