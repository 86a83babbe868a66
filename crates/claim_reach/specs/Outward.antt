-- A name in the scopes around, the innermost first, as the code finds it.
use Rattle.std.specs.Prelude.{List, [], ◌∷◌, ℕ, ◌+◌, Option, Some, None}
use Rattle.names.specs.Table.{Slot}
use Rattle.claim_scopes.specs.Open.{row_in}
use Rattle.claim_scopes.specs.Entries.{look_t}
use Rattle.names.specs.declared.Met.{Met}

-- what the scope `out` scopes out says, or what those further out say
unfoldable pub or_further : Option ℕ → (out : ℕ) → Option Met → Option Met
or_further (Some number) out rest = Some (record { out = out; number = number })
or_further None out rest = rest

-- the first of these scopes is `out` scopes out
unfoldable pub reach_out_t : List Slot → (st : List (List ℕ)) (out space name : ℕ) → Option Met
reach_out_t ss [] out space name = None
reach_out_t ss (s ∷ st) out space name = or_further (look_t ss (row_in s) space name) out (reach_out_t ss st (out + 1) space name)
