-- What a number reaches through added aliases, as the code finds it: by the slots that were entered, and the claim's rows.
use Rattle.std.specs.Prelude.{List, ℕ, ◌+◌, ◌-◌, ◌%◌, eqb, leb, ltb, Option, Some, None}
use Rattle.kit.specs.Pick.{pick}
use Rattle.parts.specs.PartsAt.{parts_at}
use Rattle.names.specs.Table.{Slot}
use Rattle.claim_scopes.specs.Entries.{look_t}
use Rattle.claim_reach.specs.declared.alias.Sought.{Sought}
use Rattle.names.specs.declared.Met.{Met}

-- a number counted from 1, as aliases are entered; 0 for one that no declaration has
unfoldable pub reach_counted_t : ℕ → ℕ
reach_counted_t number = pick (ltb number 65536) (number + 1) 0

-- the row of the alias's DECL
unfoldable pub reached_t : List Slot → Sought → Option ℕ
reached_t ss s = look_t ss (s.scope % 65536 + 1) s.space (reach_counted_t s.number)

-- the code of the field whose only DECL is row i
unfoldable pub reach_code_t : (claim : List ℕ) (i : ℕ) → ℕ
reach_code_t claim i = pick (eqb i 0) 0 (parts_at claim (i - 1)).b

-- document 01's code for an alias of an export of this space
unfoldable pub export_code : (space : ℕ) → ℕ
export_code space = pick (leb space 6) 10 9

-- what the alias leads to whose DECL is row i
unfoldable pub outer_at : (claim : List ℕ) (i : ℕ) → Option Met
outer_at claim i = pick (eqb (reach_code_t claim i) 11) (Some (record { out = (parts_at claim (i + 1)).x; number = (parts_at claim (i + 1)).y })) None

-- the number of the instance of the alias whose DECL is that row, if it is one of this export
unfoldable pub export_at : (claim : List ℕ) (i space name : ℕ) → Option ℕ
export_at claim i space name =
    pick (eqb (reach_code_t claim i) (export_code space)) (pick (eqb (parts_at claim (i + 2)).x name) (Some (parts_at claim (i + 1)).x) None) None

-- the same for a row that was entered
unfoldable pub outer_in : (claim : List ℕ) → Option ℕ → Option Met
outer_in claim (Some i) = outer_at claim i
outer_in claim None = None

unfoldable pub export_in : (claim : List ℕ) (space name : ℕ) → Option ℕ → Option ℕ
export_in claim space name (Some i) = export_at claim i space name
export_in claim space name None = None

-- what is reached through one added alias
unfoldable pub through_outer_t : List Slot → (claim : List ℕ) → Sought → Option Met
through_outer_t ss claim s = outer_in claim (reached_t ss s)

-- what is reached through one added alias of this export: the number of its instance
unfoldable pub through_export_t : List Slot → (claim : List ℕ) → Sought → (name : ℕ) → Option ℕ
through_export_t ss claim s name = export_in claim s.space name (reached_t ss s)
