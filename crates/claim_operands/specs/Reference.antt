-- REFs, as the code tries them: `ss` are the slots that were entered for the claim, `st` the scopes that are open, `q` is the input's REF and
-- `qs` are the rows behind it.
use Rattle.std.specs.Prelude.{Bool, false, ◌&&◌, List, ℕ, eqb, ltb, Option, Some, None}
use Rattle.kit.specs.Pick.{pick}
use Rattle.parts.specs.declared.Parts.{Parts}
use Rattle.names.specs.Table.{Slot}
use Rattle.claim_scopes.specs.Open.{here_t, open_closed_t}
use Rattle.claim_scopes.specs.Entries.{look_t}
use Rattle.claim_reach.specs.Alias.{through_outer_t}
use Rattle.claim_reach.specs.Outward.{reach_out_t}
use Rattle.claim_reach.specs.declared.alias.Sought.{Sought}
use Rattle.claim_operands.specs.Paths.{through_paths_t, instance_t}
use Rattle.names.specs.declared.Met.{Met}

-- do both lead to the same?
unfoldable pub is_met_t : Option Met → Option Met → Bool
is_met_t None b = false
is_met_t (Some met) None = false
is_met_t (Some met) (Some met') = eqb met.out met'.out && eqb met.number met'.number

abbrev pub seeking : (used scope space number : ℕ) → Sought
seeking used scope space number = record { used = used; scope = scope; space = space; number = number }

-- is it the number of its declaration here, or else so?
unfoldable pub own_or : Option ℕ → (number : ℕ) → Bool → Bool
own_or (Some own) number else = eqb number own
own_or None number else = else

module _ (ss : List Slot) (claim : List ℕ) (used : ℕ) where
  -- a name that is not declared here
  unfoldable pub further_t : (st : List (List ℕ)) → Parts → (number : ℕ) → Bool
  further_t st q number = is_met_t (through_outer_t ss claim (seeking used (here_t st) q.b number)) (reach_out_t ss (open_closed_t st) 1 q.b q.x)

  -- whether a number is what a name means: that of its declaration here, or of an alias
  unfoldable pub name_right_t : (st : List (List ℕ)) → Parts → (number : ℕ) → Bool
  name_right_t st q number = own_or (look_t ss (here_t st) q.b q.x) number (further_t st q number)

  -- what a path starts from
  unfoldable pub ref_from_t : Option ℕ → (scope : ℕ) → Parts → Bool
  ref_from_t (Some number) scope q = instance_t ss scope q number
  ref_from_t None scope q = false

  -- does a number reach what the input's REF with PATHs starts from?
  unfoldable pub path_right_t : (scope : ℕ) → Parts → List Parts → (number : ℕ) → Bool
  path_right_t scope q qs number = ref_from_t (through_paths_t ss claim qs q.y (seeking used scope q.b number)) scope q

  -- is a claimed REF right for the input's?
  unfoldable pub ref_right_t : (st : List (List ℕ)) → Parts → Parts → List Parts → Bool
  ref_right_t st p q qs =
      pick (ltb 0 p.e) false
      (pick (ltb 0 q.y) (path_right_t (here_t st) q qs p.x)
      (pick (eqb q.e 0) (eqb p.x q.x)
      (name_right_t st q p.x)))
