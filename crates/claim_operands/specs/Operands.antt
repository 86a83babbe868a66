-- Condition 4 as the code tries it: the claim's rows and the input's, one after another.
use Rattle.std.specs.Prelude.{◌≡◌, Bool, true, List, [], ◌∷◌, ℕ, ◌+◌, eqb, Result, Ok, Err, ⊤}
use Rattle.kit.specs.Pick.{pick}
use Rattle.kit.specs.Out.{◌&◌}
use Rattle.parts.specs.declared.Parts.{Parts}
use Rattle.names.specs.Table.{Slot}
use Rattle.claim_rows.specs.Left.{rows_at}
use Rattle.claim_rows.specs.Added.{is_added_t}
use Rattle.claim_rows.specs.Same.{same_next_t}
use Rattle.claim_scopes.specs.Open.{open_behind_t, open_one_t}
use Rattle.claim_operands.specs.Reference.{ref_right_t}
use Rattle.claim_operands.specs.Outer.{outer_right_t}
use Rattle.claim_operands.specs.declared.Cursor.{Cursor}

-- at a row, with these behind it: whether its field is added
unfoldable pub operand_at_t : Parts → List Parts → Cursor → Cursor
operand_at_t p ps c = record { used = c.used; depth = c.depth; added = is_added_t c.added p.code ps; next = c.next }

-- what is left of the input behind a claimed row
unfoldable pub next_in : (added : Bool) → List Parts → List Parts
next_in added qs = pick added qs (same_next_t qs)

-- the cursor and the scopes behind a row, which is row i
pub record Behind (p : Parts) (i : ℕ) (input : List ℕ) (scopes scopes' : List (List ℕ)) (c r : Cursor) : Type 0 where
  pub opened : (r.depth & scopes') ≡ open_behind_t scopes c.depth p i
  pub left : rows_at input r.next ≡ next_in c.added (rows_at input c.next)
  pub added : r.added ≡ c.added
  pub used : r.used ≡ c.used

-- `ss`: the slots that were entered, of which there are `used`
module _ (ss : List Slot) (claim : List ℕ) (used : ℕ) where
  -- is a claimed row right, where these are left of the input?
  unfoldable pub is_right_t : (added : Bool) (st : List (List ℕ)) → Parts → List Parts → Bool
  is_right_t added st p [] = true
  is_right_t added st p (q ∷ qs) =
      pick added true
      (pick (eqb p.code 3) (ref_right_t ss claim used st p q qs)
      (pick (eqb p.code 5) (outer_right_t ss st q p)
      true))

  -- the claim's rows from row i on, and what is left of the input's
  unfoldable pub try_operands_t : (i : ℕ) (added : Bool) (st : List (List ℕ)) (ps qs : List Parts) → Result ⊤ ℕ
  try_operands_t i added st [] qs = Ok tt
  try_operands_t i added st (p ∷ ps) qs =
      let a = is_added_t added p.code ps in
      pick (is_right_t a st p qs) (try_operands_t (i + 1) a (open_one_t 64 st p i) ps (next_in a qs)) (Err i)
