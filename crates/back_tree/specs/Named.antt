-- Rows with their notes after the third pass: an OUTER has the name that it counts to.
use Rattle.std.specs.Prelude.{◌≡◌, length}
use Rattle.std.proofs.Math.Path.{refl, ap}
use mathlib.Core.List.{List, [], ◌∷◌, ◌++◌}
use Prim.Native.Nat.{ℕ, suc}
use Rattle.std.proofs.Common.{arith}
use Rattle.rules.specs.Rows.{Row}
use Rattle.claim_laws.specs.RowParts.{as_parts}
use Rattle.names.specs.Table.{Slot}
use Rattle.back_notes.specs.Note.{Note, Noted}
use Rattle.back_notes.specs.Names.{named_t}
use Rattle.back_laws.specs.Stand.{with, with_notes}

-- `all` are the slots of all declarations
module _ (all : List Slot) where
  unfoldable pub renamed : List Noted → List Noted
  renamed [] = []
  renamed (r ∷ rs) = record { bytes = r.bytes; parts = r.parts; note = named_t all r.parts r.note } ∷ renamed rs

  unfoldable pub notes_of : List Row → List Note → List Note
  notes_of [] ns = []
  notes_of (r ∷ rs) [] = []
  notes_of (r ∷ rs) (n ∷ ns) = named_t all (as_parts r) n ∷ notes_of rs ns

  pub renamed_append : (xs ys : List Noted) → renamed (xs ++ ys) ≡ renamed xs ++ renamed ys
  unfolding renamed
  renamed_append [] ys = refl
  renamed_append (x ∷ xs) ys = rw (renamed_append xs ys)

  pub renamed_notes : (rs : List Row) (ns : List Note) → renamed (with_notes rs ns) ≡ with_notes rs (notes_of rs ns)
  unfolding renamed notes_of with_notes
  renamed_notes [] ns = refl
  renamed_notes (r ∷ rs) [] = refl
  renamed_notes (r ∷ rs) (n ∷ ns) = ap (λ (l : List Noted). with r (named_t all (as_parts r) n) ∷ l) (renamed_notes rs ns)

  pub notes_long : (rs : List Row) (ns : List Note) → length rs ≡ length ns → length rs ≡ length (notes_of rs ns)
  unfolding notes_of
  notes_long [] ns e = refl
  notes_long (r ∷ rs) [] e = absurd (omega arith)
  notes_long (r ∷ rs) (n ∷ ns) e = ap suc (notes_long rs ns (omega arith))
