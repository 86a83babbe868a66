-- What holds of a tree's fields holds of the fields of every scope around a place.
use Rattle.std.specs.Prelude.{◌≡◌, Bool, true, false, ℕ, zero, suc, ◌+◌}
use Rattle.std.proofs.Math.Path.{subst}
use Rattle.std.proofs.Math.Option.{some}
use mathlib.Core.List.{List, [], ◌∷◌}
use Rattle.std.proofs.Math.ListN.{length, get_elem?}
use Rattle.rules.specs.Tools.{when◌then◌else◌, ◌then◌}
use Rattle.rules.specs.Tree.{Scope, Fields, end, ◌▸◌, Item, head_of, item_rows}
use Rattle.rules.specs.Readings.{is_inserted, fields_of, held, root}
use Rattle.rules.specs.Laws.ToolLaws.{then_some, All, done, ◌&◌}
use Rattle.rules.specs.Laws.Results.{some_same, no_option}
use Rattle.places.specs.PlaceRows.{Placed, originals_from, Floor, floors, floors_at}

-- `P` of fields and `Q` of each of them: `P` of some is `Q` of the first and `P` of the rest, and `Q` of a field is `P` of what it holds
module _ (P : Fields → Type 0) (Q : Item → Type 0) (first : (i : Item) (fs : Fields) → P (i ▸ fs) → Q i) (rest : (i : Item) (fs : Fields) → P (i ▸ fs) → P fs)
    (inside : (i : Item) (gs : Fields) → Q i → held i ≡ some gs → P gs) where
  pub of_original : (row : ℕ) (fs : Fields) (n : ℕ) (x : Placed) → P fs → get_elem? (originals_from row fs) n ≡ some x → Q x.item
  unfolding originals_from when◌then◌else◌
  of_original row end n x p e = no_option x e
  of_original row (i ▸ fs) n x p e = go (is_inserted (head_of i)) n e (λ m q. of_original (row + length (item_rows i)) fs m x (rest i fs p) q)
    where
      later : List Placed
      later = originals_from (row + length (item_rows i)) fs

      go : (b : Bool) (n : ℕ) → get_elem? (when b then later else record { row = row; item = i } ∷ later) n ≡ some x → ((m : ℕ) → get_elem? later m ≡ some x → Q x.item) → Q x.item
      go true n e below = below n e
      go false zero e below = subst (λ (y : Placed). Q y.item) (some_same _ x e) (first i fs p)
      go false (suc n) e below = below n e

  abbrev pub OfFloor : Floor → Type 0
  OfFloor f = P f.level.fields

  going_in : (way : List ℕ) (f : Floor) (outside fs : List Floor) → floors way f outside ≡ some fs → OfFloor f → All OfFloor outside → All OfFloor fs
  unfolding floors
  going_in [] f outside fs e p ps = subst (All OfFloor) (some_same _ fs e) (p & ps)
  going_in (n ∷ way) f outside fs e p ps =
      let s₁ = then_some (get_elem? (originals_from f.row f.level.fields) n) _ fs e in
      let s₂ = then_some (held s₁.0.item) _ fs s₁.2 in
      going_in way _ (f ∷ outside) fs s₂.2 (inside s₁.0.item s₂.0 (of_original f.row f.level.fields n s₁.0 p s₁.1) s₂.1) (p & ps)

  pub of_floors : (s : Scope) (way : List ℕ) (fs : List Floor) → P (fields_of s) → floors_at s way ≡ some fs → All OfFloor fs
  unfolding floors_at root
  of_floors s way fs p e = going_in way _ [] fs e p done
