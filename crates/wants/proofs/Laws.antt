-- The table is the rules' `next` and `complete`.
use mathlib.Core.Path.{◌≡◌, refl, sym, ap, ◌∙◌}
use mathlib.Core.Bool.{Bool, true, false}
use mathlib.Core.Option.{Option, none, some}
use mathlib.Core.Logic.{⊎_elim}
use mathlib.Core.List.{List, []}
use native.Mathlib.Omega.{arith}
use Prim.Native.Nat.{ℕ, ◌-◌, ◌<◌, ◌≤◌}
use lib.Dec.{leb, ltb}
use lib.ListN.{length, get_or, get_or-eq_default}
use borrow.Author.Tests.{ltb-true}
use Rattle.kit.specs.Pick.{pick}
use Rattle.kit.proofs.Laws.{lt_or_le, yes!, no!, tests}
use Rattle.rules.specs.Tools.{◌then◌}
use Rattle.rules.specs.Shapes.{Part}
use Rattle.kit.proofs.Tables.{values, same_table}
use Rattle.wants.specs.States.{states, left_of, after, entry, Right}

-- is there one?
abbrev pub is_some : Option (List Part) → Bool
is_some none = false
is_some (some ps) = true

-- ---- numbers

pub left_before : (n : ℕ) → n < 48 → left_of n ≡ none
unfolding left_of
left_before n h = sym (no! _ (omega tests) refl)

pub left_at : (n : ℕ) → 48 ≤ n → left_of n ≡ some (get_or states (n - 48) [])
unfolding left_of
left_at n h = sym (yes! _ (omega tests) refl)

-- does a number stand for a list of wants?
pub stands : (n : ℕ) (o : Option (List Part)) → left_of n ≡ o → leb 48 n ≡ is_some o
unfolding left_of
stands n o e = rw (← e) (here (leb 48 n))
  where
    here : (t : Bool) → t ≡ is_some (pick t (some (get_or states (n - 48) [])) none)
    here true = unfold pick in refl
    here false = unfold pick in refl

how_many : length states ≡ 67
unfolding states
how_many = refl

first_state : get_or states 0 [] ≡ []
unfolding states
first_state = refl

-- the row of the table is that of the list
at_row : (n : ℕ) → get_or states (pick (ltb n 115) (n - 48) 0) [] ≡ get_or states (n - 48) []
at_row n =
    ⊎_elim (λ h. ap (λ k. get_or states k []) (sym (yes! _ (omega tests) refl)))
    (λ h. ap (λ k. get_or states k []) (sym (no! _ (omega tests) refl)) ∙ first_state ∙ sym (get_or-eq_default states [] (let e = how_many in omega arith)))
    (lt_or_le n 115)

row_low : (n : ℕ) → pick (ltb n 115) (n - 48) 0 < 67
row_low n = here (ltb n 115) refl
  where
    here : (t : Bool) → ltb n 115 ≡ t → pick t (n - 48) 0 < 67
    here true e = let h = ltb-true n 115 e in unfold pick in omega arith
    here false e = unfold pick in omega arith

-- ---- the table

nothing_after : (o : Option (List Part)) (f : List Part → Option (List Part)) → ((ps : List Part) → f ps ≡ none) → none ≡ (o then f)
unfolding ◌then◌
nothing_after none f h = refl
nothing_after (some ps) f h = sym (h ps)

after_past : (column : ℕ) → 41 ≤ column → (ps : List Part) → after column ps ≡ none
unfolding after
after_past column h ps = sym (no! _ (omega tests) (no! _ (omega tests) (no! _ (omega tests) (no! _ (omega tests) refl))))

-- what the entry at a row and a column says, and what it must say
abbrev said : List (List ℕ) → (row column : ℕ) → Option (List Part)
said table row column = left_of (get_or (get_or table row []) column 0)

abbrev asked : (row column : ℕ) → Option (List Part)
asked row column = after column (get_or states row [])

-- ONE LAW OVER THE TABLE: it is right if antt computes each entry to say what it must
pub table_right : (table : List (List ℕ)) → values (λ k. values (said table k) 0 41) 0 67 ≡ values (λ k. values (asked k) 0 41) 0 67 → Right table
unfolding Right entry
table_right table e left column = ⊎_elim before there (lt_or_le left 48)
  where
    before : left < 48 → left_of (entry table left column) ≡ (left_of left then after column)
    before h = ap left_of (sym (yes! _ (omega tests) refl)) ∙ left_before 46 (omega arith) ∙ rw (left_before left h) (unfold ◌then◌ in refl)

    there : 48 ≤ left → left_of (entry table left column) ≡ (left_of left then after column)
    there h =
        ⊎_elim
        (λ f. ap left_of (sym (no! _ (omega tests) (no! _ (omega tests) refl))) ∙ same_table (said table) asked 67 41 (pick (ltb left 115) (left - 48) 0) column e (row_low left) f ∙ rw (at_row left, left_at left h) (unfold ◌then◌ in refl))
        (λ f. ap left_of (sym (no! _ (omega tests) (yes! _ (omega tests) refl))) ∙ left_before 46 (omega arith) ∙ nothing_after (left_of left) (after column) (after_past column f))
        (lt_or_le column 41)
