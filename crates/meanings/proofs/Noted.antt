-- What is read of noted rows is what the readings say.
use Rattle.std.specs.Prelude.{Option, Some, None}
use mathlib.Core.Path.{◌≡◌, refl, sym, ◌∙◌}
use mathlib.Core.Bool.{Bool, true, false}
use mathlib.Core.Logic.{◌⊎◌, inl, inr}
use mathlib.Core.List.{List}
use native.Mathlib.Omega.{arith}
use Prim.Native.Nat.{ℕ, zero, suc, ◌+◌, ◌-◌, ◌/◌, ◌≤◌, ◌<◌}
use borrow.Author.Tests.{ltb-true, leb-true, eqb-true}
use lib.Dec.{eqb, ltb, leb}
use lib.ListN.{length, get_or, set, length-set}
use lib.Seq.{get_or-set_same, get_or-set_other}
use Rattle.kit.specs.Pick.{pick}
use Rattle.kit.proofs.Laws.{yes!, no!, tests, pick_has, lt_or_le}
use Rattle.row_parts.specs.Parts.{code_at, x_at, rows_in, next_of, is_inserted, is_reference}
use Rattle.scopes.specs.Scopes.{find_from, find_in, number_of}
use Rattle.scopes.specs.declared.Key.{Key}
use Rattle.readings.specs.Meaning.{meant, in_scope, in_outer, outward_for, through_outer, meaning_of, is_inserted_outer, behind, final_meaning}
use Rattle.meanings.specs.Entries.{Entry, no_entry, told, meant_by, note_from, noted, is_noted, read, meaning_at, number_at, behind_at, final_at}
use Rattle.scopes.proofs.ScopedLaws.{both_true}
use Rattle.readings.specs.declared.Meaning.{Meaning}
use Rattle.scopes.specs.declared.Found.{Found}
use Rattle.scopes.specs.declared.Outer.{Outer}

-- ---- the row of a declaration is a number of two bytes

rows_most : (form : List ℕ) → rows_in form ≤ 65535
unfolding rows_in pick
rows_most form = by (ltb ((length form - 8) / 16) 65535) refl
  where
    by : (b : Bool) → ltb ((length form - 8) / 16) 65535 ≡ b → rows_in form ≤ 65535
    by true e = let h = ltb-true ((length form - 8) / 16) 65535 e in rw e (omega arith)
    by false e = rw e (omega arith)

abbrev FoundLow : Option Found → Type 0
FoundLow (Some found) = found.row < 65536
FoundLow None = Unit {0}

abbrev Low : Option Meaning → Type 0
Low (Some meaning) = meaning.row < 65536
Low None = Unit {0}

module _ (form : List ℕ) where
  find_low : (space : ℕ) (key : Key) (row left level number : ℕ) → (0 < left → row + left ≤ 65536) → FoundLow (find_from form space key row left level number)
  unfolding find_from
  find_low space key row zero level number h = tt
  find_low space key row (suc left) level number h =
      let e = h (omega arith) in
      pick_has FoundLow _ tt (pick_has FoundLow _ (omega arith) (find_low space key (row + 1) left _ _ (λ _. omega arith)))

  scope_low : (scope out space : ℕ) (key : Key) → Low (in_scope form scope out space key)
  unfolding in_scope meant find_in
  scope_low scope out space key = by (find_from form space key scope (rows_in form - scope) 0 0) (let m = rows_most form in find_low space key scope (rows_in form - scope) 0 0 (λ h. omega arith))
    where
      by : (f : Option Found) → FoundLow f → Low (meant form f out)
      by (Some found) l = l
      by None l = tt

  outer_low : (o : Option Outer) (space : ℕ) (key : Key) → Low (in_outer form o space key)
  unfolding in_outer
  outer_low (Some outer) space key = scope_low outer.scope outer.out space key
  outer_low None space key = tt

  meaning_low : (row : ℕ) → Low (meaning_of form row)
  unfolding meaning_of through_outer outward_for
  meaning_low row = pick_has Low _ (outer_low _ _ _) (pick_has Low _ (outer_low _ _ _) (scope_low _ _ _ _))

-- ---- an entry tells the meaning of which it is made

read_told : (m : Option Meaning) → Low m → read (told m) ≡ m
unfolding read
read_told (Some meaning) l =
    let e : meaning.row + 1 - 1 ≡ meaning.row = omega arith in
    sym (no! _ (omega tests) (no! _ (omega tests) (rw e)))
read_told None l = sym (yes! _ refl refl)

-- ---- the entry of a row is made of what it means

note_below : (form : List ℕ) (entries : List Entry) (from left row : ℕ) → row < from → get_or (note_from form entries from left) row no_entry ≡ get_or entries row no_entry
unfolding note_from
note_below form entries from zero row h = refl
note_below form entries from (suc left) row h = note_below form (set entries from (told (meant_by form from))) (from + 1) left row (omega arith) ∙ get_or-set_other entries from row _ no_entry (λ e. omega (arith, e))

note_at : (form : List ℕ) (entries : List Entry) (from left row : ℕ) → from ≤ row → row < from + left → row < length entries → get_or (note_from form entries from left) row no_entry ≡ told (meant_by form row)
unfolding note_from
note_at form entries from zero row f t l = absurd (omega arith)
note_at form entries from (suc left) row f t l = by (lt_or_le from row) (λ h. note_at form (set entries from (told (meant_by form from))) (from + 1) left row (omega arith) (omega arith) (simp length-set l))
  where
    by : (from < row) ⊎ (row ≤ from) → (from < row → get_or (note_from form (set entries from (told (meant_by form from))) (from + 1) left) row no_entry ≡ told (meant_by form row)) → get_or (note_from form entries from (suc left)) row no_entry ≡ told (meant_by form row)
    by (inl h) i = i h
    by (inr h) i =
        let e : row ≡ from = omega arith in
        note_below form (set entries from (told (meant_by form from))) (from + 1) left row (omega arith) ∙ rw e (get_or-set_same entries from _ no_entry (omega arith))

note_length : (form : List ℕ) (entries : List Entry) (from left : ℕ) → length (note_from form entries from left) ≡ length entries
unfolding note_from
note_length form entries from zero = refl
note_length form entries from (suc left) = note_length form (set entries from (told (meant_by form from))) (from + 1) left ∙ length-set entries from _

-- ---- what is read of noted rows

module _ (form : List ℕ) (entries : List Entry) (row : ℕ) where
  -- an entry is that of what the row means
  entry_is : is_noted form (noted form entries) row ≡ true → get_or (noted form entries) row no_entry ≡ told (meant_by form row)
  unfolding is_noted noted
  entry_is h =
      let few = both_true (leb (rows_in form) 4096) _ h in
      let there = both_true (ltb row (rows_in form)) _ few.1 in
      let a = leb-true (rows_in form) 4096 few.0 in
      let b = ltb-true row (rows_in form) there.0 in
      let c = ltb-true row (length (noted form entries)) there.1 in
      let l = note_length form entries 0 (rows_in form) in
      let e : noted form entries ≡ note_from form entries 0 (rows_in form) = sym (no! _ (omega tests) refl) in
      let d : row < length (note_from form entries 0 (rows_in form)) = rw e at c in
      rw e (note_at form entries 0 (rows_in form) row (omega arith) (omega arith) (omega arith))

  -- a reference is no DECL
  reference_is : is_reference form row ≡ true → meant_by form row ≡ meaning_of form row
  unfolding meant_by is_reference
  reference_is r = by (eqb (code_at form row) 2) refl
    where
      by : (b : Bool) → eqb (code_at form row) 2 ≡ b → meant_by form row ≡ meaning_of form row
      by true e =
          let f : false ≡ true = rw (eqb-true (code_at form row) 2 e) at r in
          absurd (let z : ◌≡◌ {A = ℕ} 0 1 = cc in omega arith)
      by false e = sym (no! _ e (yes! _ r refl))

  -- a reference means what the readings say
  pub meaning_is : is_reference form row ≡ true → meaning_at form (noted form entries) row ≡ meaning_of form row
  unfolding meaning_at
  meaning_is r = by (is_noted form (noted form entries) row) refl
    where
      by : (b : Bool) → is_noted form (noted form entries) row ≡ b → meaning_at form (noted form entries) row ≡ meaning_of form row
      by true h = sym (yes! _ h (sym (rw (entry_is h, reference_is r) (read_told (meaning_of form row) (meaning_low form row)))))
      by false h = sym (no! _ h refl)

  -- a declaration has the number that the readings give it
  pub number_is : code_at form row ≡ 2 → number_at form (noted form entries) row ≡ number_of form row
  unfolding number_at meant_by
  number_is c = by (is_noted form (noted form entries) row) refl
    where
      by : (b : Bool) → is_noted form (noted form entries) row ≡ b → number_at form (noted form entries) row ≡ number_of form row
      by true h =
          let m : meant_by form row ≡ Some (record { row = row; number = number_of form row; out = 0; name = x_at form row }) = sym (yes! _ (omega tests) refl) in
          sym (yes! _ h (sym (rw (entry_is h, m))))
      by false h = sym (no! _ h refl)

module _ (form : List ℕ) (entries : List Entry) where
  -- an inserted outer alias has its OUTER behind it
  alias_is : (decl : ℕ) → is_inserted_outer form decl ≡ true → meaning_at form (noted form entries) (next_of decl) ≡ through_outer form (next_of decl)
  unfolding is_inserted_outer is_reference meaning_of
  alias_is decl h =
      let o = both_true (is_inserted form decl) (eqb (code_at form (next_of decl)) 5) h in
      let c = eqb-true (code_at form (next_of decl)) 5 o.1 in
      meaning_is form entries (next_of decl) (rw c) ∙ sym (yes! _ o.1 refl)

  behind_is : (m : Option Meaning) → behind_at form (noted form entries) m ≡ behind form m
  unfolding behind_at behind
  behind_is (Some meaning) = by (is_inserted_outer form meaning.row) refl
    where
      by : (b : Bool) → is_inserted_outer form meaning.row ≡ b → behind_at form (noted form entries) (Some meaning) ≡ behind form (Some meaning)
      by true h = sym (yes! _ h refl) ∙ (alias_is meaning.row h ∙ yes! _ h refl)
      by false h = sym (no! _ h refl) ∙ no! _ h refl
  behind_is None = refl

  -- a reference means the same in the end
  pub final_is : (row : ℕ) → is_reference form row ≡ true → final_at form (noted form entries) row ≡ final_meaning form row
  unfolding final_at final_meaning
  final_is row r = rw (meaning_is form entries row r) (behind_is (meaning_of form row))
