-- The ways through the code that notes what rows mean, and reads it.
use Rattle.std.specs.Prelude.{Option, Some, None}
use mathlib.Core.Path.{◌≡◌, refl, sym, ◌∙◌}
use mathlib.Core.Bool.{Bool, true, false, ◌&&◌}
use mathlib.Core.List.{List, [], ◌∷◌}
use native.Mathlib.Omega.{arith}
use Prim.Native.Nat.{ℕ, zero, suc, ◌+◌, ◌-◌, ◌≤◌, ◌<◌}
use borrow.Author.Rules.{rules}
use lib.Dec.{ltb, leb}
use lib.ListN.{length, get_or, set}
use lib.Seq.{set_out}
use Rattle.kit.proofs.Laws.{yes!, no!, tests, left_suc, past}
use Rattle.row_parts.specs.Parts.{code_at, x_at, rows_in, next_of, is_reference}
use Rattle.scopes.specs.Scopes.{number_of}
use Rattle.readings.specs.Meaning.{meaning_of, is_inserted_outer}
use Rattle.meanings.specs.Entries.{Entry, entry, no_entry, told, meant_by, note_from, noted, is_noted, read, meaning_at, number_at, behind_at, final_at}
use Rattle.scopes.specs.Tables.{count_of}
use Rattle.scopes.proofs.ScopedLaws.{number_count}
use Rattle.readings.specs.declared.Meaning.{Meaning}

-- ---- entries

-- where there is one, what a read finds past the end does not matter
pub any_default : (entries : List Entry) (i : ℕ) (d e : Entry) → i < length entries → get_or entries i d ≡ get_or entries i e
any_default [] i d e h = absurd (omega arith)
any_default (x ∷ xs) zero d e h = refl
any_default (x ∷ xs) (suc i) d e h = any_default xs i d e (omega arith)

pub put_past : (entries : List Entry) (i : ℕ) (e : Entry) → length entries ≤ i → entries ≡ set entries i e
put_past entries i e h = sym (set_out entries i e h)

pub ruleset entry_ways = (any_default, past, put_past, rules)

pub told_at : (m : Option Meaning) (found : Meaning) → m ≡ Some found → entry (found.row + 1) found.number found.out found.name ≡ told m
told_at m found q = rw q

pub told_nowhere : (m : Option Meaning) → m ≡ None → no_entry ≡ told m
told_nowhere m q = rw q

module _ (e : Entry) where
  pub read_none : (1 ≤ get_or e 0 0 → ⊥) → (X : Option Meaning) → X ≡ None → X ≡ read e
  unfolding read
  read_none h X x = yes! _ (omega tests) x

  module _ (row : ℕ) (above : (1 ≤ get_or e 0 0) × (row ≡ get_or e 0 0 - 1)) where
    pub read_past : 65535 < row → None ≡ read e
    unfolding read
    read_past h = let a = above.0 in let b = above.1 in no! _ (omega (tests, a)) (yes! _ (omega (tests, a, b)) refl)

    pub read_at : row ≤ 65535 → (number out name : ℕ) → number ≡ get_or e 1 0 → out ≡ get_or e 2 0 → name ≡ get_or e 3 0 → Some (record { row = row; number = number; out = out; name = name }) ≡ read e
    unfolding read
    read_at h number out name hn ho hx = let a = above.0 in let b = above.1 in no! _ (omega (tests, a)) (no! _ (omega (tests, a, b)) (rw (b, hn, ho, hx)))

pub ruleset told_ways = (told_at, told_nowhere, read_none, read_past, read_at, rules)

-- ---- what a row means

module _ (form : List ℕ) (row c : ℕ) (code : c ≡ code_at form row) where
  pub meant_decl_lem : c ≡ 2 → (n x : ℕ) → n ≡ count_of form row → x ≡ x_at form row → Some (record { row = row; number = n; out = 0; name = x }) ≡ meant_by form row
  unfolding meant_by
  meant_decl_lem h n x hn hx = yes! _ (omega tests) (rw (hn, hx, number_count form row))

  module _ (d : c ≡ 2 → ⊥) (i : Bool) (is : i ≡ is_reference form row) where
    pub meant_reference : i ≡ true → (X : Option Meaning) → X ≡ meaning_of form row → X ≡ meant_by form row
    unfolding meant_by
    meant_reference h X x = no! _ (omega tests) (yes! _ (rw (← is) h) x)

    pub meant_other : i ≡ false → None ≡ meant_by form row
    unfolding meant_by
    meant_other h = no! _ (omega tests) (no! _ (rw (← is) h) refl)

pub ruleset meant_ways = (meant_decl_lem, meant_reference, meant_other, rules)

-- ---- noted

pub told_is : (form : List ℕ) (row : ℕ) (m : Option Meaning) (r : Entry) → m ≡ meant_by form row → r ≡ told m → r ≡ told (meant_by form row)
told_is form row m r q h = h ∙ rw q

pub note_start : (form : List ℕ) (entries : List Entry) (rows : ℕ) → rows ≡ rows_in form → note_from form entries 0 (rows - 0) ≡ note_from form entries 0 (rows_in form)
note_start form entries rows h = let e : rows - 0 ≡ rows_in form = omega arith in rw e

module _ (form : List ℕ) (entries : List Entry) (rows row : ℕ) (T : List Entry) (inv : note_from form entries row (rows - row) ≡ T) where
  pub note_end : rows ≤ row → entries ≡ T
  unfolding note_from
  note_end h = let e : rows - row ≡ 0 = omega arith in rw e at inv

  pub note_turn : row < rows → (e : Entry) → e ≡ told (meant_by form row) → (after : List Entry) → after ≡ set entries row e → note_from form after (row + 1) (rows - (row + 1)) ≡ T
  unfolding note_from
  note_turn h e q after s = rw (s, q) (rw (left_suc row rows h) at inv)

pub ruleset note_ways = (told_is, note_start, note_end, note_turn, rules)

module _ (form : List ℕ) (entries : List Entry) (rows : ℕ) (r : rows ≡ rows_in form) where
  pub noted_past : 4096 < rows → entries ≡ noted form entries
  unfolding noted
  noted_past h = yes! _ (omega tests) refl

  pub noted_here : rows ≤ 4096 → (after : List Entry) → after ≡ note_from form entries 0 (rows_in form) → after ≡ noted form entries
  unfolding noted
  noted_here h after e = no! _ (omega tests) e

pub ruleset noted_ways = (noted_past, noted_here, rules)

-- ---- read

pub is_noted_is : (form : List ℕ) (entries : List Entry) (row rows : ℕ) → rows ≡ rows_in form → (leb rows 4096 && (ltb row rows && ltb row (length entries))) ≡ is_noted form entries row
unfolding is_noted
is_noted_is form entries row rows h = rw h

module _ (form : List ℕ) (entries : List Entry) (row : ℕ) (b : Bool) (is : b ≡ is_noted form entries row) where
  module _ (h : b ≡ true) (e : Entry) (at : e ≡ get_or entries row no_entry) where
    pub meaning_noted : (X : Option Meaning) → X ≡ read e → X ≡ meaning_at form entries row
    unfolding meaning_at
    meaning_noted X x = yes! _ (rw (← is) h) (x ∙ rw at)

    pub number_noted : (n : ℕ) → n ≡ get_or e 1 0 → n ≡ number_at form entries row
    unfolding number_at
    number_noted n x = yes! _ (rw (← is) h) (x ∙ rw at)

  module _ (h : b ≡ false) where
    pub meaning_other : (X : Option Meaning) → X ≡ meaning_of form row → X ≡ meaning_at form entries row
    unfolding meaning_at
    meaning_other X x = no! _ (rw (← is) h) x

    pub number_other : (n : ℕ) → n ≡ number_of form row → n ≡ number_at form entries row
    unfolding number_at
    number_other n x = no! _ (rw (← is) h) x

pub ruleset read_ways = (is_noted_is, meaning_noted, number_noted, meaning_other, number_other, rules)

module _ (form : List ℕ) (entries : List Entry) (row : ℕ) (m : Option Meaning) (got : m ≡ meaning_at form entries row) where
  module _ (meaning : Meaning) (at : m ≡ Some meaning) (i : Bool) (alias : i ≡ is_inserted_outer form meaning.row) where
    pub final_behind : i ≡ true → (n : ℕ) → n ≡ next_of meaning.row → (X : Option Meaning) → X ≡ meaning_at form entries n → X ≡ final_at form entries row
    unfolding final_at behind_at
    final_behind h n hn X x = rw (← got, at) (yes! _ (rw (← alias) h) (x ∙ rw hn))

    pub final_itself : i ≡ false → Some meaning ≡ final_at form entries row
    unfolding final_at behind_at
    final_itself h = rw (← got, at) (no! _ (rw (← alias) h) refl)

  pub final_nowhere : m ≡ None → (X : Option Meaning) → X ≡ None → X ≡ final_at form entries row
  unfolding final_at behind_at
  final_nowhere q X x = x ∙ rw (← got, q)

pub ruleset final_ways = (final_behind, final_itself, final_nowhere, rules)
