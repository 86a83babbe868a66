-- The ways through the code.
use mathlib.Core.Path.{◌≡◌, refl, ap, sym, ◌∙◌}
use mathlib.Core.Bool.{Bool, true, false, ◌&&◌, not}
use mathlib.Core.List.{List, [], ◌∷◌, ◌++◌, map, append-nil, append_assoc}
use native.Mathlib.Omega.{arith}
use native.Mathlib.Nat.{add-zero}
use Prim.Native.Nat.{ℕ, suc, ◌+◌, ◌*◌, ◌-◌, ◌/◌, ◌%◌, ◌≤◌, ◌<◌}
use borrow.Author.Rules.{rules}
use lib.Dec.{eqb, leb}
use lib.ListN.{length, get_or, take, drop, length-append}
use lib.Seq.{sets, drop-drop}
use Rattle.kit.specs.Out.{Out, ◌&◌}
use Rattle.kit.proofs.Laws.{tests, left_suc, sets_append}
use Rattle.rules.specs.Tools.{when◌then◌else◌}
use Rattle.rules.specs.Rows.{value, bytes}
use Rattle.rows.proofs.Laws.{value_four}
use Rattle.stores.proofs.Laws.{length_word}
use Rattle.binding.specs.Sheet.{Slot, as_written, elsewhere, no_reference, several, is_as_written, failing, slots_of, all_named, slots, sound_sheet, binding_bytes, answers_bytes}
use Rattle.binding.specs.Sheet as rules
use Rattle.bound.specs.Bound.{binding_of}
use Rattle.bound.specs.declared.Binding.{Binding}
use Rattle.bound.specs.declared.Binding.TheVariants.{AsWritten, Elsewhere, NoReference, Several}
use Rattle.slots.specs.Slots.{ruled, answer_to, pair_bytes, noted, answered}

pub word_is : (l : List ℕ) (a w x y z : ℕ) → w ≡ get_or l a 0 → x ≡ get_or l (a + 1) 0 → y ≡ get_or l (a + 2) 0 → z ≡ get_or l (a + 3) 0 → w + x * 256 + y * 65536 + z * 16777216 ≡ value (take 4 (drop a l))
word_is l a w x y z hw hx hy hz = rw (hw, hx, hy, hz) (sym (value_four l a))

-- ---- the slots of a sheet, one by one

-- the slot that begins at a byte
abbrev slot_at : (sheet : List ℕ) (at : ℕ) → Slot
slot_at sheet at = record { family = value (take 4 (drop at sheet)); place = value (take 4 (drop (at + 4) sheet)); name = value (take 4 (drop (at + 8) sheet)) }

pub next_slot : (sheet : List ℕ) (n count : ℕ) → n < count → slots_of (count - n) (drop (12 * n) sheet) ≡ slot_at sheet (12 * n) ∷ slots_of (count - (n + 1)) (drop (12 * (n + 1)) sheet)
unfolding slots_of
next_slot sheet n count h =
    let on : 12 * n + 12 ≡ 12 * (n + 1) = omega arith in
    rw (left_suc n count h, drop-drop 4 (12 * n) sheet, drop-drop 8 (12 * n) sheet, drop-drop 12 (12 * n) sheet, on)

no_slots_lem : (sheet : List ℕ) (n count : ℕ) → count ≤ n → slots_of (count - n) (drop (12 * n) sheet) ≡ []
unfolding slots_of
no_slots_lem sheet n count h = let e : count - n ≡ 0 = omega arith in rw e

all_slots : (sheet : List ℕ) (count : ℕ) → count ≡ length sheet / 12 → slots_of (count - 0) (drop (12 * 0) sheet) ≡ slots sheet
unfolding slots
all_slots sheet count e = let z : count - 0 ≡ length sheet / 12 = omega (arith, e) in ap (λ (n : ℕ). slots_of n sheet) z

-- ---- whether each has a name

pub named_start : (sheet : List ℕ) (count : ℕ) → count ≡ length sheet / 12 → all_named (slots_of (count - 0) (drop (12 * 0) sheet)) ≡ all_named (slots sheet)
named_start sheet count e = ap all_named (all_slots sheet count e)

module _ (sheet : List ℕ) (n count : ℕ) (T : Bool) (inv : all_named (slots_of (count - n) (drop (12 * n) sheet)) ≡ T) where
  pub named_end : count ≤ n → true ≡ T
  unfolding all_named
  named_end h = sym (ap all_named (no_slots_lem sheet n count h)) ∙ inv

  module _ (h : n < count) (name : ℕ) (is : name ≡ value (take 4 (drop (12 * n + 8) sheet))) where
    step : not (eqb name 0) && all_named (slots_of (count - (n + 1)) (drop (12 * (n + 1)) sheet)) ≡ T
    unfolding all_named
    step = rw is (sym (ap all_named (next_slot sheet n count h)) ∙ inv)

    pub named_not : name ≡ 0 → false ≡ T
    named_not e = let z : eqb name 0 ≡ true = omega tests in rw z at step

    pub named_on : (name ≡ 0 → ⊥) → all_named (slots_of (count - (n + 1)) (drop (12 * (n + 1)) sheet)) ≡ T
    named_on e = let z : eqb name 0 ≡ false = omega tests in rw z at step

module _ (sheet : List ℕ) where
  pub not_whole : (length sheet % 12 ≡ 0 → ⊥) → false ≡ sound_sheet sheet
  unfolding sound_sheet
  not_whole h = let e : eqb (length sheet % 12) 0 ≡ false = omega tests in rw e

  module _ (h : length sheet % 12 ≡ 0) where
    pub too_long : 2400 < length sheet → false ≡ sound_sheet sheet
    unfolding sound_sheet
    too_long l = let e : eqb (length sheet % 12) 0 ≡ true = omega tests in let f : leb (length sheet) 2400 ≡ false = omega tests in rw (e, f)

    pub sound_named : length sheet ≤ 2400 → (b : Bool) → b ≡ all_named (slots sheet) → b ≡ sound_sheet sheet
    unfolding sound_sheet
    sound_named l b is = let e : eqb (length sheet % 12) 0 ≡ true = omega tests in let f : leb (length sheet) 2400 ≡ true = omega tests in rw (e, f) is

pub ruleset sound_ways = (word_is, named_start, named_end, named_not, named_on, not_whole, too_long, sound_named, rules)

-- ---- an answer

pub pair_put : (l l₁ l₂ : List ℕ) (at kind row : ℕ) → l₁ ≡ sets l at (bytes 4 kind) → l₂ ≡ sets l₁ (at + 4) (bytes 4 row) → l₂ ≡ sets l at (pair_bytes kind row)
unfolding pair_bytes
pair_put l l₁ l₂ at kind row e₁ e₂ =
    let p : at + 4 ≡ at + length (bytes 4 kind) = omega (arith, length_word kind) in
    rw (e₂, e₁, p, sets_append)

module _ (n so_far : ℕ) (old l : List ℕ) (b : Binding) where
  pub put_written : b ≡ AsWritten → l ≡ sets old (8 * n) (pair_bytes 0 0) → (so_far & l) ≡ noted n so_far old (ruled b ∷ [])
  unfolding noted failing is_as_written answers_bytes binding_bytes pair_bytes when◌then◌else◌
  put_written q h = rw (h, q, append-nil, add-zero)

  pub put_elsewhere : (row : ℕ) → b ≡ Elsewhere row → l ≡ sets old (8 * n) (pair_bytes 1 row) → (so_far + 1 & l) ≡ noted n so_far old (ruled b ∷ [])
  unfolding noted failing is_as_written answers_bytes binding_bytes pair_bytes when◌then◌else◌
  put_elsewhere row q h = rw (h, q, append-nil)

  pub put_none : b ≡ NoReference → l ≡ sets old (8 * n) (pair_bytes 2 0) → (so_far + 1 & l) ≡ noted n so_far old (ruled b ∷ [])
  unfolding noted failing is_as_written answers_bytes binding_bytes pair_bytes when◌then◌else◌
  put_none q h = rw (h, q, append-nil)

  pub put_several : b ≡ Several → l ≡ sets old (8 * n) (pair_bytes 3 0) → (so_far + 1 & l) ≡ noted n so_far old (ruled b ∷ [])
  unfolding noted failing is_as_written answers_bytes binding_bytes pair_bytes when◌then◌else◌
  put_several q h = rw (h, q, append-nil)

pub ruleset put_ways = (pair_put, put_written, put_elsewhere, put_none, put_several, rules)

-- ---- all of them

failing_append : (bs₁ bs₂ : List rules.Binding) → failing (bs₁ ++ bs₂) ≡ failing bs₁ + failing bs₂
unfolding failing when◌then◌else◌
failing_append [] bs₂ = omega arith
failing_append (a ∷ bs₁) bs₂ = go (is_as_written a) (failing_append bs₁ bs₂)
  where
    go : (t : Bool) → failing (bs₁ ++ bs₂) ≡ failing bs₁ + failing bs₂ → (when t then failing (bs₁ ++ bs₂) else suc (failing (bs₁ ++ bs₂))) ≡ (when t then failing bs₁ else suc (failing bs₁)) + failing bs₂
    go true e = e
    go false e = omega (arith, e)

answers_append : (bs₁ bs₂ : List rules.Binding) → answers_bytes (bs₁ ++ bs₂) ≡ answers_bytes bs₁ ++ answers_bytes bs₂
unfolding answers_bytes
answers_append [] bs₂ = refl
answers_append (a ∷ bs₁) bs₂ = ap (λ (l : List ℕ). binding_bytes a ++ l) (answers_append bs₁ bs₂) ∙ sym (append_assoc (binding_bytes a) (answers_bytes bs₁) (answers_bytes bs₂))

-- an answer has eight bytes
binding_size : (b : rules.Binding) → length (binding_bytes b) ≡ 8
unfolding binding_bytes bytes
binding_size as_written = refl
binding_size (elsewhere row) = refl
binding_size no_reference = refl
binding_size several = refl

pub answers_size : (bs : List rules.Binding) → length (answers_bytes bs) ≡ 8 * length bs
unfolding answers_bytes
answers_size [] = refl
answers_size (b ∷ bs) = omega (arith, length-append (binding_bytes b) (answers_bytes bs), binding_size b, answers_size bs)

-- one answer, and those behind it
noted_more : (n so_far more : ℕ) (old l : List ℕ) (b : rules.Binding) (bs : List rules.Binding) → (more & l) ≡ noted n so_far old (b ∷ []) → noted (n + 1) more l bs ≡ noted n so_far old (b ∷ bs)
unfolding noted
noted_more n so_far more old l b bs e =
    let count : more ≡ so_far + failing (b ∷ []) = cc in
    let held : l ≡ sets old (8 * n) (answers_bytes (b ∷ [])) = cc in
    let behind : 8 * (n + 1) ≡ 8 * n + length (answers_bytes (b ∷ [])) = omega (arith, answers_size (b ∷ [])) in
    let sum : so_far + failing (b ∷ bs) ≡ so_far + failing (b ∷ []) + failing bs = omega (arith, failing_append (b ∷ []) bs) in
    rw (count, held, behind, sum, answers_append (b ∷ []) bs, sets_append)

pub answered_start : (form sheet old : List ℕ) (count : ℕ) → count ≡ length sheet / 12 → noted 0 0 old (map (answer_to form) (slots_of (count - 0) (drop (12 * 0) sheet))) ≡ answered form sheet old
unfolding answered
answered_start form sheet old count e = ap (λ (ss : List Slot). noted 0 0 old (map (answer_to form) ss)) (all_slots sheet count e)

module _ (form sheet : List ℕ) (n count so_far : ℕ) (l : List ℕ) (T : Out ℕ (List ℕ)) (inv : noted n so_far l (map (answer_to form) (slots_of (count - n) (drop (12 * n) sheet))) ≡ T) where
  pub answered_end : count ≤ n → (so_far & l) ≡ T
  unfolding noted failing answers_bytes
  answered_end h = rw (no_slots_lem sheet n count h, add-zero) at inv

  pub answered_turn : n < count → (place name : ℕ) → place ≡ value (take 4 (drop (12 * n + 4) sheet)) → name ≡ value (take 4 (drop (12 * n + 8) sheet)) → (b : Binding) → b ≡ binding_of form place name
      → (more : ℕ) (m : List ℕ) → (more & m) ≡ noted n so_far l (ruled b ∷ []) → noted (n + 1) more m (map (answer_to form) (slots_of (count - (n + 1)) (drop (12 * (n + 1)) sheet))) ≡ T
  unfolding answer_to
  answered_turn h place name hp hn b hb more m w =
      noted_more n so_far more l m (ruled b) (map (answer_to form) (slots_of (count - (n + 1)) (drop (12 * (n + 1)) sheet))) w
      ∙ rw (hb, hp, hn) (sym (ap (λ (ss : List Slot). noted n so_far l (map (answer_to form) ss)) (next_slot sheet n count h)) ∙ inv)

pub ruleset list_ways = (answered_start, answered_end, rules)
