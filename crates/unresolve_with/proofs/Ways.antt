-- The ways through the code in areas of their sizes, and in the fronts of larger ones.
use Rattle.std.specs.Prelude.{Option, Some, None, Result, Ok, Err, ℕ}
use mathlib.Core.Path.{◌≡◌, refl, sym, ap, ◌∙◌, subst}
use mathlib.Core.Bool.{Bool, true, false, ◌&&◌, ◌||◌, not}
use mathlib.Core.List.{List, [], ◌∷◌}
use native.Mathlib.Omega.{arith}
use Prim.Native.Nat.{ℕ, zero, suc, ◌+◌, ◌-◌, ◌*◌, ◌/◌, ◌≤◌}
use lib.Dec.{eqb, ltb}
use lib.ListN.{length, get_or, set, take, drop, replicate, length-drop}
use lib.Seq.{take_all, length-take-le}
use borrow.Author.Rules.{rules}
use borrow.Author.Tests.{eq-eqb}
use Rattle.kit.specs.Out.{◌&◌}
use Rattle.rules.specs.Tools.{when◌then◌else◌}
use Rattle.rules.specs.Versions.{Setting, as_claimed}
use Rattle.rules.specs.Answer.{same_numbers, output}
use Rattle.rules.specs.Laws.RowLaws.{Bytes}
use Rattle.read_form.specs.ReadForm.{read_form}
use Rattle.clearing.specs.Cleared.{cleared}
use Rattle.clearing.specs.Laws.{cleared_all, cleared_front}
use Rattle.unresolving.specs.BackAnswer.{back_answer, back_output}
use Rattle.refusal.specs.declared.Refusal.{Refusal}
use Rattle.limits.specs.Held.{setting}
use Rattle.limits.proofs.Laws.{few_rows}
use Rattle.names.specs.Table.{Slot}
use Rattle.index.specs.Indexed.{Holds}
use Rattle.index.proofs.Storey.{holds_new}
use Rattle.back_notes.specs.Note.{Note, no_note}
use Rattle.whole_form.specs.Whole.{form_of}
use Rattle.resolver.specs.Meaning.{meaning}
use Rattle.resolver_with.specs.Areas.{slots_for, links_for, lent_of}
use Rattle.resolver_with.specs.Exact.{exactly, Suits}
use Rattle.resolver_with.specs.With.{Ran}
use Rattle.claim_check.specs.Run.{Kept}
use Rattle.claim_check.proofs.Agrees.{table_left}
use Rattle.unresolve.specs.With.{input_size, output_size}
use Rattle.unresolve.specs.Meaning.{returned_in}
use Rattle.unresolve.specs.Restored.{restore_t}
use Rattle.unresolve.specs.Run.{refused_t, alone, Came, give_t}
use Rattle.unresolve.proofs.Alone.{Fit, fit_in}
use Rattle.unresolve.proofs.Agrees.{found_unread, found_header, found_from, found_not, nothing_said, nothing_left, area_long, part_headed, part_few, area_said, area_left}
use Rattle.unresolve_with.specs.With.{notes_for, ClearedBack}
use Rattle.unresolve_with.specs.Exact.{Sized, Roomy}
use Rattle.refusal.specs.declared.Refused.{Refused}

-- ---- clear_notes

pub ruleset clearing = (cleared_all, cleared_front, rules)

-- ---- restore_lent

behind : (k : ℕ) (l : List ℕ) → take (length l - k) (drop k l) ≡ drop k l
behind k l = take_all (length l - k) (drop k l) (simp length-drop (omega arith))

-- an index of zeros holds nothing
pub lent_holds : (i : ℕ) (table : List Slot) (index o : List ℕ) → length table ≡ slots_for (setting i).version → length index ≡ links_for (setting i).version → o ≡ replicate (length index) 0 → Holds table o 0
lent_holds i table index o t l e =
    let f = few_rows i in
    let n : length index ≡ slots_for (setting i).version + length table = omega arith in
    subst (λ (x : List ℕ). Holds table x 0) (sym (e ∙ ap (λ (k : ℕ). replicate k 0) n)) (holds_new table o (slots_for (setting i).version) (omega arith) (omega arith))

pub lent_restored : (i header : ℕ) (form area o : List ℕ) (noted : List Note) (table : List Slot) (r : ℕ) → header ≡ (setting i).version.header → length table ≡ slots_for (setting i).version
    → (r & o) ≡ restore_t i (length table) noted (take (length form - header) (drop header form)) area → (r & o) ≡ restore_t i (slots_for (setting i).version) noted (drop (setting i).version.header form) area
lent_restored i header form area o noted table r h t e =
    e
    ∙ ap (λ (x : List ℕ). restore_t i (length table) noted x area) (behind header form ∙ ap (λ (k : ℕ). drop k form) h)
    ∙ ap (λ (k : ℕ). restore_t i k noted (drop (setting i).version.header form) area) t

pub ruleset restoring = (lent_holds, lent_restored, rules)

-- ---- resolves_to

module _ (i : ℕ) (e n : List Slot) (k c m : List ℕ) (suits : Suits i e n k c m) where
  suits_exactly : exactly (setting i).version (lent_of e n k c m) ≡ true
  unfolding exactly
  suits_exactly =
      rw (eq-eqb (length e) _ suits.entered, eq-eqb (length n) _ suits.names, eq-eqb (length k) _ suits.known, eq-eqb (length c) _ suits.chains, eq-eqb (length m) _ suits.ends)

  pub lent_resolves : (input claim again a₁ a₂ : List ℕ) (x : Result ℕ Refused) (r : Bool) → a₁ ≡ set again 0 0 → Ran (setting i) (exactly (setting i).version (lent_of e n k c m)) input a₁ a₂ x
      → r ≡ same_numbers (take (length claim) a₂) claim → r ≡ same_numbers (take (length claim) (output (alone i) input (set again 0 0))) claim
  unfolding when◌then◌else◌
  lent_resolves input claim again a₁ a₂ x r p R q =
      let left : a₂ ≡ output (alone i) input a₁ = R.leaves ∙ rw suits_exactly in
      q ∙ rw (left, p)

-- ---- find_input

module _ (i : ℕ) (form : List ℕ) (f : Result ℕ Refusal) (said : f ≡ form_of (read_form (as_claimed (setting i)) form)) where
  pub lent_unread : (area : List ℕ) (why : Refusal) → f ≡ Err why → Came i None form area
  lent_unread area why e = found_unread i (fit_in i) form f said area why e

  module _ (rows : ℕ) (e : f ≡ Ok rows) where
    pub lent_header : (setting i).version.header ≤ length form
    lent_header = found_header i (fit_in i) form f said rows e

    module _ (area again : List ℕ) (noted : List Note) (sized : Sized i area again noted) (a : List ℕ) (at : ℕ)
        (w : (at & a) ≡ restore_t i (slots_for (setting i).version) noted (drop (setting i).version.header form) area) (same : Bool)
        (compared : same ≡ same_numbers (take (length form) (output (alone i) (take (length a - at) (drop at a)) (set again 0 0))) form) (bytes : Bytes (take (length a - at) (drop at a))) where
      w' : (at & a) ≡ restore_t i (slots_for (setting i).version) noted (take (length form - (setting i).version.header) (drop (setting i).version.header form)) area
      w' = w ∙ ap (λ (x : List ℕ). restore_t i (slots_for (setting i).version) noted x area) (sym (behind (setting i).version.header form))

      pub lent_from : same ≡ true → at ≤ 16 * (setting i).version.rows → length a ≡ length area → Came i (Some at) form a
      lent_from t low long =
          found_from i (fit_in i) form f said rows e (slots_for (setting i).version) noted (omega arith) (omega (arith, sized.noted)) area a again at sized.restored sized.again w' same compared bytes t low (long ∙ sized.restored)

      pub lent_not : same ≡ false → Came i None form a
      lent_not t =
          found_not i (fit_in i) form f said rows e (slots_for (setting i).version) noted (omega arith) (omega (arith, sized.noted)) area a again at sized.restored sized.again w' same compared bytes t

pub ruleset finding = (lent_unread, lent_header, rules)

-- ---- give_found

module _ (i : ℕ) (form a : List ℕ) (b : Option ℕ) (k : Came i b form a) where
  pub nothing_answered : b ≡ None → (out : List ℕ) (r : Result ℕ Refused) → r ≡ refused_t 14 → meaning r ≡ returned_in (setting i).version (back_answer (alone i) form (length out))
  nothing_answered e out r q = nothing_said i (fit_in i) form out a b k e r q

  pub nothing_written : b ≡ None → (out : List ℕ) → out ≡ back_output (alone i) form out
  nothing_written e out = nothing_left i (fit_in i) form out a b k e

  module _ (at : ℕ) (e : b ≡ Some at) where
    pub found_long : at ≤ length a
    found_long = area_long i (fit_in i) form a at b k e

    pub found_headed : (setting i).version.header ≤ length (take (length a - at) (drop at a))
    found_headed = part_headed i (fit_in i) form a at b k e

    pub found_few : length (take (length a - at) (drop at a)) ≤ 262144
    found_few = part_few i (fit_in i) form a at b k e

    module _ (out o : List ℕ) (r : Result ℕ Refused) (w : (r & o) ≡ give_t i (take (length a - at) (drop at a)) out) where
      pub found_answered : meaning r ≡ returned_in (setting i).version (back_answer (alone i) form (length out))
      found_answered = area_said i (fit_in i) form a at b k e out o r w

      pub found_written : o ≡ back_output (alone i) form out
      found_written = area_left i (fit_in i) form a at b k e out o r w

pub ruleset giving = (nothing_answered, nothing_written, found_long, found_headed, found_few, found_answered, found_written, rules)

-- ---- give_in_fronts

module _ (i : ℕ) (r a : List ℕ) (n : List Note) (roomy : Roomy i r a n) (input output notes : ℕ) (p : input ≡ input_size (setting i).version) (q : output ≡ output_size (setting i).version) (s : notes ≡ notes_for (setting i).version) where
  pub restored_long : input ≤ length r
  restored_long = omega (arith, p, roomy.restored)

  pub again_long : output ≤ length a
  again_long = omega (arith, q, roomy.again)

  pub noted_long : notes ≤ length n
  noted_long = omega (arith, s, roomy.noted)

  pub fronts_sized : Sized i (take input r) (take output a) (take notes n)
  fronts_sized =
      record {
        restored = length-take-le input r restored_long ∙ p;
        again = length-take-le output a again_long ∙ q;
        noted = length-take-le notes n noted_long ∙ s;
      }

-- ---- clear_back, give_lent

pub back_cleared : (i : ℕ) (r r' a a' : List ℕ) (n n' : List Note) (input output notes : ℕ) → input ≡ input_size (setting i).version → output ≡ output_size (setting i).version → notes ≡ notes_for (setting i).version
    → r' ≡ cleared 0 input r → a' ≡ cleared 0 output a → n' ≡ cleared no_note notes n → ClearedBack (setting i).version r r' a a' n n'
back_cleared i r r' a a' n n' input output notes p q s e f g =
    record {
      restored = e ∙ ap (λ (k : ℕ). cleared 0 k r) p;
      again = f ∙ ap (λ (k : ℕ). cleared 0 k a) q;
      noted = g ∙ ap (λ (k : ℕ). cleared no_note k n) s;
    }

pub back_left : (i : ℕ) (r r₁ r' a a₁ a' : List ℕ) (n n₁ n' : List Note) → Kept (input_size (setting i).version) r r₁ × Kept (output_size (setting i).version) a a₁ × Kept (notes_for (setting i).version) n n₁
    → ClearedBack (setting i).version r₁ r' a₁ a' n₁ n' → ClearedBack (setting i).version r r' a a' n n'
back_left i r r₁ r' a a₁ a' n n₁ n' K C =
    record {
      restored = table_left [] (input_size (setting i).version) 0 r r₁ r' K.0 C.restored;
      again = table_left [] (output_size (setting i).version) 0 a a₁ a' K.1 C.again;
      noted = table_left [] (notes_for (setting i).version) no_note n n₁ n' K.2 C.noted;
    }
