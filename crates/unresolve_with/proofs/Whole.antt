-- The whole run against the rules.
use Rattle.std.specs.Prelude.{Result, ℕ}
use mathlib.Core.Path.{◌≡◌, refl, sym, ap, ◌∙◌, subst}
use mathlib.Core.Bool.{Bool, true, false, ◌||◌, not}
use mathlib.Core.List.{List, [], ◌∷◌}
use native.Mathlib.Omega.{arith}
use Prim.Native.Nat.{ℕ, ◌≤◌, ◌<◌}
use lib.Dec.{ltb}
use lib.ListN.{length}
use borrow.Author.Rules.{rules}
use borrow.Author.Tests.{ltb-false}
use Rattle.rules.specs.Tools.{when◌then◌else◌}
use Rattle.rules.specs.Versions.{Setting, all}
use Rattle.unresolving.specs.BackAnswer.{Returned, refused, back_answer, over, back_output}
use Rattle.limits.specs.Held.{setting}
use Rattle.names.specs.Table.{Slot}
use Rattle.back_notes.specs.Note.{Note}
use Rattle.resolver.specs.Meaning.{meaning}
use Rattle.resolver_with.specs.Areas.{lent_of, roomy, Cleared}
use Rattle.resolver_with.specs.Asked.{asked}
use Rattle.check_with.specs.Large.{Large}
use Rattle.check_with.proofs.Whole.{large_in}
use Rattle.unresolve.specs.With.{input_size, output_size}
use Rattle.unresolve.specs.Meaning.{returned_in}
use Rattle.unresolve.specs.Run.{refused_t, alone}
use Rattle.unresolve_with.specs.With.{notes_for, Lengths, lengths_of, too_small, back_lent, out_lent, ClearedBack}
use Rattle.unresolve_with.specs.Exact.{Roomy}
use Rattle.unresolve_with.proofs.Asked.{answer_asked}
use Rattle.refusal.specs.declared.Refused.{Refused}

-- ---- is_small

pub small_tests : (lent : Bool) (i r a n input output notes : ℕ) → input ≡ input_size (setting i).version → output ≡ output_size (setting i).version → notes ≡ notes_for (setting i).version
    → (not lent || (ltb r input || (ltb a output || ltb n notes))) ≡ (not lent || (ltb r (input_size (setting i).version) || (ltb a (output_size (setting i).version) || ltb n (notes_for (setting i).version))))
small_tests lent i r a n input output notes p q s = rw (p, q, s)

-- ---- unresolve_with

no_way : {X : Type 0} → true ≡ false → X
no_way q = let z : ◌≡◌ {A = ℕ} 0 1 = cc in absurd (omega arith)

all_false : (a b c d : Bool) → (not a || (b || (c || d))) ≡ false → (a ≡ true) × (b ≡ false) × (c ≡ false) × (d ≡ false)
all_false true true c d q = no_way q
all_false true false true d q = no_way q
all_false true false false true q = no_way q
all_false true false false false q = (refl, refl, refl, refl)
all_false false b c d q = no_way q

module _ (form out : List ℕ) (i : ℕ) (asks : setting i ≡ asked form) (r a : List ℕ) (n : List Note) (e s : List Slot) (k c m : List ℕ) (fits : Bool) (f : fits ≡ roomy (setting i).version (lent_of e s k c m)) (small : Bool)
    (is : small ≡ (not fits || (ltb (length r) (input_size (setting i).version) || (ltb (length a) (output_size (setting i).version) || ltb (length n) (notes_for (setting i).version))))) where
  abbrev lengths : Lengths
  lengths = lengths_of r a n (lent_of e s k c m)

  tested : too_small (asked form).version lengths ≡ small
  unfolding too_small
  tested = ap (λ (x : Setting). too_small x.version lengths) (sym asks) ∙ sym (is ∙ rw f)

  answered : (b : Bool) → small ≡ b → back_lent form (length out) lengths ≡ (when b then refused 3 0 else back_answer all form (length out))
  unfolding back_lent
  answered b q = rw (tested, q)

  module _ (q : small ≡ true) where
    small_answer : back_lent form (length out) lengths ≡ refused 3 0
    unfolding when◌then◌else◌
    small_answer = answered true q

    pub small_said : (x : Result ℕ Refused) → x ≡ refused_t 3 → meaning x ≡ returned_in (asked form).version (back_lent form (length out) lengths)
    unfolding returned_in
    small_said x p = rw (small_answer, p)

    pub small_left : out ≡ out_lent form out lengths
    unfolding out_lent over
    small_left = rw small_answer

  module _ (q : small ≡ false) where
    parts : (fits ≡ true) × (ltb (length r) (input_size (setting i).version) ≡ false) × (ltb (length a) (output_size (setting i).version) ≡ false) × (ltb (length n) (notes_for (setting i).version) ≡ false)
    parts = all_false fits _ _ _ (sym is ∙ q)

    pub is_roomy : Roomy i r a n
    is_roomy = record { restored = ltb-false _ _ parts.1; again = ltb-false _ _ parts.2; noted = ltb-false _ _ parts.3 }

    pub is_large : Large i e s k c m
    is_large = large_in i e s k c m (sym f ∙ parts.0)

    large_answer : back_lent form (length out) lengths ≡ back_answer (alone i) form (length out)
    unfolding when◌then◌else◌
    large_answer = answered false q ∙ answer_asked form (length out) ∙ ap (λ (x : Setting). back_answer (x ∷ []) form (length out)) (sym asks)

    pub large_said : (x : Result ℕ Refused) → meaning x ≡ returned_in (setting i).version (back_answer (alone i) form (length out)) → meaning x ≡ returned_in (asked form).version (back_lent form (length out) lengths)
    large_said x p = p ∙ ap (λ (v : Setting). returned_in v.version (back_answer (alone i) form (length out))) asks ∙ ap (returned_in (asked form).version) (sym large_answer)

    pub large_left : (o : List ℕ) → o ≡ back_output (alone i) form out → o ≡ out_lent form out lengths
    unfolding out_lent back_output
    large_left o p = p ∙ ap (λ (x : Returned). over x out) (sym large_answer)

module _ (form : List ℕ) (i : ℕ) (asks : setting i ≡ asked form) where
  pub back_after : (r r' a a' : List ℕ) (n n' : List Note) → ClearedBack (setting i).version r r' a a' n n' → ClearedBack (asked form).version r r' a a' n n'
  back_after r r' a a' n n' h = subst (λ (x : Setting). ClearedBack x.version r r' a a' n n') asks h
