-- The whole run against the rules.
use Rattle.std.specs.Prelude.{Result, Ok, Err, ⊤}
use mathlib.Core.Path.{◌≡◌, refl, ap, sym, ◌∙◌, subst}
use mathlib.Core.Bool.{Bool, true, false, ◌||◌, ◌&&◌, not}
use mathlib.Core.Option.{Option, none, some}
use mathlib.Core.List.{List}
use native.Mathlib.Omega.{arith}
use Prim.Native.Nat.{ℕ, zero, suc, ◌≤◌, ◌<◌}
use lib.Dec.{ltb}
use lib.ListN.{length, get_or}
use borrow.Author.Tests.{eqb-true, leb-true, lt-ltb, ltb-false}
use mir.Syntax.{w8}
use mir.Val.{Fits}
use Rattle.rules.specs.Tools.{when◌then◌else◌, only, ◌or_else◌}
use Rattle.rules.specs.Versions.{Setting, as_claimed, all}
use Rattle.rules.specs.Tree.{Scope}
use Rattle.rules.specs.Answer.{AnswerOf, refused, accepted, has_header, setting_of}
use Rattle.rules.specs.Laws.ToolLaws.{and_left, and_right}
use Rattle.read_form.specs.ReadForm.{read_form}
use Rattle.read_form.proofs.Laws.ReadFormLaws.{read_exactly}
use Rattle.clearing.specs.Cleared.{cleared}
use Rattle.checking.specs.CheckAnswer.{slots_of, links_of, check_for, check_answer, sized_by, area_for, table_after, index_after}
use Rattle.refusal.specs.declared.Refusal.{Refusal}
use Rattle.limits.specs.Held.{setting}
use Rattle.names.specs.Table.{Slot, empty_slot}
use Rattle.whole_form.specs.Whole.{form_of}
use Rattle.resolver.proofs.Bytes.{all_bytes}
use Rattle.resolver_with.specs.Areas.{Lent, lent_of, roomy, Cleared}
use Rattle.resolver_with.specs.Asked.{asked}
use Rattle.resolver_with.proofs.Asked.{setting_asked}
use Rattle.lent_areas.proofs.InForce.{first_asked}
use Rattle.claim_check.specs.Meaning.{meaning, ruled}
use Rattle.claim_check.specs.Run.{version_of, claim_by, steps_by, input_of, small_t}
use Rattle.claim_check.proofs.Agrees.{small_decided, enough_decided}
use Rattle.check_with.specs.With.{check_with}
use Rattle.check_with.specs.Large.{Large}
use Rattle.claim_check.specs.declared.Verdict.{Verdict}

-- ---- what is large enough

all_true : (a b c d e : Bool) → (a && (b && (c && (d && e)))) ≡ true → (a ≡ true) × (b ≡ true) × (c ≡ true) × (d ≡ true) × (e ≡ true)
all_true a b c d e q =
    let p = and_right a (b && (c && (d && e))) q in
    let r = and_right b (c && (d && e)) p in
    let s = and_right c (d && e) r in
    (and_left a (b && (c && (d && e))) q, and_left b (c && (d && e)) p, and_left c (d && e) r, and_left d e s, and_right d e s)

pub large_in : (i : ℕ) (e n : List Slot) (k c m : List ℕ) → roomy (setting i).version (lent_of e n k c m) ≡ true → Large i e n k c m
unfolding roomy
large_in i e n k c m q =
    let p = all_true _ _ _ _ _ q in
    record {
      entered = leb-true _ _ p.0;
      names = leb-true _ _ p.1;
      known = leb-true _ _ p.2;
      chains = leb-true _ _ p.3;
      ends = leb-true _ _ p.4;
    }

slots_some : (i : ℕ) → 0 < slots_of (version_of i)
unfolding slots_of
slots_some zero = omega arith
slots_some (suc zero) = omega arith
slots_some (suc (suc zero)) = omega arith
slots_some (suc (suc (suc i))) = omega arith

abbrev refuses : Result ⊤ Refusal → ℕ
refuses (Ok tt) = 0
refuses (Err why) = 1

-- an input that is accepted has a header
pub accepted_long : (i : ℕ) (form : List ℕ) (t : Result ⊤ Refusal) → t ≡ input_of (setting i).rules (read_form (setting i) form) → t ≡ Ok tt → (version_of i).header ≤ length form
unfolding input_of
accepted_long i form t e w = go (read_form (setting i) form) refl (sym w ∙ e)
  where
    go : (x : AnswerOf Scope) → read_form (setting i) form ≡ x → Ok tt ≡ input_of (setting i).rules x → (version_of i).header ≤ length form
    go (refused n p q) r z = let no_way : ◌≡◌ {A = ℕ} 0 1 = ap refuses z in absurd (omega (arith, no_way))
    go (accepted s) r z = let h = eqb-true (length form) _ ((read_exactly (setting i) form s).0 r).long in omega (arith, h)

-- none is too small
module _ (i slots links : ℕ) (lent : Lent) (fits : Bool) (f : fits ≡ roomy (setting i).version lent) (small : Bool) (is : small ≡ (not fits || (ltb slots (slots_of (version_of i)) || ltb links (links_of (version_of i))))) (e : small ≡ false) where
  not_parts : (a b c : Bool) → (not a || (b || c)) ≡ false → (a ≡ true) × (b ≡ false) × (c ≡ false)
  not_parts true true c q = let z : ◌≡◌ {A = ℕ} 0 1 = cc in absurd (omega arith)
  not_parts true false true q = let z : ◌≡◌ {A = ℕ} 0 1 = cc in absurd (omega arith)
  not_parts true false false q = (refl, refl, refl)
  not_parts false b c q = let z : ◌≡◌ {A = ℕ} 0 1 = cc in absurd (omega arith)

  parts : (fits ≡ true) × (ltb slots (slots_of (version_of i)) ≡ false) × (ltb links (links_of (version_of i)) ≡ false)
  parts = not_parts fits _ _ (sym is ∙ e)

  pub is_roomy : roomy (setting i).version lent ≡ true
  is_roomy = sym f ∙ parts.0

  pub table_long : slots_of (version_of i) ≤ slots
  table_long = ltb-false slots (slots_of (version_of i)) parts.1

  pub index_long : links_of (version_of i) ≤ links
  index_long = ltb-false links (links_of (version_of i)) parts.2

-- ---- the answer

of_asked : (form : List ℕ) → setting_of all form ≡ (only (has_header (asked form) form) (asked form) or_else none)
of_asked form = setting_asked form ∙ unfold setting_of in refl

module _ (form : List ℕ) (each : (j : ℕ) → Fits w8 (get_or form j 0)) (claim : List ℕ) (slots links : ℕ) (lent : Lent) (i : ℕ) (asks : setting i ≡ asked form) (fits : Bool) (f : fits ≡ roomy (setting i).version lent) (small : Bool) (is : small ≡ (not fits || (ltb slots (slots_of (version_of i)) || ltb links (links_of (version_of i))))) where
  abbrev taken : ℕ
  taken = when fits then slots else 0

  -- under the setting that is asked for
  with_asked : check_with form claim slots links lent ≡ check_for (only (has_header (setting i) form) (setting i) or_else none) form claim taken links
  unfolding check_with check_answer
  with_asked =
      ap (λ (o : Option Setting). check_for o form claim (when roomy (asked form).version lent then slots else 0) links) (of_asked form)
      ∙ (ap (λ (s : Setting). check_for (only (has_header s form) s or_else none) form claim (when roomy s.version lent then slots else 0) links) (sym asks)
      ∙ ap (λ (b : Bool). check_for (only (has_header (setting i) form) (setting i) or_else none) form claim (when b then slots else 0) links) (sym f))

  as_taken : (b : Bool) → (not b || (ltb slots (slots_of (version_of i)) || ltb links (links_of (version_of i)))) ≡ (ltb (when b then slots else 0) (slots_of (version_of i)) || ltb links (links_of (version_of i)))
  unfolding when◌then◌else◌
  as_taken true = refl
  as_taken false = rw (lt-ltb 0 (slots_of (version_of i)) (slots_some i))

  tested : small ≡ (ltb taken (slots_of (version_of i)) || ltb links (links_of (version_of i)))
  tested = is ∙ as_taken fits

  pub small_returns : small ≡ true → (v : Result Verdict Refusal) → v ≡ small_t i form → meaning v ≡ ruled (check_with form claim slots links lent)
  small_returns e v q = ap meaning q ∙ (small_decided i form claim (all_bytes form each) taken links (sym tested ∙ e) ∙ ap ruled (sym with_asked))

  module _ (e : small ≡ false) where
    module _ (t : Result ⊤ Refusal) (said : t ≡ input_of (setting i).rules (read_form (setting i) form)) where
      judged : meaning (steps_by i form claim (slots_of (version_of i)) t) ≡ ruled (check_with form claim slots links lent)
      judged = ap (λ (x : Result ⊤ Refusal). meaning (steps_by i form claim (slots_of (version_of i)) x)) said ∙ (enough_decided i form claim (all_bytes form each) taken links (sym tested ∙ e) ∙ ap ruled (sym with_asked))

      pub refused_returns : (why : Refusal) → t ≡ Err why → meaning (Err why) ≡ ruled (check_with form claim slots links lent)
      unfolding steps_by
      refused_returns why w = rw w at judged

      pub judged_returns : t ≡ Ok tt → (v : Result Verdict Refusal) → v ≡ claim_by i form claim (slots_of (version_of i)) (form_of (read_form (as_claimed (setting i)) claim)) → meaning v ≡ ruled (check_with form claim slots links lent)
      unfolding steps_by
      judged_returns w v q = ap meaning q ∙ (rw w at judged)

-- ---- is_small

pub small_tests : (lent : Bool) (i table index slots links : ℕ) → slots ≡ slots_of (version_of i) → links ≡ links_of (version_of i)
    → (not lent || (ltb table slots || ltb index links)) ≡ (not lent || (ltb table (slots_of (version_of i)) || ltb index (links_of (version_of i))))
small_tests lent i table index slots links p q = rw (p, q)

-- ---- the areas

sized_asked : (form : List ℕ) → sized_by all form ≡ some (asked form)
unfolding sized_by
sized_asked form = first_asked form

module _ (form : List ℕ) (i : ℕ) (asks : setting i ≡ asked form) where
  sized : sized_by all form ≡ some (setting i)
  sized = sized_asked form ∙ ap (λ (s : Setting). some s) (sym asks)

  pub table_after_lem : (old new : List Slot) → new ≡ cleared empty_slot (slots_of (version_of i)) old → new ≡ table_after all form old
  unfolding table_after area_for
  table_after_lem old new e = rw sized e

  pub index_after_lem : (old new : List ℕ) → new ≡ cleared 0 (links_of (version_of i)) old → new ≡ index_after all form old
  unfolding index_after area_for
  index_after_lem old new e = rw sized e

  pub areas_after : (e e' n n' : List Slot) (k k' c c' l l' : List ℕ) → Cleared (setting i).version e e' n n' k k' c c' l l' → Cleared (asked form).version e e' n n' k k' c c' l l'
  areas_after e e' n n' k k' c c' l l' h = subst (λ (x : Setting). Cleared x.version e e' n n' k k' c c' l l') asks h
