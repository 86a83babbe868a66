-- The ways through the whole.
use Rattle.std.specs.Prelude.{Result, Ok, Option as CodeOption, Some, None}
use Rattle.std.proofs.lemmas.Option.{none-some, same_Some}
use mathlib.Core.Path.{◌≡◌, refl, ap, sym, ◌∙◌, subst}
use mathlib.Core.Bool.{Bool, true, false, ◌&&◌, not}
use mathlib.Core.List.{List, ◌++◌}
use native.Mathlib.Omega.{arith}
use Prim.Native.Nat.{ℕ, ◌*◌, ◌/◌, ◌≤◌, ◌<◌}
use lib.Dec.{leb}
use lib.ListN.{length, get_or, take, drop, replicate}
use borrow.Author.Tests.{leb-true, leb-false}
use mir.Syntax.{w8}
use mir.Val.{Fits}
use Rattle.kit.specs.Out.{◌&◌}
use Rattle.kit.specs.Pick.{pick}
use Rattle.rules.specs.Tools.{when◌then◌else◌}
use Rattle.rules.specs.Versions.{Setting, all}
use Rattle.limits.specs.Held.{setting}
use Rattle.rules.proofs.Laws.InputLaws.{all_usual}
use Rattle.reading_laws.specs.OnBytes.{body, all_within}
use Rattle.binding.specs.Sheet.{SheetAnswer, run_of, sound_sheet, sheet_answer, answers_after, work_size, work_after}
use Rattle.slots.specs.Slots.{answered}
use Rattle.names.specs.Table.{Slot}
use Rattle.resolver_with.specs.Areas.{Lent, roomy, Cleared}
use Rattle.resolver_with.specs.Asked.{asked}
use Rattle.lent_areas.proofs.InForce.{header_long}
use Rattle.sheet.specs.Meaning.{meaning, ruled}
use Rattle.clearing.specs.Cleared.{cleared}
use Rattle.sheet.specs.Run.{refused_t, is_output}
use Rattle.sheet.proofs.Whole.{work_is, area_cleared, unsound_says, unsound_leaves, small_says, small_leaves, other_says, other_leaves, no_room_says, no_room_leaves, answered_says, answered_leaves}
use Rattle.sheet_with.specs.With.{sheet_with, area_for, early_t}
use Rattle.sheet_with.proofs.Ways.{area_is, heads}
use Rattle.refusal.specs.declared.Refusal.{Refusal}

module _ (form resolved sheet answers : List ℕ) (work : ℕ) (lent : Lent) (i : ℕ) (asks : setting i ≡ asked form) (size : ℕ) (sized : size ≡ area_for (setting i)) (large : Bool) (fits : large ≡ roomy (setting i).version lent) where
  abbrev A : SheetAnswer
  A = sheet_with form resolved sheet (length answers) work lent

  abbrev enough : Bool
  enough = large && leb size work

  -- the working area that the rules are told of
  abbrev told : ℕ
  told = when large then work else 0

  A-is : sheet_answer all form resolved sheet (length answers) told ≡ A
  unfolding sheet_with
  A-is = ap (λ (b : Bool). sheet_answer all form resolved sheet (length answers) (when b then work else 0)) (fits ∙ ap (λ (s : Setting). roomy s.version lent) asks)

  area : work_size all form ≡ size
  area = area_is form i asks ∙ sym sized

  told_small : enough ≡ false → told < size
  unfolding when◌then◌else◌
  told_small e = go large e
    where
      go : (b : Bool) → (b && leb size work) ≡ false → (when b then work else 0) < size
      go true e = leb-false size work e
      go false e = let h = header_long i in omega (arith, sized, h)

  told_large : enough ≡ true → size ≤ told
  unfolding when◌then◌else◌
  told_large e = go large e
    where
      go : (b : Bool) → (b && leb size work) ≡ true → size ≤ (when b then work else 0)
      go true e = leb-true size work e
      go false e = let no_way : ◌≡◌ {A = ℕ} 0 1 = cc in absurd (omega arith)

  pub lent_large : enough ≡ true → roomy (setting i).version lent ≡ true
  lent_large e = go large e fits
    where
      go : (b : Bool) → (b && leb size work) ≡ true → b ≡ roomy (setting i).version lent → roomy (setting i).version lent ≡ true
      go true e f = sym f
      go false e f = let no_way : ◌≡◌ {A = ℕ} 0 1 = cc in absurd (omega arith)

  pub work_large : enough ≡ true → size ≤ work
  work_large e = go large e
    where
      go : (b : Bool) → (b && leb size work) ≡ true → size ≤ work
      go true e = leb-true size work e
      go false e = let no_way : ◌≡◌ {A = ℕ} 0 1 = cc in absurd (omega arith)

  abbrev Says : Result ℕ Refusal → (new : List ℕ) → Type 0
  Says r new = (meaning r ≡ ruled A) × (new ≡ answers_after A answers)

  says : (r : Result ℕ Refusal) (new : List ℕ) → meaning r ≡ ruled (sheet_answer all form resolved sheet (length answers) told) → new ≡ answers_after (sheet_answer all form resolved sheet (length answers) told) answers → Says r new
  says r new p q = (p ∙ ap ruled A-is, q ∙ ap (λ (a : SheetAnswer). answers_after a answers) A-is)

  module _ (e : CodeOption ℕ) (early : e ≡ early_t sheet enough) where
    -- no sheet, or an area is too small
    pub early_returns : (number : ℕ) → e ≡ Some number → (r : Result ℕ Refusal) → r ≡ refused_t number → Says r answers
    unfolding early_t pick
    early_returns number n r is = go (sound_sheet sheet) enough refl refl (sym n ∙ early)
      where
        go : (s b : Bool) → sound_sheet sheet ≡ s → enough ≡ b → ◌≡◌ {A = CodeOption ℕ} (Some number) (pick s (pick b None (Some 3)) (Some 15)) → Says r answers
        go true true p q w = absurd (none-some number (sym w))
        go true false p q w =
            let so : not (sound_sheet sheet) ≡ false = ap not p in
            says r answers (small_says all form size area resolved sheet answers told (sound_sheet sheet) refl so (told_small q) r (is ∙ ap refused_t (same_Some number 3 w))) (small_leaves all form size area resolved sheet answers told (sound_sheet sheet) refl so (told_small q))
        go false b p q w =
            let no : not (sound_sheet sheet) ≡ true = ap not p in
            says r answers (unsound_says all form size area resolved sheet answers told (sound_sheet sheet) refl no r (is ∙ ap refused_t (same_Some number 15 w))) (unsound_leaves all form size area resolved sheet answers told (sound_sheet sheet) refl no)

    module _ (none : e ≡ None) where
      late : (sound_sheet sheet ≡ true) × (enough ≡ true)
      unfolding early_t pick
      late = go (sound_sheet sheet) enough (sym early ∙ none)
        where
          go : (s b : Bool) → ◌≡◌ {A = CodeOption ℕ} (pick s (pick b None (Some 3)) (Some 15)) None → (s ≡ true) × (b ≡ true)
          go true true w = (refl, refl)
          go true false w = absurd (none-some 3 (sym w))
          go false b w = absurd (none-some 15 (sym w))

      pub is_enough : enough ≡ true
      is_enough = late.1

      so : not (sound_sheet sheet) ≡ false
      so = ap not late.0

      module _ (s : Bool) (same : s ≡ is_output (run_of all form) resolved) where
        pub other_returns : not s ≡ true → (r : Result ℕ Refusal) → r ≡ refused_t 15 → Says r answers
        other_returns w r is =
            says r answers (other_says all form size area resolved sheet answers told (sound_sheet sheet) refl so (told_large is_enough) s same w r is) (other_leaves all form size area resolved sheet answers told (sound_sheet sheet) refl so (told_large is_enough) s same w)

        module _ (its : not s ≡ false) (each : ℕ) (count : each ≡ 8 * (length sheet / 12)) where
          pub no_room_returns : length answers < each → (r : Result ℕ Refusal) → r ≡ refused_t 3 → Says r answers
          no_room_returns short r is =
              says r answers (no_room_says all form size area resolved sheet answers told (sound_sheet sheet) refl so (told_large is_enough) s same its each count short r is)
              (no_room_leaves all form size area resolved sheet answers told (sound_sheet sheet) refl so (told_large is_enough) s same its each count short)

          pub answered_returns : each ≤ length answers → ((j : ℕ) → Fits w8 (get_or form j 0)) → (n : ℕ) (new : List ℕ) → (n & new) ≡ answered (body (setting i) resolved) sheet answers → Says (Ok n) new
          answered_returns room bytes n new w =
              says (Ok n) new (answered_says all form size area resolved sheet answers told (sound_sheet sheet) refl so (told_large is_enough) s same its each count room all_usual all_within (setting i).version.header (heads form i asks _ refl) bytes n new w)
              (answered_leaves all form size area resolved sheet answers told (sound_sheet sheet) refl so (told_large is_enough) s same its each count room all_usual all_within (setting i).version.header (heads form i asks _ refl) bytes n new w)

  -- the working area
  module _ (old new : List ℕ) where
    pub work_cleared : new ≡ cleared 0 size old → new ≡ work_after all form old
    work_cleared e = work_is all form size area old new e

    pub work_zeroed : new ≡ replicate (length (take size old)) 0 → new ++ drop size old ≡ work_after all form old
    work_zeroed e = area_cleared all form size area old new e

-- the areas, by the setting that the code goes by
pub cleared_asked : (form : List ℕ) (s : Setting) → s ≡ asked form → (e e' n n' : List Slot) (k k' c c' l l' : List ℕ) → Cleared s.version e e' n n' k k' c c' l l' → Cleared (asked form).version e e' n n' k k' c c' l l'
cleared_asked form s asks e e' n n' k k' c c' l l' h = subst (λ (x : Setting). Cleared x.version e e' n n' k k' c c' l l') asks h
