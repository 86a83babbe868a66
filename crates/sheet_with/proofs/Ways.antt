-- The ways through what is below the run.
use Rattle.std.specs.Prelude.{Result, Option as CodeOption, Some, None}
use mathlib.Core.Path.{◌≡◌, refl, ap, sym, ◌∙◌}
use mathlib.Core.Bool.{Bool, true, false, not}
use mathlib.Core.Logic.{◌⊎◌, inl, inr}
use mathlib.Core.Option.{some}
use mathlib.Core.List.{List}
use native.Mathlib.Omega.{arith}
use Prim.Native.Nat.{ℕ, ◌+◌, ◌*◌, ◌-◌, ◌≤◌, ◌<◌}
use lib.ListN.{length, take, drop, length-drop, drop_of_length-le}
use lib.Seq.{take_all}
use borrow.Author.Rules.{rules}
use Rattle.kit.specs.Out.{◌&◌}
use Rattle.kit.specs.Pick.{pick}
use Rattle.kit.proofs.Laws.{lt_or_le}
use Rattle.rules.specs.Tools.{when◌then◌else◌}
use Rattle.rules.specs.Versions.{Setting, all}
use Rattle.rules.specs.Answer.{setting_of, answer, output}
use Rattle.limits.specs.declared.Limits.{Limits}
use Rattle.limits.specs.Held.{limits_of, setting}
use Rattle.limits.proofs.Laws.{few_rows}
use Rattle.reading_laws.specs.OnBytes.{body}
use Rattle.binding.specs.Sheet.{sound_sheet, area_of, first_of, work_size}
use Rattle.slots.specs.Slots.{answered}
use Rattle.resolver.specs.Meaning.{meaning, ruled}
use Rattle.resolver_with.specs.Areas.{Lent, roomy}
use Rattle.resolver_with.specs.Asked.{asked}
use Rattle.resolver_with.specs.With.{answer_with, output_with}
use Rattle.lent_areas.proofs.InForce.{asked_is, first_asked, header_long}
use Rattle.sheet_with.specs.With.{area_for, early_t}
use Rattle.refusal.specs.declared.Refused.{Refused}

-- ---- sizes

module _ (i : ℕ) (l : Limits) (e : l ≡ limits_of (setting i)) (size : ℕ) (h : size ≡ (setting i).version.header) where
  rows_are : l.rows ≡ (setting i).version.rows
  rows_are = ap (λ (x : Limits). x.rows) e

  pub rows_few : l.rows ≤ 16383
  rows_few = omega (arith, rows_are, few_rows i)

  pub area_sized : size + 64 * l.rows ≡ area_for (setting i)
  area_sized = omega (arith, rows_are, h)

  pub area_few : size ≤ 255 → size + 64 * l.rows ≤ 1048767
  area_few k = omega (arith, rows_are, few_rows i, k)

-- the area goes by the setting that the header asks for
pub work_asked : (form : List ℕ) → work_size all form ≡ area_for (asked form)
unfolding work_size area_of first_of
work_asked form = ap area_of (first_asked form)

module _ (form : List ℕ) (i : ℕ) (asks : setting i ≡ asked form) where
  pub area_is : work_size all form ≡ area_for (setting i)
  area_is = work_asked form ∙ ap area_for (sym asks)

  pub long_in : (n : ℕ) → area_for (setting i) ≤ n → work_size all form ≤ n
  long_in n h = omega (arith, area_is, h)

  pub heads : (head : ℕ) → head ≡ (setting i).version.header → (v : Setting) → setting_of all form ≡ some v → head ≡ v.version.header
  heads head e v q = e ∙ ap (λ (s : Setting). s.version.header) (asks ∙ asked_is form v q)

  -- the resolver in areas that are large enough
  module _ (lent : Lent) (enough : roomy (setting i).version lent ≡ true) where
    in_asked : roomy (asked form).version lent ≡ true
    in_asked = ap (λ (s : Setting). roomy s.version lent) (sym asks) ∙ enough

    pub said_roomy : (x : Result ℕ Refused) (room : ℕ) → meaning x ≡ ruled (answer_with form room lent) → meaning x ≡ ruled (answer all form room)
    unfolding answer_with when◌then◌else◌
    said_roomy x room e = rw in_asked at e

    pub left_roomy : (o o' : List ℕ) → o' ≡ output_with form o lent → o' ≡ output all form o
    unfolding output_with when◌then◌else◌
    left_roomy o o' e = rw in_asked at e

-- ---- refused_early

module _ (sheet : List ℕ) (enough b : Bool) (sound : b ≡ sound_sheet sheet) where
  pub early_sheet : not b ≡ true → Some 15 ≡ early_t sheet enough
  unfolding early_t pick
  early_sheet e = rw (← sound) (go b e)
    where
      go : (x : Bool) → not x ≡ true → ◌≡◌ {A = CodeOption ℕ} (Some 15) (pick x (pick enough None (Some 3)) (Some 15))
      go true e = let no_way : ◌≡◌ {A = ℕ} 0 1 = cc in absurd (omega arith)
      go false e = refl

  module _ (so : not b ≡ false) where
    whole : b ≡ true
    whole = go b so
      where
        go : (x : Bool) → not x ≡ false → x ≡ true
        go true e = refl
        go false e = sym e

    pub early_none : enough ≡ true → None ≡ early_t sheet enough
    unfolding early_t pick
    early_none e = rw (← sound, whole, e)

    pub early_area : enough ≡ false → Some 3 ≡ early_t sheet enough
    unfolding early_t pick
    early_area e = rw (← sound, whole, e)

-- ---- answer_behind

pub more_fits : (i size : ℕ) → size ≡ (setting i).version.header → 8 ≤ size
more_fits i size e = let h = header_long i in omega (arith, h, e)

from_least : (more a : ℕ) (l : List ℕ) → a ≡ more - (more - length l) → take (length l - a) (drop a l) ≡ drop more l
from_least more a l e = take_all (length l - a) (drop a l) (simp length-drop (omega arith)) ∙ go (lt_or_le (length l) more)
  where
    go : (length l < more) ⊎ (more ≤ length l) → drop a l ≡ drop more l
    go (inl h) = drop_of_length-le l {i = a} (omega arith) ∙ sym (drop_of_length-le l {i = more} (omega arith))
    go (inr h) = let k : a ≡ more = omega arith in ap (λ (n : ℕ). drop n l) k

pub answered_behind : (i size a n : ℕ) (resolved sheet answers new : List ℕ) → size ≡ (setting i).version.header → a ≡ size - 8 - (size - 8 - length resolved)
    → (n & new) ≡ answered (take (length resolved - a) (drop a resolved)) sheet answers → (n & new) ≡ answered (body (setting i) resolved) sheet answers
answered_behind i size a n resolved sheet answers new e p h =
    h ∙ ap (λ (x : List ℕ). answered x sheet answers) (from_least (size - 8) a resolved p ∙ ap (λ (k : ℕ). drop (k - 8) resolved) e)

pub ruleset ways = (rows_few, area_sized, area_few, early_sheet, early_none, early_area, more_fits, answered_behind, rules)
