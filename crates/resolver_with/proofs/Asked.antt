-- Which setting is asked for, and what the rules answer under it alone.
use Rattle.std.specs.Prelude.{Result, Ok, Err, ℕ}
use mathlib.Core.Path.{◌≡◌, refl, sym, ap, ◌∙◌}
use mathlib.Core.Bool.{Bool, true, false, ◌||◌, not}
use mathlib.Core.Option.{Option, none}
use mathlib.Core.List.{List, [], ◌∷◌}
use native.Mathlib.Omega.{arith}
use Prim.Native.Nat.{ℕ, zero, suc, ◌+◌, ◌*◌, ◌≤◌, ◌<◌}
use lib.Dec.{eqb}
use lib.ListN.{length, drop}
use borrow.Author.Rules.{rules}
use Rattle.rules.specs.Tools.{when◌then◌else◌, between, only, ◌or_else◌}
use Rattle.rules.specs.Versions.{Setting, all}
use Rattle.rules.specs.Answer.{has_header, setting_of, row_count, answer_inside, answer, output_inside, output}
use Rattle.limits.specs.declared.Limits.{Limits}
use Rattle.limits.specs.Held.{limits_of, setting}
use Rattle.limits.proofs.Laws.{stand_for}
use Rattle.form.specs.Header.{header_in, header_for, header_to}
use Rattle.form.specs.declared.header.BadHeader.TheVariants.{Wrong, Count}
use Rattle.resolver_with.specs.Asked.{first, asked_in, asked}
use Rattle.form.specs.declared.header.BadHeader.{BadHeader}

-- ---- asked_for

-- a header that is not wrong is that of the setting
some_rows : (s : Setting) (input : List ℕ) (b : Bool) (n : ℕ) → Ok n ≡ header_for (only b s) input → b ≡ true
unfolding header_for only
some_rows s input true n e = refl
some_rows s input false n e = let z : ◌≡◌ {A = ℕ} 0 1 = cc in absurd (omega arith)

some_count : (s : Setting) (input : List ℕ) (b : Bool) → Err Count ≡ header_for (only b s) input → b ≡ true
unfolding header_for only
some_count s input true e = refl
some_count s input false e = let z : ◌≡◌ {A = ℕ} 0 1 = cc in absurd (omega arith)

not_wrong : {X : Type 0} (b : Bool) (n : ℕ) → Err Wrong ≡ (when b then Err Count else Ok n) → X
unfolding when◌then◌else◌
not_wrong true n e = let z : ◌≡◌ {A = ℕ} 0 1 = cc in absurd (omega arith)
not_wrong false n e = let z : ◌≡◌ {A = ℕ} 0 1 = cc in absurd (omega arith)

no_header : (s : Setting) (input : List ℕ) (b : Bool) → Err Wrong ≡ header_for (only b s) input → b ≡ false
unfolding header_for header_in only
no_header s input true e =
    not_wrong (not (between 1 s.version.rows (row_count s.version input)) || not (eqb (length input) (s.version.header + 16 * row_count s.version input))) (row_count s.version input) e
no_header s input false e = refl

-- the setting at place i is the next one
next_of : (i : ℕ) → i < 3 → drop i all ≡ setting i ∷ drop (i + 1) all
next_of zero h = refl
next_of (suc zero) h = refl
next_of (suc (suc zero)) h = refl
next_of (suc (suc (suc i))) h = absurd (omega arith)

module _ (input : List ℕ) (i : ℕ) (T : Setting) (inv : asked_in (drop i all) input ≡ T) where
  module _ (h : i < 3) (l : Limits) (limits : l ≡ limits_of (setting i)) (said : Result ℕ BadHeader) (got : said ≡ header_to l input) where
    of_setting : said ≡ header_for (only (has_header (setting i) input) (setting i)) input
    unfolding header_to
    of_setting = rw (limits, stand_for i) at got

    turn : (when has_header (setting i) input then setting i else asked_in (drop (i + 1) all) input) ≡ T
    unfolding asked_in
    turn = sym (ap (λ (ss : List Setting). asked_in ss input) (next_of i h)) ∙ inv

    hit : has_header (setting i) input ≡ true → setting i ≡ T
    unfolding when◌then◌else◌
    hit e = rw e at turn

    pub asked_rows : (n : ℕ) → said ≡ Ok n → setting i ≡ T
    asked_rows n e = hit (some_rows (setting i) input (has_header (setting i) input) n (sym e ∙ of_setting))

    pub asked_count : said ≡ Err Count → setting i ≡ T
    asked_count e = hit (some_count (setting i) input (has_header (setting i) input) (sym e ∙ of_setting))

    pub asked_on : said ≡ Err Wrong → asked_in (drop (i + 1) all) input ≡ T
    unfolding when◌then◌else◌
    asked_on e = rw (no_header (setting i) input (has_header (setting i) input) (sym e ∙ of_setting)) at turn

  pub asked_end : 3 ≤ i → i ≤ 3 → setting 0 ≡ T
  unfolding asked_in
  asked_end h g = let e : i ≡ 3 = omega arith in sym (ap (λ (n : ℕ). asked_in (drop n all) input) e) ∙ inv

pub asked_first : (input : List ℕ) → asked_in (drop 0 all) input ≡ asked input
unfolding asked
asked_first input = refl

pub ruleset ways = (asked_first, asked_rows, asked_count, asked_on, asked_end, rules)

-- ---- the rules under the setting that is asked for

-- a header that asks for none of them does not ask for the first either
asked_same : (ss : List Setting) (input : List ℕ) → (setting_of ss input ≡ none → has_header first input ≡ false) → setting_of ss input ≡ setting_of (asked_in ss input ∷ []) input
unfolding setting_of asked_in
asked_same [] input f = rw (f refl) (unfold only ◌or_else◌ in refl)
asked_same (s ∷ ss) input f = go (has_header s input) refl (λ g. asked_same ss input g)
  where
    go : (b : Bool) → has_header s input ≡ b → ((setting_of ss input ≡ none → has_header first input ≡ false) → setting_of ss input ≡ (only (has_header (asked_in ss input) input) (asked_in ss input) or_else none))
        → (only b s or_else setting_of ss input) ≡ (only (has_header (when b then s else asked_in ss input) input) (when b then s else asked_in ss input) or_else none)
    go true e later = unfold when◌then◌else◌ only ◌or_else◌ in rw e
    go false e later = unfold when◌then◌else◌ only ◌or_else◌ in later (λ n. f (rw e (unfold only ◌or_else◌ in n)))

first_unasked : (b : Bool) (others : Option Setting) → (only b first or_else others) ≡ none → b ≡ false
unfolding only ◌or_else◌
first_unasked true others e = let z : ◌≡◌ {A = ℕ} 0 1 = cc in absurd (omega arith)
first_unasked false others e = refl

module _ (input : List ℕ) where
  pub setting_asked : setting_of all input ≡ setting_of (asked input ∷ []) input
  unfolding asked setting_of
  setting_asked = asked_same all input (λ e. first_unasked (has_header first input) _ e)

  pub answer_asked : (room : ℕ) → answer all input room ≡ answer (asked input ∷ []) input room
  unfolding answer answer_inside
  answer_asked room = rw setting_asked

  pub output_asked : (old : List ℕ) → output all input old ≡ output (asked input ∷ []) input old
  unfolding output output_inside
  output_asked old = rw setting_asked
