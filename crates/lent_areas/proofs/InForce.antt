-- The setting that a header asks for is the one by which the areas go.
use mathlib.Core.Path.{◌≡◌, refl, ap, sym, ◌∙◌}
use mathlib.Core.Bool.{Bool, true, false}
use mathlib.Core.Option.{Option, none, some}
use mathlib.Core.List.{List, [], ◌∷◌}
use native.Mathlib.Omega.{arith}
use Prim.Native.Nat.{ℕ, zero, suc, ◌≤◌}
use Rattle.rules.specs.Tools.{when◌then◌else◌, only, ◌or_else◌}
use Rattle.rules.specs.Versions.{Setting, all}
use Rattle.rules.specs.Answer.{has_header, setting_of}
use Rattle.rules.specs.Laws.Results.{some_same, no_option}
use Rattle.limits.specs.Held.{limits_of, setting}
use Rattle.limits.proofs.Laws.{stand_for}
use Rattle.form.specs.Header.{header_for, header_to}
use Rattle.resolver_with.specs.Asked.{first, asked_in, asked}
use Rattle.resolver_with.proofs.Asked.{setting_asked}

first_in_lem : (ss : List Setting) (input : List ℕ) → (setting_of ss input or_else some first) ≡ some (asked_in ss input)
unfolding setting_of asked_in only ◌or_else◌ when◌then◌else◌
first_in_lem [] input = refl
first_in_lem (s ∷ ss) input = go (has_header s input) (first_in_lem ss input)
  where
    go : (b : Bool) → (setting_of ss input or_else some first) ≡ some (asked_in ss input) → ((only b s or_else setting_of ss input) or_else some first) ≡ some (when b then s else asked_in ss input)
    go true later = refl
    go false later = later

-- it is the first one where a header asks for none
pub first_asked : (input : List ℕ) → (setting_of all input or_else some first) ≡ some (asked input)
unfolding asked
first_asked input = first_in_lem all input

only_asked : (input : List ℕ) → setting_of all input ≡ (only (has_header (asked input) input) (asked input) or_else none)
only_asked input = setting_asked input ∙ unfold setting_of in refl

pub asked_is : (input : List ℕ) (v : Setting) → setting_of all input ≡ some v → asked input ≡ v
unfolding only ◌or_else◌
asked_is input v e = go (has_header (asked input) input) (sym (only_asked input) ∙ e)
  where
    go : (b : Bool) → (only b (asked input) or_else none) ≡ some v → asked input ≡ v
    go true e = some_same _ v e
    go false e = no_option v e

-- what the header says under the setting that it asks for is what it says under all in force
pub header_asked : (i : ℕ) (input : List ℕ) → setting i ≡ asked input → header_to (limits_of (setting i)) input ≡ header_for (setting_of all input) input
unfolding header_to only ◌or_else◌
header_asked i input e =
    ap (λ (s : Setting). header_for (only (has_header s input) s) input) (stand_for i ∙ e) ∙ (go (has_header (asked input) input) ∙ ap (λ (o : Option Setting). header_for o input) (sym (only_asked input)))
  where
    go : (b : Bool) → header_for (only b (asked input)) input ≡ header_for (only b (asked input) or_else none) input
    go true = refl
    go false = refl

-- each has a header of eight bytes or more
pub header_long : (i : ℕ) → 8 ≤ (setting i).version.header
header_long zero = omega arith
header_long (suc zero) = omega arith
header_long (suc (suc zero)) = omega arith
header_long (suc (suc (suc i))) = omega arith
