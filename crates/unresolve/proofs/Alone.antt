-- A setting by itself: what is written for it asks for it, and its forms are no larger than the code takes.
use mathlib.Core.Path.{◌≡◌, refl, subst}
use mathlib.Core.Bool.{Bool, true, false}
use mathlib.Core.Option.{Option, none, some}
use mathlib.Core.List.{List, [], ◌∷◌, ◌++◌}
use native.Mathlib.Omega.{arith}
use Prim.Native.Nat.{ℕ, zero, suc, ◌≤◌, ◌<◌}
use lib.ListN.{replicate}
use Rattle.rules.specs.Tools.{only, ◌or_else◌}
use Rattle.rules.specs.Versions.{Setting, top_name, all}
use Rattle.rules.specs.Rows.{Row, bytes}
use Rattle.rules.specs.Answer
use Rattle.rules.specs.Answer.{same_numbers, has_header, setting_of, form_bytes}
use Rattle.rules.specs.Laws.Results.{some_same, no_option}
use Rattle.rules.proofs.Laws.InputLaws.{Usual, all_usual}
use Rattle.unresolving.proofs.Laws.Answered.{Settled, base_settled, all_settled}
use Rattle.limits.specs.Held.{setting}
use Rattle.unresolve.proofs.Resolves.{alone_one}

pub record Fit (one : Setting) : Type 0 where
  pub settled : Settled (one ∷ [])
  pub few : one.version.rows ≤ 16383
  pub deep : one.version.scopes ≤ 64
  pub short : one.version.header ≤ 16

-- a setting that is asked for has its header
asked_has : (settings : List Setting) (x : List ℕ) (v : Setting) → setting_of settings x ≡ some v → has_header v x ≡ true
unfolding setting_of only ◌or_else◌
asked_has [] x v e = no_option v e
asked_has (s ∷ ss) x v e = go (has_header s x) refl e (λ q. asked_has ss x v q)
  where
    go : (b : Bool) → has_header s x ≡ b → (only b s or_else setting_of ss x) ≡ some v → (setting_of ss x ≡ some v → has_header v x ≡ true) → has_header v x ≡ true
    go true h q later = subst (λ (y : Setting). has_header y x ≡ true) (some_same s v q) h
    go false h q later = later q

alone_settled : (one : Setting) → Usual one → one.version.names ≡ top_name → ((rs : List Row) → has_header one (form_bytes one rs) ≡ true) → Settled (one ∷ [])
unfolding setting_of only ◌or_else◌
alone_settled one U names has =
    record {
      usual = (U, tt);
      names = λ x v e. subst (λ (s : Setting). s.version.names ≡ top_name) (alone_one one x v e) names;
      asks = λ x v e rs. subst (λ (s : Setting). setting_of (one ∷ []) (form_bytes s rs) ≡ some s) (alone_one one x v e) (rw (has rs));
    }

-- a header of version 2 with a rule set
abbrev larger : ℕ → List ℕ
larger rules = 87 ∷ 78 ∷ 84 ∷ 2 ∷ 0 ∷ rules ∷ replicate 10 0

-- what is written for a setting that some header asks for has its header
has_own : (i : ℕ) (x : List ℕ) → setting_of all x ≡ some (setting i) → (rs : List Row) → has_header (setting i) (form_bytes (setting i) rs) ≡ true
has_own i x e rs = asked_has all (form_bytes (setting i) rs) (setting i) (all_settled.asks x (setting i) e rs)

larger_asks : (setting_of all (larger 0) ≡ some (setting 1)) × (setting_of all (larger 1) ≡ some (setting 2))
unfolding has_header Answer.mark bytes same_numbers setting_of only ◌or_else◌
larger_asks = (refl, refl)

fit_first : Fit (setting 0)
fit_first = record { settled = base_settled; few = omega arith; deep = omega arith; short = omega arith }

pub fit_in : (i : ℕ) → Fit (setting i)
fit_in zero = fit_first
fit_in (suc zero) = record { settled = alone_settled (setting 1) all_usual.1.0 refl (has_own 1 (larger 0) larger_asks.0); few = omega arith; deep = omega arith; short = omega arith }
fit_in (suc (suc zero)) =
    record { settled = alone_settled (setting 2) all_usual.1.1.0 refl (has_own 2 (larger 1) larger_asks.1); few = omega arith; deep = omega arith; short = omega arith }
fit_in (suc (suc (suc i))) = fit_first
