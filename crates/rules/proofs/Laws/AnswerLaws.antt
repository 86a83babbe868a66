-- Refusals 4 and 5, and what is resolved, for every setting and whatever lies around: said of the rows behind the header and of trees, not of the way in which rows are read.
use Rattle.std.proofs.Math.Path.{◌≡◌, subst}
use Rattle.std.specs.Prelude.{refl, true, false, ◌↔◌, ℕ, ◌+◌, ◌*◌, ◌≤◌, eqb, ltb, length}
use Rattle.std.proofs.Common.{ap, sym, ◌∙◌, arith}
use mathlib.Core.List.{List, []}
use Rattle.rules.specs.Tools.{when◌then◌else◌, between}
use Rattle.rules.specs.Versions.{RuleSet, Setting}
use Rattle.rules.specs.Tree.{Scope, flatten, RowsRead, bad, deep, form}
use Rattle.rules.specs.Good.{height}
use Rattle.rules.specs.Reader.{read}
use Rattle.rules.specs.Rules.{number_of, Result, ok, Env, resolve_inside}
use Rattle.rules.specs.Answer.{refused, map_answer, row_count, rows_in, resolved, scopes_left, after_reading, form_in, answer_in}
use Rattle.rules.specs.Begins.{IsForm, Bad, Deep, Right}
use Rattle.rules.proofs.Laws.Refusals.{OfSteps, steps_refuse}
use Rattle.rules.proofs.Laws.Read.ReadRight.{read_right}

-- the steps do not refuse with a number up to 5
steps_above : {X : Type 0} (rules : RuleSet) (around : List Env) (t : Scope) (n p : ℕ) → n ≤ 5 → (c : List ℕ) → map_answer flatten (resolved (resolve_inside rules around t)) ≡ refused n p c → X
unfolding resolved map_answer
steps_above rules around t n p low c e = go (resolve_inside rules around t) (steps_refuse rules around t) e
  where
    go : {X : Type 0} (m : Result (Scope × ℕ)) → OfSteps m → map_answer flatten (resolved m) ≡ refused n p c → X
    go (Result.refused why z) b q = let same : number_of why ≡ n = cc in absurd (omega arith)
    go (ok r) b q = let z : ◌≡◌ {A = ℕ} 0 1 = cc in absurd (omega arith)

module _ (around : List Env) (s : Setting) (input : List ℕ) (room : ℕ) where
  -- the header is this setting's; refusals 2 and 3 do not strike
  pub record Sized : Type 0 where
    pub counted : between 1 s.version.rows (row_count s.version input) ≡ true
    pub long : eqb (length input) (s.version.header + 16 * row_count s.version input) ≡ true
    pub roomy : ltb room (s.version.header + 64 * row_count s.version input) ≡ false

  answer_is : Sized → answer_in around s input room ≡ map_answer flatten (after_reading around s.rules (read s.rules (scopes_left s.version.scopes around) (rows_in s input)))
  unfolding answer_in form_in when◌then◌else◌
  answer_is z = rw (z.counted, z.long, z.roomy)

  -- whatever is right for the rows gives the answer
  answer_of_lem : Sized → (r : RowsRead) → Right s.rules (scopes_left s.version.scopes around) (rows_in s input) r → answer_in around s input room ≡ map_answer flatten (after_reading around s.rules r)
  answer_of_lem z r h = answer_is z ∙ ap (λ (x : RowsRead). map_answer flatten (after_reading around s.rules x)) ((read_right s.rules (scopes_left s.version.scopes around) (rows_in s input) r).1 h)

  -- Refusal 4 at the first row which with those before it begins no form, and only there.
  pub answer_4 : Sized → (p : ℕ) → (answer_in around s input room ≡ refused 4 p []) ↔ Bad s.rules (scopes_left s.version.scopes around) (rows_in s input) p
  unfolding after_reading map_answer
  answer_4 z p = (
    λ e. go (read s.rules (scopes_left s.version.scopes around) (rows_in s input)) ((read_right s.rules (scopes_left s.version.scopes around) (rows_in s input) _).0 refl) (sym (answer_is z) ∙ e),
    λ h. answer_of_lem z (bad p) h,
  )
    where
      go : (r : RowsRead) → Right s.rules (scopes_left s.version.scopes around) (rows_in s input) r → map_answer flatten (after_reading around s.rules r) ≡ refused 4 p []
          → Bad s.rules (scopes_left s.version.scopes around) (rows_in s input) p
      go (bad q) h e = let same : q ≡ p = cc in subst (Bad s.rules (scopes_left s.version.scopes around) (rows_in s input)) same h
      go (deep q) h e = let no : ◌≡◌ {A = ℕ} 5 4 = cc in absurd (omega arith)
      go (form t) h e = steps_above s.rules around t 4 p (omega arith) [] e

  -- Refusal 5 at the OPEN while all scopes are open, if no row up to it breaks the form, and only there.
  pub answer_5 : Sized → (p : ℕ) → (answer_in around s input room ≡ refused 5 p []) ↔ Deep s.rules (scopes_left s.version.scopes around) (rows_in s input) p
  unfolding after_reading map_answer
  answer_5 z p = (
    λ e. go (read s.rules (scopes_left s.version.scopes around) (rows_in s input)) ((read_right s.rules (scopes_left s.version.scopes around) (rows_in s input) _).0 refl) (sym (answer_is z) ∙ e),
    λ h. answer_of_lem z (deep p) h,
  )
    where
      go : (r : RowsRead) → Right s.rules (scopes_left s.version.scopes around) (rows_in s input) r → map_answer flatten (after_reading around s.rules r) ≡ refused 5 p []
          → Deep s.rules (scopes_left s.version.scopes around) (rows_in s input) p
      go (bad q) h e = let no : ◌≡◌ {A = ℕ} 4 5 = cc in absurd (omega arith)
      go (deep q) h e = let same : q ≡ p = cc in subst (Deep s.rules (scopes_left s.version.scopes around) (rows_in s input)) same h
      go (form t) h e = steps_above s.rules around t 5 p (omega arith) [] e

  -- A form within the limit is answered by the steps.
  pub answer_resolved : Sized → (t : Scope) → IsForm s.rules (rows_in s input) t → height t ≤ scopes_left s.version.scopes around
      → answer_in around s input room ≡ map_answer flatten (resolved (resolve_inside s.rules around t))
  unfolding after_reading
  answer_resolved z t f low = answer_of_lem z (form t) (f, low)
