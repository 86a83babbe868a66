-- What is found under the setting that a header asks for is what all in force give.
use mathlib.Core.Path.{◌≡◌, refl, sym, ap, ◌∙◌}
use mathlib.Core.Option.{Option, none, some}
use mathlib.Core.List.{List, [], ◌∷◌}
use Prim.Native.Nat.{ℕ}
use lib.ListN.{length}
use Rattle.rules.specs.Tools.{only, ◌then◌}
use Rattle.rules.specs.Versions.{Setting, all}
use Rattle.rules.specs.Rows.{Row}
use Rattle.rules.specs.Tree.{Scope, flatten}
use Rattle.rules.specs.Answer.{setting_of, form_bytes}
use Rattle.unresolving.specs.Back.{unresolve}
use Rattle.unresolving.specs.BackAnswer.{outcome, read_claim, is_outcome, back, back_answer, back_output}
use Rattle.unresolving.proofs.Laws.Answered.{all_settled}
use Rattle.resolver_with.specs.Asked.{asked}
use Rattle.resolver_with.proofs.Asked.{setting_asked}
use Rattle.lent_areas.proofs.InForce.{asked_is}

module _ (claim : List ℕ) where
  alone_asks : (v : Setting) → setting_of all claim ≡ some v → (rs : List Row) → setting_of (asked claim ∷ []) (form_bytes v rs) ≡ setting_of all (form_bytes v rs)
  alone_asks v e rs =
      let y = form_bytes v rs in
      let same : asked claim ≡ asked y = asked_is claim v e ∙ sym (asked_is y v (all_settled.asks claim v e rs)) in
      ap (λ (s : Setting). setting_of (s ∷ []) y) same ∙ sym (setting_asked y)

  same_outcome : (v : Setting) → setting_of all claim ≡ some v → (rs : List Row) → outcome all (form_bytes v rs) ≡ outcome (asked claim ∷ []) (form_bytes v rs)
  unfolding outcome
  same_outcome v e rs = rw (alone_asks v e rs)

  abbrev given : List Setting → Setting → Scope → Option (List ℕ)
  given settings v t = only (is_outcome (outcome settings (form_bytes v (flatten (unresolve t)))) claim) (form_bytes v (flatten (unresolve t)))

  of_tree : (v : Setting) → setting_of all claim ≡ some v → (m : Option Scope) → (m then given all v) ≡ (m then given (asked claim ∷ []) v)
  unfolding ◌then◌
  of_tree v e none = refl
  of_tree v e (some t) = ap (λ (o : Option (List ℕ)). only (is_outcome o claim) (form_bytes v (flatten (unresolve t)))) (same_outcome v e (flatten (unresolve t)))

  pub back_asked : back all claim ≡ back (asked claim ∷ []) claim
  unfolding back ◌then◌
  back_asked = go (setting_of all claim) refl
    where
      go : (o : Option Setting) → setting_of all claim ≡ o → (setting_of all claim then λ s. read_claim s claim then given all s) ≡ (setting_of (asked claim ∷ []) claim then λ s. read_claim s claim then given (asked claim ∷ []) s)
      go none e = rw (← setting_asked claim, e)
      go (some v) e = rw (← setting_asked claim, e) (of_tree v e (read_claim v claim))

  pub answer_asked : (room : ℕ) → back_answer all claim room ≡ back_answer (asked claim ∷ []) claim room
  unfolding back_answer
  answer_asked room = rw back_asked
