-- What step C makes of a reference and of an inserted alias.
use Rattle.std.specs.Prelude.{◌≡◌, Bool}
use Rattle.std.proofs.Math.Path.{refl}
use Rattle.std.proofs.Common.{ap, sym, ◌∙◌}
use Rattle.std.proofs.Math.Bool.{true, false}
use Rattle.std.proofs.Math.Option.{Option, none, some}
use mathlib.Core.List.{List, [], ◌∷◌}
use Prim.Native.Nat.{ℕ, zero, suc}
use Rattle.std.proofs.Math.ListN.{get_elem?}
use Rattle.rules.specs.Tools.{when◌then◌else◌, ◌then◌}
use Rattle.rules.specs.Rows.{Index, Num, Id}
use Rattle.rules.specs.Tree.{Declaration, Operand, ref, outer, case, Head, with_operands}
use Rattle.rules.specs.Rules
use Rattle.rules.specs.Rules.{decls_in, Entry, ok, ◌>>=◌, Env, Outside, find, resolve_operands, resolve_head, resolve_inserted}
use Rattle.rules.specs.Readings.{Spot, inserted, first_named}
use Rattle.rules.proofs.Laws.Meaning.Runs
use Rattle.rules.proofs.Laws.Meaning.Lookups
use Rattle.rules.proofs.Laws.Meaning.Lookups.{in_heads}
use Rattle.rules.specs.Laws.Entries.{number_is}
use Rattle.rules.specs.Laws.Results.{if_both, bind_eq, bind_any, OkR, holds_of, bind_ok, no_result, some_same, ok_same, no_option}

pub named_number : (es : List Entry) (space x z n : ℕ) → Rules.number_in es space (Id x) z ≡ ok n → find (decls_in es) space x ≡ some n
unfolding Rules.or_refused
named_number es space x z n e = go (find (decls_in es) space x) (sym (number_is es space x z) ∙ e)
  where
    go : (o : Option ℕ) → Rules.or_refused o (Rules.unknown space) z ≡ ok n → o ≡ some n
    go none e = no_result (Rules.unknown space) z n e
    go (some m) e = ap {B = Option ℕ} some (ok_same m n e)

module _ (here : Env) (outside : Outside) (space : ℕ) (at : Index) (paths : List ℕ) (z : ℕ) where
  abbrev pub Numbered : ℕ → List Operand → Type 0
  Numbered o os = (n : ℕ) × (Rules.number_in here.entries space at z ≡ ok n) × (get_elem? os o ≡ some (ref space (Num n) paths z))

  operands_numbered : (fz : ℕ) (seen : List ℕ) (os : List Operand) (o : ℕ) → get_elem? os o ≡ some (ref space at paths z) → OkR (Numbered o) (resolve_operands here outside fz seen os)
  unfolding resolve_operands
  operands_numbered fz seen [] o e = no_option _ e
  operands_numbered fz seen (x ∷ os) zero e = rw (some_same x _ e) (bind_eq _ _ _ (λ n p. bind_any _ _ _ (λ os'. (n, p, refl))))
  operands_numbered fz seen (ref space₁ at₁ paths₁ z₁ ∷ os) (suc o) e = bind_any _ _ _ (λ n. bind_ok _ _ _ _ (operands_numbered fz seen os o e) (λ os' m. m))
  operands_numbered fz seen (outer space₁ up at₁ z₁ ∷ os) (suc o) e = bind_any _ _ _ (λ x. bind_ok _ _ _ _ (operands_numbered fz seen os o e) (λ os' m. m))
  operands_numbered fz seen (case name z₁ ∷ os) (suc o) e = if_both (OkR (Numbered (suc o))) _ _ _ tt (bind_ok _ _ _ _ (operands_numbered fz (name ∷ seen) os o e) (λ os' m. m))

  pub head_numbered : (h : Head) (o : ℕ) → get_elem? h.operands o ≡ some (ref space at paths z) → OkR (λ h'. Numbered o h'.operands) (resolve_head here outside h)
  unfolding resolve_head with_operands
  head_numbered h o e = bind_ok _ _ _ _ (operands_numbered h.z [] h.operands o e) (λ os m. m)

-- an outer alias has only numbers
pub alias_resolved : (here : Env) (outside : Outside) (space new d n z : ℕ) → resolve_head here outside (Rules.outer_alias space new d n z) ≡ ok (Rules.outer_alias space new d n z)
unfolding resolve_head resolve_operands Rules.outer_alias Rules.resolve_outer with_operands ◌>>=◌
alias_resolved here outside space new d n z = refl

-- an inserted field that is the first of its name is so after step C
module _ (here : Env) (outside : Outside) (space name : ℕ) (h h' : Head) (stays : resolve_head here outside h ≡ ok h') where
  abbrev pub First : List Head → Type 0
  First hs = first_named (in_heads hs) space name ≡ some (inserted h')

  has_same : (x x' : Head) → resolve_head here outside x ≡ ok x' → Lookups.has x'.decls space name ≡ Lookups.has x.decls space name
  has_same x x' p = ap (λ (ds : List Declaration). Lookups.has ds space name) (holds_of (Runs.SameDecls x) _ x' (Runs.head_same here outside x) p).0

  inserted_step : (x : Head) (hs : List Head) (b : Bool) → Lookups.has x.decls space name ≡ b → (when b then some (inserted x) else first_named (in_heads hs) space name) ≡ some (inserted h)
      → (first_named (in_heads hs) space name ≡ some (inserted h) → OkR First (resolve_inserted here outside hs))
      → OkR First (resolve_inserted here outside (x ∷ hs))
  unfolding resolve_inserted when◌then◌else◌
  inserted_step x hs true d f below =
      bind_any First _ _ (λ u. bind_eq First _ _ (λ x' p. bind_any First (resolve_inserted here outside hs) (λ hs'. ok (x' ∷ hs')) (λ hs'.
      let same : x ≡ h = cc in
      let same' : x' ≡ h' = ok_same x' h' (sym p ∙ (ap (resolve_head here outside) same ∙ stays)) in
      rw (Lookups.first_of_heads x' hs' space name, has_same x x' p ∙ d) (ap {B = Option Spot} (λ (y : Head). some (inserted y)) same'))))
  inserted_step x hs false d f below =
      bind_any First _ _ (λ u. bind_eq First _ _ (λ x' p. bind_ok First First (resolve_inserted here outside hs) (λ hs'. ok (x' ∷ hs')) (below f) (λ hs' m.
      rw (Lookups.first_of_heads x' hs' space name, has_same x x' p ∙ d) m)))

  pub inserted_first : (hs : List Head) → first_named (in_heads hs) space name ≡ some (inserted h) → OkR First (resolve_inserted here outside hs)
  unfolding in_heads first_named
  inserted_first [] f = no_option _ f
  inserted_first (x ∷ hs) f =
      inserted_step x hs (Lookups.has x.decls space name) refl (sym (Lookups.first_of_heads x hs space name) ∙ f) (λ g. inserted_first hs g)
