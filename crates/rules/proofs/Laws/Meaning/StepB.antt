-- What step B makes of a walked name.
use Rattle.std.specs.Prelude.{◌≡◌, Bool, true, false, ◌||◌, not}
use Rattle.std.proofs.Math.Path.{refl}
use Rattle.std.proofs.Common.{ap, ◌∙◌, subst, arith}
use Rattle.std.proofs.Math.Option.{Option, none, some}
use mathlib.Core.List.{List, [], ◌∷◌, ◌++◌}
use Prim.Native.Nat.{ℕ, zero, suc, ◌≤◌}
use Rattle.std.proofs.Math.ListN.{get_elem?}
use Rattle.rules.specs.Tools.{when◌then◌else◌, only, is_just}
use Rattle.rules.specs.Rows.{Num, Id}
use Rattle.rules.specs.Tree.{Declaration, Operand, ref, outer, case, Head, with_operands}
use Rattle.rules.specs.Shapes.{here_only}
use Rattle.rules.specs.Rules
use Rattle.rules.specs.Rules.{ok, Outside, find, fresh, walk, Expanded, expand_operand, expand_operands, expand_head}
use Rattle.rules.specs.Readings
use Rattle.rules.specs.Readings.{inserted, first_named}
use Rattle.rules.specs.Laws.ToolLaws.{eqb_same}
use Rattle.rules.specs.Laws.Meaning.Names.{LowOperand, LowOperands}
use Rattle.rules.proofs.Laws.Meaning.Runs
use Rattle.rules.proofs.Laws.Meaning.Runs.{AllNew}
use Rattle.rules.proofs.Laws.Meaning.Lookups
use Rattle.rules.proofs.Laws.Meaning.Lookups.{in_heads, first_past, first_within}
use Rattle.rules.specs.Laws.Results.{if_both, bind_any, OkR, bind_ok, some_same, no_option}

-- ---- the operand of a walked name

pub walked_ref : (h : Head) (o : Operand) (w : ℕ × ℕ) → Readings.walked h o ≡ some w
    → (z : ℕ) × (o ≡ ref w.0 (Id w.1) [] z) × (here_only h.code ≡ false)
unfolding Readings.walked only
walked_ref h (ref space (Num n) paths z) w e = no_option w e
walked_ref h (ref space (Id name) [] z) w e = go (here_only h.code) refl e
  where
    go : (b : Bool) → here_only h.code ≡ b → only (not b) (space, name) ≡ some w
        → (z' : ℕ) × (ref space (Id name) [] z ≡ ref w.0 (Id w.1) [] z') × (here_only h.code ≡ false)
    go true p q = no_option w q
    go false p q = (z, ap (λ (v : ℕ × ℕ). ref v.0 (Id v.1) [] z) (some_same (space, name) w q), p)
walked_ref h (ref space (Id name) (p ∷ ps) z) w e = no_option w e
walked_ref h (outer space up at z) w e = no_option w e
walked_ref h (case name z) w e = no_option w e

pub low_operand : (os : List Operand) (n : ℕ) (o : Operand) → LowOperands os → get_elem? os n ≡ some o → LowOperand o
low_operand [] n o l e = no_option o e
low_operand (x ∷ os) zero o l e = subst LowOperand (some_same x o e) l.0
low_operand (x ∷ os) (suc n) o l e = low_operand os n o l.1 e

-- ---- what step B made of a walked name

-- it is left as it is (found here or nowhere), or it names an alias of its own
pub data Made (ds : List Declaration) (outside : Outside) (space name z b : ℕ) (now : Operand) (new : List Head) : Type 0 where
  left : now ≡ ref space (Id name) [] z → (is_just (find ds space name) || is_just (walk outside.scopes 1 space name)) ≡ is_just (find ds space name) → Made ds outside space name z b now new
  aliased : (j : ℕ) (at : ℕ × ℕ) → find ds space name ≡ none → walk outside.scopes 1 space name ≡ some at → b ≤ j → now ≡ ref space (Id (fresh j)) [] z
      → first_named (in_heads new) space (fresh j) ≡ some (inserted (Rules.outer_alias space (fresh j) at.0 at.1 z))
      → Made ds outside space name z b now new

alias_first : (space k d n z : ℕ) → first_named (in_heads (Rules.outer_alias space (fresh k) d n z ∷ [])) space (fresh k) ≡ some (inserted (Rules.outer_alias space (fresh k) d n z))
unfolding Lookups.has Rules.outer_alias when◌then◌else◌
alias_first space k d n z = rw (Lookups.first_of_heads (Rules.outer_alias space (fresh k) d n z) [] space (fresh k), eqb_same space, eqb_same (fresh k))

module _ (ds : List Declaration) (outside : Outside) (space name z : ℕ) where
  found_made : (k : ℕ) (o : Option (ℕ × ℕ)) → find ds space name ≡ none → walk outside.scopes 1 space name ≡ o
      → OkR (λ e. Made ds outside space name z k e.now e.inserted) (Rules.found_at space name z k o)
  unfolding Rules.found_at Rules.as_it_is Rules.through
  found_made k none f w = left refl (rw (f, w))
  found_made k (some at) f w = if_both (OkR (λ (e : Expanded Operand). Made ds outside space name z k e.now e.inserted)) _ _ _ (aliased k at f w (omega arith) refl (alias_first space k at.0 at.1 z)) tt

  operand_made : (k : ℕ) → OkR (λ e. Made ds outside space name z k e.now e.inserted) (expand_operand ds outside k (ref space (Id name) [] z))
  unfolding expand_operand Rules.as_it_is when◌then◌else◌
  operand_made k = bind_any _ _ _ (λ u. go (find ds space name) refl)
    where
      go : (o : Option ℕ) → find ds space name ≡ o
          → OkR (λ e. Made ds outside space name z k e.now e.inserted) (when is_just o then ok (Rules.as_it_is (ref space (Id name) [] z) k) else Rules.found_at space name z k (walk outside.scopes 1 space name))
      go none e = found_made k (walk outside.scopes 1 space name) e refl
      go (some n) e = left refl (rw e)

  made_before : (b : ℕ) (now : Operand) (xs ys : List Head) → Made ds outside space name z b now xs → Made ds outside space name z b now (xs ++ ys)
  made_before b now xs ys (left e p) = left e p
  made_before b now xs ys (aliased j at f w l e a) = aliased j at f w l e (rw (Lookups.heads_append xs ys) (first_within (in_heads xs) (in_heads ys) space (fresh j) _ a))

  made_after : (b b' : ℕ) (now : Operand) (xs ys : List Head) → b ≤ b' → AllNew b b' xs → Made ds outside space name z b' now ys → Made ds outside space name z b now (xs ++ ys)
  unfolding fresh
  made_after b b' now xs ys g n (left e p) = left e p
  made_after b b' now xs ys g n (aliased j at f w l e a) =
      aliased j at f w (omega arith) e
      (rw (Lookups.heads_append xs ys)
      (first_past (in_heads xs) (in_heads ys) space (fresh j) (Lookups.first_in_heads b b' xs space (fresh j) n (λ t p q. omega arith)) ∙ a))

  abbrev MadeAt : (b o : ℕ) → Expanded (List Operand) → Type 0
  MadeAt b o E = (now : Operand) × (get_elem? E.now o ≡ some now) × Made ds outside space name z b now E.inserted

  operands_made : (k : ℕ) (os : List Operand) (o : ℕ) → get_elem? os o ≡ some (ref space (Id name) [] z) → OkR (MadeAt k o) (expand_operands ds outside k os)
  unfolding expand_operands
  operands_made k [] o e = no_option _ e
  operands_made k (x ∷ os) zero e =
      rw (some_same x _ e)
      (bind_ok _ _ _ _ (operand_made k) (λ e m. bind_any _ _ _ (λ es. (e.now, refl, made_before k e.now e.inserted es.inserted m))))
  operands_made k (x ∷ os) (suc o) e =
      bind_ok _ _ _ _ (Runs.operand_grown ds outside k x) (λ x' g. bind_ok _ _ _ _ (operands_made x'.k os o e) (λ es m. (m.0, m.1, made_after k x'.k m.0 x'.inserted es.inserted g.0 g.1 m.2)))

pub head_made : (ds : List Declaration) (outside : Outside) (space name z k : ℕ) (h : Head) (o : ℕ)
    → here_only h.code ≡ false → get_elem? h.operands o ≡ some (ref space (Id name) [] z)
    → OkR (λ e. (now : Operand) × (get_elem? e.now.operands o ≡ some now) × Made ds outside space name z k now e.inserted) (expand_head ds outside k h)
unfolding expand_head with_operands when◌then◌else◌
head_made ds outside space name z k h o c e = rw c (bind_ok _ _ _ _ (operands_made ds outside space name z k h.operands o e) (λ es m. m))
