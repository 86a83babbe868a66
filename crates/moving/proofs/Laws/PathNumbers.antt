-- With PATHs the number that is counted is that of the first inserted alias's instance, in the instance's space.
use Rattle.std.proofs.Math.Path.{◌≡◌, refl, ap}
use Rattle.std.proofs.Common.{sym, ◌∙◌, arith}
use Rattle.std.specs.Prelude.{Bool}
use Rattle.std.proofs.Math.Bool.{true, false}
use Rattle.std.proofs.Math.Option.{Option, some}
use mathlib.Core.List.{List, [], ◌∷◌, ◌++◌}
use Prim.Native.Nat.{ℕ, zero, suc, ◌+◌, ◌≤◌}
use Rattle.std.proofs.Math.Dec.{leb}
use Rattle.std.proofs.Math.ListN.{get_elem?, length}
use Rattle.rules.specs.Tools.{when◌then◌else◌, ◌then◌}
use Rattle.rules.specs.Versions.{RuleSet}
use Rattle.rules.specs.Rows.{Num}
use Rattle.rules.specs.Tree.{Declaration, Operand, ref, Head, Scope, scope, head_of, with_operands}
use Rattle.rules.specs.Shapes.{here_only}
use Rattle.rules.specs.Rules
use Rattle.rules.specs.Rules.{ok, ◌>>=◌, Env, Outside, at_root, fresh, declarations, export_alias, path_aliases, expand_operand, expand_operands, expand_head, resolve_operands, resolve_head, resolve}
use Rattle.rules.specs.Readings
use Rattle.rules.specs.Readings.{Place, Level, level, Use, use_at, inserted, standings, first_named}
use Rattle.moving.specs.Moved.{instance_space}
use Rattle.rules.specs.Laws.ToolLaws.{eqb_same, then_some}
use Rattle.rules.specs.Laws.Results.{OkR, bind_ok, bind_any, if_both, holds_of, some_same, no_option}
use Rattle.rules.specs.Laws.Meaning.Names.{LowScope}
use Rattle.rules.proofs.Laws.Meaning.Runs
use Rattle.rules.proofs.Laws.Meaning.Runs.{seeing, AllNew}
use Rattle.rules.proofs.Laws.Meaning.Lookups
use Rattle.rules.proofs.Laws.Meaning.Lookups.{in_heads, first_past, first_within}
use Rattle.rules.proofs.Laws.Meaning.StepC.{inserted_first}
use Rattle.rules.proofs.Laws.Meaning.Frames.{nowhere}
use Rattle.rules.proofs.Laws.Meaning.Agree
use Rattle.rules.proofs.Laws.Meaning.Agree.{Arrived}

-- ---- step B makes the alias

-- the alias of the export `q` of instance number `n`, among inserted fields
record FirstMade (space n q z b : ℕ) (new : List Head) : Type 0 where
  j : ℕ
  later : b ≤ j
  code : ℕ
  item : ℕ
  found : first_named (in_heads new) item (fresh j) ≡ some (inserted (export_alias code item (fresh j) (instance_space space) (Num n) q z))

module _ (space n q z : ℕ) where
  alone : (k code from : ℕ) (item : ℕ) (rest : List Head)
      → first_named (in_heads (export_alias code item (fresh k) from (Num n) q z ∷ rest)) item (fresh k) ≡ some (inserted (export_alias code item (fresh k) from (Num n) q z))
  unfolding Lookups.has export_alias when◌then◌else◌
  alone k code from item rest = rw (Lookups.first_of_heads (export_alias code item (fresh k) from (Num n) q z) rest item (fresh k), eqb_same item, eqb_same (fresh k))

  -- one PATH, or a space that may have several
  made : (qs : List ℕ) (k : ℕ) → (¬ (qs ≡ []) → leb space 6 ≡ false) → FirstMade space n q z k (path_aliases space (Num n) q qs z k)
  unfolding path_aliases instance_space when◌then◌else◌
  made [] k few = go (leb space 6) refl
    where
      go : (b : Bool) → leb space 6 ≡ b → FirstMade space n q z k ((when b then export_alias 10 space (fresh k) 6 (Num n) q z else export_alias 9 space (fresh k) 10 (Num n) q z) ∷ [])
      go true e = record { j = k; later = omega arith; code = 10; item = space; found = rw e (alone k 10 6 space []) }
      go false e = record { j = k; later = omega arith; code = 9; item = space; found = rw e (alone k 9 10 space []) }
  made (q' ∷ qs) k few =
      let e : leb space 6 ≡ false = few (λ p. (let c : ◌≡◌ {A = ℕ} (suc (length qs)) 0 = ap length p in omega arith)) in
      record { j = k; later = omega arith; code = 9; item = 10; found = rw e (alone k 9 10 10 _) }

  made_before : (b : ℕ) (xs ys : List Head) → FirstMade space n q z b xs → FirstMade space n q z b (xs ++ ys)
  made_before b xs ys M =
      record { j = M.j; later = M.later; code = M.code; item = M.item; found = rw (Lookups.heads_append xs ys) (first_within (in_heads xs) (in_heads ys) M.item (fresh M.j) _ M.found) }

  made_after : (b b' : ℕ) (xs ys : List Head) → b ≤ b' → AllNew b b' xs → FirstMade space n q z b' ys → FirstMade space n q z b (xs ++ ys)
  unfolding fresh
  made_after b b' xs ys g new M =
      let l = M.later in
      record {
        j = M.j;
        later = omega (arith, g, l);
        code = M.code;
        item = M.item;
        found = rw (Lookups.heads_append xs ys)
            (first_past (in_heads xs) (in_heads ys) M.item (fresh M.j) (Lookups.first_in_heads b b' xs M.item (fresh M.j) new (λ t p r. omega (arith, l, p, r))) ∙ M.found);
      }

  module _ (qs : List ℕ) (few : ¬ (qs ≡ []) → leb space 6 ≡ false) (ds : List Declaration) (outside : Outside) where
    operand_made : (k : ℕ) → OkR (λ e. FirstMade space n q z k e.inserted) (expand_operand ds outside k (ref space (Num n) (q ∷ qs) z))
    unfolding expand_operand Rules.through
    operand_made k = if_both (OkR _) _ _ _ tt (made qs k few)

    operands_made : (k : ℕ) (os : List Operand) (o : ℕ) → get_elem? os o ≡ some (ref space (Num n) (q ∷ qs) z) → OkR (λ e. FirstMade space n q z k e.inserted) (expand_operands ds outside k os)
    unfolding expand_operands
    operands_made k [] o e = no_option _ e
    operands_made k (x ∷ os) zero e = rw (some_same x _ e) (bind_ok _ _ _ _ (operand_made k) (λ e m. bind_any _ _ _ (λ es. made_before k e.inserted es.inserted m)))
    operands_made k (x ∷ os) (suc o) e =
        bind_ok _ _ _ _ (Runs.operand_grown ds outside k x) (λ x' g. bind_ok _ _ _ _ (operands_made x'.k os o e) (λ es m. made_after k x'.k x'.inserted es.inserted g.0 g.1 m))

    head_made : (k : ℕ) (h : Head) (o : ℕ) → here_only h.code ≡ false → get_elem? h.operands o ≡ some (ref space (Num n) (q ∷ qs) z) → OkR (λ e. FirstMade space n q z k e.inserted) (expand_head ds outside k h)
    unfolding expand_head with_operands when◌then◌else◌
    head_made k h o c e = rw c (bind_ok _ _ _ _ (operands_made k h.operands o e) (λ es m. m))

-- a number is left by step C
export_resolved : (here : Env) (outside : Outside) (code item new from n q z : ℕ) → resolve_head here outside (export_alias code item new from (Num n) q z) ≡ ok (export_alias code item new from (Num n) q z)
unfolding resolve_head resolve_operands export_alias Rules.number_in with_operands ◌>>=◌
export_resolved here outside code item new from n q z = refl

-- ---- in the output

-- an inserted alias of this scope: the export `q` of the instance that the number is
pub record FirstAlias (l' : Level) (space n q z : ℕ) : Type 0 where
  pub head : Head
  pub item : ℕ
  pub name : ℕ
  pub found : first_named (standings 0 l'.fields) item name ≡ some (inserted head)
  pub instance : head.operands ≡ ref (instance_space space) (Num n) [] z ∷ []
  pub exports : head.export ≡ some q

-- In an accepted run a REF with PATHs on a number has, in its scope of the output, an inserted alias whose instance is that number: its space
-- is the one that the list says. Several PATHs stand only with spaces from 7 up, and none in a here_only_lem field: that is the form.
pub path_number : (rules : RuleSet) (s : Scope) (r : Scope × ℕ) (p : Place) (u : Use) (space n q : ℕ) (qs : List ℕ) (z : ℕ) → LowScope s → resolve rules s ≡ ok r → use_at s p ≡ some u
    → u.operand ≡ ref space (Num n) (q ∷ qs) z → here_only u.head.code ≡ false → (¬ (qs ≡ []) → leb space 6 ≡ false)
    → (l' : Level) × (ls' : List Level) × (Readings.around p.way (Readings.root r.0) [] ≡ some (l' ∷ ls')) × FirstAlias l' space n q z
unfolding resolve Readings.use_inside Readings.root
path_number rules (scope kind name fs) r p u space n q qs z low eq eu eo code few =
    let E = Agree.ended kind name fs (at_root rules []) 0 r low.1 eq in
    let s₁ = then_some (Readings.around p.way (Readings.root (scope kind name fs)) []) _ u eu in
    let D = Agree.descend p.way [] E.2 nowhere s₁.0 s₁.1 in
    there r.0 D.0 (ap (λ (t : Scope). Readings.around p.way (Readings.root t) []) E.3 ∙ D.1) D.2 s₁.2
  where
    there : (t : Scope) {ls : List Level} (ls' : List Level) → Readings.around p.way (Readings.root t) [] ≡ some ls' → Arrived ls ls' → Readings.use_in ls p.field p.at ≡ some u
        → (l'' : Level) × (ls'' : List Level) × (Readings.around p.way (Readings.root t) [] ≡ some (l'' ∷ ls'')) × FirstAlias l'' space n q z
    there t {ls} ls' e D eu =
        let U = Agree.use_inv (level D.w D.fs) D.ins p.field p.at u (ap (λ (v : List Level). Readings.use_in v p.field p.at) D.was ∙ eu) in
        let A = Agree.at_ended D.ends p.field U.0 U.1 in
        let c : here_only (head_of U.0).code ≡ false = ap (λ (h : Head). here_only h.code) U.3 ∙ code in
        let M = holds_of _ _ A.e (head_made space n q z qs few (declarations D.fs) (seeing D.outside A.seen) A.b (head_of U.0) p.at c (U.2 ∙ ap {B = Option Operand} some eo)) A.expands in
        let alias = export_alias M.code M.item (fresh M.j) (instance_space space) (Num n) q z in
        let F = holds_of _ _ A.new (inserted_first D.here (seeing D.outside A.seen) M.item (fresh M.j) alias alias (export_resolved D.here (seeing D.outside A.seen) M.code M.item (fresh M.j) (instance_space space) n q z) A.e.inserted M.found) A.adds in (
          level D.w D.out,
          D.outs,
          e ∙ ap {B = Option (List Level)} some (sym D.now),
          record {
            head = alias;
            item = M.item;
            name = fresh M.j;
            found = A.nearest M.item M.j (inserted alias) M.later F;
            instance = unfold export_alias in refl;
            exports = unfold export_alias in refl;
          },
        )
