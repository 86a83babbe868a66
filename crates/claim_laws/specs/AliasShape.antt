-- A good field of codes 9 to 11 has one DECL and one operand, which has no PATHs.
use Rattle.std.specs.Prelude.{◌≡◌, refl, Bool, true, false, ◌&&◌, List, [], ◌∷◌, ℕ, zero, suc, ◌<◌, ◌≤◌, eqb, length}
use Rattle.std.proofs.Common.{sym, ap, ◌∙◌, arith}
use Rattle.std.proofs.Math.Option.{Option, none, some}
use Rattle.rules.specs.Tools.{is_in, is_just, only, ◌then◌}
use Rattle.rules.specs.Versions.{RuleSet}
use Rattle.rules.specs.Rows.{Index}
use Rattle.rules.specs.Tree.{Declaration, Operand, ref, outer, case, Head, Item, plain, holds, head_of, decl_rows, operand_row, operand_rows, head_rows}
use Rattle.rules.specs.Shapes
use Rattle.rules.specs.Shapes.{Part, one, Want, p, out, complete, FIVE, SIX, FOUR}
use Rattle.rules.specs.Good.{MayDeclare, after_operand, after_operands, GoodHead, GoodItem}
use Rattle.rules.specs.Laws.ToolLaws.{or_cases, or-false, eqb-true, and_left, and_right, false_not}
use Rattle.rules.specs.Laws.Results.{no_option, some_same}

pub good_head : (rules : RuleSet) (i : Item) (kind : ℕ) → GoodItem rules i kind → GoodHead rules kind (head_of i)
unfolding head_of
good_head rules (plain h) kind g = g.0
good_head rules (holds h s) kind g = g.0

-- its DECL, of one of thirteen spaces
pub record OneDecl (h : Head) : Type 0 where
  pub decl : Declaration
  pub alone : h.decls ≡ decl ∷ []
  pub space : decl.space < 13

-- an alias of an export, and one of an outer item
pub data AliasOf (h : Head) : Type 0 where
  of_export : (from : ℕ) (at : Index) (z name : ℕ) → h.operands ≡ ref from at [] z ∷ [] → h.export ≡ some name → (h.code ≡ 11 → ⊥) → AliasOf h
  of_outer : (space : ℕ) (up at : Index) (z : ℕ) → h.operands ≡ outer space up at z ∷ [] → h.export ≡ none → h.code ≡ 11 → AliasOf h

-- its rows
pub alias_size : (h : Head) (d : Declaration) → h.decls ≡ d ∷ [] → AliasOf h → 3 ≤ length (head_rows h)
unfolding head_rows decl_rows operand_rows operand_row
alias_size h d a (of_export from at z name o x c) = rw (a, o) (omega arith)
alias_size h d a (of_outer space up at z o x c) = rw (a, o) (omega arith)

-- ---- its DECL

one_decl : (spaces : List ℕ) (ds : List Declaration) → MayDeclare (Shapes.single spaces) 0 ds → Shapes.enough (Shapes.single spaces) (length ds) ≡ true → (d : Declaration) × (ds ≡ d ∷ []) × (is_in d.space spaces ≡ true)
unfolding Shapes.may_declare Shapes.enough
one_decl spaces [] m e = let q = eqb-true 0 1 e in absurd (omega arith)
one_decl spaces (d ∷ []) m e = (d, refl, m.0)
one_decl spaces (d ∷ d' ∷ ds) m e = let q = eqb-true (suc (suc (length ds))) 1 e in absurd (omega arith)

abbrev AllBelow : List ℕ → Type 0
AllBelow [] = Unit {0}
AllBelow (n ∷ ns) = (n < 13) × AllBelow ns

below_13 : (spaces : List ℕ) → AllBelow spaces → (n : ℕ) → is_in n spaces ≡ true → n < 13
below_13 [] b n e = false_not e
below_13 (m ∷ ms) b n e = or_cases (eqb n m) (is_in n ms) e (λ t. let q = eqb-true n m t in let l = b.0 in omega arith) (λ t. below_13 ms b.1 n t)

six_below : AllBelow SIX
six_below = (omega arith, (omega arith, (omega arith, (omega arith, (omega arith, (omega arith, tt))))))

five_below : AllBelow FIVE
five_below = (omega arith, (omega arith, (omega arith, (omega arith, (omega arith, tt)))))

four_below : AllBelow FOUR
four_below = (omega arith, (omega arith, (omega arith, (omega arith, tt))))

-- ---- its operand

nothing_more : (os : List Operand) (left : List Part) → after_operands [] os ≡ some left → os ≡ []
unfolding after_operands after_operand Shapes.next ◌then◌
nothing_more [] left e = refl
nothing_more (ref space at paths z ∷ os) left e = no_option left e
nothing_more (outer space up at z ∷ os) left e = no_option left e
nothing_more (case name z ∷ os) left e = no_option left e

no_paths : (ps : List ℕ) → eqb (length ps) 0 ≡ true → ps ≡ []
no_paths [] e = refl
no_paths (q ∷ ps) e = let w = eqb-true (suc (length ps)) 0 e in absurd (omega arith)

only_some : {A B : Type 0} (t : Bool) (x : A) (f : A → Option B) (y : B) → (only t x then f) ≡ some y → (t ≡ true) × (f x ≡ some y)
unfolding only ◌then◌
only_some true x f y e = (refl, e)
only_some false x f y e = no_option y e

one_ref : (s : ℕ) (os : List Operand) (left : List Part) → after_operands (one (p (s ∷ [])) ∷ []) os ≡ some left → complete left ≡ true → (from : ℕ) × (at : Index) × (z : ℕ) × (os ≡ ref from at [] z ∷ [])
unfolding after_operands after_operand Shapes.next Shapes.fits_ref Shapes.fits_outer Shapes.is_case
one_ref s [] left e c = let q = some_same _ left e in false_not (unfold complete in rw (← q) at c)
one_ref s (ref space at paths z ∷ os) left e c =
    let q = only_some (is_in space (s ∷ []) && eqb (length paths) 0) [] (λ ps. after_operands ps os) left e in
    (space, at, z, rw (no_paths paths (and_right (is_in space (s ∷ [])) (eqb (length paths) 0) q.0), nothing_more os left q.1))
one_ref s (outer space up at z ∷ os) left e c = false_not (only_some false [] (λ (ps : List Part). after_operands ps os) left e).0
one_ref s (case name z ∷ os) left e c = false_not (only_some false [] (λ (ps : List Part). after_operands ps os) left e).0

one_outer : (s : ℕ) (os : List Operand) (left : List Part) → after_operands (one (out s) ∷ []) os ≡ some left → complete left ≡ true → (up at : Index) × (z : ℕ) × (os ≡ outer s up at z ∷ [])
unfolding after_operands after_operand Shapes.next Shapes.fits_ref Shapes.fits_outer Shapes.is_case
one_outer s [] left e c = let q = some_same _ left e in false_not (unfold complete in rw (← q) at c)
one_outer s (ref space at paths z ∷ os) left e c = false_not (only_some false [] (λ (ps : List Part). after_operands ps os) left e).0
one_outer s (outer space up at z ∷ os) left e c =
    let q = only_some (eqb s space) [] (λ ps. after_operands ps os) left e in
    (up, at, z, rw (eqb-true s space q.0, nothing_more os left q.1))
one_outer s (case name z ∷ os) left e c = false_not (only_some false [] (λ (ps : List Part). after_operands ps os) left e).0

-- ---- the field

module _ (rules : RuleSet) (kind : ℕ) (h : Head) (g : GoodHead rules kind h) (c : is_in h.code (9 ∷ 10 ∷ 11 ∷ []) ≡ true) where
  decl_of_lem : (spaces : List ℕ) → AllBelow spaces → Shapes.declares h.code ≡ Shapes.single spaces → OneDecl h
  decl_of_lem spaces b e =
      let D = one_decl spaces h.decls (rw e at g.declared) (rw e at g.enough_declared) in
      record { decl = D.0; alone = D.1; space = below_13 spaces b D.0.space D.2 }

  pub one_declared : OneDecl h
  unfolding Shapes.declares
  one_declared =
      or_cases (eqb h.code 9) _ c (λ t. decl_of_lem SIX six_below (rw (eqb-true h.code 9 t)))
      (λ c₁. or_cases (eqb h.code 10) _ c₁ (λ t. decl_of_lem FIVE five_below (rw (eqb-true h.code 10 t)))
      (λ c₂. decl_of_lem FOUR four_below (rw (eqb-true h.code 11 (or-false (eqb h.code 11) c₂)))))

  exported : Shapes.exports h.code ≡ true → (name : ℕ) × (h.export ≡ some name)
  exported e = go h.export refl (sym g.exporting ∙ e)
    where
      go : (o : Option ℕ) → h.export ≡ o → is_just o ≡ true → (name : ℕ) × (h.export ≡ some name)
      go none q t = false_not t
      go (some name) q t = (name, q)

  unexported : Shapes.exports h.code ≡ false → h.export ≡ none
  unexported e = go h.export refl (sym g.exporting ∙ e)
    where
      go : (o : Option ℕ) → h.export ≡ o → is_just o ≡ false → h.export ≡ none
      go none q t = q
      go (some name) q t = false_not (sym t)

  export_of_lem : (s : ℕ) → Shapes.parts rules h.code h.builtin h.decls ≡ one (p (s ∷ [])) ∷ [] → Shapes.exports h.code ≡ true → (h.code ≡ 11 → ⊥) → AliasOf h
  export_of_lem s e x n =
      let R = one_ref s h.operands g.left (rw e at g.uses) g.ends in
      let X = exported x in
      of_export R.0 R.1 R.2 X.0 R.3 X.1 n

  outer_of_lem : (s : ℕ) → Shapes.parts rules h.code h.builtin h.decls ≡ one (out s) ∷ [] → Shapes.exports h.code ≡ false → h.code ≡ 11 → AliasOf h
  outer_of_lem s e x n =
      let R = one_outer s h.operands g.left (rw e at g.uses) g.ends in
      of_outer s R.0 R.1 R.2 R.3 (unexported x) n

  pub alias_of_lem : AliasOf h
  unfolding Shapes.parts Shapes.exports
  alias_of_lem =
      or_cases (eqb h.code 9) _ c (λ t. let e = eqb-true h.code 9 t in export_of_lem 10 (rw e) (rw e) (omega arith))
      (λ c₁. or_cases (eqb h.code 10) _ c₁ (λ t. let e = eqb-true h.code 10 t in export_of_lem 6 (rw e) (rw e) (omega arith))
      (λ c₂. let e = eqb-true h.code 11 (or-false (eqb h.code 11) c₂) in outer_of_lem (Shapes.declared h.decls) (rw e) (rw e) e))
