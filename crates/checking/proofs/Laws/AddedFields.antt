-- The added fields of a claim that passes condition 3: each is an alias, holds no scope and has one DECL, of a fresh name; its operands are numbers; and the
-- OUTER of an outer alias has its space.
use Rattle.std.specs.Prelude.{◌≡◌, Bool, ℕ, suc, ◌+◌, eqb}
use Rattle.std.proofs.Math.Path.{refl}
use Rattle.std.proofs.Common.{ap, sym, ◌∙◌, arith}
use Rattle.std.proofs.Math.Bool.{true, false}
use Rattle.std.proofs.Math.Option.{none, some}
use mathlib.Core.List.{List, [], ◌∷◌, ◌++◌}
use Rattle.std.proofs.Math.ListN.{length}
use Rattle.rules.specs.Tools
use Rattle.rules.specs.Tools.{when◌then◌else◌, is_in, ◌or_else◌, ◌then◌}
use Rattle.rules.specs.Versions.{RuleSet}
use Rattle.rules.specs.Tree.{Declaration, Operand, ref, outer, case, Head, Scope, scope, Fields, end, ◌▸◌, Item, plain, holds, head_of, head_rows, item_rows}
use Rattle.rules.specs.Shapes
use Rattle.rules.specs.Good.{after_operand, after_operands, GoodHead, GoodScope, GoodFields, GoodItem}
use Rattle.rules.specs.Readings.{is_fresh, any_fresh, is_inserted}
use Rattle.checking.specs.Check.{not_new, not_number, no_alias, scope_added, fields_added, item_added}
use Rattle.rules.specs.Laws.ToolLaws.{or_cases, or-false, eqb-true}
use Rattle.read_form.proofs.Laws.Parting.{or_else_first, or_else_second}
use Rattle.rules.specs.Laws.Results.{no_option}

-- ---- what is said

-- the first operand, if it is an OUTER, is of this space
abbrev pub FirstOf : (space : ℕ) → List Operand → Type 0
FirstOf space [] = Unit {0}
FirstOf space (ref s at paths z ∷ os) = Unit {0}
FirstOf space (outer s up at z ∷ os) = s ≡ space
FirstOf space (case name z ∷ os) = Unit {0}

pub record Added (h : Head) : Type 0 where
  pub coded : is_in h.code (9 ∷ 10 ∷ 11 ∷ []) ≡ true
  pub decl : Declaration
  pub alone : h.decls ≡ decl ∷ []
  pub new : is_fresh decl.name ≡ true
  pub spaced : h.code ≡ 11 → FirstOf decl.space h.operands
  pub row : ℕ
  pub numbers : not_number row h.operands ≡ none

-- it holds no scope
abbrev pub IsAdded : Item → Type 0
IsAdded (plain h) = Added h
IsAdded (holds h s) = ⊥

pub added_head : (i : Item) → IsAdded i → Added (head_of i)
unfolding head_of
added_head (plain h) a = a
added_head (holds h s) a = absurd a

abbrev mutual
  pub AddedScope : Scope → Type 0
  AddedScope (scope kind name fs) = AddedFields fs

  pub AddedFields : Fields → Type 0
  AddedFields end = Unit {0}
  AddedFields (i ▸ fs) = (is_inserted (head_of i) ≡ true → IsAdded i) × AddedItem i × AddedFields fs

  pub AddedItem : Item → Type 0
  AddedItem (plain h) = Unit {0}
  AddedItem (holds h s) = AddedScope s

-- ---- a good field of codes 9 to 11

one_decl : (ds : List Declaration) → eqb (length ds) 1 ≡ true → (d : Declaration) × (ds ≡ d ∷ [])
one_decl [] e = let z = eqb-true 0 1 e in absurd (omega arith)
one_decl (d ∷ []) e = (d, refl)
one_decl (d ∷ d' ∷ ds) e = let z = eqb-true (suc (suc (length ds))) 1 e in absurd (omega arith)

enough_one : (code : ℕ) (ds : List Declaration) → is_in code (9 ∷ 10 ∷ 11 ∷ []) ≡ true → Shapes.enough (Shapes.declares code) (length ds) ≡ true → eqb (length ds) 1 ≡ true
unfolding Shapes.enough Shapes.declares
enough_one code ds c e =
    or_cases (eqb code 9) _ c (λ t. rw (eqb-true code 9 t) at e)
    (λ c₁. or_cases (eqb code 10) _ c₁ (λ t. rw (eqb-true code 10 t) at e)
    (λ c₂. rw (eqb-true code 11 (or-false (eqb code 11) c₂)) at e))

outer_first : (s : ℕ) (os : List Operand) (left : List Shapes.Part) → after_operands (Shapes.one (Shapes.out s) ∷ []) os ≡ some left → FirstOf s os
unfolding after_operands after_operand Shapes.next Shapes.fits_outer Tools.only ◌then◌
outer_first s [] left e = tt
outer_first s (ref space at paths z ∷ os) left e = tt
outer_first s (outer space up at z ∷ os) left e = go (eqb s space) refl e
  where
    go : (b : Bool) → eqb s space ≡ b → (Tools.only b [] then λ q. after_operands q os) ≡ some left → space ≡ s
    go true t f = sym (eqb-true s space t)
    go false t f = no_option left f
outer_first s (case name z ∷ os) left e = tt

parts_eleven : (rules : RuleSet) (builtin : ℕ) (d : Declaration) → Shapes.parts rules 11 builtin (d ∷ []) ≡ Shapes.one (Shapes.out d.space) ∷ []
unfolding Shapes.parts Shapes.declared
parts_eleven rules builtin d = refl

pub closed : (code : ℕ) → is_in code (9 ∷ 10 ∷ 11 ∷ []) ≡ true → Shapes.opens code ≡ none
unfolding Shapes.opens when◌then◌else◌
closed code c =
    or_cases (eqb code 9) _ c (λ t. rw (eqb-true code 9 t))
    (λ c₁. or_cases (eqb code 10) _ c₁ (λ t. rw (eqb-true code 10 t))
    (λ c₂. rw (eqb-true code 11 (or-false (eqb code 11) c₂))))

-- what `no_alias` tested
abbrev Passed3 : Head → Type 0
Passed3 h = (is_in h.code (9 ∷ 10 ∷ 11 ∷ []) ≡ true) × (row : ℕ) × (not_number row h.operands ≡ none)

any_one : (d : Declaration) → any_fresh (d ∷ []) ≡ true → is_fresh d.name ≡ true
unfolding any_fresh
any_one d e = or-false (is_fresh d.name) e

module _ (rules : RuleSet) where
  alias_added : (kind : ℕ) (h : Head) → GoodHead rules kind h → is_inserted h ≡ true → Passed3 h → Added h
  unfolding is_inserted
  alias_added kind h g i (c, row, numbers) =
      let D = one_decl h.decls (enough_one h.code h.decls c g.enough_declared) in
      record {
        coded = c;
        decl = D.0;
        alone = D.1;
        new = any_one D.0 (ap any_fresh (sym D.1) ∙ i);
        spaced = λ e. outer_first D.0.space h.operands g.left
            (ap (λ (ps : List Shapes.Part). after_operands ps h.operands) (sym (ap (λ (x : ℕ). Shapes.parts rules x h.builtin h.decls) e ∙ (ap (Shapes.parts rules 11 h.builtin) D.1 ∙ parts_eleven rules h.builtin D.0))) ∙ g.uses);
        row = row;
        numbers = numbers;
      }

  -- codes 9 to 11 open no scope
  item_alias : (kind : ℕ) (i : Item) → GoodItem rules i kind → is_inserted (head_of i) ≡ true → Passed3 (head_of i) → IsAdded i
  unfolding head_of
  item_alias kind (plain h) g i c = alias_added kind h g.0 i c
  item_alias kind (holds h s) g i c = no_option _ (sym (closed h.code c.0) ∙ g.1)

  -- ---- condition 3 holds

  coded : (n : ℕ) (past : List Declaration) (h : Head) → no_alias n past h ≡ none → Passed3 h
  unfolding no_alias when◌then◌else◌
  coded n past h e = go (is_in h.code (9 ∷ 10 ∷ 11 ∷ [])) refl e
    where
      go : (b : Bool) → is_in h.code (9 ∷ 10 ∷ 11 ∷ []) ≡ b
          → (when b then not_new (suc n) past h.decls or_else not_number (suc n + length h.decls) h.operands else some n) ≡ none → Passed3 h
      go true c f = (c, _, or_else_second (not_new (suc n) past h.decls) _ f)
      go false c f = no_option n (sym f)

  inserted_coded : (n : ℕ) (past : List Declaration) (h : Head) → (when is_inserted h then no_alias n past h else none) ≡ none → is_inserted h ≡ true → Passed3 h
  unfolding when◌then◌else◌
  inserted_coded n past h e i = coded n past h (rw i at e)

  record Parts3 (n : ℕ) (past : List Declaration) (i : Item) (fs : Fields) : Type 0 where
    alias : is_inserted (head_of i) ≡ true → Passed3 (head_of i)
    inner : item_added (n + length (head_rows (head_of i))) i ≡ none
    rest : fields_added (n + length (item_rows i)) (past ++ (head_of i).decls) fs ≡ none

  parts_3 : (n : ℕ) (past : List Declaration) (i : Item) (fs : Fields) → fields_added n past (i ▸ fs) ≡ none → Parts3 n past i fs
  unfolding scope_added
  parts_3 n past i fs e =
      let f = or_else_second (when is_inserted (head_of i) then no_alias n past (head_of i) else none) _ e in
      record {
        alias = inserted_coded n past (head_of i) (or_else_first _ _ e);
        inner = or_else_first (item_added (n + length (head_rows (head_of i))) i) _ f;
        rest = or_else_second (item_added (n + length (head_rows (head_of i))) i) _ f;
      }

  inside_3 : (n kind name : ℕ) (fs : Fields) → scope_added n (scope kind name fs) ≡ none → fields_added (suc n) [] fs ≡ none
  unfolding scope_added
  inside_3 n kind name fs e = e

  holds_3 : (n : ℕ) (h : Head) (s : Scope) → item_added n (holds h s) ≡ none → scope_added n s ≡ none
  unfolding scope_added
  holds_3 n h s e = e

  mutual
    pub scope_added_lem : (n : ℕ) (s : Scope) → GoodScope rules s → scope_added n s ≡ none → AddedScope s
    scope_added_lem n (scope kind name fs) g e = fields_added_lem (suc n) [] kind fs g (inside_3 n kind name fs e)

    fields_added_lem : (n : ℕ) (past : List Declaration) (kind : ℕ) (fs : Fields) → GoodFields rules fs kind → fields_added n past fs ≡ none → AddedFields fs
    fields_added_lem n past kind end g e = tt
    fields_added_lem n past kind (i ▸ fs) g e =
        let P = parts_3 n past i fs e in
        (λ t. item_alias kind i g.0 t (P.alias t), item_added_lem _ kind i g.0 P.inner, fields_added_lem _ _ kind fs g.1 P.rest)

    item_added_lem : (n kind : ℕ) (i : Item) → GoodItem rules i kind → item_added n i ≡ none → AddedItem i
    item_added_lem n kind (plain h) g e = tt
    item_added_lem n kind (holds h s) g e = scope_added_lem n s g.3 (holds_3 n h s e)
