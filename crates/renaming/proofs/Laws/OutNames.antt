-- The names in an output are those of the input, and the fresh ones: what holds of all of these holds of every name in the output.
use Rattle.std.specs.Prelude.{◌≡◌, refl, Bool, true, false, ℕ, suc}
use Rattle.std.proofs.Common.{ap, ap₂, sym, ◌∙◌}
use Rattle.std.proofs.Math.Option.{Option, none, some}
use mathlib.Core.List.{List, [], ◌∷◌, ◌++◌}
use Rattle.rules.specs.Versions.{RuleSet}
use Rattle.rules.specs.Rows.{Index, Num, Id, Row, Field, Decl, Ref, Path, Outer, Case, Open, Close, Export}
use Rattle.rules.specs.Tree.{Declaration, Operand, ref, outer, case, Head, Scope, scope, Fields, end, ◌▸◌, Item, plain, holds, head_of, with_operands, decl_rows, path_rows, operand_row, operand_rows, export_rows, head_rows, flatten, fields_rows, item_rows}
use Rattle.rules.specs.Rules
use Rattle.rules.specs.Rules.{opened, ok, Env, Outside, at_root, onward, inward, fresh, Expanded, expand_operand, expand_operands, expand_head, path_aliases, export_alias, outer_alias, resolve_operands, resolve_head, resolve_inserted, resolve_scope, resolve_fields, resolve_item, ◌before◌, resolve_inside}
use Rattle.rules.specs.Laws.ToolLaws.{All, done, ◌&◌, all_append, all_left, all_right}
use Rattle.rules.specs.Laws.Results.{OkR, bind_ok, bind_any, if_both, holds_of}

module _ (P : ℕ → Type 0) where
  abbrev pub IndexHas : Index → Type 0
  IndexHas (Num n) = Unit {0}
  IndexHas (Id n) = P n

  -- it holds of every name in a row
  abbrev pub RowHas : Row → Type 0
  RowHas (Field code builtin z) = Unit {0}
  RowHas (Decl space name z) = P name
  RowHas (Ref space at paths z) = IndexHas at
  RowHas (Path name) = Unit {0}
  RowHas (Outer space up at z) = IndexHas up × IndexHas at
  RowHas (Case name z) = P name
  RowHas (Open kind name) = P name
  RowHas Close = Unit {0}
  RowHas (Export name) = Unit {0}

  -- and in a tree
  abbrev pub OperandHas : Operand → Type 0
  OperandHas (ref space at paths z) = IndexHas at
  OperandHas (outer space up at z) = IndexHas up × IndexHas at
  OperandHas (case name z) = P name

  abbrev pub DeclHas : Declaration → Type 0
  DeclHas d = P d.name

  pub record HeadHas (h : Head) : Type 0 where
    pub decls : All DeclHas h.decls
    pub operands : All OperandHas h.operands

  abbrev mutual
    pub ScopeHas : Scope → Type 0
    ScopeHas (scope kind name fs) = P name × FieldsHas fs

    FieldsHas : Fields → Type 0
    FieldsHas end = Unit {0}
    FieldsHas (i ▸ fs) = ItemHas i × FieldsHas fs

    ItemHas : Item → Type 0
    ItemHas (plain h) = HeadHas h
    ItemHas (holds h s) = HeadHas h × ScopeHas s

  -- ---- from rows to the tree, and back

  decls_from : (ds : List Declaration) → All RowHas (decl_rows ds) → All DeclHas ds
  unfolding decl_rows
  decls_from [] a = done
  decls_from (d ∷ ds) (h & a) = h & decls_from ds a

  operands_from : (os : List Operand) → All RowHas (operand_rows os) → All OperandHas os
  unfolding operand_rows
  operands_from [] a = done
  operands_from (o ∷ os) a = one o (all_left (operand_row o) (operand_rows os) a) & operands_from os (all_right (operand_row o) (operand_rows os) a)
    where
      first : {r : Row} {rs : List Row} → All RowHas (r ∷ rs) → RowHas r
      first (h & c) = h

      one : (o : Operand) → All RowHas (operand_row o) → OperandHas o
      one (ref space at paths z) b = unfold operand_row in first b
      one (outer space up at z) b = unfold operand_row in first b
      one (case name z) b = unfold operand_row in first b

  head_from : (h : Head) → All RowHas (head_rows h) → HeadHas h
  unfolding head_rows
  head_from h (x & a) =
      let b = all_right (decl_rows h.decls) (operand_rows h.operands ++ export_rows h.export) a in
      record {
        decls = decls_from h.decls (all_left (decl_rows h.decls) (operand_rows h.operands ++ export_rows h.export) a);
        operands = operands_from h.operands (all_left (operand_rows h.operands) (export_rows h.export) b);
      }

  mutual
    unfolding flatten

    pub scope_from : (s : Scope) → All RowHas (flatten s) → ScopeHas s
    scope_from (scope kind name fs) (h & a) = (h, fields_from fs (all_left (fields_rows fs) (Close ∷ []) a))

    fields_from : (fs : Fields) → All RowHas (fields_rows fs) → FieldsHas fs
    fields_from end a = tt
    fields_from (i ▸ fs) a = (item_from i (all_left (item_rows i) (fields_rows fs) a), fields_from fs (all_right (item_rows i) (fields_rows fs) a))

    item_from : (i : Item) → All RowHas (item_rows i) → ItemHas i
    item_from (plain h) a = head_from h a
    item_from (holds h s) a = (head_from h (all_left (head_rows h) (flatten s) a), scope_from s (all_right (head_rows h) (flatten s) a))

  decls_to : (ds : List Declaration) → All DeclHas ds → All RowHas (decl_rows ds)
  unfolding decl_rows
  decls_to [] a = done
  decls_to (d ∷ ds) (h & a) = h & decls_to ds a

  paths_to : (ps : List ℕ) → All RowHas (path_rows ps)
  unfolding path_rows
  paths_to [] = done
  paths_to (p ∷ ps) = tt & paths_to ps

  operand_to : (o : Operand) → OperandHas o → All RowHas (operand_row o)
  unfolding operand_row
  operand_to (ref space at paths z) h = h & paths_to paths
  operand_to (outer space up at z) h = h & done
  operand_to (case name z) h = h & done

  operands_to : (os : List Operand) → All OperandHas os → All RowHas (operand_rows os)
  unfolding operand_rows
  operands_to [] a = done
  operands_to (o ∷ os) (h & a) = all_append (operand_row o) (operand_rows os) (operand_to o h) (operands_to os a)

  export_to : (e : Option ℕ) → All RowHas (export_rows e)
  unfolding export_rows
  export_to none = done
  export_to (some n) = tt & done

  head_to : (h : Head) → HeadHas h → All RowHas (head_rows h)
  unfolding head_rows
  head_to h a =
      tt & all_append (decl_rows h.decls) (operand_rows h.operands ++ export_rows h.export) (decls_to h.decls a.decls)
      (all_append (operand_rows h.operands) (export_rows h.export) (operands_to h.operands a.operands) (export_to h.export))

  mutual
    unfolding flatten

    pub scope_to : (s : Scope) → ScopeHas s → All RowHas (flatten s)
    scope_to (scope kind name fs) a = a.0 & all_append (fields_rows fs) (Close ∷ []) (fields_to fs a.1) (tt & done)

    fields_to : (fs : Fields) → FieldsHas fs → All RowHas (fields_rows fs)
    fields_to end a = done
    fields_to (i ▸ fs) a = all_append (item_rows i) (fields_rows fs) (item_to i a.0) (fields_to fs a.1)

    item_to : (i : Item) → ItemHas i → All RowHas (item_rows i)
    item_to (plain h) a = head_to h a
    item_to (holds h s) a = all_append (head_rows h) (flatten s) (head_to h a.0) (scope_to s a.1)

  -- ---- the steps

  module _ (new : (k : ℕ) → P (fresh k)) where
    record Both (A : Type 0) (Q : A → Type 0) (e : Expanded A) : Type 0 where
      now : Q e.now
      inserted : All HeadHas e.inserted

    export_has : (code space k from : ℕ) (at : Index) (p z : ℕ) → IndexHas at → HeadHas (export_alias code space (fresh k) from at p z)
    unfolding export_alias
    export_has code space k from at p z h = record { decls = new k & done; operands = h & done }

    outer_has : (space k d n z : ℕ) → HeadHas (outer_alias space (fresh k) d n z)
    unfolding outer_alias
    outer_has space k d n z =
        let two : OperandHas (outer space (Num d) (Num n) z) = (tt, tt) in
        record { decls = new k & done; operands = two & done }

    paths_has : (space : ℕ) (at : Index) (p : ℕ) (ps : List ℕ) (z k : ℕ) → IndexHas at → All HeadHas (path_aliases space at p ps z k)
    unfolding path_aliases
    paths_has space at p [] z k h = if_both HeadHas _ _ _ (export_has 10 space k 6 at p z h) (export_has 9 space k 10 at p z h) & done
    paths_has space at p (q ∷ ps) z k h = export_has 9 10 k 10 at p z h & paths_has space (Id (fresh k)) q ps z (suc k) (new k)

    found_has : (space name z k : ℕ) (o : Option (ℕ × ℕ)) → P name → OkR (Both Operand OperandHas) (Rules.found_at space name z k o)
    unfolding Rules.found_at Rules.through Rules.as_it_is
    found_has space name z k none h = record { now = h; inserted = done }
    found_has space name z k (some at) h = if_both (OkR (Both Operand OperandHas)) _ _ _ (record { now = new k; inserted = outer_has space k at.0 at.1 z & done }) tt

    module _ (ds : List Declaration) (outside : Outside) where
      operand_has : (k : ℕ) (o : Operand) → OperandHas o → OkR (Both Operand OperandHas) (expand_operand ds outside k o)
      unfolding expand_operand Rules.through Rules.as_it_is
      operand_has k (ref space (Num n) [] z) h = record { now = tt; inserted = done }
      operand_has k (ref space (Id name) [] z) h =
          bind_any _ _ _ (λ u. if_both (OkR (Both Operand OperandHas)) _ _ _ (record { now = h; inserted = done }) (found_has space name z k _ h))
      operand_has k (ref space at (p ∷ ps) z) h = if_both (OkR (Both Operand OperandHas)) _ _ _ tt (record { now = new _; inserted = paths_has space at p ps z k h })
      operand_has k (outer space up at z) h = record { now = h; inserted = done }
      operand_has k (case name z) h = record { now = h; inserted = done }

      operands_has : (k : ℕ) (os : List Operand) → All OperandHas os → OkR (Both (List Operand) (All OperandHas)) (expand_operands ds outside k os)
      unfolding expand_operands Rules.as_it_is
      operands_has k [] a = record { now = done; inserted = done }
      operands_has k (o ∷ os) (h & a) =
          bind_ok _ _ _ _ (operand_has k o h)
          (λ e p. bind_ok _ _ _ _ (operands_has e.k os a) (λ es q. record { now = p.now & q.now; inserted = all_append e.inserted es.inserted p.inserted q.inserted }))

      head_has : (k : ℕ) (h : Head) → HeadHas h → OkR (Both Head HeadHas) (expand_head ds outside k h)
      unfolding expand_head Rules.as_it_is with_operands
      head_has k h a =
          if_both (OkR (Both Head HeadHas)) _ _ _ (record { now = a; inserted = done })
          (bind_ok _ _ _ _ (operands_has k h.operands a.operands) (λ e p. record { now = record { decls = a.decls; operands = p.now }; inserted = p.inserted }))

    numbers_has : (early : Bool) (es : List Env) (fz space : ℕ) (up at : Index) (z : ℕ) → OkR OperandHas (Rules.outer_numbers early es fz space up at z)
    unfolding Rules.outer_numbers
    numbers_has early es fz space up at z = bind_any _ _ _ (λ d. bind_any _ _ _ (λ e. bind_any _ _ _ (λ u. bind_any _ _ _ (λ n. (tt, tt)))))

    resolved_outer : (early : Bool) (es : List Env) (fz space : ℕ) (up at : Index) (z : ℕ) → OkR OperandHas (Rules.resolve_outer early es fz space up at z)
    unfolding Rules.resolve_outer
    resolved_outer early es fz space (Num d) (Num n) z = (tt, tt)
    resolved_outer early es fz space (Num d) (Id name) z = numbers_has early es fz space (Num d) (Id name) z
    resolved_outer early es fz space (Id name) at z = numbers_has early es fz space (Id name) at z

    module _ (here : Env) (outside : Outside) where
      resolved_has : (fz : ℕ) (seen : List ℕ) (os : List Operand) → All OperandHas os → OkR (All OperandHas) (resolve_operands here outside fz seen os)
      unfolding resolve_operands
      resolved_has fz seen [] a = done
      resolved_has fz seen (ref space at paths z ∷ os) (h & a) = bind_any _ _ _ (λ n. bind_ok _ _ _ _ (resolved_has fz seen os a) (λ os' q. tt & q))
      resolved_has fz seen (outer space up at z ∷ os) (h & a) =
          bind_ok _ _ _ _ (resolved_outer outside.early (opened here outside) fz space up at z) (λ o p. bind_ok _ _ _ _ (resolved_has fz seen os a) (λ os' q. p & q))
      resolved_has fz seen (case name z ∷ os) (h & a) = if_both (OkR (All OperandHas)) _ _ _ tt (bind_ok _ _ _ _ (resolved_has fz (name ∷ seen) os a) (λ os' q. h & q))

      head_resolved : (h : Head) → HeadHas h → OkR HeadHas (resolve_head here outside h)
      unfolding resolve_head with_operands
      head_resolved h a = bind_ok _ _ _ _ (resolved_has h.z [] h.operands a.operands) (λ os p. record { decls = a.decls; operands = p })

      inserted_has : (hs : List Head) → All HeadHas hs → OkR (All HeadHas) (resolve_inserted here outside hs)
      unfolding resolve_inserted
      inserted_has [] a = done
      inserted_has (h ∷ hs) (x & a) = bind_any _ _ _ (λ u. bind_ok _ _ _ _ (head_resolved h x) (λ h' p. bind_ok _ _ _ _ (inserted_has hs a) (λ hs' q. p & q)))

    before_has : (hs : List Head) (fs : Fields) → All HeadHas hs → FieldsHas fs → FieldsHas (◌before◌ hs fs)
    unfolding ◌before◌
    before_has [] fs a b = b
    before_has (h ∷ hs) fs (x & a) b = (x, before_has hs fs a b)

    head_of_has : (i : Item) → ItemHas i → HeadHas (head_of i)
    unfolding head_of
    head_of_has (plain h) a = a
    head_of_has (holds h s) a = a.0

    mutual
      unfolding resolve_scope

      scope_has : (s : Scope) (outside : Outside) (k : ℕ) → ScopeHas s → OkR (λ r. ScopeHas r.0) (resolve_scope s outside k)
      scope_has (scope kind name fs) outside k a =
          bind_any _ _ _ (λ e. bind_ok _ _ _ _ (fields_has fs _ e.0 outside k e.1 a.1) (λ r b. (a.0, b)))

      fields_has : (fs : Fields) (ds : List Declaration) (here : Env) (outside : Outside) (b k : ℕ) → FieldsHas fs → OkR (λ r. FieldsHas r.0) (resolve_fields fs ds here outside b k)
      fields_has end ds here outside b k a = tt
      fields_has (i ▸ fs) ds here outside b k a =
          bind_ok _ _ _ _ (head_has ds outside b (head_of i) (head_of_has i a.0))
          (λ e p. bind_ok _ _ _ _ (inserted_has here outside e.inserted p.inserted)
          (λ news q. bind_ok _ _ _ _ (head_resolved here outside e.now p.now)
          (λ h x. bind_ok _ _ _ _ (item_has i h here outside k a.0 x)
          (λ r y. bind_ok _ _ _ _ (fields_has fs ds here (onward i outside) e.k r.1 a.1)
          (λ rs z. before_has news (r.0 ▸ rs.0) q (y, z))))))

      item_has : (i : Item) (h : Head) (here : Env) (outside : Outside) (k : ℕ) → ItemHas i → HeadHas h → OkR (λ r. ItemHas r.0) (resolve_item i h here outside k)
      item_has (plain h₀) h here outside k a x = x
      item_has (holds h₀ s) h here outside k a x = bind_ok _ _ _ _ (scope_has s (inward h₀ here outside) k a.1) (λ r y. (x, y))

    -- What holds of the fresh names and of every name in a form holds of every name in what it resolves to.
    pub out_has : (rules : RuleSet) (around : List Env) (s : Scope) (r : Scope × ℕ) → ScopeHas s → resolve_inside rules around s ≡ ok r → ScopeHas r.0
    out_has rules around s r a e = holds_of (λ (x : Scope × ℕ). ScopeHas x.0) _ r (scope_has s (at_root rules around) 0 a) e
