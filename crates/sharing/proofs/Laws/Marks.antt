-- The tree that the planner has the steps work on is the input, but for names in references without PATHs: it has the input's
-- declarations, is well-formed if the input is, and has as many rows.
use Rattle.std.specs.Prelude.{◌≡◌, ℕ, suc, ◌+◌, ◌≤◌, ◌<◌, length}
use Rattle.std.proofs.Math.Path.{refl, ap, ap₂, subst}
use Rattle.std.proofs.Common.{sym, ◌∙◌}
use Rattle.std.proofs.Math.Option.{Option, none, some}
use mathlib.Core.List.{List, [], ◌∷◌, ◌++◌, map}
use native.Mathlib.Omega.{arith}
use Rattle.std.proofs.Math.ListN.{length-append}
use Rattle.rules.specs.Tools.{◌then◌}
use Rattle.rules.specs.Versions.{RuleSet}
use Rattle.rules.specs.Rows.{Num, Id, Row}
use Rattle.rules.specs.Tree.{Declaration, Operand, ref, outer, case, Head, Scope, scope, Fields, end, ◌▸◌, Item, plain, holds, head_of, with_operands, decl_rows, path_rows, operand_row, operand_rows, export_rows, head_rows, flatten, fields_rows, item_rows}
use Rattle.rules.specs.Shapes.{opens, first_name, Part}
use Rattle.rules.specs.Good.{kind_of, name_of, after_operand, after_operands, GoodHead, GoodScope, GoodFields, GoodItem, height, heights, height_item}
use Rattle.rules.specs.Rules.{fresh, declarations}
use Rattle.rules.specs.Readings.{Standing, in_original, standings}
use Rattle.sharing.specs.Sharing.{Served, served_by, Marked, mark_outer, mark_operand, mark_operands, mark_head, insertions, mark_scope, mark_fields, mark_item, mark}
use Rattle.rules.specs.Laws.ToolLaws.{Ok, All, done, ◌&◌, all_append, all_left, all_right}
use Rattle.rules.specs.Laws.RowLaws.{Written}
use Rattle.rules.specs.Laws.Results.{if_both}
use Rattle.rules.specs.Laws.Meaning.Names.{LowDecls, DeclScope, DeclFields, DeclItem}
use Rattle.rules.proofs.Laws.Meaning.Lookups
use Rattle.rules.proofs.Laws.Output.Kept.{blank_operand, blank_head, blank, blank_fields, blank_item}
use Rattle.rules.proofs.Laws.Output.OutFits.{out_name, ref_parts, ref_fit, fresh_fits}
use Rattle.rules.proofs.Laws.Output.FourTimes.{head_length, paths_length, inner, item_size, fields_size}

-- ---- what is said

module _ (top : ℕ) where
  -- the same, or a name that has become that of an insertion before `top`
  pub data LikeOperand : Operand → Operand → Type 0 where
    alike : {o : Operand} → LikeOperand o o
    renamed : {space name z : ℕ} (j : ℕ) → j < top → LikeOperand (ref space (Id name) [] z) (ref space (Id (fresh j)) [] z)

  pub data LikeOperands : List Operand → List Operand → Type 0 where
    stop : LikeOperands [] []
    next : {o o' : Operand} {os os' : List Operand} → LikeOperand o o' → LikeOperands os os' → LikeOperands (o ∷ os) (o' ∷ os')

  pub record LikeHead (h h' : Head) : Type 0 where
    pub operands : LikeOperands h.operands h'.operands
    pub rest : h' ≡ with_operands h h'.operands

  abbrev mutual
    pub LikeScope : Scope → Scope → Type 0
    LikeScope (scope kind name fs) (scope kind' name' fs') = (kind' ≡ kind) × (name' ≡ name) × LikeFields fs fs'

    pub LikeFields : Fields → Fields → Type 0
    LikeFields end end = Unit {0}
    LikeFields end (i ▸ fs) = ⊥
    LikeFields (i ▸ fs) end = ⊥
    LikeFields (i ▸ fs) (i' ▸ fs') = LikeItem i i' × LikeFields fs fs'

    pub LikeItem : Item → Item → Type 0
    LikeItem (plain h) (plain h') = LikeHead h h'
    LikeItem (plain h) (holds h' s') = ⊥
    LikeItem (holds h s) (plain h') = ⊥
    LikeItem (holds h s) (holds h' s') = LikeHead h h' × LikeScope s s'

  -- ---- what is the same of such trees

  like_head : (i i' : Item) → LikeItem i i' → LikeHead (head_of i) (head_of i')
  unfolding head_of
  like_head (plain h) (plain h') l = l
  like_head (plain h) (holds h' s') l = absurd l
  like_head (holds h s) (plain h') l = absurd l
  like_head (holds h s) (holds h' s') l = l.0

  pub like_decls : (h h' : Head) → LikeHead h h' → h'.decls ≡ h.decls
  unfolding with_operands
  like_decls h h' l = ap (λ (x : Head). x.decls) l.rest

  like_code : (h h' : Head) → LikeHead h h' → h'.code ≡ h.code
  unfolding with_operands
  like_code h h' l = ap (λ (x : Head). x.code) l.rest

  like_builtin : (h h' : Head) → LikeHead h h' → h'.builtin ≡ h.builtin
  unfolding with_operands
  like_builtin h h' l = ap (λ (x : Head). x.builtin) l.rest

  like_export : (h h' : Head) → LikeHead h h' → h'.export ≡ h.export
  unfolding with_operands
  like_export h h' l = ap (λ (x : Head). x.export) l.rest

  pub like_declarations : (fs fs' : Fields) → LikeFields fs fs' → declarations fs' ≡ declarations fs
  unfolding declarations
  like_declarations end end l = refl
  like_declarations end (i ▸ fs) l = absurd l
  like_declarations (i ▸ fs) end l = absurd l
  like_declarations (i ▸ fs) (i' ▸ fs') l = ap₂ (λ (xs ys : List Declaration). xs ++ ys) (like_decls (head_of i) (head_of i') (like_head i i' l.0)) (like_declarations fs fs' l.1)

  mutual
    pub like_declared : (s s' : Scope) → LikeScope s s' → DeclScope s → DeclScope s'
    like_declared (scope kind name fs) (scope kind' name' fs') l d = like_declared_fields fs fs' l.2 d

    pub like_declared_fields : (fs fs' : Fields) → LikeFields fs fs' → DeclFields fs → DeclFields fs'
    like_declared_fields end end l d = tt
    like_declared_fields end (i ▸ fs) l d = absurd l
    like_declared_fields (i ▸ fs) end l d = absurd l
    like_declared_fields (i ▸ fs) (i' ▸ fs') l d = (
      subst LowDecls (sym (like_decls (head_of i) (head_of i') (like_head i i' l.0))) d.0,
      like_declared_item i i' l.0 d.1,
      like_declared_fields fs fs' l.1 d.2,
    )

    like_declared_item : (i i' : Item) → LikeItem i i' → DeclItem i → DeclItem i'
    like_declared_item (plain h) (plain h') l d = tt
    like_declared_item (plain h) (holds h' s') l d = absurd l
    like_declared_item (holds h s) (plain h') l d = absurd l
    like_declared_item (holds h s) (holds h' s') l d = like_declared s s' l.1 d

  pub like_standings : (n : ℕ) (fs fs' : Fields) → LikeFields fs fs' → DeclFields fs → standings n fs' ≡ standings n fs
  like_standings n end end l d = refl
  like_standings n end (i ▸ fs) l d = absurd l
  like_standings n (i ▸ fs) end l d = absurd l
  like_standings n (i ▸ fs) (i' ▸ fs') l d =
      let same : (head_of i').decls ≡ (head_of i).decls = like_decls (head_of i) (head_of i') (like_head i i' l.0) in
      Lookups.standings_original n i' fs' (Lookups.low_original (head_of i') (subst LowDecls (sym same) d.0))
      ∙ (ap₂ (λ (xs ys : List Standing). xs ++ ys) (ap (in_original n 0) same) (like_standings (suc n) fs fs' l.1 d.2)
      ∙ sym (Lookups.standings_original n i fs (Lookups.low_original (head_of i) d.0)))

  -- ---- well-formed trees

  like_after : (ps : List Part) (o o' : Operand) → LikeOperand o o' → after_operand ps o' ≡ after_operand ps o
  unfolding after_operand
  like_after ps o o' alike = refl
  like_after ps o o' (renamed j h) = refl

  like_afters : (ps : List Part) (os os' : List Operand) → LikeOperands os os' → after_operands ps os' ≡ after_operands ps os
  unfolding after_operands ◌then◌
  like_afters ps [] [] stop = refl
  like_afters ps (o ∷ os) (o' ∷ os') (next l ls) = rw (like_after ps o o' l) (go (after_operand ps o) (λ ps'. like_afters ps' os os' ls))
    where
      go : (x : Option (List Part)) → ((ps' : List Part) → after_operands ps' os' ≡ after_operands ps' os) → (x then λ ps'. after_operands ps' os') ≡ (x then λ ps'. after_operands ps' os)
      go none f = refl
      go (some ps') f = f ps'
  like_afters ps [] (o' ∷ os') x'' = elim x'' [ ]
  like_afters ps (o ∷ os) [] x3 = elim x3 [ ]

  like_good : (rules : RuleSet) (kind : ℕ) (h h' : Head) → LikeHead h h' → GoodHead rules kind h → GoodHead rules kind h'
  unfolding with_operands
  like_good rules kind h h' l g =
      subst (GoodHead rules kind) (sym l.rest)
      (record {
        may = g.may;
        built = g.built;
        declared = g.declared;
        enough_declared = g.enough_declared;
        left = g.left;
        uses = like_afters _ h.operands h'.operands l.operands ∙ g.uses;
        ends = g.ends;
        exporting = g.exporting;
      })

  pub like_kind : (s s' : Scope) → LikeScope s s' → kind_of s' ≡ kind_of s
  like_kind (scope kind name fs) (scope kind' name' fs') l = l.0

  like_name : (s s' : Scope) → LikeScope s s' → name_of s' ≡ name_of s
  like_name (scope kind name fs) (scope kind' name' fs') l = l.1

  mutual
    pub like_well : (rules : RuleSet) (s s' : Scope) → LikeScope s s' → GoodScope rules s → GoodScope rules s'
    like_well rules (scope kind name fs) (scope kind' name' fs') l g = subst (GoodFields rules fs') (sym l.0) (like_fields rules kind fs fs' l.2 g)

    like_fields : (rules : RuleSet) (kind : ℕ) (fs fs' : Fields) → LikeFields fs fs' → GoodFields rules fs kind → GoodFields rules fs' kind
    like_fields rules kind end end l g = tt
    like_fields rules kind end (i ▸ fs) l g = absurd l
    like_fields rules kind (i ▸ fs) end l g = absurd l
    like_fields rules kind (i ▸ fs) (i' ▸ fs') l g = (like_item rules kind i i' l.0 g.0, like_fields rules kind fs fs' l.1 g.1)

    like_item : (rules : RuleSet) (kind : ℕ) (i i' : Item) → LikeItem i i' → GoodItem rules i kind → GoodItem rules i' kind
    like_item rules kind (plain h) (plain h') l g = (like_good rules kind h h' l g.0, ap opens (like_code h h' l) ∙ g.1)
    like_item rules kind (plain h) (holds h' s') l g = absurd l
    like_item rules kind (holds h s) (plain h') l g = absurd l
    like_item rules kind (holds h s) (holds h' s') l g = (
      like_good rules kind h h' l.0 g.0,
      ap opens (like_code h h' l.0) ∙ (g.1 ∙ ap {B = Option ℕ} some (sym (like_kind s s' l.1))),
      like_name s s' l.1 ∙ (g.2 ∙ ap first_name (sym (like_decls h h' l.0))),
      like_well rules s s' l.1 g.3,
    )

  mutual
    unfolding height

    pub like_height : (s s' : Scope) → LikeScope s s' → height s' ≡ height s
    like_height (scope kind name fs) (scope kind' name' fs') l = ap suc (like_heights fs fs' l.2)

    like_heights : (fs fs' : Fields) → LikeFields fs fs' → heights fs' ≡ heights fs
    like_heights end end l = refl
    like_heights end (i ▸ fs) l = absurd l
    like_heights (i ▸ fs) end l = absurd l
    like_heights (i ▸ fs) (i' ▸ fs') l = rw (like_height_item i i' l.0, like_heights fs fs' l.1)

    like_height_item : (i i' : Item) → LikeItem i i' → height_item i' ≡ height_item i
    like_height_item (plain h) (plain h') l = refl
    like_height_item (plain h) (holds h' s') l = absurd l
    like_height_item (holds h s) (plain h') l = absurd l
    like_height_item (holds h s) (holds h' s') l = like_height s s' l.1

  -- ---- blank operands

  like_blank_operands : (os os' : List Operand) → LikeOperands os os' → map blank_operand os' ≡ map blank_operand os
  unfolding blank_operand
  like_blank_operands [] [] stop = refl
  like_blank_operands (o ∷ os) (o' ∷ os') (next alike ls) = ap (λ (l : List Operand). blank_operand o ∷ l) (like_blank_operands os os' ls)
  like_blank_operands (o ∷ os) (o' ∷ os') (next (renamed {space} {name} {z} j h) ls) = ap (λ (l : List Operand). ref space (Num 0) [] z ∷ l) (like_blank_operands os os' ls)
  like_blank_operands [] (o' ∷ os') x'' = elim x'' [ ]
  like_blank_operands (o ∷ os) [] x3 = elim x3 [ ]

  like_blank_head : (h h' : Head) → LikeHead h h' → blank_head h' ≡ blank_head h
  unfolding blank_head with_operands
  like_blank_head h h' l = ap (λ (x : Head). with_operands x (map blank_operand h'.operands)) l.rest ∙ ap (with_operands h) (like_blank_operands h.operands h'.operands l.operands)

  mutual
    unfolding blank

    pub like_blank : (s s' : Scope) → LikeScope s s' → blank s' ≡ blank s
    like_blank (scope kind name fs) (scope kind' name' fs') l = rw (l.0, l.1, like_blank_fields fs fs' l.2)

    like_blank_fields : (fs fs' : Fields) → LikeFields fs fs' → blank_fields fs' ≡ blank_fields fs
    like_blank_fields end end l = refl
    like_blank_fields end (i ▸ fs) l = absurd l
    like_blank_fields (i ▸ fs) end l = absurd l
    like_blank_fields (i ▸ fs) (i' ▸ fs') l = rw (like_blank_item i i' l.0, like_blank_fields fs fs' l.1)

    like_blank_item : (i i' : Item) → LikeItem i i' → blank_item i' ≡ blank_item i
    like_blank_item (plain h) (plain h') l = ap plain (like_blank_head h h' l)
    like_blank_item (plain h) (holds h' s') l = absurd l
    like_blank_item (holds h s) (plain h') l = absurd l
    like_blank_item (holds h s) (holds h' s') l = rw (like_blank_head h h' l.0, like_blank s s' l.1)

  -- ---- rows

  like_row : (o o' : Operand) → LikeOperand o o' → length (operand_row o') ≡ length (operand_row o)
  unfolding operand_row path_rows
  like_row o o' alike = refl
  like_row o o' (renamed j h) = refl

  like_operand_rows : (os os' : List Operand) → LikeOperands os os' → length (operand_rows os') ≡ length (operand_rows os)
  unfolding operand_rows
  like_operand_rows [] [] stop = refl
  like_operand_rows (o ∷ os) (o' ∷ os') (next l ls) =
      omega (arith, length-append (operand_row o) (operand_rows os), length-append (operand_row o') (operand_rows os'), like_row o o' l, like_operand_rows os os' ls)
  like_operand_rows [] (o' ∷ os') x'' = elim x'' [ ]
  like_operand_rows (o ∷ os) [] x3 = elim x3 [ ]

  like_head_rows : (h h' : Head) → LikeHead h h' → length (head_rows h') ≡ length (head_rows h)
  like_head_rows h h' l =
      let d : length (decl_rows h'.decls) ≡ length (decl_rows h.decls) = ap (λ (x : List Declaration). length (decl_rows x)) (like_decls h h' l) in
      let e : length (export_rows h'.export) ≡ length (export_rows h.export) = ap (λ (x : Option ℕ). length (export_rows x)) (like_export h h' l) in
      omega (arith, head_length h, head_length h', d, e, like_operand_rows h.operands h'.operands l.operands)

  scope_rows : (kind name : ℕ) (fs : Fields) → length (flatten (scope kind name fs)) ≡ suc (suc (length (fields_rows fs)))
  unfolding flatten
  scope_rows kind name fs = simp length-append (omega arith)

  no_rows_lem : length (fields_rows end) ≡ 0
  unfolding flatten
  no_rows_lem = refl

  plain_inner : (h : Head) → inner (plain h) ≡ 0
  unfolding inner
  plain_inner h = refl

  holds_inner : (h : Head) (s : Scope) → inner (holds h s) ≡ length (flatten s)
  unfolding inner
  holds_inner h s = refl

  mutual
    pub like_rows : (s s' : Scope) → LikeScope s s' → length (flatten s') ≡ length (flatten s)
    like_rows (scope kind name fs) (scope kind' name' fs') l = omega (arith, scope_rows kind name fs, scope_rows kind' name' fs', like_fields_rows fs fs' l.2)

    like_fields_rows : (fs fs' : Fields) → LikeFields fs fs' → length (fields_rows fs') ≡ length (fields_rows fs)
    like_fields_rows end end l = refl
    like_fields_rows end (i ▸ fs) l = absurd l
    like_fields_rows (i ▸ fs) end l = absurd l
    like_fields_rows (i ▸ fs) (i' ▸ fs') l =
        omega (arith, fields_size i fs, fields_size i' fs', item_size i, item_size i', like_head_rows (head_of i) (head_of i') (like_head i i' l.0), like_inner i i' l.0, like_fields_rows fs fs' l.1)

    like_inner : (i i' : Item) → LikeItem i i' → inner i' ≡ inner i
    like_inner (plain h) (plain h') l = omega (arith, plain_inner h, plain_inner h')
    like_inner (plain h) (holds h' s') l = absurd l
    like_inner (holds h s) (plain h') l = absurd l
    like_inner (holds h s) (holds h' s') l = omega (arith, holds_inner h s, holds_inner h' s', like_rows s s' l.1)

  module _ (few : top ≤ 2147483648) where
    abbrev Fits : List Row → Type 0
    Fits rs = All (Written out_name) rs

    fits_operand : (o o' : Operand) → LikeOperand o o' → Fits (operand_row o) → Fits (operand_row o')
    unfolding operand_row path_rows
    fits_operand o o' alike a = a
    fits_operand o o' (renamed {space} {name} {z} j h) (w & a) =
        let q = ref_parts space (Id name) 0 z w in
        ref_fit space (Id (fresh j)) 0 z q.space_low (fresh_fits j (omega arith)) (omega arith) q.z_low & done

    fits_operands : (os os' : List Operand) → LikeOperands os os' → Fits (operand_rows os) → Fits (operand_rows os')
    unfolding operand_rows
    fits_operands [] [] stop a = a
    fits_operands (o ∷ os) (o' ∷ os') (next l ls) a =
        all_append (operand_row o') (operand_rows os') (fits_operand o o' l (all_left (operand_row o) (operand_rows os) a)) (fits_operands os os' ls (all_right (operand_row o) (operand_rows os) a))
    fits_operands [] (o' ∷ os') x4 a = elim x4 [ ]
    fits_operands (o ∷ os) [] x4 a = elim x4 [ ]

    fits_with : (h : Head) (os : List Operand) → (Fits (operand_rows h.operands) → Fits (operand_rows os)) → Fits (head_rows h) → Fits (head_rows (with_operands h os))
    unfolding head_rows with_operands
    fits_with h os f (w & a) =
        w & all_append (decl_rows h.decls) _ (all_left (decl_rows h.decls) _ a)
        (all_append (operand_rows os) _ (f (all_left (operand_rows h.operands) _ (all_right (decl_rows h.decls) _ a))) (all_right (operand_rows h.operands) _ (all_right (decl_rows h.decls) _ a)))

    fits_head : (h h' : Head) → LikeHead h h' → Fits (head_rows h) → Fits (head_rows h')
    fits_head h h' l a = subst (λ (x : Head). Fits (head_rows x)) (sym l.rest) (fits_with h h'.operands (fits_operands h.operands h'.operands l.operands) a)

    mutual
      unfolding flatten

      pub like_fits : (s s' : Scope) → LikeScope s s' → All (Written out_name) (flatten s) → All (Written out_name) (flatten s')
      like_fits (scope kind name fs) (scope kind' name' fs') l (w & a) =
          subst (λ (x : ℕ). Fits (flatten (scope x name' fs'))) (sym l.0) (subst (λ (x : ℕ). Fits (flatten (scope kind x fs'))) (sym l.1)
          (w & all_append (fields_rows fs') _ (fits_fields fs fs' l.2 (all_left (fields_rows fs) _ a)) (all_right (fields_rows fs) _ a)))

      fits_fields : (fs fs' : Fields) → LikeFields fs fs' → Fits (fields_rows fs) → Fits (fields_rows fs')
      fits_fields end end l a = a
      fits_fields end (i ▸ fs) l a = absurd l
      fits_fields (i ▸ fs) end l a = absurd l
      fits_fields (i ▸ fs) (i' ▸ fs') l a =
          all_append (item_rows i') (fields_rows fs') (fits_item i i' l.0 (all_left (item_rows i) (fields_rows fs) a)) (fits_fields fs fs' l.1 (all_right (item_rows i) (fields_rows fs) a))

      fits_item : (i i' : Item) → LikeItem i i' → Fits (item_rows i) → Fits (item_rows i')
      fits_item (plain h) (plain h') l a = fits_head h h' l a
      fits_item (plain h) (holds h' s') l a = absurd l
      fits_item (holds h s) (plain h') l a = absurd l
      fits_item (holds h s) (holds h' s') l a =
          all_append (head_rows h') (flatten s') (fits_head h h' l.0 (all_left (head_rows h) (flatten s) a)) (like_fits s s' l.1 (all_right (head_rows h) (flatten s) a))

  -- ---- the marks are such

  abbrev Small : List Served → Type 0
  Small seen = All (λ m. m.k < top) seen

  small_served : (seen : List Served) (space name : ℕ) → Small seen → Ok (λ j. j < top) (served_by seen space name)
  unfolding served_by
  small_served [] space name a = tt
  small_served (m ∷ ms) space name (h & a) = if_both (Ok (λ (j : ℕ). j < top)) _ _ _ h (small_served ms space name a)

  -- `rows` are those of what is marked
  record Step {A : Type 0} (L : A → Type 0) (k rows : ℕ) (m : Marked A) : Type 0 where
    like : L m.now
    small : Small m.seen
    grows : m.k ≤ k + rows

  mark_outer_lem : (seen : List Served) (k space name z : ℕ) (o : Option ℕ) → Small seen → k + 1 ≤ top → Ok (λ j. j < top) o → Step (LikeOperand (ref space (Id name) [] z)) k 1 (mark_outer seen k space name z o)
  unfolding mark_outer
  mark_outer_lem seen k space name z none a h p = let l : k < top = omega arith in record { like = alike; small = l & a; grows = omega arith }
  mark_outer_lem seen k space name z (some j) a h p = record { like = renamed j p; small = a; grows = omega arith }

  module _ (ds : List Declaration) where
    mark_operand_lem : (seen : List Served) (k : ℕ) (o : Operand) → Small seen → k + length (operand_row o) ≤ top → Step (LikeOperand o) k (length (operand_row o)) (mark_operand ds seen k o)
    unfolding mark_operand operand_row path_rows
    mark_operand_lem seen k (ref space (Num n) [] z) a h = record { like = alike; small = a; grows = omega arith }
    mark_operand_lem seen k (ref space (Id name) [] z) a h =
        if_both (Step (LikeOperand (ref space (Id name) [] z)) k 1) _ _ _ (record { like = alike; small = a; grows = omega arith })
        (mark_outer_lem seen k space name z (served_by seen space name) a h (small_served seen space name a))
    mark_operand_lem seen k (ref space at (p ∷ ps) z) a h = record { like = alike; small = a; grows = omega (arith, paths_length ps) }
    mark_operand_lem seen k (outer space up at z) a h = record { like = alike; small = a; grows = omega arith }
    mark_operand_lem seen k (case name z) a h = record { like = alike; small = a; grows = omega arith }

    mark_operands_lem : (seen : List Served) (k : ℕ) (os : List Operand) → Small seen → k + length (operand_rows os) ≤ top → Step (LikeOperands os) k (length (operand_rows os)) (mark_operands ds seen k os)
    unfolding mark_operands operand_rows
    mark_operands_lem seen k [] a h = record { like = stop; small = a; grows = omega arith }
    mark_operands_lem seen k (o ∷ os) a h =
        let S = mark_operand_lem seen k o a (omega (arith, length-append (operand_row o) (operand_rows os))) in
        let T = mark_operands_lem (mark_operand ds seen k o).seen (mark_operand ds seen k o).k os S.small (omega (arith, S.grows, length-append (operand_row o) (operand_rows os))) in
        record { like = next S.like T.like; small = T.small; grows = omega (arith, S.grows, T.grows, length-append (operand_row o) (operand_rows os)) }

    alike_all : (os : List Operand) → LikeOperands os os
    alike_all [] = stop
    alike_all (o ∷ os) = next alike (alike_all os)

    mark_head_lem : (seen : List Served) (k : ℕ) (h : Head) → Small seen → k + length (head_rows h) ≤ top → Step (LikeHead h) k (length (head_rows h)) (mark_head ds seen k h)
    unfolding mark_head with_operands
    mark_head_lem seen k h a e =
        let T = mark_operands_lem seen k h.operands a (omega (arith, head_length h)) in
        if_both (Step (LikeHead h) k (length (head_rows h))) _ _ _ (record { like = record { operands = alike_all h.operands; rest = refl }; small = a; grows = omega arith })
        (record { like = record { operands = T.like; rest = refl }; small = T.small; grows = omega (arith, T.grows, head_length h) })

  -- the rows of a scope's fields, and those of the scopes inside
  level_rows : Fields → ℕ
  level_rows end = 0
  level_rows (i ▸ fs) = length (head_rows (head_of i)) + level_rows fs

  inner_rows : Fields → ℕ
  inner_rows end = 0
  inner_rows (i ▸ fs) = inner i + inner_rows fs

  level_inner : (fs : Fields) → length (fields_rows fs) ≡ level_rows fs + inner_rows fs
  unfolding level_rows inner_rows
  level_inner end = no_rows_lem
  level_inner (i ▸ fs) = omega (arith, fields_size i fs, item_size i, level_inner fs)

  insertions_grow : (ds : List Declaration) (seen : List Served) (k : ℕ) (fs : Fields) → Small seen → k + level_rows fs ≤ top → insertions ds seen k fs ≤ k + level_rows fs
  unfolding insertions level_rows
  insertions_grow ds seen k end a h = omega arith
  insertions_grow ds seen k (i ▸ fs) a h =
      let S = mark_head_lem ds seen k (head_of i) a (omega arith) in
      let T = insertions_grow ds (mark_head ds seen k (head_of i)).seen (mark_head ds seen k (head_of i)).k fs S.small (omega (arith, S.grows)) in
      omega (arith, S.grows, T)

  level_next : (i : Item) (fs : Fields) → (level_rows (i ▸ fs) ≡ length (head_rows (head_of i)) + level_rows fs) × (inner_rows (i ▸ fs) ≡ inner i + inner_rows fs)
  unfolding level_rows inner_rows
  level_next i fs = (refl, refl)

  plain_like : (h h' : Head) → LikeHead (head_of (plain h)) h' → LikeHead h h'
  unfolding head_of
  plain_like h h' l = l

  holds_like : (h h' : Head) (s : Scope) → LikeHead (head_of (holds h s)) h' → LikeHead h h'
  unfolding head_of
  holds_like h h' s l = l

  mutual
    unfolding mark_scope

    mark_scope_lem : (s : Scope) (k : ℕ) → k + length (flatten s) ≤ top → LikeScope s (mark_scope s k).0 × ((mark_scope s k).1 ≤ k + length (flatten s))
    mark_scope_lem (scope kind name fs) k h =
        let I = insertions_grow (declarations fs) [] k fs done (omega (arith, scope_rows kind name fs, level_inner fs)) in
        let T = mark_fields_lem fs (declarations fs) [] k (insertions (declarations fs) [] k fs) done (omega (arith, scope_rows kind name fs, level_inner fs)) (omega (arith, I, scope_rows kind name fs, level_inner fs)) in
        ((refl, refl, T.0), omega (arith, T.1, I, scope_rows kind name fs, level_inner fs))

    mark_fields_lem : (fs : Fields) (ds : List Declaration) (seen : List Served) (b k : ℕ) → Small seen → b + level_rows fs ≤ top → k + inner_rows fs ≤ top
        → LikeFields fs (mark_fields fs ds seen b k).0 × ((mark_fields fs ds seen b k).1 ≤ k + inner_rows fs)
    mark_fields_lem end ds seen b k a h e = (tt, omega arith)
    mark_fields_lem (i ▸ fs) ds seen b k a h e =
        let L = level_next i fs in
        let S = mark_head_lem ds seen b (head_of i) a (omega (arith, L.0)) in
        let J = mark_item_lem i (mark_head ds seen b (head_of i)).now k S.like (omega (arith, L.1)) in
        let T = mark_fields_lem fs ds (mark_head ds seen b (head_of i)).seen (mark_head ds seen b (head_of i)).k (mark_item i (mark_head ds seen b (head_of i)).now k).1 S.small
        (omega (arith, S.grows, L.0)) (omega (arith, J.1, L.1)) in
        ((J.0, T.0), omega (arith, J.1, T.1, L.1))

    mark_item_lem : (i : Item) (h' : Head) (k : ℕ) → LikeHead (head_of i) h' → k + inner i ≤ top → LikeItem i (mark_item i h' k).0 × ((mark_item i h' k).1 ≤ k + inner i)
    mark_item_lem (plain h) h' k l e = (plain_like h h' l, omega arith)
    mark_item_lem (holds h s) h' k l e =
        let T = mark_scope_lem s k (omega (arith, holds_inner h s)) in ((holds_like h h' s l, T.0), omega (arith, T.1, holds_inner h s))

-- the tree that is worked on, from insertion k on
pub scope_like : (s : Scope) (k : ℕ) → LikeScope (k + length (flatten s)) s (mark_scope s k).0
scope_like s k = (mark_scope_lem (k + length (flatten s)) s k (omega arith)).0

-- and for an input of this many rows
pub marked_like : (s : Scope) → LikeScope (length (flatten s)) s (mark s)
unfolding mark
marked_like s = (mark_scope_lem (length (flatten s)) s 0 (omega arith)).0
