-- The fields of a scope of a claim beside the input's: each is added or is the input's next.
use Rattle.std.specs.Prelude.{◌≡◌, Bool}
use Rattle.std.proofs.Math.Path.{refl, ap, subst}
use Rattle.std.proofs.Common.{sym, ◌∙◌, arith}
use Rattle.std.proofs.Math.Bool.{true, false}
use Rattle.std.proofs.Math.Option.{none, some}
use mathlib.Core.List.{List, [], ◌∷◌, ◌++◌, map}
use Prim.Native.Nat.{ℕ, zero, suc, ◌+◌, ◌≤◌}
use Rattle.std.proofs.Math.ListN.{length, get_elem?}
use Rattle.rules.specs.Tools.{when◌then◌else◌, ◌or_else◌}
use Rattle.rules.specs.Versions.{top_name}
use Rattle.rules.specs.Tree.{Declaration, Operand, Head, Scope, scope, Fields, end, ◌▸◌, Item, plain, holds, head_of, with_operands, item_rows}
use Rattle.rules.specs.Rules.{Env}
use Rattle.rules.specs.Readings.{is_fresh, is_inserted, originals, standings, first_named, inserted, in_original, in_inserted}
use Rattle.checking.specs.Check.{operand_right, not_right, head_operands, scope_operands, fields_operands, item_operands}
use Rattle.rules.specs.Laws.ToolLaws.{leb_le}
use Rattle.read_form.proofs.Laws.Parting.{or_else_first, or_else_second}
use Rattle.rules.specs.Laws.Results.{no_option, some_same}
use Rattle.rules.specs.Laws.Meaning.Names.{LowHead, LowFields, LowItem}
use Rattle.rules.proofs.Laws.Meaning.Lookups
use Rattle.rules.proofs.Laws.Output.Kept.{blank_operand, blank_head, blank, blank_fields, blank_item, without, without_fields, without_item}
use Rattle.checking.proofs.Laws.SameFields.{BareFields, BareItem}
use Rattle.checking.proofs.Laws.AddedFields.{Added, AddedFields, AddedItem, added_head}

pub data Beside : (claim input : Fields) → Type 0 where
  stop : Beside end end
  skip : {i : Item} {cs fs : Fields} → is_inserted (head_of i) ≡ true → Beside cs fs → Beside (i ▸ cs) fs
  both : {i w : Item} {cs fs : Fields} → is_inserted (head_of i) ≡ false → blank_item (without_item i) ≡ blank_item w → Beside cs fs → Beside (i ▸ cs) (w ▸ fs)

no_next : {X : Type 0} (i : Item) (fs : Fields) → end ≡ i ▸ fs → X
no_next i fs e = let z : ◌≡◌ {A = ℕ} 0 1 = cc in absurd (omega arith)

next_item : (i w : Item) (cs fs : Fields) → i ▸ cs ≡ w ▸ fs → i ≡ w
next_item i w cs fs e = cc

next_fields : (i w : Item) (cs fs : Fields) → i ▸ cs ≡ w ▸ fs → cs ≡ fs
next_fields i w cs fs e = cc

beside_end : (fs : Fields) → blank_fields end ≡ blank_fields fs → Beside end fs
unfolding blank
beside_end end e = stop
beside_end (w ▸ fs) e = no_next _ _ e

beside_own : (i : Item) (cs fs : Fields) → is_inserted (head_of i) ≡ false → ((gs : Fields) → blank_fields (without_fields cs) ≡ blank_fields gs → Beside cs gs)
    → blank_fields (without_item i ▸ without_fields cs) ≡ blank_fields fs → Beside (i ▸ cs) fs
unfolding blank
beside_own i cs end n f e = no_next _ _ (sym e)
beside_own i cs (w ▸ fs) n f e = both n (next_item _ _ _ _ e) (f fs (next_fields _ _ _ _ e))

beside_next : (i : Item) (cs fs : Fields) (b : Bool) → is_inserted (head_of i) ≡ b → ((gs : Fields) → blank_fields (without_fields cs) ≡ blank_fields gs → Beside cs gs)
    → blank_fields (when b then without_fields cs else without_item i ▸ without_fields cs) ≡ blank_fields fs → Beside (i ▸ cs) fs
unfolding when◌then◌else◌
beside_next i cs fs true n f e = skip n (f fs e)
beside_next i cs fs false n f e = beside_own i cs fs n f e

pub beside : (cs fs : Fields) → blank_fields (without_fields cs) ≡ blank_fields fs → Beside cs fs
unfolding without
beside end fs e = beside_end fs e
beside (i ▸ cs) fs e = beside_next i cs fs (is_inserted (head_of i)) refl (beside cs) e

-- ---- what two items have in common

item_head : (i : Item) → head_of (blank_item i) ≡ blank_head (head_of i)
unfolding blank head_of
item_head (plain h) = refl
item_head (holds h s) = refl

without_head : (i : Item) → head_of (without_item i) ≡ head_of i
unfolding without head_of
without_head (plain h) = refl
without_head (holds h s) = refl

pub same_head : (i w : Item) → blank_item (without_item i) ≡ blank_item w → blank_head (head_of i) ≡ blank_head (head_of w)
same_head i w e = ap blank_head (sym (without_head i)) ∙ (sym (item_head (without_item i)) ∙ (ap head_of e ∙ item_head w))

pub same_operands : (h h' : Head) → blank_head h ≡ blank_head h' → map blank_operand h.operands ≡ map blank_operand h'.operands
unfolding blank_head with_operands
same_operands h h' e = ap (λ (x : Head). x.operands) e

pub same_decls : (h h' : Head) → blank_head h ≡ blank_head h' → h.decls ≡ h'.decls
unfolding blank_head with_operands
same_decls h h' e = ap (λ (x : Head). x.decls) e

pub same_export : (h h' : Head) → blank_head h ≡ blank_head h' → h.export ≡ h'.export
unfolding blank_head with_operands
same_export h h' e = ap (λ (x : Head). x.export) e

-- ---- a name of the input has the same first declaration in the claim

standings_inserted : (n : ℕ) (i : Item) (cs : Fields) → is_inserted (head_of i) ≡ true → standings n (i ▸ cs) ≡ in_inserted (head_of i) (head_of i).decls ++ standings n cs
unfolding standings when◌then◌else◌
standings_inserted n i cs e = rw e

past_added : (h : Head) (space name : ℕ) → name ≤ top_name → Added h → first_named (in_inserted h h.decls) space name ≡ none
unfolding in_inserted first_named is_fresh
past_added h space name low a =
    let high = leb_le 2147483648 a.decl.name a.new in
    ap (λ (ds : List Declaration). first_named (in_inserted h ds) space name) a.alone
    ∙ Lookups.first_other (record { decl = a.decl; spot = inserted h }) [] space name (omega arith)

pub same_first : (cs fs : Fields) (n space name : ℕ) → Beside cs fs → AddedFields cs → LowFields fs → name ≤ top_name → first_named (standings n cs) space name ≡ first_named (standings n fs) space name
same_first end end n space name stop a l low = refl
same_first (i ▸ cs) fs n space name (skip e b) a l low =
    ap (λ ss. first_named ss space name) (standings_inserted n i cs e)
    ∙ (Lookups.first_past (in_inserted (head_of i) (head_of i).decls) (standings n cs) space name (past_added (head_of i) space name low (added_head i (a.0 e))) ∙ same_first cs fs n space name b a.2 l low)
same_first (i ▸ cs) (w ▸ fs) n space name (both e s b) a l low =
    rw (
      Lookups.standings_original n i cs e,
      same_decls (head_of i) (head_of w) (same_head i w s),
      Lookups.standings_original n w fs (Lookups.low_original (head_of w) l.0.decls),
      Lookups.first_append (in_original n 0 (head_of w).decls) (standings (suc n) cs) space name,
      Lookups.first_append (in_original n 0 (head_of w).decls) (standings (suc n) fs) space name,
      same_first cs fs (suc n) space name b a.2 l.2 low,
    )
same_first end (w ▸ fs) n space name x8 a l low = elim x8 [ ]

-- ---- the field of the claim at a place

pub record Picked (cs : Fields) (f : ℕ) (w : Item) (here : Scope) (outside : List Env) : Type 0 where
  pub i : Item
  pub there : get_elem? (originals cs) f ≡ some i
  pub same : blank_item (without_item i) ≡ blank_item w
  pub bare : BareItem i
  pub added : AddedItem i
  pub row : ℕ
  pub right : item_operands row i here outside w ≡ none
  pub low_head : LowHead (head_of w)
  pub low_item : LowItem w

originals_inserted : (i : Item) (cs : Fields) → is_inserted (head_of i) ≡ true → originals (i ▸ cs) ≡ originals cs
unfolding originals when◌then◌else◌
originals_inserted i cs e = rw e

module _ (here : Scope) (outside : List Env) where
  pub right_skip : (n : ℕ) (i : Item) (cs fs : Fields) → is_inserted (head_of i) ≡ true → fields_operands n (i ▸ cs) here outside fs ≡ none → (m : ℕ) × ((fields_operands m cs here outside fs ≡ none))
  unfolding scope_operands when◌then◌else◌
  right_skip n i cs end t e = (n, right_end n cs)
    where
      right_end : (n : ℕ) (cs : Fields) → fields_operands n cs here outside end ≡ none
      right_end n end = refl
      right_end n (i ▸ cs) = refl
  right_skip n i cs (w ▸ fs) t e = (n + length (item_rows i), rw t at e)

  pub record Rights (n : ℕ) (i w : Item) (cs fs : Fields) : Type 0 where
    pub first : item_operands n i here outside w ≡ none
    pub row : ℕ
    pub rest : fields_operands row cs here outside fs ≡ none

  pub right_both : (n : ℕ) (i w : Item) (cs fs : Fields) → is_inserted (head_of i) ≡ false → fields_operands n (i ▸ cs) here outside (w ▸ fs) ≡ none → Rights n i w cs fs
  unfolding scope_operands when◌then◌else◌
  right_both n i w cs fs t e =
      let f : (item_operands n i here outside w or_else fields_operands (n + length (item_rows i)) cs here outside fs) ≡ none = rw t at e in
      record { first = or_else_first (item_operands n i here outside w) _ f; row = _; rest = or_else_second (item_operands n i here outside w) _ f }

  pub pick : (cs fs : Fields) (n f : ℕ) (w : Item) → Beside cs fs → BareFields cs → AddedFields cs → LowFields fs → fields_operands n cs here outside fs ≡ none → get_elem? (originals fs) f ≡ some w
      → Picked cs f w here outside
  unfolding originals
  pick end end n f w stop d a l e g = no_option w g
  pick (i ▸ cs) fs n f w (skip t b) d a l e g =
      let R = right_skip n i cs fs t e in
      let P = pick cs fs R.0 f w b d.1 a.2 l R.1 g in
      record { i = P.i; there = ap (λ (x : List Item). get_elem? x f) (originals_inserted i cs t) ∙ P.there; same = P.same; bare = P.bare; added = P.added; row = P.row; right = P.right; low_head = P.low_head; low_item = P.low_item }
  pick (i ▸ cs) (w₀ ▸ fs) n zero w (both t s b) d a l e g =
      let same_w : w₀ ≡ w = some_same w₀ w (rw (Lookups.originals_original w₀ fs (Lookups.low_original (head_of w₀) l.0.decls)) at g) in
      let R = right_both n i w₀ cs fs t e in
      subst (λ (x : Item). Picked (i ▸ cs) 0 x here outside) same_w
      (record { i = i; there = rw (Lookups.originals_original i cs t); same = s; bare = d.0; added = a.1; row = n; right = R.first; low_head = l.0; low_item = l.1 })
  pick (i ▸ cs) (w₀ ▸ fs) n (suc f) w (both t s b) d a l e g =
      let R = right_both n i w₀ cs fs t e in
      let P = pick cs fs R.row f w b d.1 a.2 l.2 R.rest (rw (Lookups.originals_original w₀ fs (Lookups.low_original (head_of w₀) l.0.decls)) at g) in
      record { i = P.i; there = rw (Lookups.originals_original i cs t) P.there; same = P.same; bare = P.bare; added = P.added; row = P.row; right = P.right; low_head = P.low_head; low_item = P.low_item }
  pick end (w₀ ▸ fs) n f w x12 d a l e g = elim x12 [ ]

-- ---- a field of both

pub same_scope : (h h' : Head) (s s' : Scope) → holds h s ≡ holds h' s' → s ≡ s'
same_scope h h' s s' e = cc

pub no_holds : {X : Type 0} (h h' : Head) (s : Scope) → plain h ≡ holds h' s → X
no_holds h h' s e = let z : ◌≡◌ {A = ℕ} 0 1 = cc in absurd (omega arith)

pub same_inside : (kind name kind' name' : ℕ) (fs fs' : Fields) → scope kind name fs ≡ scope kind' name' fs' → fs ≡ fs'
same_inside kind name kind' name' fs fs' e = cc

pub item_operands_lem : (n : ℕ) (i : Item) (here : Scope) (outside : List Env) (w : Item) → item_operands n i here outside w ≡ none → head_operands here outside n (head_of i) (head_of w) ≡ none
unfolding scope_operands head_of
item_operands_lem n (plain h) here outside w e = e
item_operands_lem n (holds h s) here outside (plain w) e = e
item_operands_lem n (holds h s) here outside (holds w t) e = or_else_first (head_operands here outside n h w) _ e

-- the first of several operands, and the others
module _ (here : Scope) (outside : List Env) where
  pub record Firsts (n : ℕ) (x w : Operand) (now was : List Operand) : Type 0 where
    pub first : operand_right here outside w x ≡ true
    pub rest : not_right here outside (suc n) now was ≡ none

  pub firsts : (n : ℕ) (x w : Operand) (now was : List Operand) → not_right here outside n (x ∷ now) (w ∷ was) ≡ none → Firsts n x w now was
  unfolding not_right when◌then◌else◌
  firsts n x w now was e = go (operand_right here outside w x) refl e
    where
      go : (b : Bool) → operand_right here outside w x ≡ b → (when b then not_right here outside (suc n) now was else some n) ≡ none → Firsts n x w now was
      go true t f = record { first = t; rest = f }
      go false t f = no_option n (sym f)

pub head_not_right : (here : Scope) (outside : List Env) (n : ℕ) (h h₀ : Head) → head_operands here outside n h h₀ ≡ none → (m : ℕ) × (not_right here outside m h.operands h₀.operands ≡ none)
unfolding head_operands
head_not_right here outside n h h₀ e = (_, e)
