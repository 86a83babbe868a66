-- The fields of an input and of its output, side by side: those of the output are the input's in their order, and inserted ones among them,
-- which hold no scope.
use Rattle.std.specs.Prelude.{◌≡◌, refl, Bool, true, false, [], ℕ}
use Rattle.std.proofs.Common.{arith}
use Rattle.rules.specs.Tools.{when◌then◌else◌}
use Rattle.rules.specs.Versions.{RuleSet}
use Rattle.rules.specs.Tree.{Head, Scope, scope, Fields, end, ◌▸◌, Item, plain, holds, head_of}
use Rattle.rules.specs.Rules.{ok, resolve}
use Rattle.rules.specs.Readings.{is_inserted, fields_of}
use Rattle.rules.specs.Laws.Meaning.Names.{LowScope, low_scope, DeclScope, DeclFields, DeclItem}
use Rattle.rules.proofs.Laws.Meaning.Lookups.{low_original}
use Rattle.rules.proofs.Laws.Output.Kept.{blank, blank_fields, blank_item, without, without_fields, without_item, IsAlias, AliasesScope, AliasesFields, AliasesItem, kept}

mutual
  pub data PairedFields : Fields → Fields → Type 0 where
    ends : PairedFields end end
    comes : {h : Head} {fs gs : Fields} → is_inserted h ≡ true → PairedFields fs gs → PairedFields fs (plain h ▸ gs)
    stays : {i j : Item} {fs gs : Fields} → is_inserted (head_of i) ≡ false → is_inserted (head_of j) ≡ false → PairedItems i j → PairedFields fs gs → PairedFields (i ▸ fs) (j ▸ gs)

  pub data PairedItems : Item → Item → Type 0 where
    plains : {h k : Head} → PairedItems (plain h) (plain k)
    hold : {h k : Head} {kind name kind' name' : ℕ} {fs gs : Fields} → PairedFields fs gs → PairedItems (holds h (scope kind name fs)) (holds k (scope kind' name' gs))

-- ---- of an accepted run

comes_in : (j : Item) {fs gs : Fields} → is_inserted (head_of j) ≡ true → IsAlias j → PairedFields fs gs → PairedFields fs (j ▸ gs)
unfolding head_of
comes_in (plain h) e a P = comes e P
comes_in (holds h s) e a P = absurd a

-- the next field of the output
next : (j : Item) (gs fs : Fields) → blank_fields (without_fields (j ▸ gs)) ≡ blank_fields fs → AliasesFields (j ▸ gs) → DeclFields fs
    → ((fs : Fields) → blank_fields (without_fields gs) ≡ blank_fields fs → DeclFields fs → PairedFields fs gs)
    → ((i : Item) → blank_item (without_item j) ≡ blank_item i → DeclItem i → PairedItems i j) → PairedFields fs (j ▸ gs)
unfolding blank without when◌then◌else◌
next j gs fs e a low rest item = go (is_inserted (head_of j)) refl fs e low
  where
    go : (b : Bool) → is_inserted (head_of j) ≡ b → (fs : Fields) → blank_fields (when b then without_fields gs else without_item j ▸ without_fields gs) ≡ blank_fields fs → DeclFields fs → PairedFields fs (j ▸ gs)
    go true q fs e low = comes_in j q (a.0 q) (rest fs e low)
    go false q end e low = let no_way : ◌≡◌ {A = ℕ} 0 1 = cc in absurd (omega arith)
    go false q (i ▸ fs) e low =
        let first : blank_item (without_item j) ≡ blank_item i = cc in
        let others : blank_fields (without_fields gs) ≡ blank_fields fs = cc in
        stays (low_original (head_of i) low.0) q (item i first low.1) (rest fs others low.2)

none_left : (fs : Fields) → blank_fields (without_fields end) ≡ blank_fields fs → PairedFields fs end
unfolding blank without
none_left end e = ends
none_left (i ▸ fs) e = let no_way : ◌≡◌ {A = ℕ} 0 1 = cc in absurd (omega arith)

plain_pairs : (k : Head) (i : Item) → blank_item (without_item (plain k)) ≡ blank_item i → PairedItems i (plain k)
unfolding blank without
plain_pairs k (plain h) e = plains
plain_pairs k (holds h s) e = let no_way : ◌≡◌ {A = ℕ} 0 1 = cc in absurd (omega arith)

hold_pairs : (k : Head) (t : Scope) (i : Item) → blank_item (without_item (holds k t)) ≡ blank_item i → DeclItem i → ((s : Scope) → blank (without t) ≡ blank s → DeclScope s → PairedFields (fields_of s) (fields_of t)) → PairedItems i (holds k t)
unfolding blank without
hold_pairs k t (plain h) e low inner = let no_way : ◌≡◌ {A = ℕ} 0 1 = cc in absurd (omega arith)
hold_pairs k (scope kind' name' gs) (holds h (scope kind name fs)) e low inner =
    let held : blank (without (scope kind' name' gs)) ≡ blank (scope kind name fs) = cc in hold (inner (scope kind name fs) held low)

scope_pairs : (kind name : ℕ) (gs : Fields) (s : Scope) → blank (without (scope kind name gs)) ≡ blank s → DeclScope s
    → ((fs : Fields) → blank_fields (without_fields gs) ≡ blank_fields fs → DeclFields fs → PairedFields fs gs) → PairedFields (fields_of s) gs
unfolding blank without
scope_pairs kind name gs (scope kind' name' fs) e low inner = let fields : blank_fields (without_fields gs) ≡ blank_fields fs = cc in inner fs fields low

mutual
  scopes_paired : (t s : Scope) → blank (without t) ≡ blank s → AliasesScope t → DeclScope s → PairedFields (fields_of s) (fields_of t)
  scopes_paired (scope kind name gs) s e a low = scope_pairs kind name gs s e low (λ fs q l. fields_paired gs fs q a l)

  fields_paired : (gs fs : Fields) → blank_fields (without_fields gs) ≡ blank_fields fs → AliasesFields gs → DeclFields fs → PairedFields fs gs
  fields_paired end fs e a low = none_left fs e
  fields_paired (j ▸ gs) fs e a low = next j gs fs e a low (λ fs q l. fields_paired gs fs q a.2 l) (λ i q l. items_paired j i q a.1 l)

  items_paired : (j i : Item) → blank_item (without_item j) ≡ blank_item i → AliasesItem j → DeclItem i → PairedItems i j
  items_paired (plain k) i e a low = plain_pairs k i e
  items_paired (holds k t) i e a low = hold_pairs k t i e low (λ s q l. scopes_paired t s q a l)

-- The input's tree and the output's.
pub run_pairs : (rules : RuleSet) (s : Scope) (r : Scope × ℕ) → LowScope s → resolve rules s ≡ ok r → PairedFields (fields_of s) (fields_of r.0)
unfolding resolve
run_pairs rules s r low e = let K = kept rules [] s r (low_scope s low) e in scopes_paired r.0 s K.same K.aliases (low_scope s low)
