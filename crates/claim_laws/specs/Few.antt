-- There is room for all that is entered for a claim: an added alias has three rows and one slot, and any other DECL stands in the input too.
use Rattle.std.specs.Prelude.{◌≡◌, List, [], ◌∷◌, ◌++◌, ℕ, suc, ◌+◌, ◌*◌, ◌<◌, ◌≤◌, length}
use Rattle.std.proofs.Math.Path.{refl}
use Rattle.std.proofs.Common.{ap, length-append}
use native.Mathlib.Omega.{arith}
use Rattle.rules.specs.Versions.{RuleSet}
use Rattle.rules.specs.Tree.{Declaration, Head, Scope, scope, Fields, end, ◌▸◌, Item, plain, holds, head_of, head_rows, flatten, fields_rows, item_rows}
use Rattle.rules.specs.Good.{GoodHead, GoodScope, GoodFields, GoodItem}
use Rattle.rules.specs.Readings.{is_inserted}
use Rattle.rules.proofs.Laws.Output.Kept.{blank_head, blank, blank_item, without, without_item}
use Rattle.checking.proofs.Laws.AddedFields.{Added, IsAdded, added_head, AddedScope, AddedFields, AddedItem}
use Rattle.checking.proofs.Laws.Beside.{Beside, stop, skip, both, same_head, same_decls}
use Rattle.claim_numbers.specs.Count.{no_counts}
use Rattle.claim_laws.specs.RowParts.{scope_size, fields_size, holds_size, head_size, head_decls_size, item_size}
use Rattle.claim_laws.specs.Pairs.{other_kinds, kinds_other, same_inner, beside_scope}
use Rattle.claim_laws.specs.AliasShape.{good_head, alias_size, alias_of_lem}
use Rattle.claim_laws.specs.Slots.{head_declared, counts_by, scope_slots, fields_slots, item_slots, fields_length}

module _ (rules : RuleSet) where
  added_few : (kind : ℕ) (h : Head) → GoodHead rules kind h → Added h → 3 * length h.decls ≤ length (head_rows h)
  added_few kind h g A =
      let n = ap length A.alone in
      let l = alias_size h A.decl A.alone (alias_of_lem rules kind h g A.coded) in
      omega arith

  own_few : (h w : Head) → blank_head h ≡ blank_head w → 3 * length h.decls ≤ length (head_rows h) + 2 * length (head_rows w)
  own_few h w e =
      let a = head_decls_size h in
      let b = head_decls_size w in
      let n = ap length (same_decls h w e) in
      omega arith

  abbrev ScopeFew : (n : ℕ) (c s : Scope) → Type 0
  ScopeFew n c s = 3 * length (scope_slots n c) ≤ length (flatten c) + 2 * length (flatten s)

  abbrev FieldsFew : (k n : ℕ) (cnt : List ℕ) (cs fs : Fields) → Type 0
  FieldsFew k n cnt cs fs = 3 * length (fields_slots k n cnt cs) ≤ length (fields_rows cs) + 2 * length (fields_rows fs)

  abbrev ItemFew : (n : ℕ) (i w : Item) → Type 0
  ItemFew n i w = 3 * length (head_of i).decls + 3 * length (item_slots n i) ≤ length (item_rows i) + 2 * length (item_rows w)

  end_few : (k n : ℕ) (cnt : List ℕ) (fs : Fields) → FieldsFew k n cnt end fs
  unfolding scope_slots
  end_few k n cnt fs = omega arith

  plain_slots : (n : ℕ) (i : Item) → IsAdded i → length (item_slots n i) ≡ 0
  unfolding scope_slots
  plain_slots n (plain h) a = refl
  plain_slots n (holds h s) a = absurd a

  plain_few : (n : ℕ) (h w : Head) → blank_head h ≡ blank_head w → ItemFew n (plain h) (plain w)
  unfolding scope_slots flatten head_of
  plain_few n h w e = let l = own_few h w e in omega arith

  holds_few : (n : ℕ) (h w : Head) (c s : Scope) → blank_head h ≡ blank_head w → ScopeFew n c s → ItemFew n (holds h c) (holds w s)
  unfolding scope_slots head_of
  holds_few n h w c s e f =
      let l = own_few h w e in
      let a = holds_size h c in
      let b = holds_size w s in
      omega arith

  scope_few_is : (n kind name kind' name' : ℕ) (cs fs : Fields) → FieldsFew n (suc n) no_counts cs fs → ScopeFew n (scope kind name cs) (scope kind' name' fs)
  unfolding scope_slots
  scope_few_is n kind name kind' name' cs fs f =
      let a = scope_size kind name cs in
      let b = scope_size kind' name' fs in
      omega arith

  mutual
    unfolding head_of

    scope_few : (c : Scope) (n : ℕ) (s : Scope) → GoodScope rules c → AddedScope c → blank (without c) ≡ blank s → ScopeFew n c s
    scope_few (scope kind name cs) n (scope kind' name' fs) g a e = scope_few_is n kind name kind' name' cs fs (fields_few cs kind n (suc n) no_counts fs g a (beside_scope kind name cs kind' name' fs e))

    fields_few : (cs : Fields) (kind k n : ℕ) (cnt : List ℕ) (fs : Fields) → GoodFields rules cs kind → AddedFields cs → Beside cs fs → FieldsFew k n cnt cs fs
    fields_few end kind k n cnt end g a stop = end_few k n cnt end
    fields_few (i ▸ cs) kind k n cnt fs g a (skip t p) =
        let A = added_few kind (head_of i) (good_head rules i kind g.0) (added_head i (a.0 t)) in
        let z = plain_slots (n + length (head_rows (head_of i))) i (a.0 t) in
        let e = fields_length k n cnt i cs in
        let f = fields_size i cs in
        let h = item_size i in
        let r = fields_few cs kind k (n + length (item_rows i)) (counts_by cnt (head_declared n (head_of i))) fs g.1 a.2 p in
        omega arith
    fields_few (i ▸ cs) kind k n cnt (w ▸ fs) g a (both t q p) =
        let I = item_few i kind (n + length (head_rows (head_of i))) w g.0 a.1 q in
        let e = fields_length k n cnt i cs in
        let f = fields_size i cs in
        let h = fields_size w fs in
        let r = fields_few cs kind k (n + length (item_rows i)) (counts_by cnt (head_declared n (head_of i))) fs g.1 a.2 p in
        omega arith
    fields_few end kind k n cnt (w ▸ fs) g a x12 = elim x12 [ ]

    item_few : (i : Item) (kind n : ℕ) (w : Item) → GoodItem rules i kind → AddedItem i → blank_item (without_item i) ≡ blank_item w → ItemFew n i w
    item_few (plain h) kind n (plain w) g a e = plain_few n h w (same_head (plain h) (plain w) e)
    item_few (plain h) kind n (holds w s) g a e = kinds_other h w s e
    item_few (holds h c) kind n (plain w) g a e = other_kinds h w c e
    item_few (holds h c) kind n (holds w s) g a e = holds_few n h w c s (same_head (holds h c) (holds w s) e) (scope_few c n s g.3 a (same_inner h w c s e))

  -- Twice the rows of an input are enough for a claim of four times as many.
  pub few_slots : (most : ℕ) (c s : Scope) → GoodScope rules c → AddedScope c → blank (without c) ≡ blank s → length (flatten c) ≤ 4 * most → length (flatten s) ≤ most → length (scope_slots 0 c) ≤ 2 * most
  few_slots most c s g a e l h = let f = scope_few c 0 s g a e in omega arith
