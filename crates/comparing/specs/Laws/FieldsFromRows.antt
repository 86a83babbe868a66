-- A root's fields are told from its rows alone, and as they count too: equal rows are those of equal fields.
use Rattle.std.specs.Prelude.{◌≡◌, Bool}
use Rattle.std.proofs.Math.Path.{refl}
use Rattle.std.proofs.Common.{ap, sym, ◌∙◌}
use Rattle.std.proofs.Math.Bool.{true, false}
use Rattle.std.proofs.Math.Option.{Option, none, some}
use mathlib.Core.List.{List, [], ◌∷◌, ◌++◌, map, append_assoc, append-nil}
use Prim.Native.Nat.{ℕ, zero, suc, pred}
use Rattle.rules.specs.Rows.{Row, Field, Decl, Ref, Path, Outer, Case, Open, Close, Export}
use Rattle.rules.specs.Tree.{Declaration, Operand, ref, outer, case, Head, Scope, scope, Fields, end, ◌▸◌, Item, plain, holds, decl_rows, path_rows, operand_row, operand_rows, export_rows, head_rows, flatten, fields_rows, item_rows}
use Rattle.comparing.specs.Compare.{Choice, blur, items}
use Rattle.rules.specs.Laws.ToolLaws.{All, done, ◌&◌, all_append}

-- ---- rows read apart where a field begins while no scope inside is open

record Apart : Type 0 where
  before : List Row
  fields : List (List Row)

begins : (depth : ℕ) → Row → Bool
begins zero (Field code builtin z) = true
begins (suc d) (Field code builtin z) = false
begins d (Decl space name z) = false
begins d (Ref space at paths z) = false
begins d (Path name) = false
begins d (Outer space up at z) = false
begins d (Case name z) = false
begins d (Open kind name) = false
begins d Close = false
begins d (Export name) = false

after : (depth : ℕ) → Row → ℕ
after d (Field code builtin z) = d
after d (Decl space name z) = d
after d (Ref space at paths z) = d
after d (Path name) = d
after d (Outer space up at z) = d
after d (Case name z) = d
after d (Open kind name) = suc d
after d Close = pred d
after d (Export name) = d

-- the row stands before what follows, or begins a field with it
joined : Bool → Row → Apart → Apart
joined false r a = record { before = r ∷ a.before; fields = a.fields }
joined true r a = record { before = []; fields = (r ∷ a.before) ∷ a.fields }

apart : (depth : ℕ) → List Row → Apart
apart d [] = record { before = []; fields = [] }
apart d (r ∷ rs) = joined (begins d r) r (apart (after d r) rs)

-- ---- what counts of the rows tells it too

module _ (c : Choice) where
  begins_blur : (d : ℕ) (r : Row) → begins d (blur c r) ≡ begins d r
  unfolding begins blur
  begins_blur zero (Field code builtin z) = refl
  begins_blur (suc d) (Field code builtin z) = refl
  begins_blur d (Decl space name z) = refl
  begins_blur d (Ref space at paths z) = refl
  begins_blur d (Path name) = refl
  begins_blur d (Outer space up at z) = refl
  begins_blur d (Case name z) = refl
  begins_blur d (Open kind name) = refl
  begins_blur d Close = refl
  begins_blur d (Export name) = refl

  after_blur : (d : ℕ) (r : Row) → after d (blur c r) ≡ after d r
  unfolding after blur
  after_blur d (Field code builtin z) = refl
  after_blur d (Decl space name z) = refl
  after_blur d (Ref space at paths z) = refl
  after_blur d (Path name) = refl
  after_blur d (Outer space up at z) = refl
  after_blur d (Case name z) = refl
  after_blur d (Open kind name) = refl
  after_blur d Close = refl
  after_blur d (Export name) = refl

  blurred : Apart → Apart
  blurred a = record { before = map (blur c) a.before; fields = map (map (blur c)) a.fields }

  joined_blur : (b : Bool) (r : Row) (a : Apart) → joined b (blur c r) (blurred a) ≡ blurred (joined b r a)
  unfolding joined blurred
  joined_blur true r a = refl
  joined_blur false r a = refl

  apart_blur : (d : ℕ) (rs : List Row) → apart d (map (blur c) rs) ≡ blurred (apart d rs)
  unfolding apart blurred
  apart_blur d [] = refl
  apart_blur d (r ∷ rs) = rw (begins_blur d r, after_blur d r, apart_blur (after d r) rs) (joined_blur (begins d r) r (apart (after d r) rs))

-- ---- rows inside a field

-- they stand before what follows
ahead : List Row → Apart → Apart
ahead rs a = record { before = rs ++ a.before; fields = a.fields }

ahead_append : (xs ys : List Row) (a : Apart) → ahead xs (ahead ys a) ≡ ahead (xs ++ ys) a
unfolding ahead
ahead_append xs ys a = ap (λ (l : List Row). record { before = l; fields = a.fields }) (sym (append_assoc xs ys a.before))

-- neither FIELD, OPEN nor CLOSE
record Inner (r : Row) : Type 0 where
  none_begins : (d : ℕ) → begins d r ≡ false
  stays : (d : ℕ) → after d r ≡ d

apart_inner : (d : ℕ) (xs rs : List Row) → All Inner xs → apart d (xs ++ rs) ≡ ahead xs (apart d rs)
unfolding apart ahead joined
apart_inner d [] rs done = refl
apart_inner d (x ∷ xs) rs (h & a) = rw (h.none_begins d, h.stays d, apart_inner d xs rs a)

decls_inner : (ds : List Declaration) → All Inner (decl_rows ds)
unfolding decl_rows begins after
decls_inner [] = done
decls_inner (d ∷ ds) = record { none_begins = λ d. refl; stays = λ d. refl } & decls_inner ds

paths_inner : (ps : List ℕ) → All Inner (path_rows ps)
unfolding path_rows begins after
paths_inner [] = done
paths_inner (p ∷ ps) = record { none_begins = λ d. refl; stays = λ d. refl } & paths_inner ps

operand_inner : (o : Operand) → All Inner (operand_row o)
unfolding operand_row begins after
operand_inner (ref space at paths z) = record { none_begins = λ d. refl; stays = λ d. refl } & paths_inner paths
operand_inner (outer space up at z) = record { none_begins = λ d. refl; stays = λ d. refl } & done
operand_inner (case name z) = record { none_begins = λ d. refl; stays = λ d. refl } & done

operands_inner : (os : List Operand) → All Inner (operand_rows os)
unfolding operand_rows
operands_inner [] = done
operands_inner (o ∷ os) = all_append (operand_row o) (operand_rows os) (operand_inner o) (operands_inner os)

export_inner : (e : Option ℕ) → All Inner (export_rows e)
unfolding export_rows begins after
export_inner none = done
export_inner (some n) = record { none_begins = λ d. refl; stays = λ d. refl } & done

-- a field's rows but for the first, and without its scope
abbrev behind_field : Head → List Row
behind_field h = decl_rows h.decls ++ (operand_rows h.operands ++ export_rows h.export)

behind_inner : (h : Head) → All Inner (behind_field h)
behind_inner h = all_append (decl_rows h.decls) _ (decls_inner h.decls) (all_append (operand_rows h.operands) (export_rows h.export) (operands_inner h.operands) (export_inner h.export))

-- a field inside another begins none
head_inside : (d : ℕ) (h : Head) (rs : List Row) → apart (suc d) (head_rows h ++ rs) ≡ ahead (head_rows h) (apart (suc d) rs)
unfolding apart head_rows begins after joined ahead
head_inside d h rs = rw (apart_inner (suc d) (behind_field h) rs (behind_inner h))

mutual
  unfolding apart flatten begins after joined ahead

  scope_inside : (s : Scope) (d : ℕ) (rs : List Row) → apart d (flatten s ++ rs) ≡ ahead (flatten s) (apart d rs)
  scope_inside (scope kind name fs) d rs =
      rw (append_assoc (fields_rows fs) (Close ∷ []) rs, fields_inside fs d (Close ∷ rs), append_assoc (fields_rows fs) (Close ∷ []) (apart d rs).before)

  fields_inside : (fs : Fields) (d : ℕ) (rs : List Row) → apart (suc d) (fields_rows fs ++ rs) ≡ ahead (fields_rows fs) (apart (suc d) rs)
  fields_inside end d rs = refl
  fields_inside (i ▸ fs) d rs =
      ap (apart (suc d)) (append_assoc (item_rows i) (fields_rows fs) rs) ∙ item_inside i d (fields_rows fs ++ rs)
      ∙ ap (ahead (item_rows i)) (fields_inside fs d rs) ∙ ahead_append (item_rows i) (fields_rows fs) (apart (suc d) rs)

  item_inside : (i : Item) (d : ℕ) (rs : List Row) → apart (suc d) (item_rows i ++ rs) ≡ ahead (item_rows i) (apart (suc d) rs)
  item_inside (plain h) d rs = head_inside d h rs
  item_inside (holds h s) d rs =
      ap (apart (suc d)) (append_assoc (head_rows h) (flatten s) rs) ∙ head_inside d h (flatten s ++ rs)
      ∙ ap (ahead (head_rows h)) (scope_inside s (suc d) rs) ∙ ahead_append (head_rows h) (flatten s) (apart (suc d) rs)

-- ---- the root's fields

-- with what follows up to the next field, they are one
led : List Row → Apart → Apart
led rs a = record { before = []; fields = (rs ++ a.before) ∷ a.fields }

item_apart : (i : Item) (rs : List Row) → apart 0 (item_rows i ++ rs) ≡ led (item_rows i) (apart 0 rs)
unfolding apart flatten head_rows begins after joined ahead led
item_apart (plain h) rs = rw (apart_inner 0 (behind_field h) rs (behind_inner h))
item_apart (holds h s) rs =
    rw (
      append_assoc (behind_field h) (flatten s) rs,
      apart_inner 0 (behind_field h) (flatten s ++ rs) (behind_inner h),
      scope_inside s 0 rs,
      append_assoc (behind_field h) (flatten s) (apart 0 rs).before,
    )

unfoldable pub items_rows : List Item → List Row
items_rows [] = []
items_rows (i ∷ is) = item_rows i ++ items_rows is

items_apart : (is : List Item) → apart 0 (items_rows is) ≡ record { before = []; fields = map item_rows is }
unfolding apart items_rows led
items_apart [] = refl
items_apart (i ∷ is) = item_apart i (items_rows is) ∙ rw (items_apart is, append-nil (item_rows i))

pub fields_items : (fs : Fields) → items_rows (items fs) ≡ fields_rows fs
unfolding items_rows items flatten
fields_items end = refl
fields_items (i ▸ fs) = ap (λ (l : List Row). item_rows i ++ l) (fields_items fs)

fields_apart : (fs : Fields) → apart 0 (fields_rows fs) ≡ record { before = []; fields = map item_rows (items fs) }
fields_apart fs = ap (apart 0) (sym (fields_items fs)) ∙ items_apart (items fs)

-- Roots whose fields' rows are equal as they count have fields that are equal as they count.
pub fields_equal : (c : Choice) (fs fs' : Fields) → map (blur c) (fields_rows fs) ≡ map (blur c) (fields_rows fs')
    → map (map (blur c)) (map item_rows (items fs)) ≡ map (map (blur c)) (map item_rows (items fs'))
unfolding blurred
fields_equal c fs fs' e =
    ap (λ (a : Apart). a.fields) (
    sym (ap (blurred c) (fields_apart fs)) ∙ sym (apart_blur c 0 (fields_rows fs)) ∙ ap (apart 0) e ∙ apart_blur c 0 (fields_rows fs')
    ∙ ap (blurred c) (fields_apart fs'))

-- ---- rows at the end that are those of a field

depth : ℕ → List Row → ℕ
depth d [] = d
depth d (r ∷ rs) = depth (after d r) rs

depth_append : (d : ℕ) (xs ys : List Row) → depth d (xs ++ ys) ≡ depth (depth d xs) ys
unfolding depth
depth_append d [] ys = refl
depth_append d (x ∷ xs) ys = depth_append (after d x) xs ys

depth_blur : (c : Choice) (d : ℕ) (rs : List Row) → depth d (map (blur c) rs) ≡ depth d rs
unfolding depth
depth_blur c d [] = refl
depth_blur c d (r ∷ rs) = ap (λ (k : ℕ). depth k (map (blur c) rs)) (after_blur c d r) ∙ depth_blur c (after d r) rs

depth_inner : (d : ℕ) (xs : List Row) → All Inner xs → depth d xs ≡ d
unfolding depth
depth_inner d [] done = refl
depth_inner d (x ∷ xs) (h & a) = rw (h.stays d) (depth_inner d xs a)

depth_head : (d : ℕ) (h : Head) → depth d (head_rows h) ≡ d
unfolding depth head_rows after
depth_head d h = depth_inner d (behind_field h) (behind_inner h)

mutual
  unfolding depth flatten after

  scope_depth : (s : Scope) (d : ℕ) → depth d (flatten s) ≡ d
  scope_depth (scope kind name fs) d = depth_append (suc d) (fields_rows fs) (Close ∷ []) ∙ ap (λ (k : ℕ). depth k (Close ∷ [])) (fields_depth fs (suc d))

  fields_depth : (fs : Fields) (d : ℕ) → depth d (fields_rows fs) ≡ d
  fields_depth end d = refl
  fields_depth (i ▸ fs) d = depth_append d (item_rows i) (fields_rows fs) ∙ ap (λ (k : ℕ). depth k (fields_rows fs)) (item_depth i d) ∙ fields_depth fs d

  item_depth : (i : Item) (d : ℕ) → depth d (item_rows i) ≡ d
  item_depth (plain h) d = depth_head d h
  item_depth (holds h s) d = depth_append d (head_rows h) (flatten s) ∙ ap (λ (k : ℕ). depth k (flatten s)) (depth_head d h) ∙ scope_depth s d

items_depth : (is : List Item) (d : ℕ) → depth d (items_rows is) ≡ d
unfolding depth items_rows
items_depth [] d = refl
items_depth (i ∷ is) d = depth_append d (item_rows i) (items_rows is) ∙ ap (λ (k : ℕ). depth k (items_rows is)) (item_depth i d) ∙ items_depth is d

-- fields behind
behind : Apart → List (List Row) → Apart
behind a fs = record { before = a.before; fields = a.fields ++ fs }

joined_behind : (b : Bool) (r : Row) (a : Apart) (fs : List (List Row)) → joined b r (behind a fs) ≡ behind (joined b r a) fs
unfolding joined behind
joined_behind true r a fs = refl
joined_behind false r a fs = refl

apart_append : (d : ℕ) (xs ys : List Row) (fs : List (List Row)) → apart (depth d xs) ys ≡ record { before = []; fields = fs } → apart d (xs ++ ys) ≡ behind (apart d xs) fs
unfolding apart depth behind
apart_append d [] ys fs e = e
apart_append d (x ∷ xs) ys fs e = ap (joined (begins d x) x) (apart_append (after d x) xs ys fs e) ∙ joined_behind (begins d x) x (apart (after d x) xs) fs

-- If the last rows of fields are those of a field, as they count, then so are those of the last field.
pub last_field : (c : Choice) (is : List Item) (l : Item) (xs : List Row) → map (blur c) (items_rows is) ≡ xs ++ map (blur c) (item_rows l)
    → (fs : List (List Row)) × (map (map (blur c)) (map item_rows is) ≡ fs ++ (map (blur c) (item_rows l) ∷ []))
unfolding blurred led apart behind
last_field c is l xs e =
    let shut : depth 0 xs ≡ 0 =
    sym (item_depth l (depth 0 xs)) ∙ sym (depth_blur c (depth 0 xs) (item_rows l)) ∙ sym (depth_append 0 xs (map (blur c) (item_rows l)))
    ∙ ap (depth 0) (sym e) ∙ depth_blur c 0 (items_rows is) ∙ items_depth is 0 in
    let one : apart (depth 0 xs) (map (blur c) (item_rows l)) ≡ record { before = []; fields = map (blur c) (item_rows l) ∷ [] } =
    ap (λ (k : ℕ). apart k (map (blur c) (item_rows l))) shut ∙ apart_blur c 0 (item_rows l)
    ∙ ap (λ (rs : List Row). blurred c (apart 0 rs)) (sym (append-nil (item_rows l))) ∙ ap (blurred c) (item_apart l [])
    ∙ ap (λ (rs : List Row). record { before = []; fields = map (blur c) rs ∷ [] }) (append-nil (item_rows l)) in (
      (apart 0 xs).fields,
      ap (λ (a : Apart). a.fields) (
          sym (ap (blurred c) (items_apart is)) ∙ sym (apart_blur c 0 (items_rows is)) ∙ ap (apart 0) e ∙ apart_append 0 xs (map (blur c) (item_rows l)) _ one),
    )
