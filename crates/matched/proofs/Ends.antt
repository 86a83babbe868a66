-- Where a field of a form ends is told by the codes of its rows.
use mathlib.Core.Path.{◌≡◌, refl, ap, ap₂, ◌∙◌}
use mathlib.Core.Bool.{Bool, true, false, ◌&&◌}
use mathlib.Core.Option.{Option, none, some}
use mathlib.Core.List.{List, [], ◌∷◌, ◌++◌, append_assoc}
use Prim.Native.Nat.{ℕ, zero, suc, ◌+◌, ◌-◌, ◌/◌, ◌≤◌}
use native.Mathlib.Omega.{arith}
use lib.Dec.{eqb}
use lib.ListN.{length, length-append}
use borrow.Author.Tests.{ne_eqb}
use Rattle.kit.specs.Pick.{pick}
use Rattle.rules.specs.Rows.{Raw, raw, Row, Field, Decl, Ref, Path, Outer, Case, Open, Close, Export, encode}
use Rattle.rules.specs.Tree.{Declaration, Operand, ref, outer, case, Head, Scope, scope, Fields, end, ◌▸◌, Item, plain, holds, decl_rows, path_rows, operand_row, operand_rows, export_rows, head_rows, flatten, fields_rows, item_rows}
use Rattle.comparing.specs.Laws.FieldsFromRows.{items_rows}
use Rattle.parts.specs.PartsAt.{parts_at}
use Rattle.matched.specs.Counted.{raw_of}
use Rattle.matched.specs.Alike.{code_of, is_behind, depth_behind, end_t, end_behind}

-- ---- rows that stand in bytes, from row i on

abbrev pub At : List ℕ → (i : ℕ) → List Row → Type 0
At l i [] = Unit {0}
At l i (r ∷ rs) = (raw_of (parts_at l i) ≡ encode r) × At l (i + 1) rs

pub at_first : (l : List ℕ) (i : ℕ) (xs ys : List Row) → At l i (xs ++ ys) → At l i xs
at_first l i [] ys a = tt
at_first l i (x ∷ xs) ys a = (a.0, at_first l (i + 1) xs ys a.1)

pub at_second : (l : List ℕ) (i : ℕ) (xs ys : List Row) → At l i (xs ++ ys) → At l (i + length xs) ys
at_second l i [] ys a = let e : i + 0 ≡ i = omega arith in rw e a
at_second l i (x ∷ xs) ys a = let e : i + 1 + length xs ≡ i + length (x ∷ xs) = omega arith in rw e at (at_second l (i + 1) xs ys a.1)

code_in : Raw → ℕ
code_in (raw code b e x y z) = code

row_code : Row → ℕ
row_code r = code_in (encode r)

code_there : (l : List ℕ) (i : ℕ) (r : Row) → raw_of (parts_at l i) ≡ encode r → code_of l i ≡ row_code r
unfolding code_in row_code
code_there l i r e = ap code_in e

-- ---- rows that are passed

-- from depth d on, and behind them the depth is e
abbrev Passes : (d : ℕ) → List Row → (e : ℕ) → Type 0
Passes d xs e = (l : List ℕ) (j left : ℕ) → At l j xs → end_t l j d (length xs + left) ≡ end_t l (j + length xs) e left

pass_none : (d : ℕ) → Passes d [] d
pass_none d l j left a =
    let e : j ≡ j + 0 = omega arith in
    let n : 0 + left ≡ left = omega arith in
    ap₂ (λ (a b : ℕ). end_t l a d b) e n

pass_row : (d e : ℕ) (r : Row) (xs : List Row) (f : ℕ) → is_behind d (row_code r) ≡ false → depth_behind d (row_code r) ≡ e → Passes e xs f → Passes d (r ∷ xs) f
unfolding end_t pick
pass_row d e r xs f b k p l j left a =
    let n : suc (length xs) + left ≡ suc (length xs + left) = omega arith in
    let m : j + 1 + length xs ≡ j + suc (length xs) = omega arith in
    rw (n, code_there l j r a.0, b, k, p l (j + 1) left a.1, m)

pass_both : (d e f : ℕ) (xs ys : List Row) → Passes d xs e → Passes e ys f → Passes d (xs ++ ys) f
pass_both d e f xs ys p q l j left a =
    let n : length (xs ++ ys) + left ≡ length xs + (length ys + left) = omega (arith, length-append xs ys) in
    let m : j + length xs + length ys ≡ j + length (xs ++ ys) = omega (arith, length-append xs ys) in
    rw n (p l j (length ys + left) (at_first l j xs ys a) ∙ q l (j + length xs) left (at_second l j xs ys a) ∙ ap (λ (k : ℕ). end_t l k f left) m)

-- ---- by their kinds

-- neither FIELD, OPEN nor CLOSE
record Inner (r : Row) : Type 0 where
  passed : (d : ℕ) → is_behind d (row_code r) ≡ false
  stays : (d : ℕ) → depth_behind d (row_code r) ≡ d

inner : (code : ℕ) (d : ℕ) → (code ≡ 1 → ⊥) → (code ≡ 8 → ⊥) → is_behind d code ≡ false
unfolding is_behind
inner code d p q = rw (ne_eqb _ _ p, ne_eqb _ _ q) (and_no (eqb d 0))
  where
    and_no : (b : Bool) → (b && false) ≡ false
    and_no true = refl
    and_no false = refl

level : (code : ℕ) (d : ℕ) → (code ≡ 7 → ⊥) → (code ≡ 8 → ⊥) → depth_behind d code ≡ d
unfolding depth_behind pick
level code d p q = rw (ne_eqb _ _ p, ne_eqb _ _ q)

within : (code : ℕ) → (code ≡ 1 → ⊥) → (code ≡ 7 → ⊥) → (code ≡ 8 → ⊥) → (r : Row) → row_code r ≡ code → Inner r
within code p q s r e = record { passed = λ d. rw e (inner code d p s); stays = λ d. rw e (level code d q s) }

pass_inner : (d e : ℕ) (r : Row) (xs : List Row) → Inner r → Passes d xs e → Passes d (r ∷ xs) e
pass_inner d e r xs h p = pass_row d d r xs e (h.passed d) (h.stays d) p

pass_decls : (d : ℕ) (ds : List Declaration) → Passes d (decl_rows ds) d
unfolding decl_rows row_code code_in encode
pass_decls d [] = pass_none d
pass_decls d (x ∷ ds) =
    let r = Decl x.space x.name x.z in
    pass_inner d d r (decl_rows ds) (within 2 (omega arith) (omega arith) (omega arith) r refl) (pass_decls d ds)

pass_paths : (d : ℕ) (ps : List ℕ) → Passes d (path_rows ps) d
unfolding path_rows row_code code_in encode
pass_paths d [] = pass_none d
pass_paths d (p ∷ ps) = pass_inner d d (Path p) (path_rows ps) (within 4 (omega arith) (omega arith) (omega arith) (Path p) refl) (pass_paths d ps)

pass_operand : (d : ℕ) (o : Operand) → Passes d (operand_row o) d
unfolding operand_row row_code code_in encode
pass_operand d (ref space at paths z) =
    let r = Ref space at (length paths) z in
    pass_inner d d r (path_rows paths) (within 3 (omega arith) (omega arith) (omega arith) r refl) (pass_paths d paths)
pass_operand d (outer space up at z) = pass_inner d d (Outer space up at z) [] (within 5 (omega arith) (omega arith) (omega arith) (Outer space up at z) refl) (pass_none d)
pass_operand d (case name z) = pass_inner d d (Case name z) [] (within 6 (omega arith) (omega arith) (omega arith) (Case name z) refl) (pass_none d)

pass_operands : (d : ℕ) (os : List Operand) → Passes d (operand_rows os) d
unfolding operand_rows
pass_operands d [] = pass_none d
pass_operands d (o ∷ os) = pass_both d d d (operand_row o) (operand_rows os) (pass_operand d o) (pass_operands d os)

pass_export : (d : ℕ) (e : Option ℕ) → Passes d (export_rows e) d
unfolding export_rows row_code code_in encode
pass_export d none = pass_none d
pass_export d (some n) = pass_inner d d (Export n) [] (within 9 (omega arith) (omega arith) (omega arith) (Export n) refl) (pass_none d)

-- a field's rows but for the first, and without its scope
abbrev behind_field : Head → List Row
behind_field h = decl_rows h.decls ++ (operand_rows h.operands ++ export_rows h.export)

pass_behind : (d : ℕ) (h : Head) → Passes d (behind_field h) d
pass_behind d h =
    pass_both d d d (decl_rows h.decls) (operand_rows h.operands ++ export_rows h.export) (pass_decls d h.decls)
    (pass_both d d d (operand_rows h.operands) (export_rows h.export) (pass_operands d h.operands) (pass_export d h.export))

-- where a scope is open inside, a FIELD and a CLOSE are passed too
deeper : (code d : ℕ) → is_behind (suc d) code ≡ false
unfolding is_behind
deeper code d = rw (ne_eqb (suc d) 0 (omega arith))

pass_head : (d : ℕ) (h : Head) → Passes (suc d) (head_rows h) (suc d)
unfolding head_rows row_code code_in encode
pass_head d h = pass_row (suc d) (suc d) (Field h.code h.builtin h.z) (behind_field h) (suc d) (deeper 1 d) (level 1 (suc d) (omega arith) (omega arith)) (pass_behind (suc d) h)

mutual
  unfolding flatten row_code code_in encode is_behind depth_behind pick

  pass_scope : (s : Scope) (d : ℕ) → Passes d (flatten s) d
  pass_scope (scope kind name fs) d =
      pass_row d (suc d) (Open kind name) (fields_rows fs ++ (Close ∷ [])) d (inner 7 d (omega arith) (omega arith)) (let e : d + 1 ≡ suc d = omega arith in e)
      (pass_both (suc d) (suc d) d (fields_rows fs) (Close ∷ []) (pass_fields fs d)
      (pass_row (suc d) d Close [] d (deeper 8 d) (let e : suc d - 1 ≡ d = omega arith in e) (pass_none d)))

  pass_fields : (fs : Fields) (d : ℕ) → Passes (suc d) (fields_rows fs) (suc d)
  pass_fields end d = pass_none (suc d)
  pass_fields (i ▸ fs) d = pass_both (suc d) (suc d) (suc d) (item_rows i) (fields_rows fs) (pass_item i d) (pass_fields fs d)

  pass_item : (i : Item) (d : ℕ) → Passes (suc d) (item_rows i) (suc d)
  pass_item (plain h) d = pass_head d h
  pass_item (holds h s) d = pass_both (suc d) (suc d) (suc d) (head_rows h) (flatten s) (pass_head d h) (pass_scope s (suc d))

-- ---- the root's fields

-- a field's rows but for the first
rest_rows : Item → List Row
rest_rows (plain h) = behind_field h
rest_rows (holds h s) = behind_field h ++ flatten s

first_row : Item → Row
first_row (plain h) = Field h.code h.builtin h.z
first_row (holds h s) = Field h.code h.builtin h.z

item_rows_lem : (i : Item) → item_rows i ≡ first_row i ∷ rest_rows i
unfolding first_row rest_rows flatten head_rows
item_rows_lem (plain h) = refl
item_rows_lem (holds h s) = refl

pass_rest : (i : Item) → Passes 0 (rest_rows i) 0
unfolding rest_rows
pass_rest (plain h) = pass_behind 0 h
pass_rest (holds h s) = pass_both 0 0 0 (behind_field h) (flatten s) (pass_behind 0 h) (pass_scope s 0)

first_code : (i : Item) → row_code (first_row i) ≡ 1
unfolding first_row row_code code_in encode
first_code (plain h) = refl
first_code (holds h s) = refl

-- these fields, and then the root's CLOSE, are the rows from i on
pub record Stands (l : List ℕ) (i : ℕ) (is : List Item) : Type 0 where
  pub rows : At l i (items_rows is ++ (Close ∷ []))
  pub count : length l / 16 ≡ i + length (items_rows is) + 1

-- a field's rows, and those of the others
pub item_at : (l : List ℕ) (i : ℕ) (x : Item) (is : List Item) → Stands l i (x ∷ is) → At l i (item_rows x)
unfolding items_rows
item_at l i x is s = at_first l i (item_rows x) (items_rows is ++ (Close ∷ [])) (rw (append_assoc (item_rows x) (items_rows is) (Close ∷ [])) at s.rows)

pub stands_next : (l : List ℕ) (i : ℕ) (x : Item) (is : List Item) → Stands l i (x ∷ is) → Stands l (i + length (item_rows x)) is
unfolding items_rows
stands_next l i x is s =
    let c = s.count in
    record {
      rows = at_second l i (item_rows x) (items_rows is ++ (Close ∷ [])) (rw (append_assoc (item_rows x) (items_rows is) (Close ∷ [])) at s.rows);
      count = omega (arith, length-append (item_rows x) (items_rows is));
    }

stands_behind : (l : List ℕ) (i : ℕ) (is : List Item) → Stands l i is → is_behind 0 (code_of l i) ≡ true
unfolding items_rows is_behind row_code code_in encode
stands_behind l i [] s = rw (code_there l i Close s.rows.0)
stands_behind l i (x ∷ is) s =
    let a : At l i (first_row x ∷ rest_rows x) = rw (item_rows_lem x) at (item_at l i x is s) in
    rw (code_there l i (first_row x) a.0 ∙ first_code x)

ends_here : (l : List ℕ) (i left : ℕ) → is_behind 0 (code_of l i) ≡ true → end_t l i 0 left ≡ i
unfolding end_t pick
ends_here l i zero h = refl
ends_here l i (suc left) h = rw h

pub item_long_lem : (x : Item) → 1 ≤ length (item_rows x)
item_long_lem x = rw (item_rows_lem x) (omega arith)

-- Where the code finds the end of a field it is.
pub item_end : (l : List ℕ) (i : ℕ) (x : Item) (is : List Item) → Stands l i (x ∷ is) → end_behind l i ≡ i + length (item_rows x)
item_end l i x is s =
    let next = stands_next l i x is s in
    let c = next.count in
    let k = length (items_rows is) + 1 in
    let size : length (item_rows x) ≡ suc (length (rest_rows x)) = ap length (item_rows_lem x) in
    let a : At l i (first_row x ∷ rest_rows x) = rw (item_rows_lem x) at (item_at l i x is s) in
    let n : length l / 16 - (i + 1) ≡ length (rest_rows x) + k = omega arith in
    let m : i + 1 + length (rest_rows x) ≡ i + length (item_rows x) = omega arith in
    ap (end_t l (i + 1) 0) n ∙ pass_rest x l (i + 1) k a.1 ∙ ap (λ (j : ℕ). end_t l j 0 k) m ∙ ends_here l (i + length (item_rows x)) k (stands_behind l (i + length (item_rows x)) is next)
