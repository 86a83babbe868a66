-- The rows of a form are those that mending leaves: its root's CLOSE is its last row by the count of codes, and what 01 says is zero is.
use Rattle.std.specs.Prelude.{◌≡◌, refl, Bool, true, false, List, [], ◌∷◌, ◌++◌, map, ℕ, zero, suc, ◌+◌, ◌*◌, ◌-◌, ◌/◌, ◌%◌, ◌≤◌, eqb, leb, length, take, drop, replicate}
use Rattle.std.proofs.Common.{ap, ap₂, sym, ◌∙◌, subst, append_assoc, arith, length-drop, drop_of_length-le}
use Rattle.std.proofs.Math.Option.{Option, none, some}
use Rattle.rules.specs.Tools.{when◌then◌else◌}
use Rattle.rules.specs.Versions.{RuleSet}
use Rattle.rules.specs.Rows.{value, bytes, raw, raw_at, Index, Num, Id, Row, Field, Decl, Ref, Path, Outer, Case, Open, Close, Export, decode, decode_row, encode, flag}
use Rattle.rules.specs.Tree.{Declaration, Operand, ref, outer, case, Head, Scope, scope, Fields, end, ◌▸◌, Item, plain, holds, decl_rows, path_rows, operand_row, operand_rows, export_rows, head_rows, flatten, fields_rows, item_rows}
use Rattle.rules.specs.Shapes.{builtin_ok}
use Rattle.rules.specs.Good.{GoodScope, GoodFields, GoodItem}
use Rattle.rules.specs.Answer.{rows_of}
use Rattle.mending.specs.Mend.{Fate, stays, zeroed, two_bits, fates, fated, parts, row_pieces, closes_root, depth_after, all_rows}
use Rattle.rules.specs.Laws.ToolLaws.{ok_at, eqb-true, leb-false, All, done, ◌&◌, all_append}
use Rattle.rules.specs.Laws.RowLaws.{Bytes, bytes_drop, decode_parts}
use Rattle.mending.proofs.Laws.Pieces.{Stays}
use Rattle.mending.proofs.Laws.Undone.{drop-drop}

-- ---- lists of bytes

pub take_within : (bs : List ℕ) (j k n : ℕ) → j + k ≤ n → take k (drop j (take n bs)) ≡ take k (drop j bs)
take_within bs zero zero n h = refl
take_within bs zero (suc k) zero h = absurd (omega arith)
take_within [] zero (suc k) (suc n) h = refl
take_within (b ∷ bs) zero (suc k) (suc n) h = ap (λ (l : List ℕ). b ∷ l) (take_within bs zero k n (omega arith))
take_within bs (suc j) k zero h = absurd (omega arith)
take_within [] (suc j) k (suc n) h = refl
take_within (b ∷ bs) (suc j) k (suc n) h = take_within bs j k n (omega arith)

pub zero_bytes : (bs : List ℕ) → value bs ≡ 0 → bs ≡ replicate (length bs) 0
unfolding value
zero_bytes [] e = refl
zero_bytes (b ∷ bs) e =
    let h : b ≡ 0 = omega arith in let t : value bs ≡ 0 = omega arith in ap₂ (λ (x : ℕ) (l : List ℕ). x ∷ l) h (zero_bytes bs t)

pub bytes_again : (bs : List ℕ) → Bytes bs → bytes (length bs) (value bs) ≡ bs
unfolding value bytes
bytes_again [] done = refl
bytes_again (b ∷ bs) (h & a) =
    let low : (b + 256 * value bs) % 256 ≡ b = omega arith in
    let high : (b + 256 * value bs) / 256 ≡ value bs = omega arith in
    ap₂ (λ (x : ℕ) (l : List ℕ). x ∷ l) low (ap (bytes (length bs)) high ∙ bytes_again bs a)

pub bytes_take : (n : ℕ) (bs : List ℕ) → Bytes bs → Bytes (take n bs)
bytes_take zero bs a = done
bytes_take (suc n) [] a = done
bytes_take (suc n) (b ∷ bs) (h & a) = h & bytes_take n bs a

-- ---- one row

-- what makes a part stay
abbrev FineAt : Fate → List ℕ → Type 0
FineAt stays p = Unit {0}
FineAt zeroed p = value p ≡ 0
FineAt two_bits p = Bytes p × (value p ≤ 3)

fine_stays : (f : Fate) (p : List ℕ) → FineAt f p → p ≡ fated f p
unfolding fated
fine_stays stays p h = refl
fine_stays zeroed p h = zero_bytes p h
fine_stays two_bits p h = let low : value p % 4 ≡ value p = omega (arith, h.1) in sym (ap (bytes (length p)) low ∙ bytes_again p h.0)

abbrev Fine : (ws : List ℕ) → List Fate → List ℕ → Type 0
Fine [] fs bs = Unit {0}
Fine (w ∷ ws) [] bs = Unit {0}
Fine (w ∷ ws) (f ∷ fs) bs = FineAt f (take w bs) × Fine ws fs (drop w bs)

parts_stay : (ws : List ℕ) (fs : List Fate) (bs : List ℕ) → Fine ws fs bs → All Stays (parts ws fs bs)
unfolding parts
parts_stay [] fs bs h = refl & done
parts_stay (w ∷ ws) [] bs h = refl & done
parts_stay (w ∷ ws) (f ∷ fs) bs h = fine_stays f (take w bs) h.0 & parts_stay ws fs (drop w bs) h.1

-- a FIELD has a builtin's code where it may
abbrev pub FieldOk : Row → Type 0
FieldOk (Field code builtin z) = builtin_ok code builtin ≡ true
FieldOk (Decl space name z) = Unit {0}
FieldOk (Ref space at paths z) = Unit {0}
FieldOk (Path name) = Unit {0}
FieldOk (Outer space up at z) = Unit {0}
FieldOk (Case name z) = Unit {0}
FieldOk (Open kind name) = Unit {0}
FieldOk Close = Unit {0}
FieldOk (Export name) = Unit {0}

-- the five parts behind the code
abbrev Five : List Fate → (b e x y z : List ℕ) → Type 0
Five [] b e x y z = Unit {0}
Five (f ∷ []) b e x y z = ⊥
Five (f ∷ f₂ ∷ []) b e x y z = ⊥
Five (f ∷ f₂ ∷ f₃ ∷ []) b e x y z = ⊥
Five (f ∷ f₂ ∷ f₃ ∷ f₄ ∷ []) b e x y z = ⊥
Five (f ∷ f₂ ∷ f₃ ∷ f₄ ∷ f₅ ∷ fs) b e x y z = FineAt f b × FineAt f₂ e × FineAt f₃ x × FineAt f₄ y × FineAt f₅ z

flag_small : (i : Index) → flag i ≤ 1
unfolding flag
flag_small (Num n) = omega arith
flag_small (Id n) = omega arith

builtin_zero : (b : ℕ) (p : List ℕ) → builtin_ok b (value p) ≡ true → FineAt (when eqb b 19 then stays else when eqb b 22 then stays else zeroed) p
unfolding builtin_ok when◌then◌else◌
builtin_zero b p e = go (eqb b 19) (eqb b 22) e
  where
    go : (t u : Bool) → (when t then leb (value p) 47 else when u then leb (value p) 1 else eqb (value p) 0) ≡ true → FineAt (when t then stays else when u then stays else zeroed) p
    go true u q = tt
    go false true q = tt
    go false false q = eqb-true (value p) 0 q

five_fine : (r : Row) (code : ℕ) (b e x y z : List ℕ) → Bytes e → FieldOk r → encode r ≡ raw code (value b) (value e) (value x) (value y) (value z) → Five (fates code (value b)) b e x y z
unfolding encode fates
five_fine (Field c n z₀) code b e x y z a f q =
    let code_is : code ≡ 1 = cc in let b_is : c ≡ value b = cc in let e_is : n ≡ value e = cc in let x_is : value x ≡ 0 = cc in let y_is : value y ≡ 0 = cc in
    rw code_is (tt, builtin_zero (value b) e (rw (b_is, e_is) at f), x_is, y_is, tt)
five_fine (Decl space name z₀) code b e x y z a f q =
    let code_is : code ≡ 2 = cc in let e_is : value e ≡ 0 = cc in let y_is : value y ≡ 0 = cc in rw code_is (tt, e_is, tt, y_is, tt)
five_fine (Ref space at paths z₀) code b e x y z a f q = let code_is : code ≡ 3 = cc in rw code_is (tt, tt, tt, tt, tt)
five_fine (Path name) code b e x y z a f q =
    let code_is : code ≡ 4 = cc in let b_is : value b ≡ 0 = cc in let e_is : value e ≡ 0 = cc in let y_is : value y ≡ 0 = cc in let z_is : value z ≡ 0 = cc in rw code_is (b_is, e_is, tt, y_is, z_is)
five_fine (Outer space up at z₀) code b e x y z a f q =
    let code_is : code ≡ 5 = cc in let e_is : flag up + 2 * flag at ≡ value e = cc in rw code_is (tt, (a, omega (arith, e_is, flag_small up, flag_small at)), tt, tt, tt)
five_fine (Case name z₀) code b e x y z a f q =
    let code_is : code ≡ 6 = cc in let b_is : value b ≡ 0 = cc in let e_is : value e ≡ 0 = cc in let y_is : value y ≡ 0 = cc in rw code_is (b_is, e_is, tt, y_is, tt)
five_fine (Open kind name) code b e x y z a f q =
    let code_is : code ≡ 7 = cc in let e_is : value e ≡ 0 = cc in let y_is : value y ≡ 0 = cc in let z_is : value z ≡ 0 = cc in rw code_is (tt, e_is, tt, y_is, z_is)
five_fine Close code b e x y z a f q =
    let code_is : code ≡ 8 = cc in let b_is : value b ≡ 0 = cc in let e_is : value e ≡ 0 = cc in let x_is : value x ≡ 0 = cc in let y_is : value y ≡ 0 = cc in let z_is : value z ≡ 0 = cc in rw code_is (b_is, e_is, x_is, y_is, z_is)
five_fine (Export name) code b e x y z a f q =
    let code_is : code ≡ 9 = cc in let b_is : value b ≡ 0 = cc in let e_is : value e ≡ 0 = cc in let y_is : value y ≡ 0 = cc in let z_is : value z ≡ 0 = cc in rw code_is (b_is, e_is, tt, y_is, z_is)

five_parts : (fs : List Fate) (bs : List ℕ) → Five fs (take 1 bs) (take 2 (drop 1 bs)) (take 4 (drop 2 (drop 1 bs))) (take 4 (drop 4 (drop 2 (drop 1 bs)))) (take 4 (drop 4 (drop 4 (drop 2 (drop 1 bs)))))
    → Fine (1 ∷ 2 ∷ 4 ∷ 4 ∷ 4 ∷ []) fs bs
five_parts [] bs h = tt
five_parts (f ∷ []) bs h = absurd h
five_parts (f ∷ f₂ ∷ []) bs h = absurd h
five_parts (f ∷ f₂ ∷ f₃ ∷ []) bs h = absurd h
five_parts (f ∷ f₂ ∷ f₃ ∷ f₄ ∷ []) bs h = absurd h
five_parts (f ∷ f₂ ∷ f₃ ∷ f₄ ∷ f₅ ∷ fs) bs h = (h.0, (h.1, (h.2, (h.3, (h.4, tt)))))

-- a part of a row, however it is cut out
module _ (bs : List ℕ) where
  abbrev row : List ℕ
  row = take 16 bs

  part_e : take 2 (drop 1 (drop 1 row)) ≡ take 2 (drop 2 bs)
  part_e = ap (λ (l : List ℕ). take 2 l) (drop-drop row 1 1 2 refl) ∙ take_within bs 2 2 16 (omega arith)

  part_x : take 4 (drop 2 (drop 1 (drop 1 row))) ≡ take 4 (drop 4 bs)
  part_x = ap (λ (l : List ℕ). take 4 l) (ap (λ (l : List ℕ). drop 2 l) (drop-drop row 1 1 2 refl) ∙ drop-drop row 2 2 4 refl) ∙ take_within bs 4 4 16 (omega arith)

  part_y : take 4 (drop 4 (drop 2 (drop 1 (drop 1 row)))) ≡ take 4 (drop 8 bs)
  part_y =
      ap (λ (l : List ℕ). take 4 l) (ap (λ (l : List ℕ). drop 4 l) (ap (λ (l : List ℕ). drop 2 l) (drop-drop row 1 1 2 refl) ∙ drop-drop row 2 2 4 refl) ∙ drop-drop row 4 4 8 refl)
      ∙ take_within bs 8 4 16 (omega arith)

  part_z : take 4 (drop 4 (drop 4 (drop 2 (drop 1 (drop 1 row))))) ≡ take 4 (drop 12 bs)
  part_z =
      ap (λ (l : List ℕ). take 4 l)
      (ap (λ (l : List ℕ). drop 4 l) (ap (λ (l : List ℕ). drop 4 l) (ap (λ (l : List ℕ). drop 2 l) (drop-drop row 1 1 2 refl) ∙ drop-drop row 2 2 4 refl) ∙ drop-drop row 4 4 8 refl) ∙ drop-drop row 8 4 12 refl)
      ∙ take_within bs 12 4 16 (omega arith)

  row_parts_lem : raw_at bs
      ≡ raw (value (take 1 row)) (value (take 1 (drop 1 row))) (value (take 2 (drop 1 (drop 1 row)))) (value (take 4 (drop 2 (drop 1 (drop 1 row))))) (value (take 4 (drop 4 (drop 2 (drop 1 (drop 1 row))))))
      (value (take 4 (drop 4 (drop 4 (drop 2 (drop 1 (drop 1 row)))))))
  unfolding raw_at
  row_parts_lem = rw (part_e, part_x, part_y, part_z, take_within bs 0 1 16 (omega arith), take_within bs 1 1 16 (omega arith))

row_stays : (names : ℕ) (bs : List ℕ) (r : Row) → Bytes bs → FieldOk r → decode_row names bs ≡ some r → All Stays (row_pieces (take 16 bs))
unfolding row_pieces decode_row
row_stays names bs r a f e =
    let is : encode r ≡ raw_at bs = ok_at (λ (x : Row). encode x ≡ raw_at bs) (decode names (raw_at bs)) r (decode_parts names (raw_at bs)) e in
    let few : Bytes (take 2 (drop 1 (drop 1 (take 16 bs)))) = bytes_take 2 _ (bytes_drop 1 _ (bytes_drop 1 _ (bytes_take 16 bs a))) in
    parts_stay (1 ∷ 1 ∷ 2 ∷ 4 ∷ 4 ∷ 4 ∷ []) _ (take 16 bs) (tt, five_parts (fates (value (take 1 (take 16 bs))) (value (take 1 (drop 1 (take 16 bs))))) (drop 1 (take 16 bs)) (five_fine r _ _ _ _ _ _ few f (is ∙ row_parts_lem bs)))

-- ---- codes

pub code_of : Row → ℕ
code_of (Field code builtin z) = 1
code_of (Decl space name z) = 2
code_of (Ref space at paths z) = 3
code_of (Path name) = 4
code_of (Outer space up at z) = 5
code_of (Case name z) = 6
code_of (Open kind name) = 7
code_of Close = 8
code_of (Export name) = 9

code_first : (r : Row) (code b e x y z : ℕ) → encode r ≡ raw code b e x y z → code ≡ code_of r
unfolding encode code_of
code_first (Field c n z₀) code b e x y z q = cc
code_first (Decl space name z₀) code b e x y z q = cc
code_first (Ref space at paths z₀) code b e x y z q = cc
code_first (Path name) code b e x y z q = cc
code_first (Outer space up at z₀) code b e x y z q = cc
code_first (Case name z₀) code b e x y z q = cc
code_first (Open kind name) code b e x y z q = cc
code_first Close code b e x y z q = cc
code_first (Export name) code b e x y z q = cc

row_code_lem : (names : ℕ) (bs : List ℕ) (r : Row) → decode_row names bs ≡ some r → value (take 1 bs) ≡ code_of r
unfolding decode_row raw_at
row_code_lem names bs r e = code_first r _ _ _ _ _ _ (ok_at (λ (x : Row). encode x ≡ raw_at bs) (decode names (raw_at bs)) r (decode_parts names (raw_at bs)) e)

-- by the count of codes the root's CLOSE is the last of these rows
pub data Ends : (depth : ℕ) → List Row → Type 0 where
  last : {depth : ℕ} {r : Row} → closes_root (code_of r) depth ≡ true → Ends depth (r ∷ [])
  more : {depth : ℕ} {r : Row} {rs : List Row} → closes_root (code_of r) depth ≡ false → Ends (depth_after (code_of r) depth) rs → Ends depth (r ∷ rs)

-- rows that open and close nothing
Neither : Row → Type 0
Neither r = (d : ℕ) → (closes_root (code_of r) d ≡ false) × (depth_after (code_of r) d ≡ d)

past : (depth : ℕ) (xs rs : List Row) → All Neither xs → Ends depth rs → Ends depth (xs ++ rs)
unfolding Neither
past depth [] rs done e = e
past depth (x ∷ xs) rs (h & a) e = more (h depth).0 (subst (λ (d : ℕ). Ends d (xs ++ rs)) (sym (h depth).1) (past depth xs rs a e))

decls_neither : (ds : List Declaration) → All Neither (decl_rows ds)
unfolding decl_rows Neither code_of closes_root depth_after when◌then◌else◌
decls_neither [] = done
decls_neither (d ∷ ds) = (λ n. (refl, refl)) & decls_neither ds

paths_neither : (ps : List ℕ) → All Neither (path_rows ps)
unfolding path_rows Neither code_of closes_root depth_after when◌then◌else◌
paths_neither [] = done
paths_neither (p ∷ ps) = (λ n. (refl, refl)) & paths_neither ps

operand_neither : (o : Operand) → All Neither (operand_row o)
unfolding operand_row Neither code_of closes_root depth_after when◌then◌else◌
operand_neither (ref space at paths z) = (λ n. (refl, refl)) & paths_neither paths
operand_neither (outer space up at z) = (λ n. (refl, refl)) & done
operand_neither (case name z) = (λ n. (refl, refl)) & done

operands_neither : (os : List Operand) → All Neither (operand_rows os)
unfolding operand_rows
operands_neither [] = done
operands_neither (o ∷ os) = all_append (operand_row o) (operand_rows os) (operand_neither o) (operands_neither os)

export_neither : (o : Option ℕ) → All Neither (export_rows o)
unfolding export_rows Neither code_of closes_root depth_after when◌then◌else◌
export_neither none = done
export_neither (some n) = (λ n. (refl, refl)) & done

head_neither : (h : Head) → All Neither (head_rows h)
unfolding head_rows Neither code_of closes_root depth_after when◌then◌else◌
head_neither h = (λ n. (refl, refl)) & all_append (decl_rows h.decls) _ (decls_neither h.decls) (all_append (operand_rows h.operands) _ (operands_neither h.operands) (export_neither h.export))

open_next : (depth kind name : ℕ) (rs : List Row) → Ends (suc depth) rs → Ends depth (Open kind name ∷ rs)
unfolding code_of closes_root depth_after when◌then◌else◌
open_next depth kind name rs e = more refl e

close_next : (depth : ℕ) (rs : List Row) → 1 ≤ depth → Ends depth rs → Ends (suc depth) (Close ∷ rs)
unfolding code_of closes_root depth_after when◌then◌else◌
close_next depth rs h e =
    let same : suc depth - 1 ≡ depth = omega arith in
    more (leb-false (suc depth) 1 (omega arith)) (subst (λ (d : ℕ). Ends d rs) (sym same) e)

close_last : Ends 1 (Close ∷ [])
unfolding code_of closes_root
close_last = last refl

mutual
  unfolding flatten

  scope_ends : (s : Scope) (depth : ℕ) (rs : List Row) → 1 ≤ depth → Ends depth rs → Ends depth (flatten s ++ rs)
  scope_ends (scope kind name fs) depth rs h e =
      open_next depth kind name _ (subst (λ (l : List Row). Ends (suc depth) l) (sym (append_assoc (fields_rows fs) (Close ∷ []) rs)) (fields_end fs (suc depth) (Close ∷ rs) (omega arith) (close_next depth rs h e)))

  fields_end : (fs : Fields) (depth : ℕ) (rs : List Row) → 1 ≤ depth → Ends depth rs → Ends depth (fields_rows fs ++ rs)
  fields_end end depth rs h e = e
  fields_end (i ▸ fs) depth rs h e = subst (λ (l : List Row). Ends depth l) (sym (append_assoc (item_rows i) (fields_rows fs) rs)) (item_ends i depth (fields_rows fs ++ rs) h (fields_end fs depth rs h e))

  item_ends : (i : Item) (depth : ℕ) (rs : List Row) → 1 ≤ depth → Ends depth rs → Ends depth (item_rows i ++ rs)
  item_ends (plain h₀) depth rs h e = past depth (head_rows h₀) rs (head_neither h₀) e
  item_ends (holds h₀ s) depth rs h e = subst (λ (l : List Row). Ends depth l) (sym (append_assoc (head_rows h₀) (flatten s) rs)) (past depth (head_rows h₀) _ (head_neither h₀) (scope_ends s depth rs h e))

-- of every form
pub form_ends : (s : Scope) → Ends 0 (flatten s)
unfolding flatten
form_ends (scope kind name fs) = open_next 0 kind name _ (fields_end fs 1 (Close ∷ []) (omega arith) close_last)

-- ---- the codes of builtins

decls_field : (ds : List Declaration) → All FieldOk (decl_rows ds)
unfolding decl_rows
decls_field [] = done
decls_field (d ∷ ds) = tt & decls_field ds

paths_field : (ps : List ℕ) → All FieldOk (path_rows ps)
unfolding path_rows
paths_field [] = done
paths_field (p ∷ ps) = tt & paths_field ps

operand_field : (o : Operand) → All FieldOk (operand_row o)
unfolding operand_row
operand_field (ref space at paths z) = tt & paths_field paths
operand_field (outer space up at z) = tt & done
operand_field (case name z) = tt & done

operands_field : (os : List Operand) → All FieldOk (operand_rows os)
unfolding operand_rows
operands_field [] = done
operands_field (o ∷ os) = all_append (operand_row o) (operand_rows os) (operand_field o) (operands_field os)

export_field : (o : Option ℕ) → All FieldOk (export_rows o)
unfolding export_rows
export_field none = done
export_field (some n) = tt & done

head_field : (h : Head) → builtin_ok h.code h.builtin ≡ true → All FieldOk (head_rows h)
unfolding head_rows
head_field h e = e & all_append (decl_rows h.decls) _ (decls_field h.decls) (all_append (operand_rows h.operands) _ (operands_field h.operands) (export_field h.export))

module _ (rules : RuleSet) where
  mutual
    unfolding flatten

    pub scope_field : (s : Scope) → GoodScope rules s → All FieldOk (flatten s)
    scope_field (scope kind name fs) g = tt & all_append (fields_rows fs) _ (fields_field fs kind g) (tt & done)

    fields_field : (fs : Fields) (kind : ℕ) → GoodFields rules fs kind → All FieldOk (fields_rows fs)
    fields_field end kind g = done
    fields_field (i ▸ fs) kind g = all_append (item_rows i) (fields_rows fs) (item_field i kind g.0) (fields_field fs kind g.1)

    item_field : (i : Item) (kind : ℕ) → GoodItem rules i kind → All FieldOk (item_rows i)
    item_field (plain h) kind g = head_field h g.0.built
    item_field (holds h s) kind g = all_append (head_rows h) (flatten s) (head_field h g.0.built) (scope_field s g.3)

-- ---- all rows

no_rows_lem : {X : Type 0} {o : Option Row} {os : List (Option Row)} → [] ≡ o ∷ os → X
no_rows_lem e = let z : ◌≡◌ {A = ℕ} 0 1 = cc in absurd (omega arith)

first_row_lem : {o p : Option Row} {os ps : List (Option Row)} → o ∷ os ≡ p ∷ ps → o ≡ p
first_row_lem e = cc

later_rows : {o p : Option Row} {os ps : List (Option Row)} → o ∷ os ≡ p ∷ ps → os ≡ ps
later_rows e = cc

none_left : (names n : ℕ) (bs : List ℕ) → rows_of names n bs ≡ [] → n ≡ 0
unfolding rows_of
none_left names zero bs e = refl
none_left names (suc n) bs e = no_rows_lem (sym e)

pub rows_stay : (names depth n : ℕ) (bs : List ℕ) (rows : List Row) → Bytes bs → length bs ≡ 16 * n → rows_of names n bs ≡ map some rows → All FieldOk rows → Ends depth rows → All Stays (all_rows depth n bs)
unfolding rows_of all_rows when◌then◌else◌
rows_stay names depth zero bs (r ∷ rs) a l e f x = no_rows_lem e
rows_stay names depth (suc n) bs (r ∷ rs) a l e (f & fs) (last x) =
    let code = row_code_lem names bs r (first_row_lem e) in
    let none_behind : n ≡ 0 = none_left names n (drop 16 bs) (later_rows e) in
    let short : length bs ≤ 16 = omega arith in
    let behind : drop 16 bs ≡ [] = drop_of_length-le bs short in
    all_append (row_pieces (take 16 bs)) _ (row_stays names bs r a f (first_row_lem e)) (rw (code, x) (behind & done))
rows_stay names depth (suc n) bs (r ∷ rs) a l e (f & fs) (more x y) =
    let code = row_code_lem names bs r (first_row_lem e) in
    all_append (row_pieces (take 16 bs)) _ (row_stays names bs r a f (first_row_lem e))
    (rw (code, x) (rows_stay names (depth_after (code_of r) depth) n (drop 16 bs) rs (bytes_drop 16 bs a) (omega (arith, length-drop 16 bs)) (later_rows e) fs y))
rows_stay names depth zero bs [] a l e f x = elim x [ ]
rows_stay names depth (suc n) bs [] a l e f x = elim x [ ]
