-- Condition 2 of the checker, said of trees: no PATH is left, and without added fields and with blank operands the claim is the input.
use Rattle.std.specs.Prelude.{◌≡◌, Bool, List, [], ◌∷◌, ◌++◌, map, ℕ, suc, ◌+◌, ◌≤◌, eqb, length}
use Rattle.std.proofs.Math.Path.{refl}
use Rattle.std.proofs.Common.{ap, ap₂, sym, ◌∙◌, subst, arith}
use Rattle.std.proofs.Math.Bool.{true, false}
use Rattle.std.proofs.Math.Option.{Option, none, some}
use Rattle.rules.specs.Tools.{when◌then◌else◌, ◌then◌}
use Rattle.rules.specs.Versions.{RuleSet}
use Rattle.rules.specs.Rows.{Num, Id, Raw, raw, Row, Field, Decl, Ref, Path, Outer, Case, Open, Close, Export, decode, encode, flag, number}
use Rattle.rules.specs.Tree.{Declaration, Operand, ref, outer, case, Head, Scope, scope, Fields, end, ◌▸◌, Item, plain, holds, head_of, with_operands, decl_rows, path_rows, operand_row, operand_rows, export_rows, head_rows, flatten, fields_rows, item_rows}
use Rattle.rules.specs.Shapes.{Part, opens, first_name}
use Rattle.rules.specs.Good.{after_operand, after_operands, kind_of, name_of, GoodHead, GoodScope, GoodFields, GoodItem}
use Rattle.rules.specs.Reader.{start, on}
use Rattle.rules.specs.Readings.{is_inserted}
use Rattle.checking.specs.Check.{Claimed, own, added, is_path, kept, same_parts, without_paths, scope_claimed, fields_claimed, item_claimed, differs, condition2}
use Rattle.rules.specs.Laws.ToolLaws.{false_not, and_left, and_right, eqb-true, eqb_same, All, done, ◌&◌, all_append, all_left, all_right, then_some}
use Rattle.read_form.proofs.Laws.Parting.{no_cons, cons_head, cons_tail}
use Rattle.rules.specs.Laws.RowLaws.{Legal, decode_again}
use Rattle.rules.specs.Laws.Results.{no_option, some_same}
use Rattle.rules.proofs.Laws.Read.Reached.{same_whole}
use Rattle.rules.specs.Laws.Read.Steps.{after}
use Rattle.rules.proofs.Laws.Read.ReadBack.{read_back}
use Rattle.rules.proofs.Laws.Output.Kept.{blank_operand, blank_head, blank, blank_fields, blank_item, without, without_fields, without_item}
use Rattle.rules.proofs.Laws.Output.Numbers.{AllNumbered, Bare, AllBare, NumberedScope, NumberedFields, NumberedItem}

-- ---- rows without e, x and y of REF and OUTER

blank_row : Row → Row
blank_row (Field code builtin z) = Field code builtin z
blank_row (Decl space name z) = Decl space name z
blank_row (Ref space at paths z) = Ref space (Num 0) 0 z
blank_row (Path name) = Path name
blank_row (Outer space up at z) = Outer space (Num 0) (Num 0) z
blank_row (Case name z) = Case name z
blank_row (Open kind name) = Open kind name
blank_row Close = Close
blank_row (Export name) = Export name

blank_parts : (r : Row) → kept (encode r) ≡ encode (blank_row r)
unfolding kept encode blank_row flag number when◌then◌else◌
blank_parts (Field code builtin z) = refl
blank_parts (Decl space name z) = refl
blank_parts (Ref space at paths z) = refl
blank_parts (Path name) = refl
blank_parts (Outer space up at z) = refl
blank_parts (Case name z) = refl
blank_parts (Open kind name) = refl
blank_parts Close = refl
blank_parts (Export name) = refl

-- the name of a row that is no operand
name_in : Row → ℕ
name_in (Field code builtin z) = 0
name_in (Decl space name z) = name
name_in (Ref space at paths z) = 0
name_in (Path name) = 0
name_in (Outer space up at z) = 0
name_in (Case name z) = name
name_in (Open kind name) = name
name_in Close = 0
name_in (Export name) = 0

blank_legal : (top : ℕ) (r : Row) → name_in r ≤ top → Legal top (blank_row r)
unfolding blank_row name_in
blank_legal top (Field code builtin z) h = tt
blank_legal top (Decl space name z) h = h
blank_legal top (Ref space at paths z) h = tt
blank_legal top (Path name) h = tt
blank_legal top (Outer space up at z) h = (tt, tt)
blank_legal top (Case name z) h = h
blank_legal top (Open kind name) h = h
blank_legal top Close h = tt
blank_legal top (Export name) h = tt

-- the parts of a blank row determine it
blank_same : (r r' : Row) → kept (encode r) ≡ kept (encode r') → blank_row r ≡ blank_row r'
blank_same r r' e =
    let top = name_in r + name_in r' in
    some_same (blank_row r) (blank_row r')
    (sym (decode_again top (blank_row r) (blank_legal top r (omega arith)))
    ∙ (ap (decode top) (sym (blank_parts r) ∙ (e ∙ blank_parts r'))
    ∙ decode_again top (blank_row r') (blank_legal top r' (omega arith))))

same_parts_lem : (a b : Raw) → same_parts a b ≡ true → a ≡ b
unfolding same_parts
same_parts_lem (raw code b e x y z) (raw code' b' e' x' y' z') t =
    let t₁ = and_right (eqb code code') _ t in
    let t₂ = and_right (eqb b b') _ t₁ in
    let t₃ = and_right (eqb e e') _ t₂ in
    let t₄ = and_right (eqb x x') _ t₃ in
    rw (
      eqb-true code code' (and_left (eqb code code') _ t),
      eqb-true b b' (and_left (eqb b b') _ t₁),
      eqb-true e e' (and_left (eqb e e') _ t₂),
      eqb-true x x' (and_left (eqb x x') _ t₃),
      eqb-true y y' (and_left (eqb y y') _ t₄),
      eqb-true z z' (and_right (eqb y y') _ t₄),
    )

parts_same : (a : Raw) → same_parts a a ≡ true
unfolding same_parts
parts_same (raw code b e x y z) = rw (eqb_same code, eqb_same b, eqb_same e, eqb_same x, eqb_same y, eqb_same z)

-- ---- what `differs` finds

abbrev NoPath : Row → Type 0
NoPath r = is_path (encode r) ≡ false

rows_of : List Claimed → List Row
rows_of [] = []
rows_of (own r ∷ cs) = r ∷ rows_of cs
rows_of (added r ∷ cs) = r ∷ rows_of cs

-- the rows that are not added
unadded : List Claimed → List Row
unadded [] = []
unadded (own r ∷ cs) = r ∷ unadded cs
unadded (added r ∷ cs) = unadded cs

record Alike (cs : List Claimed) (rs : List Row) : Type 0 where
  pathless : All NoPath (rows_of cs)
  same : map blank_row (unadded cs) ≡ map blank_row rs

some_none : {X A : Type 0} (a : A) → some a ≡ none → X
some_none a e = no_option a (sym e)

alike_done : Alike [] []
unfolding rows_of unadded
alike_done = record { pathless = done; same = refl }

-- a claimed row that is added, and one that is not
alike_added : (n m : ℕ) (b : Bool) (c : Row) (cs : List Claimed) (rs : List Row) → is_path (encode c) ≡ b → (differs m cs rs ≡ none → Alike cs rs)
    → (when b then some n else differs m cs rs) ≡ none → Alike (added c ∷ cs) rs
unfolding rows_of unadded when◌then◌else◌
alike_added n m true c cs rs p f e = some_none n e
alike_added n m false c cs rs p f e = let a = f e in record { pathless = p & a.pathless; same = a.same }

alike_own : (n m : ℕ) (b s : Bool) (c r : Row) (cs : List Claimed) (rs : List Row) → is_path (encode c) ≡ b → same_parts (kept (encode c)) (kept (encode r)) ≡ s
    → (differs m cs rs ≡ none → Alike cs rs) → (when b then some n else when s then differs m cs rs else some n) ≡ none → Alike (own c ∷ cs) (r ∷ rs)
unfolding rows_of unadded when◌then◌else◌
alike_own n m true s c r cs rs p q f e = some_none n e
alike_own n m false true c r cs rs p q f e =
    let a = f e in
    record { pathless = p & a.pathless; same = ap₂ (λ (x : Row) (xs : List Row). x ∷ xs) (blank_same c r (same_parts_lem _ _ q)) a.same }
alike_own n m false false c r cs rs p q f e = some_none n e

-- nothing differs: they are alike
differs_alike : (n : ℕ) (cs : List Claimed) (rs : List Row) → differs n cs rs ≡ none → Alike cs rs
unfolding differs
differs_alike n [] [] e = alike_done
differs_alike n [] (r ∷ rs) e = some_none n e
differs_alike n (added c ∷ cs) rs e = alike_added n (suc n) (is_path (encode c)) c cs rs refl (differs_alike (suc n) cs rs) e
differs_alike n (own c ∷ cs) [] e = some_none n e
differs_alike n (own c ∷ cs) (r ∷ rs) e = alike_own n (suc n) (is_path (encode c)) _ c r cs rs refl refl (differs_alike (suc n) cs rs) e

-- and the other way round
alike_differs : (n : ℕ) (cs : List Claimed) (rs : List Row) → All NoPath (rows_of cs) → map blank_row (unadded cs) ≡ map blank_row rs → differs n cs rs ≡ none
unfolding differs rows_of unadded when◌then◌else◌
alike_differs n [] [] p e = refl
alike_differs n [] (r ∷ rs) p e = no_cons e
alike_differs n (added c ∷ cs) rs (h & p) e = rw h (alike_differs (suc n) cs rs p e)
alike_differs n (own c ∷ cs) [] p e = no_cons (sym e)
alike_differs n (own c ∷ cs) (r ∷ rs) (h & p) e =
    let t : same_parts (kept (encode c)) (kept (encode r)) ≡ true =
    ap (λ (x : Raw). same_parts (kept (encode c)) x) (sym (blank_parts c ∙ (ap encode (cons_head e) ∙ sym (blank_parts r)))) ∙ parts_same (kept (encode c)) in
    rw (h, t) (alike_differs (suc n) cs rs p (cons_tail e))

-- ---- the rows of a tree with blank operands

strip : List Row → List Row
strip rs = map blank_row (without_paths rs)

strip_append : (xs ys : List Row) → strip (xs ++ ys) ≡ strip xs ++ strip ys
unfolding strip without_paths when◌then◌else◌
strip_append [] ys = refl
strip_append (x ∷ xs) ys = go (is_path (encode x)) (strip_append xs ys)
  where
    go : (b : Bool) → strip (xs ++ ys) ≡ strip xs ++ strip ys
        → map blank_row (when b then without_paths (xs ++ ys) else x ∷ without_paths (xs ++ ys)) ≡ map blank_row (when b then without_paths xs else x ∷ without_paths xs) ++ strip ys
    go true e = e
    go false e = ap (λ (l : List Row). blank_row x ∷ l) e

strip_decls : (ds : List Declaration) → strip (decl_rows ds) ≡ decl_rows ds
unfolding strip without_paths when◌then◌else◌ is_path encode blank_row decl_rows
strip_decls [] = refl
strip_decls (d ∷ ds) = ap (λ (l : List Row). Decl d.space d.name d.z ∷ l) (strip_decls ds)

strip_paths : (ps : List ℕ) → strip (path_rows ps) ≡ []
unfolding strip without_paths when◌then◌else◌ is_path encode path_rows
strip_paths [] = refl
strip_paths (p ∷ ps) = strip_paths ps

strip_operand : (o : Operand) → strip (operand_row o) ≡ operand_row (blank_operand o)
unfolding strip without_paths when◌then◌else◌ is_path encode blank_row operand_row blank_operand path_rows
strip_operand (ref space at paths z) = ap (λ (l : List Row). Ref space (Num 0) 0 z ∷ l) (strip_paths paths)
strip_operand (outer space up at z) = refl
strip_operand (case name z) = refl

strip_operands : (os : List Operand) → strip (operand_rows os) ≡ operand_rows (map blank_operand os)
unfolding operand_rows
strip_operands [] = unfold strip without_paths in refl
strip_operands (o ∷ os) = strip_append (operand_row o) (operand_rows os) ∙ ap₂ (λ (xs ys : List Row). xs ++ ys) (strip_operand o) (strip_operands os)

strip_export : (o : Option ℕ) → strip (export_rows o) ≡ export_rows o
unfolding strip without_paths when◌then◌else◌ is_path encode blank_row export_rows
strip_export none = refl
strip_export (some n) = refl

strip_head : (h : Head) → strip (head_rows h) ≡ head_rows (blank_head h)
unfolding head_rows blank_head with_operands
strip_head h =
    strip_append (Field h.code h.builtin h.z ∷ []) _
    ∙ (ap₂ (λ (xs ys : List Row). xs ++ ys) first
    (strip_append (decl_rows h.decls) _
    ∙ ap₂ (λ (xs ys : List Row). xs ++ ys) (strip_decls h.decls)
    (strip_append (operand_rows h.operands) (export_rows h.export) ∙ ap₂ (λ (xs ys : List Row). xs ++ ys) (strip_operands h.operands) (strip_export h.export))))
  where
    first : strip (Field h.code h.builtin h.z ∷ []) ≡ Field h.code h.builtin h.z ∷ []
    first = unfold strip without_paths when◌then◌else◌ is_path encode blank_row in refl

strip_open : (kind name : ℕ) → strip (Open kind name ∷ []) ≡ Open kind name ∷ []
unfolding strip without_paths when◌then◌else◌ is_path encode blank_row
strip_open kind name = refl

strip_close : strip (Close ∷ []) ≡ Close ∷ []
unfolding strip without_paths when◌then◌else◌ is_path encode blank_row
strip_close = refl

strip_end : strip [] ≡ []
unfolding strip without_paths
strip_end = refl

mutual
  unfolding flatten blank

  strip_scope : (s : Scope) → strip (flatten s) ≡ flatten (blank s)
  strip_scope (scope kind name fs) =
      strip_append (Open kind name ∷ []) _
      ∙ ap₂ (λ (xs ys : List Row). xs ++ ys) (strip_open kind name)
      (strip_append (fields_rows fs) (Close ∷ []) ∙ ap₂ (λ (xs ys : List Row). xs ++ ys) (strip_fields fs) strip_close)

  strip_fields : (fs : Fields) → strip (fields_rows fs) ≡ fields_rows (blank_fields fs)
  strip_fields end = strip_end
  strip_fields (i ▸ fs) = strip_append (item_rows i) (fields_rows fs) ∙ ap₂ (λ (xs ys : List Row). xs ++ ys) (strip_item i) (strip_fields fs)

  strip_item : (i : Item) → strip (item_rows i) ≡ item_rows (blank_item i)
  strip_item (plain h) = strip_head h
  strip_item (holds h s) = strip_append (head_rows h) (flatten s) ∙ ap₂ (λ (xs ys : List Row). xs ++ ys) (strip_head h) (strip_scope s)

-- ---- the rows of a claim

rows_append : (xs ys : List Claimed) → rows_of (xs ++ ys) ≡ rows_of xs ++ rows_of ys
unfolding rows_of
rows_append [] ys = refl
rows_append (own x ∷ xs) ys = ap (λ (l : List Row). x ∷ l) (rows_append xs ys)
rows_append (added x ∷ xs) ys = ap (λ (l : List Row). x ∷ l) (rows_append xs ys)

rows_own : (rs : List Row) → rows_of (map own rs) ≡ rs
unfolding rows_of
rows_own [] = refl
rows_own (r ∷ rs) = ap (λ (l : List Row). r ∷ l) (rows_own rs)

rows_added : (rs : List Row) → rows_of (map added rs) ≡ rs
unfolding rows_of
rows_added [] = refl
rows_added (r ∷ rs) = ap (λ (l : List Row). r ∷ l) (rows_added rs)

unadded_append : (xs ys : List Claimed) → unadded (xs ++ ys) ≡ unadded xs ++ unadded ys
unfolding unadded
unadded_append [] ys = refl
unadded_append (own x ∷ xs) ys = ap (λ (l : List Row). x ∷ l) (unadded_append xs ys)
unadded_append (added x ∷ xs) ys = unadded_append xs ys

unadded_own : (rs : List Row) → unadded (map own rs) ≡ rs
unfolding unadded
unadded_own [] = refl
unadded_own (r ∷ rs) = ap (λ (l : List Row). r ∷ l) (unadded_own rs)

unadded_added : (rs : List Row) → unadded (map added rs) ≡ []
unfolding unadded
unadded_added [] = refl
unadded_added (r ∷ rs) = unadded_added rs

scope_rows : (kind name : ℕ) (fs : List Claimed) → rows_of (own (Open kind name) ∷ (fs ++ (own Close ∷ []))) ≡ Open kind name ∷ (rows_of fs ++ (Close ∷ []))
unfolding rows_of
scope_rows kind name fs = ap (λ (l : List Row). Open kind name ∷ l) (rows_append fs (own Close ∷ []))

scope_unadded : (kind name : ℕ) (fs : List Claimed) → unadded (own (Open kind name) ∷ (fs ++ (own Close ∷ []))) ≡ Open kind name ∷ (unadded fs ++ (Close ∷ []))
unfolding unadded
scope_unadded kind name fs = ap (λ (l : List Row). Open kind name ∷ l) (unadded_append fs (own Close ∷ []))

rows_if : (b : Bool) (i : Item) → rows_of (item_claimed i) ≡ item_rows i → rows_of (when b then map added (item_rows i) else item_claimed i) ≡ item_rows i
unfolding when◌then◌else◌
rows_if true i e = rows_added (item_rows i)
rows_if false i e = e

unadded_if : (b : Bool) (i : Item) (cs : List Claimed) (fs : Fields) → unadded (item_claimed i) ≡ item_rows (without_item i) → unadded cs ≡ fields_rows fs
    → unadded ((when b then map added (item_rows i) else item_claimed i) ++ cs) ≡ fields_rows (when b then fs else without_item i ▸ fs)
unfolding when◌then◌else◌ flatten
unadded_if true i cs fs e f = unadded_append (map added (item_rows i)) cs ∙ ap₂ (λ (xs ys : List Row). xs ++ ys) (unadded_added (item_rows i)) f
unadded_if false i cs fs e f = unadded_append (item_claimed i) cs ∙ ap₂ (λ (xs ys : List Row). xs ++ ys) e f

none_rows : rows_of [] ≡ []
unfolding rows_of
none_rows = refl

none_unadded : unadded [] ≡ []
unfolding unadded
none_unadded = refl

mutual
  unfolding flatten scope_claimed

  rows_scope : (s : Scope) → rows_of (scope_claimed s) ≡ flatten s
  rows_scope (scope kind name fs) = scope_rows kind name (fields_claimed fs) ∙ ap (λ (l : List Row). Open kind name ∷ (l ++ (Close ∷ []))) (rows_fields fs)

  rows_fields : (fs : Fields) → rows_of (fields_claimed fs) ≡ fields_rows fs
  rows_fields end = none_rows
  rows_fields (i ▸ fs) =
      rows_append (when is_inserted (head_of i) then map added (item_rows i) else item_claimed i) (fields_claimed fs)
      ∙ ap₂ (λ (xs ys : List Row). xs ++ ys) (rows_if (is_inserted (head_of i)) i (rows_item i)) (rows_fields fs)

  rows_item : (i : Item) → rows_of (item_claimed i) ≡ item_rows i
  rows_item (plain h) = rows_own (head_rows h)
  rows_item (holds h s) = rows_append (map own (head_rows h)) (scope_claimed s) ∙ ap₂ (λ (xs ys : List Row). xs ++ ys) (rows_own (head_rows h)) (rows_scope s)

rows_count : (cs : List Claimed) → length (rows_of cs) ≡ length cs
unfolding rows_of
rows_count [] = refl
rows_count (own r ∷ cs) = ap suc (rows_count cs)
rows_count (added r ∷ cs) = ap suc (rows_count cs)

-- a claim has as many of them as rows
pub scope_length : (s : Scope) → length (scope_claimed s) ≡ length (flatten s)
scope_length s = sym (rows_count (scope_claimed s)) ∙ ap length (rows_scope s)

pub claimed_length : (b : Bool) (i : Item) → length (when b then map added (item_rows i) else item_claimed i) ≡ length (item_rows i)
claimed_length b i = sym (rows_count (when b then map added (item_rows i) else item_claimed i)) ∙ ap length (rows_if b i (rows_item i))

mutual
  unfolding flatten scope_claimed without

  unadded_scope : (s : Scope) → unadded (scope_claimed s) ≡ flatten (without s)
  unadded_scope (scope kind name fs) = scope_unadded kind name (fields_claimed fs) ∙ ap (λ (l : List Row). Open kind name ∷ (l ++ (Close ∷ []))) (unadded_fields fs)

  unadded_fields : (fs : Fields) → unadded (fields_claimed fs) ≡ fields_rows (without_fields fs)
  unadded_fields end = none_unadded
  unadded_fields (i ▸ fs) = unadded_if (is_inserted (head_of i)) i (fields_claimed fs) (without_fields fs) (unadded_item i) (unadded_fields fs)

  unadded_item : (i : Item) → unadded (item_claimed i) ≡ item_rows (without_item i)
  unadded_item (plain h) = unadded_own (head_rows h)
  unadded_item (holds h s) = unadded_append (map own (head_rows h)) (scope_claimed s) ∙ ap₂ (λ (xs ys : List Row). xs ++ ys) (unadded_own (head_rows h)) (unadded_scope s)

-- ---- no PATH is left

abbrev mutual
  pub BareScope : Scope → Type 0
  BareScope (scope kind name fs) = BareFields fs

  pub BareFields : Fields → Type 0
  BareFields end = Unit {0}
  BareFields (i ▸ fs) = BareItem i × BareFields fs

  pub BareItem : Item → Type 0
  BareItem (plain h) = AllBare h.operands
  BareItem (holds h s) = AllBare h.operands × BareScope s

numbered_bare : (os : List Operand) → AllNumbered os → AllBare os
numbered_bare [] n = tt
numbered_bare (ref space (Num m) [] z ∷ os) n = (tt, numbered_bare os n.1)
numbered_bare (ref space (Num m) (p ∷ ps) z ∷ os) n = absurd n.0
numbered_bare (ref space (Id name) paths z ∷ os) n = absurd n.0
numbered_bare (outer space up at z ∷ os) n = (tt, numbered_bare os n.1)
numbered_bare (case name z ∷ os) n = (tt, numbered_bare os n.1)

mutual
  pub numbered_scope_bare : (s : Scope) → NumberedScope s → BareScope s
  numbered_scope_bare (scope kind name fs) n = numbered_fields_bare fs n

  numbered_fields_bare : (fs : Fields) → NumberedFields fs → BareFields fs
  numbered_fields_bare end n = tt
  numbered_fields_bare (i ▸ fs) n = (numbered_item_bare i n.0, numbered_fields_bare fs n.1)

  numbered_item_bare : (i : Item) → NumberedItem i → BareItem i
  numbered_item_bare (plain h) n = numbered_bare h.operands n
  numbered_item_bare (holds h s) n = (numbered_bare h.operands n.0, numbered_scope_bare s n.1)

decls_no_path : (ds : List Declaration) → All NoPath (decl_rows ds)
unfolding decl_rows is_path encode
decls_no_path [] = done
decls_no_path (d ∷ ds) = refl & decls_no_path ds

export_no_path : (o : Option ℕ) → All NoPath (export_rows o)
unfolding export_rows is_path encode
export_no_path none = done
export_no_path (some n) = refl & done

operand_no_path : (o : Operand) → Bare o → All NoPath (operand_row o)
unfolding operand_row path_rows is_path encode
operand_no_path (ref space at [] z) b = refl & done
operand_no_path (ref space at (p ∷ ps) z) b = absurd b
operand_no_path (outer space up at z) b = refl & done
operand_no_path (case name z) b = refl & done

operands_no_path : (os : List Operand) → AllBare os → All NoPath (operand_rows os)
unfolding operand_rows
operands_no_path [] b = done
operands_no_path (o ∷ os) b = all_append (operand_row o) (operand_rows os) (operand_no_path o b.0) (operands_no_path os b.1)

head_no_path : (h : Head) → AllBare h.operands → All NoPath (head_rows h)
unfolding head_rows is_path encode
head_no_path h b =
    refl & all_append (decl_rows h.decls) _ (decls_no_path h.decls) (all_append (operand_rows h.operands) _ (operands_no_path h.operands b) (export_no_path h.export))

open_no_path : (kind name : ℕ) → NoPath (Open kind name)
unfolding is_path encode
open_no_path kind name = refl

close_no_path : NoPath Close
unfolding is_path encode
close_no_path = refl

mutual
  unfolding flatten

  scope_no_path : (s : Scope) → BareScope s → All NoPath (flatten s)
  scope_no_path (scope kind name fs) b = open_no_path kind name & all_append (fields_rows fs) (Close ∷ []) (fields_no_path fs b) (close_no_path & done)

  fields_no_path : (fs : Fields) → BareFields fs → All NoPath (fields_rows fs)
  fields_no_path end b = done
  fields_no_path (i ▸ fs) b = all_append (item_rows i) (fields_rows fs) (item_no_path i b.0) (fields_no_path fs b.1)

  item_no_path : (i : Item) → BareItem i → All NoPath (item_rows i)
  item_no_path (plain h) b = head_no_path h b
  item_no_path (holds h s) b = all_append (head_rows h) (flatten s) (head_no_path h b.0) (scope_no_path s b.1)

-- and the other way round

all_tail : {A : Type 0} {P : A → Type 0} {x : A} {xs : List A} → All P (x ∷ xs) → All P xs
all_tail (h & a) = a

path_row : {X : Type 0} (p : ℕ) (rs : List Row) → All NoPath (Path p ∷ rs) → X
unfolding is_path encode
path_row p rs (h & a) = false_not (sym h)

bare_operand : (o : Operand) → All NoPath (operand_row o) → Bare o
unfolding operand_row path_rows
bare_operand (ref space at [] z) a = tt
bare_operand (ref space at (p ∷ ps) z) a = path_row p (path_rows ps) (all_tail a)
bare_operand (outer space up at z) a = tt
bare_operand (case name z) a = tt

bare_operands : (os : List Operand) → All NoPath (operand_rows os) → AllBare os
unfolding operand_rows
bare_operands [] a = tt
bare_operands (o ∷ os) a = (bare_operand o (all_left (operand_row o) (operand_rows os) a), bare_operands os (all_right (operand_row o) (operand_rows os) a))

bare_head : (h : Head) → All NoPath (head_rows h) → AllBare h.operands
unfolding head_rows
bare_head h a = bare_operands h.operands (all_left (operand_rows h.operands) _ (all_right (decl_rows h.decls) _ (all_tail a)))

mutual
  unfolding flatten

  bare_scope : (s : Scope) → All NoPath (flatten s) → BareScope s
  bare_scope (scope kind name fs) a = bare_fields fs (all_left (fields_rows fs) (Close ∷ []) (all_tail a))

  bare_fields : (fs : Fields) → All NoPath (fields_rows fs) → BareFields fs
  bare_fields end a = tt
  bare_fields (i ▸ fs) a = (bare_item i (all_left (item_rows i) (fields_rows fs) a), bare_fields fs (all_right (item_rows i) (fields_rows fs) a))

  bare_item : (i : Item) → All NoPath (item_rows i) → BareItem i
  bare_item (plain h) a = bare_head h a
  bare_item (holds h s) a = (bare_head h (all_left (head_rows h) (flatten s) a), bare_scope s (all_right (head_rows h) (flatten s) a))

-- ---- condition 2 and trees

unadded_all : (cs : List Claimed) → All NoPath (rows_of cs) → All NoPath (unadded cs)
unfolding rows_of unadded
unadded_all [] a = done
unadded_all (own r ∷ cs) (h & a) = h & unadded_all cs a
unadded_all (added r ∷ cs) (h & a) = unadded_all cs a

strip_bare : (rs : List Row) → All NoPath rs → strip rs ≡ map blank_row rs
unfolding strip without_paths when◌then◌else◌
strip_bare [] a = refl
strip_bare (r ∷ rs) (h & a) = rw h (ap (λ (l : List Row). blank_row r ∷ l) (strip_bare rs a))

-- the rows of the input's fields in a claim without PATHs
claim_rows : (c : Scope) → All NoPath (rows_of (scope_claimed c)) → map blank_row (unadded (scope_claimed c)) ≡ flatten (blank (without c))
claim_rows c a = sym (strip_bare (unadded (scope_claimed c)) (unadded_all (scope_claimed c) a)) ∙ (ap strip (unadded_scope c) ∙ strip_scope (without c))

input_rows : (s : Scope) → map blank_row (without_paths (flatten s)) ≡ flatten (blank s)
input_rows s = unfold strip in strip_scope s

-- a claim without PATHs that is the input but for its added fields and its operands passes it
pub passes_2 : (s c : Scope) → BareScope c → blank (without c) ≡ blank s → condition2 s c ≡ none
unfolding condition2
passes_2 s c b e =
    let a : All NoPath (rows_of (scope_claimed c)) = subst (All NoPath) (sym (rows_scope c)) (scope_no_path c b) in
    alike_differs 0 (scope_claimed c) (without_paths (flatten s)) a (claim_rows c a ∙ (ap flatten e ∙ sym (input_rows s)))

record Passed2 (s c : Scope) : Type 0 where
  bare : BareScope c
  rows : flatten (blank (without c)) ≡ flatten (blank s)

passed_2 : (s c : Scope) → condition2 s c ≡ none → Passed2 s c
unfolding condition2
passed_2 s c e =
    let a = differs_alike 0 (scope_claimed c) (without_paths (flatten s)) e in
    record { bare = bare_scope c (subst (All NoPath) (rows_scope c) a.pathless); rows = sym (claim_rows c a.pathless) ∙ (a.same ∙ input_rows s) }

-- ---- a good tree without PATHs is good without its added fields and with blank operands

bare_after : (ps : List Part) (o : Operand) → Bare o → after_operand ps (blank_operand o) ≡ after_operand ps o
unfolding after_operand blank_operand
bare_after ps (ref space at [] z) b = refl
bare_after ps (ref space at (p ∷ paths) z) b = absurd b
bare_after ps (outer space up at z) b = refl
bare_after ps (case name z) b = refl

blank_after : (os : List Operand) (ps left : List Part) → AllBare os → after_operands ps os ≡ some left → after_operands ps (map blank_operand os) ≡ some left
unfolding after_operands ◌then◌
blank_after [] ps left b e = e
blank_after (o ∷ os) ps left b e =
    let T = then_some (after_operand ps o) (λ q. after_operands q os) left e in
    rw (bare_after ps o b.0, T.1) (blank_after os T.0 left b.1 T.2)

kind_blank : (s : Scope) → kind_of (blank (without s)) ≡ kind_of s
unfolding blank without
kind_blank (scope kind name fs) = refl

name_blank : (s : Scope) → name_of (blank (without s)) ≡ name_of s
unfolding blank without
name_blank (scope kind name fs) = refl

module _ (rules : RuleSet) where
  head_good : (kind : ℕ) (h : Head) → AllBare h.operands → GoodHead rules kind h → GoodHead rules kind (blank_head h)
  unfolding blank_head with_operands
  head_good kind h b g =
      record {
        may = g.may;
        built = g.built;
        declared = g.declared;
        enough_declared = g.enough_declared;
        left = g.left;
        uses = blank_after h.operands _ g.left b g.uses;
        ends = g.ends;
        exporting = g.exporting;
      }

  blank_code : (h : Head) → ((blank_head h).code ≡ h.code) × ((blank_head h).decls ≡ h.decls)
  unfolding blank_head with_operands
  blank_code h = (refl, refl)

  holds_good : (kind : ℕ) (h : Head) (s : Scope) → AllBare h.operands → GoodItem rules (holds h s) kind → GoodScope rules (blank (without s))
      → GoodItem rules (holds (blank_head h) (blank (without s))) kind
  holds_good kind h s b g gs = (
    head_good kind h b g.0,
    ap opens (blank_code h).0 ∙ (g.1 ∙ ap {B = Option ℕ} some (sym (kind_blank s))),
    name_blank s ∙ (g.2 ∙ ap first_name (sym (blank_code h).1)),
    gs,
  )

  fields_if : (kind : ℕ) (b : Bool) (i : Item) (fs : Fields) → GoodItem rules (blank_item (without_item i)) kind → GoodFields rules (blank_fields fs) kind
      → GoodFields rules (blank_fields (when b then fs else without_item i ▸ fs)) kind
  unfolding when◌then◌else◌ blank
  fields_if kind true i fs g gs = gs
  fields_if kind false i fs g gs = (g, gs)

  mutual
    unfolding blank without

    scope_good : (s : Scope) → BareScope s → GoodScope rules s → GoodScope rules (blank (without s))
    scope_good (scope kind name fs) b g = fields_good kind fs b g

    fields_good : (kind : ℕ) (fs : Fields) → BareFields fs → GoodFields rules fs kind → GoodFields rules (blank_fields (without_fields fs)) kind
    fields_good kind end b g = tt
    fields_good kind (i ▸ fs) b g = fields_if kind (is_inserted (head_of i)) i (without_fields fs) (item_good kind i b.0 g.0) (fields_good kind fs b.1 g.1)

    item_good : (kind : ℕ) (i : Item) → BareItem i → GoodItem rules i kind → GoodItem rules (blank_item (without_item i)) kind
    item_good kind (plain h) b g = (head_good kind h b g.0, ap opens (blank_code h).0 ∙ g.1)
    item_good kind (holds h s) b g = holds_good kind h s b.0 g (scope_good s b.1 g.3)

  -- two good components with the same rows are one
  same_tree : (s t : Scope) → kind_of s ≡ 0 → kind_of t ≡ 0 → GoodScope rules s → GoodScope rules t → flatten s ≡ flatten t → s ≡ t
  same_tree s t k l g h e = same_whole (sym (read_back rules s k g) ∙ (ap (after rules (on start)) e ∙ read_back rules t l h))

  -- A claim that passes it has no PATH, and is the input but for its added fields and its operands. `out` is what is written for the input:
  -- a good tree that is the input in the same way.
  pub record SameFields (s c : Scope) : Type 0 where
    pub bare : BareScope c
    pub same : blank (without c) ≡ blank s

  pub same_fields : (s out c : Scope) → kind_of out ≡ 0 → GoodScope rules out → BareScope out → blank (without out) ≡ blank s
      → kind_of c ≡ 0 → GoodScope rules c → condition2 s c ≡ none → SameFields s c
  same_fields s out c ko go bo ks kc gc e =
      let P = passed_2 s c e in
      record {
        bare = P.bare;
        same = same_tree (blank (without c)) (blank (without out)) (kind_blank c ∙ kc) (kind_blank out ∙ ko) (scope_good c P.bare gc) (scope_good out bo go)
            (P.rows ∙ ap flatten (sym ks)) ∙ ks;
      }
