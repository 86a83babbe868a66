-- The rows of a claim as the code goes over them: each with its number, whether its field is added, and the scopes that are open before it.
use Rattle.std.specs.Prelude.{◌≡◌, refl, Bool, true, false, List, [], ◌∷◌, ◌++◌, ℕ, suc, ◌+◌, ◌<◌, ◌≤◌, eqb, ltb, length}
use Rattle.std.proofs.Common.{sym, ap, ◌∙◌, append_assoc, append-nil, arith, add-one, length-append, lt-ltb, ne_eqb}
use Rattle.std.proofs.Math.Nat.{le-max_left, le-max_right}
use Rattle.kit.specs.Pick.{pick}
use Rattle.parts.specs.declared.Parts.{Parts}
use Rattle.rules.specs.Rows.{Row, Field, Open, Close, encode}
use Rattle.rules.specs.Tree.{Head, Scope, scope, Fields, end, ◌▸◌, Item, plain, holds, head_of, decl_rows, operand_rows, export_rows, head_rows, flatten, fields_rows, item_rows}
use Rattle.rules.specs.Good.{height, heights, height_item}
use Rattle.rules.specs.Readings.{is_inserted}
use Rattle.rules.specs.Laws.ToolLaws.{All, done, ◌&◌}
use Rattle.checking.proofs.Laws.AddedFields.{IsAdded, AddedScope, AddedFields, AddedItem}
use Rattle.claim_rows.specs.Added.{is_added_t}
use Rattle.claim_scopes.specs.Open.{open_scope_t, open_closed_t, open_one_t}
use Rattle.claim_laws.specs.RowParts.{as_parts, all_parts, code_in, NoDecl, behind_field, operands_no_decl, any_fresh_lem, fields_no_decl, scope_no_decl, Inner, inner_behind}

pub record Mark : Type 0 where
  pub added : Bool
  pub st : List (List ℕ)
  pub row : ℕ
  pub parts : Parts

abbrev pub mark : Bool → List (List ℕ) → ℕ → Parts → Mark
mark added st row parts = record { added = added; st = st; row = row; parts = parts }

-- as the code goes: `added`: whether the field of the row before is
unfoldable pub marks_t : (i : ℕ) (added : Bool) (st : List (List ℕ)) → List Parts → List Mark
marks_t i added st [] = []
marks_t i added st (p ∷ ps) =
    let a = is_added_t added p.code ps in
    mark a st i p ∷ marks_t (i + 1) a (open_one_t 64 st p i) ps

-- rows of one field, the first of them row n
unfoldable pub row_marks : (added : Bool) (st : List (List ℕ)) (n : ℕ) → List Row → List Mark
row_marks added st n [] = []
row_marks added st n (r ∷ rs) = mark added st n (as_parts r) ∷ row_marks added st (suc n) rs

-- by the tree: row n is the scope's OPEN, the first field, or what follows the item's head
unfoldable mutual
  pub scope_marks : (n : ℕ) (st : List (List ℕ)) → Scope → List Mark
  scope_marks n st (scope kind name fs) =
      mark false st n (as_parts (Open kind name))
      ∷ (fields_marks (suc n) (open_scope_t name n ∷ st) fs ++ (mark false (open_scope_t name n ∷ st) (suc n + length (fields_rows fs)) (as_parts Close) ∷ []))

  pub fields_marks : (n : ℕ) (st : List (List ℕ)) → Fields → List Mark
  fields_marks n st end = []
  fields_marks n st (i ▸ fs) =
      row_marks (is_inserted (head_of i)) st n (head_rows (head_of i))
      ++ (item_marks (n + length (head_rows (head_of i))) st i ++ fields_marks (n + length (item_rows i)) st fs)

  pub item_marks : (n : ℕ) (st : List (List ℕ)) → Item → List Mark
  item_marks n st (plain h) = []
  item_marks n st (holds h s) = scope_marks n st s

-- ---- rows one by one

abbrev marks : (n : ℕ) (a : Bool) (st : List (List ℕ)) → List Row → List Mark
marks n a st rs = marks_t n a st (all_parts rs)

-- one row; a: whether its field is added
mark_row : (n : ℕ) (b a : Bool) (st st' : List (List ℕ)) (r : Row) (rs : List Row) → is_added_t b (code_in r) (all_parts rs) ≡ a → open_one_t 64 st (as_parts r) n ≡ st' → marks n b st (r ∷ rs) ≡ mark a st n (as_parts r) ∷ marks (suc n) a st' rs
unfolding marks_t all_parts
mark_row n b a st st' r rs e o = rw (e, o, add-one n)

-- behind a FIELD
pub inner_added : (b : Bool) (r : Row) (ps : List Parts) → Inner r → is_added_t b (code_in r) ps ≡ b
unfolding is_added_t pick
inner_added b r ps i = rw (ne_eqb (code_in r) 1 i.no_field, ne_eqb (code_in r) 8 i.no_close)

pub inner_open : (st : List (List ℕ)) (r : Row) (n : ℕ) → Inner r → open_one_t 64 st (as_parts r) n ≡ st
unfolding open_one_t pick
inner_open st r n i = rw (ne_eqb (code_in r) 7 i.no_open, ne_eqb (code_in r) 8 i.no_close)

inner_marks : (xs ys : List Row) (n : ℕ) (b : Bool) (st : List (List ℕ)) → All Inner xs → marks n b st (xs ++ ys) ≡ row_marks b st n xs ++ marks (n + length xs) b st ys
unfolding row_marks
inner_marks [] ys n b st done = let e : n + 0 ≡ n = omega arith in rw e
inner_marks (r ∷ xs) ys n b st (i & p) =
    let e : suc n + length xs ≡ n + suc (length xs) = omega arith in
    mark_row n b b st st r (xs ++ ys) (inner_added b r (all_parts (xs ++ ys)) i) (inner_open st r n i) ∙ ap (λ (l : List Mark). mark b st n (as_parts r) ∷ l) (inner_marks xs ys (suc n) b st p ∙ rw e)

-- a FIELD: its DECLs tell
pub field_added : (b : Bool) (h : Head) (ys : List Row) → NoDecl ys → is_added_t b (code_in (Field h.code h.builtin h.z)) (all_parts (behind_field h ++ ys)) ≡ is_inserted h
unfolding is_added_t as_parts encode pick behind_field is_inserted
field_added b h ys d =
    rw (
      append_assoc (decl_rows h.decls) (operand_rows h.operands ++ export_rows h.export) ys,
      append_assoc (operand_rows h.operands) (export_rows h.export) ys,
      any_fresh_lem h.decls _ (operands_no_decl h.operands h.export ys d),
    )

pub field_open : (st : List (List ℕ)) (code builtin z n : ℕ) → open_one_t 64 st (as_parts (Field code builtin z)) n ≡ st
unfolding open_one_t as_parts encode pick
field_open st code builtin z n = refl

head_marks : (n : ℕ) (b : Bool) (st : List (List ℕ)) (h : Head) (ys : List Row) → NoDecl ys → marks n b st (head_rows h ++ ys) ≡ row_marks (is_inserted h) st n (head_rows h) ++ marks (n + length (head_rows h)) (is_inserted h) st ys
unfolding head_rows behind_field row_marks
head_marks n b st h ys d =
    let e : suc n + length (behind_field h) ≡ n + suc (length (behind_field h)) = omega arith in
    let f = Field h.code h.builtin h.z in
    mark_row n b (is_inserted h) st st f (behind_field h ++ ys) (field_added b h ys d) (field_open st h.code h.builtin h.z n)
    ∙ ap (λ (l : List Mark). mark (is_inserted h) st n (as_parts f) ∷ l) (inner_marks (behind_field h) ys (suc n) (is_inserted h) st (inner_behind h) ∙ rw e)

close_marks : (n : ℕ) (b : Bool) (s : List ℕ) (st : List (List ℕ)) (ys : List Row) → marks n b (s ∷ st) (Close ∷ ys) ≡ mark false (s ∷ st) n (as_parts Close) ∷ marks (suc n) false st ys
close_marks n b s st ys = mark_row n b false (s ∷ st) st Close ys (unfold is_added_t as_parts encode pick in refl) (unfold open_one_t open_closed_t as_parts encode pick in refl)

open_marks : (n kind name : ℕ) (st : List (List ℕ)) (ys : List Row) → length st < 64 → marks n false st (Open kind name ∷ ys) ≡ mark false st n (as_parts (Open kind name)) ∷ marks (suc n) false (open_scope_t name n ∷ st) ys
open_marks n kind name st ys l =
    mark_row n false false st (open_scope_t name n ∷ st) (Open kind name) ys (unfold is_added_t as_parts encode pick in refl) (unfold open_one_t as_parts encode pick in rw (lt-ltb _ _ l))

-- ---- fields and scopes

-- what follows, whatever the field before was
abbrev Follows : (n : ℕ) (st : List (List ℕ)) → List Row → List Mark → Type 0
Follows n st ys K = (b : Bool) → marks n b st ys ≡ K

abbrev ScopeMarks : (n : ℕ) (st : List (List ℕ)) → Scope → List Row → Type 0
ScopeMarks n st s ys = marks n false st (flatten s ++ ys) ≡ scope_marks n st s ++ marks (n + length (flatten s)) false st ys

abbrev FieldsMarks : (n : ℕ) (s : List ℕ) (st : List (List ℕ)) → Fields → List Row → Type 0
FieldsMarks n s st fs zs = Follows n (s ∷ st) (fields_rows fs ++ (Close ∷ zs)) (fields_marks n (s ∷ st) fs ++ (mark false (s ∷ st) (n + length (fields_rows fs)) (as_parts Close) ∷ marks (suc (n + length (fields_rows fs))) false st zs))

end_marks : (n : ℕ) (s : List ℕ) (st : List (List ℕ)) (zs : List Row) → FieldsMarks n s st end zs
unfolding flatten scope_marks
end_marks n s st zs b = let e : n + 0 ≡ n = omega arith in rw e (close_marks n b s st zs)

abbrev items_marks : (n : ℕ) (st : List (List ℕ)) → Item → List Mark
items_marks n st i = row_marks (is_inserted (head_of i)) st n (head_rows (head_of i)) ++ item_marks (n + length (head_rows (head_of i))) st i

plain_marks : (n : ℕ) (b : Bool) (st : List (List ℕ)) (h : Head) (ys : List Row) (K : List Mark) → NoDecl ys → Follows (n + length (item_rows (plain h))) st ys K → marks n b st (item_rows (plain h) ++ ys) ≡ items_marks n st (plain h) ++ K
unfolding flatten scope_marks head_of
plain_marks n b st h ys K d f = head_marks n b st h ys d ∙ rw (f (is_inserted h), append-nil (row_marks (is_inserted h) st n (head_rows h)))

-- one that holds a scope is not added
holds_own : (h : Head) (s : Scope) → (is_inserted h ≡ true → ⊥) → is_inserted h ≡ false
holds_own h s f = go (is_inserted h) refl
  where
    go : (b : Bool) → is_inserted h ≡ b → is_inserted h ≡ false
    go true e = absurd (f e)
    go false e = e

holds_marks : (n : ℕ) (b : Bool) (st : List (List ℕ)) (h : Head) (s : Scope) (ys : List Row) (K : List Mark) → is_inserted h ≡ false → ScopeMarks (n + length (head_rows h)) st s ys → Follows (n + length (item_rows (holds h s))) st ys K
    → marks n b st (item_rows (holds h s) ++ ys) ≡ items_marks n st (holds h s) ++ K
unfolding flatten scope_marks head_of
holds_marks n b st h s ys K e p f =
    let q : n + length (head_rows h) + length (flatten s) ≡ n + length (head_rows h ++ flatten s) = omega (arith, length-append (head_rows h) (flatten s)) in
    rw (append_assoc (head_rows h) (flatten s) ys)
    (head_marks n b st h (flatten s ++ ys) (scope_no_decl s ys) ∙ rw (e, p, q, f false, append_assoc))

next_marks : (n : ℕ) (s : List ℕ) (st : List (List ℕ)) (i : Item) (fs : Fields) (zs : List Row)
    → ((K : List Mark) → Follows (n + length (item_rows i)) (s ∷ st) (fields_rows fs ++ (Close ∷ zs)) K → (b : Bool) → marks n b (s ∷ st) (item_rows i ++ (fields_rows fs ++ (Close ∷ zs))) ≡ items_marks n (s ∷ st) i ++ K)
    → FieldsMarks (n + length (item_rows i)) s st fs zs → FieldsMarks n s st (i ▸ fs) zs
unfolding flatten scope_marks
next_marks n s st i fs zs f g b =
    let q : n + length (item_rows i ++ fields_rows fs) ≡ n + length (item_rows i) + length (fields_rows fs) = omega (arith, length-append (item_rows i) (fields_rows fs)) in
    rw (append_assoc (item_rows i) (fields_rows fs) (Close ∷ zs)) (f _ g b ∙ simp (append_assoc, q))

scope_marks_is : (kind name n : ℕ) (fs : Fields) (st : List (List ℕ)) (ys : List Row) → length st < 64 → FieldsMarks (suc n) (open_scope_t name n) st fs ys → ScopeMarks n st (scope kind name fs) ys
unfolding flatten scope_marks
scope_marks_is kind name n fs st ys l f =
    let q : suc (suc n + length (fields_rows fs)) ≡ n + suc (length (fields_rows fs ++ (Close ∷ []))) = omega (arith, length-append (fields_rows fs) (Close ∷ [])) in
    rw (append_assoc (fields_rows fs) (Close ∷ []) ys) (open_marks n kind name st _ l ∙ rw (f false, q, append_assoc))

scope_depth : (kind name : ℕ) (fs : Fields) (st : List (List ℕ)) → length st + height (scope kind name fs) ≤ 64 → (length st < 64) × (suc (length st) + heights fs ≤ 64)
unfolding height
scope_depth kind name fs st d = (omega arith, omega arith)

item_depth : (i : Item) (fs : Fields) (d : ℕ) → d + heights (i ▸ fs) ≤ 64 → (d + height_item i ≤ 64) × (d + heights fs ≤ 64)
unfolding height
item_depth i fs d l = let a = le-max_left (height_item i) (heights fs) in let b = le-max_right (height_item i) (heights fs) in (omega arith, omega arith)

held_depth : (h : Head) (s : Scope) (d : ℕ) → d + height_item (holds h s) ≤ 64 → d + height s ≤ 64
unfolding height
held_depth h s d l = l

mutual
  unfolding head_of

  scope_marked : (s : Scope) (n : ℕ) (st : List (List ℕ)) (ys : List Row) → AddedScope s → length st + height s ≤ 64 → ScopeMarks n st s ys
  scope_marked (scope kind name fs) n st ys a d =
      let D = scope_depth kind name fs st d in
      scope_marks_is kind name n fs st ys D.0 (fields_marked fs (suc n) (open_scope_t name n) st ys a D.1)

  fields_marked : (fs : Fields) (n : ℕ) (s : List ℕ) (st : List (List ℕ)) (zs : List Row) → AddedFields fs → suc (length st) + heights fs ≤ 64 → FieldsMarks n s st fs zs
  fields_marked end n s st zs a d = end_marks n s st zs
  fields_marked (i ▸ fs) n s st zs a d =
      let D = item_depth i fs (suc (length st)) d in
      next_marks n s st i fs zs (λ K f b. item_marked i n b (s ∷ st) (fields_rows fs ++ (Close ∷ zs)) K a.0 a.1 D.0 (fields_no_decl fs zs) f) (fields_marked fs (n + length (item_rows i)) s st zs a.2 D.1)

  item_marked : (i : Item) (n : ℕ) (b : Bool) (st : List (List ℕ)) (ys : List Row) (K : List Mark) → (is_inserted (head_of i) ≡ true → IsAdded i) → AddedItem i → length st + height_item i ≤ 64 → NoDecl ys → Follows (n + length (item_rows i)) st ys K
      → marks n b st (item_rows i ++ ys) ≡ items_marks n st i ++ K
  item_marked (plain h) n b st ys K t a d nd f = plain_marks n b st h ys K nd f
  item_marked (holds h s) n b st ys K t a d nd f = holds_marks n b st h s ys K (holds_own h s t) (scope_marked s (n + length (head_rows h)) st ys a (held_depth h s (length st) d)) f

-- The rows of a claim whose added fields hold no scopes.
pub scope_marks_lem : (c : Scope) → AddedScope c → height c ≤ 64 → marks_t 0 false [] (all_parts (flatten c)) ≡ scope_marks 0 [] c
unfolding marks_t all_parts
scope_marks_lem c a d = ap (λ (rs : List Row). marks 0 false [] rs) (sym (append-nil (flatten c))) ∙ (scope_marked c 0 [] [] a (omega arith) ∙ append-nil (scope_marks 0 [] c))
