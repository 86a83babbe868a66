-- The rows that a no names are rows of the claim, of the kind that the condition speaks of: the sums in `Check` count what they should.
use Rattle.std.specs.Prelude.{◌≡◌, Bool, ℕ, zero, suc, ◌+◌, ◌-◌, ◌≤◌, ◌<◌}
use Rattle.std.proofs.Math.Path.{refl, subst}
use Rattle.std.proofs.Common.{ap, sym, ◌∙◌, arith, length-append}
use Rattle.std.proofs.Math.Bool.{true, false}
use Rattle.std.proofs.Math.Option.{Option, none, some}
use mathlib.Core.List.{List, [], ◌∷◌, ◌++◌, map}
use Rattle.std.proofs.Math.ListN.{length, get_elem?}
use Rattle.std.proofs.lemmas.List.{length-map}
use Rattle.rules.specs.Tools.{when◌then◌else◌, is_just, is_in, ◌or_else◌}
use Rattle.rules.specs.Rows.{Row, Field, Decl, Ref, Path, Outer, Case, Open, Close, Export, encode}
use Rattle.rules.specs.Tree.{Declaration, Operand, ref, outer, case, Head, Scope, scope, Fields, end, ◌▸◌, Item, plain, holds, head_of, decl_rows, path_rows, operand_row, operand_rows, export_rows, head_rows, flatten, fields_rows, item_rows}
use Rattle.rules.specs.Rules.{Env, find}
use Rattle.rules.specs.Readings.{is_inserted}
use Rattle.checking.specs.Check.{Claimed, own, added, scope_claimed, fields_claimed, item_claimed, is_path, kept, same_parts, differs, condition2, has_numbers, not_new, not_number, no_alias, scope_added, fields_added, item_added, condition3, table, operand_right, not_right, head_operands, scope_operands, fields_operands, item_operands, condition4}
use Rattle.rules.specs.Laws.ToolLaws.{false_not}
use Rattle.read_form.proofs.Laws.Parting.{cons_head, cons_tail}
use Rattle.rules.specs.Laws.Results.{no_option, some_same}
use Rattle.rules.proofs.Laws.Output.Kept.{blank_operand, blank_head, blank, blank_item, without, without_item}
use Rattle.rules.proofs.Laws.Output.Numbers.{Bare, AllBare}
use Rattle.checking.proofs.Laws.SameFields.{BareScope, BareFields, BareItem, claimed_length, scope_length}
use Rattle.checking.proofs.Laws.Beside.{Beside, skip, both, beside, same_head, same_operands, same_scope, no_holds, same_inside}

-- ---- a row of a list whose first row is row n

record At {A : Type 0} (P : A → Type 0) (xs : List A) (n r : ℕ) : Type 0 where
  k : ℕ
  row : r ≡ n + k
  x : A
  there : get_elem? xs k ≡ some x
  is : P x

get_left : {A : Type 0} (xs ys : List A) (k : ℕ) (x : A) → get_elem? xs k ≡ some x → get_elem? (xs ++ ys) k ≡ some x
get_left [] ys k x e = no_option x e
get_left (y ∷ xs) ys zero x e = e
get_left (y ∷ xs) ys (suc k) x e = get_left xs ys k x e

at_left : {A : Type 0} {P : A → Type 0} (xs ys : List A) {n r : ℕ} → At P xs n r → At P (xs ++ ys) n r
at_left xs ys a = record { k = a.k; row = a.row; x = a.x; there = get_left xs ys a.k a.x a.there; is = a.is }

at_next : {A : Type 0} {P : A → Type 0} (x : A) (xs : List A) (n r : ℕ) → At P xs (suc n) r → At P (x ∷ xs) n r
at_next x xs n r a = record { k = suc a.k; row = omega (arith, a.row); x = a.x; there = a.there; is = a.is }

at_right : {A : Type 0} {P : A → Type 0} (xs ys : List A) (n m r : ℕ) → n + length xs ≡ m → At P ys m r → At P (xs ++ ys) n r
at_right [] ys n m r e a = record { k = a.k; row = omega (arith, a.row, e); x = a.x; there = a.there; is = a.is }
at_right (x ∷ xs) ys n m r e a = at_next x (xs ++ ys) n r (at_right xs ys (suc n) m r (omega (arith, e)) a)

at_here : {A : Type 0} {P : A → Type 0} (x : A) (xs : List A) (n : ℕ) → P x → At P (x ∷ xs) n n
at_here x xs n p = record { k = 0; row = omega arith; x = x; there = refl; is = p }

-- of marked rows
at_map : {P : Row → Type 0} {Q : Claimed → Type 0} (f : Row → Claimed) → ((r : Row) → P r → Q (f r)) → (rs : List Row) (n r : ℕ) → At P rs n r → At Q (map f rs) n r
at_map f g rs n r a = record { k = a.k; row = a.row; x = f a.x; there = get_map f rs a.k a.x a.there; is = g a.x a.is }
  where
    get_map : (f : Row → Claimed) (rs : List Row) (k : ℕ) (x : Row) → get_elem? rs k ≡ some x → get_elem? (map f rs) k ≡ some (f x)
    get_map f [] k x e = no_option (f x) (absurd_none e)
      where
        absurd_none : none ≡ some x → none ≡ some (f x)
        absurd_none q = no_option x q
    get_map f (y ∷ rs) zero x e = ap {B = Option Claimed} (λ (z : Row). some (f z)) (some_same y x e)
    get_map f (y ∷ rs) (suc k) x e = get_map f rs k x e

-- ---- condition 2: a row of the claim, or the row count

if_some : (b : Bool) (n r : ℕ) (o : Option ℕ) (X : Type 0) → (when b then some n else o) ≡ some r → (n ≡ r → X) → (o ≡ some r → X) → X
unfolding when◌then◌else◌
if_some true n r o X e f g = f (some_same n r e)
if_some false n r o X e f g = g e

if_some' : (b : Bool) (n r : ℕ) (o : Option ℕ) (X : Type 0) → (when b then o else some n) ≡ some r → (n ≡ r → X) → (o ≡ some r → X) → X
unfolding when◌then◌else◌
if_some' true n r o X e f g = g e
if_some' false n r o X e f g = f (some_same n r e)

differs_within : (n : ℕ) (cs : List Claimed) (rs : List Row) (r : ℕ) → differs n cs rs ≡ some r → r ≤ n + length cs
unfolding differs
differs_within n [] [] r e = no_option r e
differs_within n [] (x ∷ rs) r e = let s = some_same n r e in omega arith
differs_within n (added c ∷ cs) rs r e =
    if_some (is_path (encode c)) n r (differs (suc n) cs rs) (r ≤ n + suc (length cs)) e (λ s. omega arith) (λ f. let h = differs_within (suc n) cs rs r f in omega arith)
differs_within n (own c ∷ cs) [] r e = let s = some_same n r e in omega arith
differs_within n (own c ∷ cs) (x ∷ rs) r e =
    if_some (is_path (encode c)) n r _ (r ≤ n + suc (length cs)) e (λ s. omega arith)
    (λ f. if_some' (same_parts (kept (encode c)) (kept (encode x))) n r (differs (suc n) cs rs) (r ≤ n + suc (length cs)) f (λ s. omega arith) (λ g. let h = differs_within (suc n) cs rs r g in omega arith))

pub row_2 : (s c : Scope) (r : ℕ) → condition2 s c ≡ some r → r ≤ length (flatten c)
unfolding condition2
row_2 s c r e = let h = differs_within 0 (scope_claimed c) _ r e in omega (arith, h, scope_length c)

-- ---- condition 3: a row of an added field

abbrev pub IsAdded : Claimed → Type 0
IsAdded (own r) = ⊥
IsAdded (added r) = Unit {0}

get_some : {A : Type 0} (xs : List A) (k : ℕ) → k < length xs → (x : A) × (get_elem? xs k ≡ some x)
get_some [] k l = absurd (omega arith)
get_some (x ∷ xs) zero l = (x, refl)
get_some (x ∷ xs) (suc k) l = get_some xs k (omega arith)

abbrev Within : (n size r : ℕ) → Type 0
Within n size r = (n ≤ r) × (r < n + size)

added_within : (rs : List Row) (n r : ℕ) → Within n (length rs) r → At IsAdded (map added rs) n r
added_within rs n r w =
    let G = get_some rs (r - n) (omega (arith, w.0, w.1)) in
    at_map {P = λ (x : Row). Unit {0}} added (λ x p. tt) rs n r (record { k = r - n; row = omega (arith, w.0); x = G.0; there = G.1; is = tt })

or_else_some : (a b : Option ℕ) (r : ℕ) (X : Type 0) → (a or_else b) ≡ some r → (a ≡ some r → X) → (b ≡ some r → X) → X
unfolding ◌or_else◌
or_else_some none b r X e f g = g e
or_else_some (some n) b r X e f g = f e

not_new_within : (n : ℕ) (past ds : List Declaration) (r : ℕ) → not_new n past ds ≡ some r → Within n (length ds) r
unfolding not_new
not_new_within n past [] r e = no_option r e
not_new_within n past (d ∷ ds) r e =
    if_some (is_just (find past d.space d.name)) n r (not_new (suc n) (past ++ (d ∷ [])) ds) (Within n (suc (length ds)) r) e (λ s. (omega arith, omega arith))
    (λ f. let h = not_new_within (suc n) (past ++ (d ∷ [])) ds r f in (omega (arith, h.0), omega (arith, h.1)))

not_number_within : (n : ℕ) (os : List Operand) (r : ℕ) → not_number n os ≡ some r → Within n (length os) r
unfolding not_number
not_number_within n [] r e = no_option r e
not_number_within n (o ∷ os) r e =
    if_some' (has_numbers o) n r (not_number (suc n) os) (Within n (suc (length os)) r) e (λ s. (omega arith, omega arith))
    (λ f. let h = not_number_within (suc n) os r f in (omega (arith, h.0), omega (arith, h.1)))

decls_length : (ds : List Declaration) → length (decl_rows ds) ≡ length ds
unfolding decl_rows
decls_length [] = refl
decls_length (d ∷ ds) = ap suc (decls_length ds)

operand_length : (o : Operand) → 1 ≤ length (operand_row o)
unfolding operand_row
operand_length (ref space at paths z) = omega arith
operand_length (outer space up at z) = omega arith
operand_length (case name z) = omega arith

operands_length : (os : List Operand) → length os ≤ length (operand_rows os)
unfolding operand_rows
operands_length [] = omega arith
operands_length (o ∷ os) = omega (arith, length-append (operand_row o) (operand_rows os), operand_length o, operands_length os)

head_length : (h : Head) → suc (length h.decls + length h.operands) ≤ length (head_rows h)
unfolding head_rows
head_length h =
    omega (arith, length-append (decl_rows h.decls) (operand_rows h.operands ++ export_rows h.export), length-append (operand_rows h.operands) (export_rows h.export), decls_length h.decls, operands_length h.operands)

no_alias_within : (n : ℕ) (past : List Declaration) (h : Head) (r : ℕ) → no_alias n past h ≡ some r → Within n (length (head_rows h)) r
unfolding no_alias
no_alias_within n past h r e =
    let l = head_length h in
    if_some' (is_in h.code (9 ∷ 10 ∷ 11 ∷ [])) n r _ (Within n (length (head_rows h)) r) e (λ s. (omega arith, omega (arith, l)))
    (λ f. or_else_some (not_new (suc n) past h.decls) _ r (Within n (length (head_rows h)) r) f
    (λ g. let w = not_new_within (suc n) past h.decls r g in (omega (arith, w.0), omega (arith, w.1, l)))
    (λ g. let w = not_number_within (suc n + length h.decls) h.operands r g in (omega (arith, w.0), omega (arith, w.1, l))))

item_length : (i : Item) → length (head_rows (head_of i)) ≤ length (item_rows i)
unfolding flatten head_of
item_length (plain h) = omega arith
item_length (holds h s) = omega (arith, length-append (head_rows h) (flatten s))

if_inserted : (b : Bool) (o : Option ℕ) (r : ℕ) → (when b then o else none) ≡ some r → (b ≡ true) × (o ≡ some r)
unfolding when◌then◌else◌
if_inserted true o r e = (refl, e)
if_inserted false o r e = no_option r e

-- where `fields_added` found it
data Found3 (n : ℕ) (past : List Declaration) (i : Item) (fs : Fields) (r : ℕ) : Type 0 where
  in_alias : is_inserted (head_of i) ≡ true → Within n (length (item_rows i)) r → Found3 n past i fs r
  in_inner : item_added (n + length (head_rows (head_of i))) i ≡ some r → Found3 n past i fs r
  in_rest : fields_added (n + length (item_rows i)) (past ++ (head_of i).decls) fs ≡ some r → Found3 n past i fs r

found_3 : (n : ℕ) (past : List Declaration) (i : Item) (fs : Fields) (r : ℕ) → fields_added n past (i ▸ fs) ≡ some r → Found3 n past i fs r
unfolding scope_added
found_3 n past i fs r e =
    or_else_some (when is_inserted (head_of i) then no_alias n past (head_of i) else none) _ r (Found3 n past i fs r) e
    (λ f. let I = if_inserted (is_inserted (head_of i)) (no_alias n past (head_of i)) r f in
    let w = no_alias_within n past (head_of i) r I.1 in in_alias I.0 (w.0, omega (arith, w.1, item_length i)))
    (λ f. or_else_some (item_added (n + length (head_rows (head_of i))) i) _ r (Found3 n past i fs r) f in_inner in_rest)

scope_size : (kind name : ℕ) (fs : Fields) → length (flatten (scope kind name fs)) ≡ 2 + length (fields_rows fs)
unfolding flatten
scope_size kind name fs = omega (arith, length-append (fields_rows fs) (Close ∷ []))

fields_size : (i : Item) (fs : Fields) → length (fields_rows (i ▸ fs)) ≡ length (item_rows i) + length (fields_rows fs)
unfolding flatten
fields_size i fs = length-append (item_rows i) (fields_rows fs)

holds_size : (h : Head) (s : Scope) → length (item_rows (holds h s)) ≡ length (head_rows h) + length (flatten s)
unfolding flatten
holds_size h s = length-append (head_rows h) (flatten s)

inside_3 : (n kind name : ℕ) (fs : Fields) (r : ℕ) → scope_added n (scope kind name fs) ≡ some r → fields_added (suc n) [] fs ≡ some r
unfolding scope_added
inside_3 n kind name fs r e = e

plain_3 : {X : Type 0} (n : ℕ) (h : Head) (r : ℕ) → item_added n (plain h) ≡ some r → X
unfolding scope_added
plain_3 n h r e = no_option r e

holds_3 : (n : ℕ) (h : Head) (s : Scope) (r : ℕ) → item_added n (holds h s) ≡ some r → scope_added n s ≡ some r
unfolding scope_added
holds_3 n h s r e = e

end_3 : {X : Type 0} (n : ℕ) (past : List Declaration) (r : ℕ) → fields_added n past end ≡ some r → X
unfolding scope_added
end_3 n past r e = no_option r e

wider : (n m a b r : ℕ) → n ≤ m → m + a ≤ n + b → Within m a r → Within n b r
wider n m a b r l k w = (omega (arith, w.0), omega (arith, w.1))

found_within : (n : ℕ) (past : List Declaration) (i : Item) (fs : Fields) (r : ℕ) → Found3 n past i fs r
    → (item_added (n + length (head_rows (head_of i))) i ≡ some r → (n + length (head_rows (head_of i)) ≤ r) × (r < n + length (item_rows i)))
    → (fields_added (n + length (item_rows i)) (past ++ (head_of i).decls) fs ≡ some r → Within (n + length (item_rows i)) (length (fields_rows fs)) r)
    → Within n (length (fields_rows (i ▸ fs))) r
found_within n past i fs r (in_alias t w) f g = (w.0, omega (arith, w.1, fields_size i fs))
found_within n past i fs r (in_inner e) f g = let w = f e in (omega (arith, w.0), omega (arith, w.1, fields_size i fs))
found_within n past i fs r (in_rest e) f g = let w = g e in (omega (arith, w.0), omega (arith, w.1, fields_size i fs))

held_within : (n : ℕ) (h : Head) (s : Scope) (r : ℕ) → Within (n + length (head_rows h)) (length (flatten s)) r → (n + length (head_rows h) ≤ r) × (r < n + length (item_rows (holds h s)))
held_within n h s r w = (w.0, omega (arith, w.1, holds_size h s))

mutual
  unfolding head_of

  scope_within : (n : ℕ) (s : Scope) (r : ℕ) → scope_added n s ≡ some r → Within n (length (flatten s)) r
  scope_within n (scope kind name fs) r e =
      wider n (suc n) (length (fields_rows fs)) (length (flatten (scope kind name fs))) r (omega arith) (omega (arith, scope_size kind name fs)) (fields_within (suc n) [] fs r (inside_3 n kind name fs r e))

  fields_within : (n : ℕ) (past : List Declaration) (fs : Fields) (r : ℕ) → fields_added n past fs ≡ some r → Within n (length (fields_rows fs)) r
  fields_within n past end r e = end_3 n past r e
  fields_within n past (i ▸ fs) r e =
      found_within n past i fs r (found_3 n past i fs r e) (λ f. item_within n i r f) (λ f. fields_within (n + length (item_rows i)) (past ++ (head_of i).decls) fs r f)

  item_within : (n : ℕ) (i : Item) (r : ℕ) → item_added (n + length (head_rows (head_of i))) i ≡ some r → (n + length (head_rows (head_of i)) ≤ r) × (r < n + length (item_rows i))
  item_within n (plain h) r e = plain_3 _ h r e
  item_within n (holds h s) r e = held_within n h s r (scope_within (n + length (head_rows h)) s r (holds_3 _ h s r e))

-- the rows of a claim
module _ {P : Claimed → Type 0} where
  in_scope_lem : (n kind name : ℕ) (fs : Fields) (r : ℕ) → At P (fields_claimed fs) (suc n) r → At P (scope_claimed (scope kind name fs)) n r
  unfolding scope_claimed
  in_scope_lem n kind name fs r a = at_next _ _ n r (at_left (fields_claimed fs) (own Close ∷ []) a)

  in_item : (n : ℕ) (i : Item) (fs : Fields) (b : Bool) (r : ℕ) → is_inserted (head_of i) ≡ b → At P (when b then map added (item_rows i) else item_claimed i) n r → At P (fields_claimed (i ▸ fs)) n r
  unfolding scope_claimed
  in_item n i fs b r e a = at_left (when is_inserted (head_of i) then map added (item_rows i) else item_claimed i) (fields_claimed fs) (subst (λ (x : Bool). At P (when x then map added (item_rows i) else item_claimed i) n r) (sym e) a)

  in_later : (n : ℕ) (i : Item) (fs : Fields) (r : ℕ) → At P (fields_claimed fs) (n + length (item_rows i)) r → At P (fields_claimed (i ▸ fs)) n r
  unfolding scope_claimed
  in_later n i fs r a = at_right (when is_inserted (head_of i) then map added (item_rows i) else item_claimed i) (fields_claimed fs) n _ r (ap (λ (x : ℕ). n + x) (claimed_length (is_inserted (head_of i)) i)) a

  in_held : (n : ℕ) (h : Head) (s : Scope) (r : ℕ) → At P (scope_claimed s) (n + length (head_rows h)) r → At P (item_claimed (holds h s)) n r
  unfolding scope_claimed
  in_held n h s r a = at_right (map own (head_rows h)) (scope_claimed s) n _ r (ap (λ (x : ℕ). n + x) (length-map (head_rows h) own)) a

inner_added : (n : ℕ) (past : List Declaration) (i : Item) (r : ℕ) (b : Bool) → item_added (n + length (head_rows (head_of i))) i ≡ some r → At IsAdded (item_claimed i) n r
    → At IsAdded (when b then map added (item_rows i) else item_claimed i) n r
unfolding when◌then◌else◌
inner_added n past i r true e a = let w = item_within n i r e in added_within (item_rows i) n r (omega (arith, w.0), w.1)
inner_added n past i r false e a = a

found_added : (n : ℕ) (past : List Declaration) (i : Item) (fs : Fields) (r : ℕ) → Found3 n past i fs r → (item_added (n + length (head_rows (head_of i))) i ≡ some r → At IsAdded (item_claimed i) n r)
    → (fields_added (n + length (item_rows i)) (past ++ (head_of i).decls) fs ≡ some r → At IsAdded (fields_claimed fs) (n + length (item_rows i)) r) → At IsAdded (fields_claimed (i ▸ fs)) n r
found_added n past i fs r (in_alias t w) f g = in_item n i fs true r t (unfold when◌then◌else◌ in added_within (item_rows i) n r w)
found_added n past i fs r (in_inner e) f g = in_item n i fs (is_inserted (head_of i)) r refl (inner_added n past i r (is_inserted (head_of i)) e (f e))
found_added n past i fs r (in_rest e) f g = in_later n i fs r (g e)

mutual
  unfolding head_of

  scope_added_row : (n : ℕ) (s : Scope) (r : ℕ) → scope_added n s ≡ some r → At IsAdded (scope_claimed s) n r
  scope_added_row n (scope kind name fs) r e = in_scope_lem n kind name fs r (fields_added_row (suc n) [] fs r (inside_3 n kind name fs r e))

  fields_added_row : (n : ℕ) (past : List Declaration) (fs : Fields) (r : ℕ) → fields_added n past fs ≡ some r → At IsAdded (fields_claimed fs) n r
  fields_added_row n past end r e = end_3 n past r e
  fields_added_row n past (i ▸ fs) r e =
      found_added n past i fs r (found_3 n past i fs r e) (λ f. item_added_row n i r f) (λ f. fields_added_row (n + length (item_rows i)) (past ++ (head_of i).decls) fs r f)

  item_added_row : (n : ℕ) (i : Item) (r : ℕ) → item_added (n + length (head_rows (head_of i))) i ≡ some r → At IsAdded (item_claimed i) n r
  item_added_row n (plain h) r e = plain_3 _ h r e
  item_added_row n (holds h s) r e = in_held n h s r (scope_added_row (n + length (head_rows h)) s r (holds_3 _ h s r e))

-- row `r` of a claim, of which this holds
abbrev pub RowIs : (Claimed → Type 0) → Scope → ℕ → Type 0
RowIs P c r = (x : Claimed) × (get_elem? (scope_claimed c) r ≡ some x) × P x

row_is : (P : Claimed → Type 0) (c : Scope) (r : ℕ) → At P (scope_claimed c) 0 r → RowIs P c r
row_is P c r a = let e : r ≡ a.k = omega (arith, a.row) in (a.x, ap (get_elem? (scope_claimed c)) e ∙ a.there, a.is)

pub row_3 : (c : Scope) (r : ℕ) → condition3 c ≡ some r → RowIs IsAdded c r
unfolding condition3
row_3 c r e = row_is IsAdded c r (scope_added_row 0 c r e)

-- ---- condition 4: a REF or an OUTER of a field of the input

abbrev IsReference : Row → Type 0
IsReference (Field code builtin z) = ⊥
IsReference (Decl space name z) = ⊥
IsReference (Ref space at paths z) = Unit {0}
IsReference (Path name) = ⊥
IsReference (Outer space up at z) = Unit {0}
IsReference (Case name z) = ⊥
IsReference (Open kind name) = ⊥
IsReference Close = ⊥
IsReference (Export name) = ⊥

abbrev pub IsOwn : Claimed → Type 0
IsOwn (own r) = IsReference r
IsOwn (added r) = ⊥

same_case : {X : Type 0} (w : Operand) (name z : ℕ) (here : Scope) (outside : List Env) → case name z ≡ blank_operand w → operand_right here outside w (case name z) ≡ false → X
unfolding blank_operand operand_right
same_case (ref space at paths z') name z here outside e t = let c : ◌≡◌ {A = ℕ} 0 1 = cc in absurd (omega arith)
same_case (outer space up at z') name z here outside e t = let c : ◌≡◌ {A = ℕ} 0 1 = cc in absurd (omega arith)
same_case (case n z') name z here outside e t = false_not (sym t)

module _ (here : Scope) (outside : List Env) where
  wrong_row : (n : ℕ) (x w : Operand) (rs : List Row) → blank_operand x ≡ blank_operand w → operand_right here outside w x ≡ false → At IsReference (operand_row x ++ rs) n n
  unfolding operand_row
  wrong_row n (ref space at paths z) w rs e t = at_here _ _ n tt
  wrong_row n (outer space up at z) w rs e t = at_here _ _ n tt
  wrong_row n (case name z) w rs e t = same_case w name z here outside (unfold blank_operand in e) t

  one_row : (x : Operand) → Bare x → length (operand_row x) ≡ 1
  unfolding operand_row path_rows
  one_row (ref space at [] z) b = refl
  one_row (ref space at (q ∷ ps) z) b = absurd b
  one_row (outer space up at z) b = refl
  one_row (case name z) b = refl

  operands_row : (n : ℕ) (now was : List Operand) (r : ℕ) → AllBare now → map blank_operand now ≡ map blank_operand was → not_right here outside n now was ≡ some r → At IsReference (operand_rows now) n r
  unfolding not_right operand_rows
  operands_row n [] was r b s e = no_option r e
  operands_row n (x ∷ now) [] r b s e = no_option r e
  operands_row n (x ∷ now) (w ∷ was) r b s e = go (operand_right here outside w x) refl e (λ f. operands_row (suc n) now was r b.1 (cons_tail s) f)
    where
      go : (t : Bool) → operand_right here outside w x ≡ t → (when t then not_right here outside (suc n) now was else some n) ≡ some r
          → (not_right here outside (suc n) now was ≡ some r → At IsReference (operand_rows now) (suc n) r) → At IsReference (operand_row x ++ operand_rows now) n r
      go true t f rest = at_right (operand_row x) (operand_rows now) n (suc n) r (omega (arith, one_row x b.0)) (rest (unfold when◌then◌else◌ in f))
      go false t f rest = subst (λ (y : ℕ). At IsReference (operand_row x ++ operand_rows now) n y) (some_same n r (unfold when◌then◌else◌ in f)) (wrong_row n x w (operand_rows now) (cons_head s) t)

  head_row : (n : ℕ) (h w : Head) (r : ℕ) → AllBare h.operands → blank_head h ≡ blank_head w → head_operands here outside n h w ≡ some r → At IsReference (head_rows h) n r
  unfolding head_operands head_rows
  head_row n h w r b s e =
      at_next _ _ n r (at_right (decl_rows h.decls) _ (suc n) (suc n + length h.decls) r (omega (arith, decls_length h.decls))
      (at_left (operand_rows h.operands) (export_rows h.export) (operands_row _ h.operands w.operands r b (same_operands h w s) e)))

  own_row : (n : ℕ) (h w : Head) (r : ℕ) → AllBare h.operands → blank_head h ≡ blank_head w → head_operands here outside n h w ≡ some r → At IsOwn (map own (head_rows h)) n r
  own_row n h w r b s e = at_map own (λ x p. p) (head_rows h) n r (head_row n h w r b s e)

-- where `fields_operands` found it
right_end : {X : Type 0} (n : ℕ) (cs : Fields) (here : Scope) (outside : List Env) (r : ℕ) → fields_operands n cs here outside end ≡ some r → X
unfolding scope_operands
right_end n end here outside r e = no_option r e
right_end n (i ▸ cs) here outside r e = no_option r e

end_right : {X : Type 0} (n : ℕ) (fs : Fields) (here : Scope) (outside : List Env) (r : ℕ) → fields_operands n end here outside fs ≡ some r → X
unfolding scope_operands
end_right n fs here outside r e = no_option r e

skip_right : (n : ℕ) (i : Item) (cs : Fields) (here : Scope) (outside : List Env) (fs : Fields) (r : ℕ) → is_inserted (head_of i) ≡ true → fields_operands n (i ▸ cs) here outside fs ≡ some r
    → fields_operands (n + length (item_rows i)) cs here outside fs ≡ some r
unfolding scope_operands when◌then◌else◌
skip_right n i cs here outside end r t e = no_option r e
skip_right n i cs here outside (w ▸ fs) r t e = rw t at e

both_right : (n : ℕ) (i w : Item) (cs : Fields) (here : Scope) (outside : List Env) (fs : Fields) (r : ℕ) (X : Type 0) → is_inserted (head_of i) ≡ false → fields_operands n (i ▸ cs) here outside (w ▸ fs) ≡ some r
    → (item_operands n i here outside w ≡ some r → X) → (fields_operands (n + length (item_rows i)) cs here outside fs ≡ some r → X) → X
unfolding scope_operands when◌then◌else◌
both_right n i w cs here outside fs r X t e f g = or_else_some (item_operands n i here outside w) _ r X (rw t at e) f g

inside_right : (n kind name : ℕ) (cs : Fields) (outside : List Env) (kind' name' : ℕ) (fs : Fields) (r : ℕ) → scope_operands n (scope kind name cs) outside (scope kind' name' fs) ≡ some r
    → fields_operands (suc n) cs (scope kind name cs) outside fs ≡ some r
unfolding scope_operands
inside_right n kind name cs outside kind' name' fs r e = e

beside_scope : (kind name : ℕ) (cs : Fields) (kind' name' : ℕ) (fs : Fields) → blank (without (scope kind name cs)) ≡ blank (scope kind' name' fs) → Beside cs fs
unfolding blank without
beside_scope kind name cs kind' name' fs e = beside cs fs (same_inside _ _ _ _ _ _ e)

plain_right : (n : ℕ) (h : Head) (here : Scope) (outside : List Env) (w : Item) (r : ℕ) → item_operands n (plain h) here outside w ≡ some r → head_operands here outside n h (head_of w) ≡ some r
unfolding scope_operands
plain_right n h here outside w r e = e

holds_right : (n : ℕ) (h w : Head) (s t here : Scope) (outside : List Env) (r : ℕ) (X : Type 0) → item_operands n (holds h s) here outside (holds w t) ≡ some r
    → (head_operands here outside n h w ≡ some r → X) → (scope_operands (n + length (head_rows h)) s (table here ∷ outside) t ≡ some r → X) → X
unfolding scope_operands
holds_right n h w s t here outside r X e f g = or_else_some (head_operands here outside n h w) _ r X e f g

other_kinds : {X : Type 0} (h w : Head) (s : Scope) → blank_item (without_item (holds h s)) ≡ blank_item (plain w) → X
unfolding blank without
other_kinds h w s e = no_holds _ _ _ (sym e)

same_inner : (h w : Head) (s t : Scope) → blank_item (without_item (holds h s)) ≡ blank_item (holds w t) → blank (without s) ≡ blank t
unfolding blank without
same_inner h w s t e = same_scope _ _ _ _ e

in_head : {P : Claimed → Type 0} (n : ℕ) (h : Head) (s : Scope) (r : ℕ) → At P (map own (head_rows h)) n r → At P (item_claimed (holds h s)) n r
unfolding scope_claimed
in_head n h s r a = at_left (map own (head_rows h)) (scope_claimed s) a

in_plain : {P : Claimed → Type 0} (n : ℕ) (h : Head) (r : ℕ) → At P (map own (head_rows h)) n r → At P (item_claimed (plain h)) n r
unfolding scope_claimed
in_plain n h r a = a

own_item : {P : Claimed → Type 0} (n : ℕ) (i : Item) (cs : Fields) (r : ℕ) → is_inserted (head_of i) ≡ false → At P (item_claimed i) n r → At P (fields_claimed (i ▸ cs)) n r
unfolding when◌then◌else◌
own_item n i cs r t a = in_item n i cs false r t a

mutual
  unfolding head_of

  scope_right_row : (n : ℕ) (c : Scope) (outside : List Env) (s : Scope) (r : ℕ) → BareScope c → blank (without c) ≡ blank s → scope_operands n c outside s ≡ some r → At IsOwn (scope_claimed c) n r
  scope_right_row n (scope kind name cs) outside (scope kind' name' fs) r b e t =
      in_scope_lem n kind name cs r (fields_right_row (suc n) cs (scope kind name cs) outside fs r b (beside_scope kind name cs kind' name' fs e) (inside_right n kind name cs outside kind' name' fs r t))

  fields_right_row : (n : ℕ) (cs : Fields) (here : Scope) (outside : List Env) (fs : Fields) (r : ℕ) → BareFields cs → Beside cs fs → fields_operands n cs here outside fs ≡ some r → At IsOwn (fields_claimed cs) n r
  fields_right_row n end here outside fs r b p e = end_right n fs here outside r e
  fields_right_row n (i ▸ cs) here outside fs r b (skip t p) e =
      in_later n i cs r (fields_right_row (n + length (item_rows i)) cs here outside fs r b.1 p (skip_right n i cs here outside fs r t e))
  fields_right_row n (i ▸ cs) here outside (w ▸ fs) r b (both t s p) e =
      both_right n i w cs here outside fs r (At IsOwn (fields_claimed (i ▸ cs)) n r) t e
      (λ f. own_item n i cs r t (item_right_row n i here outside w r b.0 s f))
      (λ f. in_later n i cs r (fields_right_row (n + length (item_rows i)) cs here outside fs r b.1 p f))

  item_right_row : (n : ℕ) (i : Item) (here : Scope) (outside : List Env) (w : Item) (r : ℕ) → BareItem i → blank_item (without_item i) ≡ blank_item w → item_operands n i here outside w ≡ some r → At IsOwn (item_claimed i) n r
  item_right_row n (plain h) here outside w r b s e = in_plain n h r (own_row here outside n h (head_of w) r b (same_head (plain h) w s) (plain_right n h here outside w r e))
  item_right_row n (holds h c) here outside (plain w) r b s e = other_kinds h w c s
  item_right_row n (holds h c) here outside (holds w t) r b s e =
      holds_right n h w c t here outside r (At IsOwn (item_claimed (holds h c)) n r) e
      (λ f. in_head n h c r (own_row here outside n h w r b.0 (same_head (holds h c) (holds w t) s) f))
      (λ f. in_held n h c r (scope_right_row (n + length (head_rows h)) c (table here ∷ outside) t r b.1 (same_inner h w c t s) f))

-- of a claim that passed condition 2 (`SameFields.same_fields`)
pub row_4 : (s c : Scope) (r : ℕ) → BareScope c → blank (without c) ≡ blank s → condition4 s c ≡ some r → RowIs IsOwn c r
unfolding condition4
row_4 s c r b e t = row_is IsOwn c r (scope_right_row 0 c [] s r b e t)
