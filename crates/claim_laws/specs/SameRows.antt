-- Condition 2: on the rows of an input and of a claim the code finds the row that the rules name.
use Rattle.std.specs.Prelude.{◌≡◌, Bool, true, false, ◌&&◌, ◌||◌, not, ℕ, zero, suc, ◌+◌, ◌-◌, ◌≤◌, eqb, ltb, length, Result, Ok, Err, ⊤}
use Rattle.std.proofs.Math.Path.{refl}
use Rattle.std.proofs.Common.{sym, ap, ap₂, ◌∙◌, arith, add-one, lt-ltb, le-ltb, eqb-true, ne_eqb}
use Rattle.std.proofs.Math.Bool.{and_assoc}
use Rattle.std.proofs.Math.Option.{Option, none, some}
use mathlib.Core.List.{List, [], ◌∷◌, ◌++◌, map, append_assoc, append-nil, map-append}
use Rattle.rules.specs.Laws.ToolLaws.{eqb_same, All, done, ◌&◌}
use Rattle.kit.specs.Pick.{pick}
use Rattle.parts.specs.declared.Parts.{Parts}
use Rattle.rules.specs.Tools.{when◌then◌else◌, is_in}
use Rattle.rules.specs.Rows.{Raw, raw, Row, Field, Decl, Ref, Path, Outer, Case, Open, Close, Export, encode}
use Rattle.rules.specs.Tree.{Declaration, Operand, ref, outer, case, Head, Scope, scope, Fields, end, ◌▸◌, Item, plain, holds, head_of, decl_rows, path_rows, operand_row, operand_rows, export_rows, head_rows, flatten, fields_rows, item_rows}
use Rattle.rules.specs.Readings
use Rattle.rules.specs.Readings.{is_inserted}
use Rattle.checking.specs.Check.{is_path, kept, same_parts, without_paths, Claimed, own, added, scope_claimed, fields_claimed, item_claimed, differs, condition2}
use Rattle.claim_rows.specs.Added.{is_added_t}
use Rattle.claim_rows.specs.Same.{depth_behind_t, is_same_t, other_t, same_breaks_t, past_paths, same_next_t, rows_behind_t, rest_t, differs_t}
use Rattle.claim_laws.specs.RowParts.{of_raw, as_parts, all_parts, code_in, NoDecl, behind_field, operands_no_decl, any_fresh_lem, fields_no_decl, scope_no_decl, Inner, inner_behind}

-- what the rules find, as the code says it
abbrev pub tried : Option ℕ → Result ⊤ ℕ
tried none = Ok tt
tried (some row) = Err row

-- ---- rows marked as the code takes them

unfoldable mark : (depth : ℕ) → Row → Claimed
mark zero r = own r
mark (suc d) r = added r

unfoldable deep : (depth : ℕ) → Row → List Row → ℕ
deep depth r rs = depth_behind_t depth (code_in r) (is_added_t false (code_in r) (all_parts rs))

unfoldable marks : (depth : ℕ) → List Row → List Claimed
marks depth [] = []
marks depth (r ∷ rs) = mark (deep depth r rs) r ∷ marks (deep depth r rs) rs

-- ---- one row

is_path_lem : (r : Row) → eqb (code_in r) 4 ≡ is_path (encode r)
unfolding as_parts encode is_path
is_path_lem (Field code builtin z) = refl
is_path_lem (Decl space name z) = refl
is_path_lem (Ref space at paths z) = refl
is_path_lem (Path name) = refl
is_path_lem (Outer space up at z) = refl
is_path_lem (Case name z) = refl
is_path_lem (Open kind name) = refl
is_path_lem Close = refl
is_path_lem (Export name) = refl

-- t: the row is a REF, u: it is an OUTER
same_rest : (t u e x y z : Bool) → ((t || (u || (e && (x && y)))) && z) ≡ (when t || (u || false) then z else e && (x && (y && z)))
unfolding when◌then◌else◌
same_rest true u e x y z = refl
same_rest false true e x y z = refl
same_rest false false e x y z = simp and_assoc

-- two rows of one code, and of two
same_code : (t : Bool) (c b e x y z b' e' x' y' z' : ℕ) → same_parts (when t then raw c b 0 0 0 z else raw c b e x y z) (when t then raw c b' 0 0 0 z' else raw c b' e' x' y' z') ≡ (eqb b b' && (when t then eqb z z' else eqb e e' && (eqb x x' && (eqb y y' && eqb z z'))))
unfolding same_parts when◌then◌else◌
same_code true c b e x y z b' e' x' y' z' = rw (eqb_same c)
same_code false c b e x y z b' e' x' y' z' = rw (eqb_same c)

other_code : (t u : Bool) (c c' b e x y z b' e' x' y' z' : ℕ) → eqb c c' ≡ false → same_parts (when t then raw c b 0 0 0 z else raw c b e x y z) (when u then raw c' b' 0 0 0 z' else raw c' b' e' x' y' z') ≡ false
unfolding same_parts when◌then◌else◌
other_code true true c c' b e x y z b' e' x' y' z' h = rw h
other_code true false c c' b e x y z b' e' x' y' z' h = rw h
other_code false true c c' b e x y z b' e' x' y' z' h = rw h
other_code false false c c' b e x y z b' e' x' y' z' h = rw h

same_raw : (r r' : Raw) → is_same_t (of_raw r) (of_raw r') ≡ same_parts (kept r) (kept r')
unfolding is_same_t kept
same_raw (raw c b e x y z) (raw c' b' e' x' y' z') = go (eqb c c') refl
  where
    go : (t : Bool) → eqb c c' ≡ t
        → (t && (eqb b b' && ((eqb c 3 || (eqb c 5 || (eqb e e' && (eqb x x' && eqb y y')))) && eqb z z'))) ≡ same_parts (when is_in c (3 ∷ 5 ∷ []) then raw c b 0 0 0 z else raw c b e x y z) (when is_in c' (3 ∷ 5 ∷ []) then raw c' b' 0 0 0 z' else raw c' b' e' x' y' z')
    go true h = rw (← eqb-true c c' h) (ap (λ (k : Bool). eqb b b' && k) (same_rest (eqb c 3) (eqb c 5) (eqb e e') (eqb x x') (eqb y y') (eqb z z')) ∙ sym (same_code (is_in c (3 ∷ 5 ∷ [])) c b e x y z b' e' x' y' z'))
    go false h = sym (other_code (is_in c (3 ∷ 5 ∷ [])) (is_in c' (3 ∷ 5 ∷ [])) c c' b e x y z b' e' x' y' z' h)

same_row : (r r' : Row) → is_same_t (as_parts r) (as_parts r') ≡ same_parts (kept (encode r)) (kept (encode r'))
unfolding as_parts
same_row r r' = same_raw (encode r) (encode r')

-- ---- the input's rows without PATHs

abbrev pub Settled : List Row → Type 0
Settled [] = Unit {0}
Settled (r ∷ rs) = is_path (encode r) ≡ false

-- without the PATHs that come first
unfoldable onward : List Row → List Row
onward [] = []
onward (r ∷ rs) = when is_path (encode r) then onward rs else r ∷ rs

onward_settled : (rs : List Row) → Settled (onward rs)
unfolding onward when◌then◌else◌
onward_settled [] = tt
onward_settled (r ∷ rs) = go (is_path (encode r)) refl (onward_settled rs)
  where
    go : (t : Bool) → is_path (encode r) ≡ t → Settled (onward rs) → Settled (when t then onward rs else r ∷ rs)
    go true h e = e
    go false h e = h

onward_parts : (rs : List Row) → past_paths (all_parts rs) ≡ all_parts (onward rs)
unfolding past_paths all_parts onward pick when◌then◌else◌
onward_parts [] = refl
onward_parts (r ∷ rs) = go (eqb (code_in r) 4) (is_path (encode r)) (is_path_lem r) (onward_parts rs)
  where
    go : (t u : Bool) → t ≡ u → past_paths (all_parts rs) ≡ all_parts (onward rs) → pick t (past_paths (all_parts rs)) (as_parts r ∷ all_parts rs) ≡ all_parts (when u then onward rs else r ∷ rs)
    go t true h e = rw h e
    go t false h e = rw h

-- where none comes first
pub settled_parts : (rs : List Row) → Settled rs → past_paths (all_parts rs) ≡ all_parts rs
unfolding past_paths all_parts pick
settled_parts [] s = refl
settled_parts (r ∷ rs) s = rw (is_path_lem r, s)

onward_without : (rs : List Row) → without_paths (onward rs) ≡ without_paths rs
unfolding without_paths onward when◌then◌else◌
onward_without [] = refl
onward_without (r ∷ rs) = go (is_path (encode r)) refl (onward_without rs)
  where
    go : (t : Bool) → is_path (encode r) ≡ t → without_paths (onward rs) ≡ without_paths rs → without_paths (when t then onward rs else r ∷ rs) ≡ (when t then without_paths rs else r ∷ without_paths rs)
    go true h e = e
    go false h e = rw h

-- ---- row by row

-- what is found behind a row, whatever is left of the input
abbrev Found : (n d : ℕ) → List Row → Type 0
Found n d rs = (qs : List Row) → Settled qs → differs_t n d (all_parts rs) (all_parts qs) ≡ tried (differs n (marks d rs) (without_paths qs))

positive : (k : ℕ) → ltb 0 (suc k) ≡ true
positive k = lt-ltb 0 (suc k) (omega arith)

added_turn : (t : Bool) (r : Row) (rs : List Row) (n k : ℕ) (qs : List Row) → Settled qs → is_path (encode r) ≡ t → Found (suc n) (suc k) rs
    → pick (same_breaks_t (as_parts r) (suc k) (all_parts qs)) (Err n) (differs_t (suc n) (suc k) (all_parts rs) (rows_behind_t (suc k) (all_parts qs))) ≡ tried (when t then some n else differs (suc n) (marks (suc k) rs) (without_paths qs))
unfolding same_breaks_t rows_behind_t pick when◌then◌else◌
added_turn true r rs n k qs s h f = rw (is_path_lem r, h)
added_turn false r rs n k qs s h f = rw (is_path_lem r, h, positive k) (f qs s)

missing_turn : (t : Bool) (r : Row) (n : ℕ) (X : Result ⊤ ℕ) → is_path (encode r) ≡ t → pick (same_breaks_t (as_parts r) 0 []) (Err n) X ≡ Err n
unfolding same_breaks_t other_t pick
missing_turn true r n X h = rw (is_path_lem r, h)
missing_turn false r n X h = rw (is_path_lem r, h)

own_turn : (t u : Bool) (r q : Row) (rs qs : List Row) (n : ℕ) → is_path (encode r) ≡ t → same_parts (kept (encode r)) (kept (encode q)) ≡ u → Found (suc n) 0 rs
    → pick (same_breaks_t (as_parts r) 0 (all_parts (q ∷ qs))) (Err n) (differs_t (suc n) 0 (all_parts rs) (rows_behind_t 0 (all_parts (q ∷ qs)))) ≡ tried (when t then some n else when u then differs (suc n) (marks 0 rs) (without_paths qs) else some n)
unfolding same_breaks_t rows_behind_t other_t same_next_t all_parts pick when◌then◌else◌
own_turn true u r q rs qs n h g f = rw (is_path_lem r, h)
own_turn false true r q rs qs n h g f = rw (is_path_lem r, h, same_row r q, g) (rw (onward_parts qs) (f (onward qs) (onward_settled qs) ∙ rw (onward_without qs)))
own_turn false false r q rs qs n h g f = rw (is_path_lem r, h, same_row r q, g)

rest_turn : (n : ℕ) (qs : List Row) → Settled qs → rest_t n (all_parts qs) ≡ tried (differs n [] (without_paths qs))
unfolding rest_t all_parts differs without_paths when◌then◌else◌
rest_turn n [] s = refl
rest_turn n (q ∷ qs) s = rw s

turn : (r : Row) (rs : List Row) (n d : ℕ) (qs : List Row) → Settled qs → Found (suc n) d rs
    → pick (same_breaks_t (as_parts r) d (all_parts qs)) (Err n) (differs_t (suc n) d (all_parts rs) (rows_behind_t d (all_parts qs))) ≡ tried (differs n (mark d r ∷ marks d rs) (without_paths qs))
unfolding mark differs without_paths when◌then◌else◌
turn r rs n (suc k) qs s f = added_turn (is_path (encode r)) r rs n k qs s refl f
turn r rs n zero [] s f = unfold all_parts in missing_turn (is_path (encode r)) r n _ refl
turn r rs n zero (q ∷ qs) s f = rw s (own_turn (is_path (encode r)) (same_parts (kept (encode r)) (kept (encode q))) r q rs qs n refl refl f)

differs_marks : (rs : List Row) (n d : ℕ) → Found n d rs
unfolding differs_t all_parts marks deep
differs_marks [] n d qs s = rest_turn n qs s
differs_marks (r ∷ rs) n d qs s = rw (add-one n) (turn r rs n (deep d r rs) qs s (differs_marks rs (suc n) (deep d r rs)))

-- ---- the rows of a tree are marked as the rules say

stays : (d : ℕ) (r : Row) (rs : List Row) → Inner r → deep d r rs ≡ d
unfolding deep depth_behind_t pick
stays d r rs i = rw (ne_eqb (code_in r) 1 i.no_field, ne_eqb (code_in r) 8 i.no_close, ne_eqb (code_in r) 7 i.no_open)

-- rows of a field behind its FIELD
pass_inner : (d : ℕ) (xs ys : List Row) → All Inner xs → marks d (xs ++ ys) ≡ map (mark d) xs ++ marks d ys
unfolding marks
pass_inner d [] ys done = refl
pass_inner d (r ∷ xs) ys (i & p) = rw (stays d r (xs ++ ys) i) (ap (λ (l : List Claimed). mark d r ∷ l) (pass_inner d xs ys p))

pass_behind : (d : ℕ) (h : Head) (ys : List Row) → marks d (behind_field h ++ ys) ≡ map (mark d) (behind_field h) ++ marks d ys
pass_behind d h ys = pass_inner d (behind_field h) ys (inner_behind h)

-- ---- rows behind which the depth is another

abbrev Goes : (d : ℕ) → List Row → List Claimed → (e : ℕ) → Type 0
Goes d xs cs e = (ys : List Row) → marks d (xs ++ ys) ≡ cs ++ marks e ys

goes_row : (d e f : ℕ) (r : Row) (xs : List Row) (cs : List Claimed) → ((rs : List Row) → deep d r rs ≡ e) → Goes e xs cs f → Goes d (r ∷ xs) (mark e r ∷ cs) f
unfolding marks
goes_row d e f r xs cs h p ys = rw (h (xs ++ ys), p ys)

goes_both : (d e f : ℕ) (xs ys : List Row) (cs ds : List Claimed) → Goes d xs cs e → Goes e ys ds f → Goes d (xs ++ ys) (cs ++ ds) f
goes_both d e f xs ys cs ds p q zs = rw (append_assoc xs ys zs) (p (ys ++ zs) ∙ rw (q zs, append_assoc))

-- in a scope inside an added field a FIELD changes nothing
deep_field : (d code builtin z : ℕ) (rs : List Row) → deep (suc (suc d)) (Field code builtin z) rs ≡ suc (suc d)
unfolding deep depth_behind_t as_parts encode pick
deep_field d code builtin z rs = rw (lt-ltb 1 (suc (suc d)) (omega arith))

deep_open : (d kind name : ℕ) (rs : List Row) → deep (suc d) (Open kind name) rs ≡ suc (suc d)
unfolding deep depth_behind_t as_parts encode pick
deep_open d kind name rs = rw (ne_eqb (suc d) 0 (omega arith)) (omega arith)

deep_close : (d : ℕ) (rs : List Row) → deep d Close rs ≡ d - 1
unfolding deep depth_behind_t as_parts encode pick
deep_close d rs = refl

-- all of these are added
abbrev Inside : (d : ℕ) → List Row → (e : ℕ) → Type 0
Inside d xs e = Goes d xs (map added xs) e

inside_none : (d : ℕ) → Inside d [] d
inside_none d ys = refl

inside_row : (d e f : ℕ) (r : Row) (xs : List Row) → ((rs : List Row) → deep d r rs ≡ suc e) → Inside (suc e) xs f → Inside d (r ∷ xs) f
unfolding mark
inside_row d e f r xs h p = goes_row d (suc e) f r xs (map added xs) h p

inside_both : (d e f : ℕ) (xs ys : List Row) → Inside d xs e → Inside e ys f → Inside d (xs ++ ys) f
inside_both d e f xs ys p q zs = goes_both d e f xs ys (map added xs) (map added ys) p q zs ∙ rw (map-append added xs ys)

inside_behind : (d : ℕ) (h : Head) → Inside (suc d) (behind_field h) (suc d)
unfolding mark
inside_behind d h = pass_behind (suc d) h

inside_head : (d : ℕ) (h : Head) → Inside (suc (suc d)) (head_rows h) (suc (suc d))
unfolding head_rows behind_field
inside_head d h = inside_row (suc (suc d)) (suc d) (suc (suc d)) (Field h.code h.builtin h.z) (behind_field h) (deep_field d h.code h.builtin h.z) (inside_behind (suc d) h)

inside_close : (d : ℕ) → Inside (suc (suc d)) (Close ∷ []) (suc d)
inside_close d = inside_row (suc (suc d)) d (suc d) Close [] (λ rs. deep_close (suc (suc d)) rs ∙ omega arith) (inside_none (suc d))

mutual
  unfolding flatten

  inside_scope : (s : Scope) (d : ℕ) → Inside (suc d) (flatten s) (suc d)
  inside_scope (scope kind name fs) d =
      inside_row (suc d) (suc d) (suc d) (Open kind name) (fields_rows fs ++ (Close ∷ [])) (deep_open d kind name)
      (inside_both (suc (suc d)) (suc (suc d)) (suc d) (fields_rows fs) (Close ∷ []) (inside_fields fs d) (inside_close d))

  inside_fields : (fs : Fields) (d : ℕ) → Inside (suc (suc d)) (fields_rows fs) (suc (suc d))
  inside_fields end d = inside_none (suc (suc d))
  inside_fields (i ▸ fs) d = inside_both (suc (suc d)) (suc (suc d)) (suc (suc d)) (item_rows i) (fields_rows fs) (inside_item i d) (inside_fields fs d)

  inside_item : (i : Item) (d : ℕ) → Inside (suc (suc d)) (item_rows i) (suc (suc d))
  inside_item (plain h) d = inside_head d h
  inside_item (holds h s) d = inside_both (suc (suc d)) (suc (suc d)) (suc (suc d)) (head_rows h) (flatten s) (inside_head d h) (inside_scope s (suc d))

-- ---- outside of added fields

-- 1 in an added field, 0 in one of the input
abbrev level : Bool → ℕ
level true = 1
level false = 0

pick_level : (b : Bool) → pick b 1 0 ≡ level b
unfolding pick
pick_level true = refl
pick_level false = refl

-- behind the FIELD of a field, where d is 0 or 1: whether the field is added is told by the rows behind it
field_deep : (d : ℕ) (h : Head) (ys : List Row) → d ≤ 1 → NoDecl ys → deep d (Field h.code h.builtin h.z) (behind_field h ++ ys) ≡ level (is_inserted h)
unfolding deep depth_behind_t is_added_t as_parts encode pick behind_field is_inserted
field_deep d h ys l n =
    rw (
      le-ltb _ _ l,
      append_assoc (decl_rows h.decls) (operand_rows h.operands ++ export_rows h.export) ys,
      append_assoc (operand_rows h.operands) (export_rows h.export) ys,
      any_fresh_lem h.decls _ (operands_no_decl h.operands h.export ys n),
    )
    (pick_level (Readings.any_fresh h.decls))

head_goes : (d : ℕ) (h : Head) (ys : List Row) (b : Bool) → is_inserted h ≡ b → d ≤ 1 → NoDecl ys → marks d (head_rows h ++ ys) ≡ map (mark (level b)) (head_rows h) ++ marks (level b) ys
unfolding marks head_rows behind_field
head_goes d h ys b e l n = rw (field_deep d h ys l n, e) (ap (λ (cs : List Claimed). mark (level b) (Field h.code h.builtin h.z) ∷ cs) (pass_behind (level b) h ys))

-- a field and what follows it
item_added_lem : (d : ℕ) (i : Item) (ys : List Row) → is_inserted (head_of i) ≡ true → d ≤ 1 → NoDecl ys → marks d (item_rows i ++ ys) ≡ map added (item_rows i) ++ marks 1 ys
unfolding flatten head_of mark
item_added_lem d (plain h) ys e l n = head_goes d h ys true e l n
item_added_lem d (holds h s) ys e l n =
    rw (append_assoc (head_rows h) (flatten s) ys) (head_goes d h (flatten s ++ ys) true e l (scope_no_decl s ys) ∙ rw (inside_scope s 0 ys, map-append added (head_rows h) (flatten s), append_assoc))

item_plain : (d : ℕ) (h : Head) (ys : List Row) → is_inserted h ≡ false → d ≤ 1 → NoDecl ys → marks d (item_rows (plain h) ++ ys) ≡ item_claimed (plain h) ++ marks 0 ys
unfolding flatten scope_claimed mark
item_plain d h ys e l n = head_goes d h ys false e l n

item_holds : (d : ℕ) (h : Head) (s : Scope) (ys : List Row) → is_inserted h ≡ false → d ≤ 1 → marks 0 (flatten s ++ ys) ≡ scope_claimed s ++ marks 0 ys → marks d (item_rows (holds h s) ++ ys) ≡ item_claimed (holds h s) ++ marks 0 ys
unfolding flatten scope_claimed mark
item_holds d h s ys e l p =
    rw (append_assoc (head_rows h) (flatten s) ys) (head_goes d h (flatten s ++ ys) false e l (scope_no_decl s ys) ∙ rw (p, append_assoc))

-- the first field of a scope, and those behind it
next_added : (d : ℕ) (i : Item) (fs : Fields) (zs : List Row) → is_inserted (head_of i) ≡ true → d ≤ 1 → marks 1 (fields_rows fs ++ (Close ∷ zs)) ≡ fields_claimed fs ++ (own Close ∷ marks 0 zs)
    → marks d (fields_rows (i ▸ fs) ++ (Close ∷ zs)) ≡ fields_claimed (i ▸ fs) ++ (own Close ∷ marks 0 zs)
unfolding flatten scope_claimed when◌then◌else◌
next_added d i fs zs e l p =
    rw (e, append_assoc (item_rows i) (fields_rows fs) (Close ∷ zs), append_assoc (map added (item_rows i)) (fields_claimed fs) (own Close ∷ marks 0 zs))
    (item_added_lem d i (fields_rows fs ++ (Close ∷ zs)) e l (fields_no_decl fs zs) ∙ rw p)

next_own : (d : ℕ) (i : Item) (fs : Fields) (zs : List Row) → is_inserted (head_of i) ≡ false → marks d (item_rows i ++ (fields_rows fs ++ (Close ∷ zs))) ≡ item_claimed i ++ marks 0 (fields_rows fs ++ (Close ∷ zs))
    → marks 0 (fields_rows fs ++ (Close ∷ zs)) ≡ fields_claimed fs ++ (own Close ∷ marks 0 zs) → marks d (fields_rows (i ▸ fs) ++ (Close ∷ zs)) ≡ fields_claimed (i ▸ fs) ++ (own Close ∷ marks 0 zs)
unfolding flatten scope_claimed when◌then◌else◌
next_own d i fs zs e q p =
    rw (e, append_assoc (item_rows i) (fields_rows fs) (Close ∷ zs), append_assoc (item_claimed i) (fields_claimed fs) (own Close ∷ marks 0 zs)) (q ∙ rw p)

last_goes : (d : ℕ) (zs : List Row) → d ≤ 1 → marks d (fields_rows end ++ (Close ∷ zs)) ≡ fields_claimed end ++ (own Close ∷ marks 0 zs)
unfolding flatten scope_claimed marks mark
last_goes d zs l = let e : deep d Close zs ≡ 0 = deep_close d zs ∙ omega arith in rw e

open_goes : (kind name : ℕ) (fs : Fields) (ys : List Row) → marks 0 (fields_rows fs ++ (Close ∷ ys)) ≡ fields_claimed fs ++ (own Close ∷ marks 0 ys) → marks 0 (flatten (scope kind name fs) ++ ys) ≡ scope_claimed (scope kind name fs) ++ marks 0 ys
unfolding flatten scope_claimed marks mark deep depth_behind_t as_parts encode pick
open_goes kind name fs ys p = rw (append_assoc (fields_rows fs) (Close ∷ []) ys, append_assoc (fields_claimed fs) (own Close ∷ []) (marks 0 ys)) (ap (λ (cs : List Claimed). own (Open kind name) ∷ cs) p)

-- either way
next_goes : (d : ℕ) (i : Item) (fs : Fields) (zs : List Row) (b : Bool) → is_inserted (head_of i) ≡ b → d ≤ 1 → ((e : ℕ) → e ≤ 1 → marks e (fields_rows fs ++ (Close ∷ zs)) ≡ fields_claimed fs ++ (own Close ∷ marks 0 zs))
    → (is_inserted (head_of i) ≡ false → marks d (item_rows i ++ (fields_rows fs ++ (Close ∷ zs))) ≡ item_claimed i ++ marks 0 (fields_rows fs ++ (Close ∷ zs)))
    → marks d (fields_rows (i ▸ fs) ++ (Close ∷ zs)) ≡ fields_claimed (i ▸ fs) ++ (own Close ∷ marks 0 zs)
next_goes d i fs zs true e l p q = next_added d i fs zs e l (p 1 (omega arith))
next_goes d i fs zs false e l p q = next_own d i fs zs e (q e) (p 0 (omega arith))

mutual
  unfolding head_of

  scope_goes : (s : Scope) (ys : List Row) → marks 0 (flatten s ++ ys) ≡ scope_claimed s ++ marks 0 ys
  scope_goes (scope kind name fs) ys = open_goes kind name fs ys (fields_goes fs 0 ys (omega arith))

  fields_goes : (fs : Fields) (d : ℕ) (zs : List Row) → d ≤ 1 → marks d (fields_rows fs ++ (Close ∷ zs)) ≡ fields_claimed fs ++ (own Close ∷ marks 0 zs)
  fields_goes end d zs l = last_goes d zs l
  fields_goes (i ▸ fs) d zs l = next_goes d i fs zs (is_inserted (head_of i)) refl l (λ e k. fields_goes fs e zs k) (λ e. item_goes i d (fields_rows fs ++ (Close ∷ zs)) e l (fields_no_decl fs zs))

  item_goes : (i : Item) (d : ℕ) (ys : List Row) → is_inserted (head_of i) ≡ false → d ≤ 1 → NoDecl ys → marks d (item_rows i ++ ys) ≡ item_claimed i ++ marks 0 ys
  item_goes (plain h) d ys e l n = item_plain d h ys e l n
  item_goes (holds h s) d ys e l n = item_holds d h s ys e l (scope_goes s ys)

marks_scope : (s : Scope) → marks 0 (flatten s) ≡ scope_claimed s
marks_scope s = ap (marks 0) (sym (append-nil (flatten s))) ∙ (scope_goes s [] ∙ unfold marks in append-nil (scope_claimed s))

scope_settled : (s : Scope) → Settled (flatten s)
unfolding flatten is_path encode
scope_settled (scope kind name fs) = refl

-- Condition 2.
pub same_rows : (input claim : Scope) → differs_t 0 0 (all_parts (flatten claim)) (all_parts (flatten input)) ≡ tried (condition2 input claim)
unfolding condition2
same_rows input claim = differs_marks (flatten claim) 0 0 (flatten input) (scope_settled input) ∙ rw (marks_scope claim)
