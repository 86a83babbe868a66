-- The rows of a resolved tree, gone through: the references at a place that the search finds are the rows of those of the rules.
use Rattle.std.specs.Prelude.{◌≡◌, Bool, not, eqb}
use Rattle.std.proofs.Math.Path.{refl, ap, ap₂, subst}
use Rattle.std.proofs.Common.{sym, ◌∙◌}
use Rattle.std.proofs.Math.Bool.{true, false}
use Rattle.std.proofs.Math.Option.{Option, some}
use mathlib.Core.List.{List, [], ◌∷◌, ◌++◌, map, append-nil, append_assoc}
use native.Mathlib.Omega.{arith}
use Prim.Native.Nat.{ℕ, suc, ◌+◌, ◌-◌}
use Rattle.std.proofs.Math.ListN.{length, get_elem?, length-append}
use Rattle.kit.specs.Pick.{pick}
use Rattle.rules.specs.Tools.{when◌then◌else◌, only, ◌then◌, is_in}
use Rattle.rules.specs.Versions.{RuleSet}
use Rattle.rules.specs.Rows.{Row, Field, Open, Close, encode}
use Rattle.rules.specs.Tree.{Declaration, Operand, ref, outer, case, Head, Scope, scope, Fields, end, ◌▸◌, Item, plain, holds, head_of, flatten, fields_rows, item_rows, head_rows, decl_rows, path_rows, operand_row, operand_rows, export_rows}
use Rattle.rules.specs.Shapes.{Want, Part, one, parts, next, complete}
use Rattle.rules.specs.Good.{after_operand, after_operands, GoodHead, GoodScope, GoodFields, GoodItem}
use Rattle.rules.specs.Rules.{fresh}
use Rattle.rules.specs.Readings
use Rattle.rules.specs.Readings.{is_fresh, any_fresh, is_inserted, Place, level, fields_of}
use Rattle.rules.specs.Laws.ToolLaws.{All, done, ◌&◌, all_append, then_some, or_cases, or-false, eqb-true, eqb_same, eqb-false, leb-true, false_not}
use Rattle.rules.specs.Laws.Results.{no_option, some_same}
use Rattle.rules.proofs.Laws.Output.Kept.{Alias, IsAlias, AliasesScope, AliasesFields, AliasesItem}
use Rattle.places.specs.PlaceRows
use Rattle.places.specs.PlaceRows.{Placed, Floor, floor, field_at, operand_at, row_of_operand, operand_row_at}
use Rattle.places.specs.Counting.{map-append}
use Rattle.places.proofs.RowAt.{decls_length, operand_row_of}
use Rattle.moving.specs.Moved.{if_any}
use Rattle.moving.proofs.Laws.RowOrder.{row_is, operand_on, Rest, all_fields, place_field, rest_inserted, rest_original, first_is, held_rest}
use Rattle.row_parts.specs.Parts as row_parts_lem
use Rattle.reading_laws.specs.Stand.{Is, At, code_part, x_part, behind, behind_length, at_left, at_right}
use Rattle.reading_laws.specs.Spots.{or_none}
use Rattle.reading_laws.specs.EveryRow.{NotRef, decls_not, paths_not, export_not}
use Rattle.bound.specs.Bound.{is_reference}
use Rattle.binding.specs.Sheet.{is_ref_at, refs_at}
use Rattle.sheet_laws.specs.Refs.{refs_of, refs_in, refs_inside, refs_scope, refs_are}
use Rattle.sheet_laws.specs.RefRows.{ref_rows, Span, no_rows_lem, span_append, span_is, one_row, other_rows, ref_row, Old, last_old}

-- ---- rows of operands

eqb_flip : (a b : ℕ) → eqb a b ≡ eqb b a
eqb_flip a b = go (eqb a b) refl
  where
    go : (t : Bool) → eqb a b ≡ t → t ≡ eqb b a
    go true e = let same = eqb-true a b e in sym (subst (λ (k : ℕ). eqb b k ≡ true) (sym same) (eqb_same b))
    go false e = sym (eqb-false b a (λ q. false_not (sym e ∙ subst (λ (k : ℕ). eqb a k ≡ true) (sym q) (eqb_same a))))

-- the first row of an operand, and its PATHs
pub operand_split : (o : Operand) → (ps : List ℕ) × (operand_row o ≡ operand_row_of o ∷ path_rows ps)
unfolding operand_row path_rows
operand_split (ref space at paths z) = (paths, refl)
operand_split (outer space up at z) = ([], refl)
operand_split (case name z) = ([], refl)

first_old : (o : Operand) → Old (operand_row_of o)
unfolding encode
first_old (ref space at paths z) = refl
first_old (outer space up at z) = refl
first_old (case name z) = refl

paths_old : (ps : List ℕ) → All Old (path_rows ps)
unfolding path_rows encode
paths_old [] = done
paths_old (p ∷ ps) = refl & paths_old ps

decls_old : (ds : List Declaration) → any_fresh ds ≡ false → All Old (decl_rows ds)
unfolding decl_rows encode any_fresh
decls_old [] e = done
decls_old (d ∷ ds) e = let N = or_none (is_fresh d.name) (any_fresh ds) e in N.0 & decls_old ds N.1

field_not : (code builtin z : ℕ) → NotRef (Field code builtin z)
unfolding encode
field_not code builtin z e = omega (arith, e)

-- ---- inserted fields have one operand

next_none : (o : Operand) (q : List Part) → after_operand [] o ≡ some q → ⊥
unfolding after_operand next
next_none (ref space at paths z) q e = no_option q e
next_none (outer space up at z) q e = no_option q e
next_none (case name z) q e = no_option q e

-- what one want leaves
only_left_lem : (b : Bool) (q : List Part) → only b [] ≡ some q → q ≡ []
unfolding only
only_left_lem true q e = sym (some_same [] q e)
only_left_lem false q e = no_option q e

one_left : (w : Want) (o : Operand) (q : List Part) → after_operand (one w ∷ []) o ≡ some q → q ≡ []
unfolding after_operand next
one_left w (ref space at paths z) q e = only_left_lem _ q e
one_left w (outer space up at z) q e = only_left_lem _ q e
one_left w (case name z) q e = only_left_lem _ q e

one_operand : (w : Want) (os : List Operand) (left : List Part) → after_operands (one w ∷ []) os ≡ some left → complete left ≡ true → (o : Operand) × (os ≡ o ∷ [])
unfolding after_operands complete
one_operand w [] left u c = let same : one w ∷ [] ≡ left = some_same _ left u in false_not (subst (λ (q : List Part). complete q ≡ true) (sym same) c)
one_operand w (o ∷ []) left u c = (o, refl)
one_operand w (o ∷ o' ∷ os) left u c =
    let T = then_some (after_operand (one w ∷ []) o) _ left u in
    let W = then_some (after_operand T.0 o') _ left T.2 in
    absurd (next_none o' W.0 (subst (λ (q : List Part). after_operand q o' ≡ some W.0) (one_left w o T.0 T.1) W.1))

alias_operand : (rules : RuleSet) (h : Head) (kind : ℕ) → GoodHead rules kind h → is_in h.code (9 ∷ 10 ∷ 11 ∷ []) ≡ true → (o : Operand) × (h.operands ≡ o ∷ [])
unfolding parts
alias_operand rules h kind g e =
    or_cases (eqb h.code 9) _ e (λ q. one_operand _ h.operands g.left (uses 9 q) g.ends)
    (λ e. or_cases (eqb h.code 10) _ e (λ q. one_operand _ h.operands g.left (uses 10 q) g.ends) (λ e. one_operand _ h.operands g.left (uses 11 (or-false (eqb h.code 11) e)) g.ends))
  where
    uses : (c : ℕ) → eqb h.code c ≡ true → after_operands (parts rules c h.builtin h.decls) h.operands ≡ some g.left
    uses c q = subst (λ (c : ℕ). after_operands (parts rules c h.builtin h.decls) h.operands ≡ some g.left) (eqb-true h.code c q) g.uses

-- ---- what is found

-- a reference: its place and its row
pub record Stood : Type 0 where
  pub place : Place
  pub row : ℕ

abbrev pub places_of : List Stood → List Place
places_of xs = map (λ (x : Stood). x.place) xs

abbrev pub rows_of : List Stood → List ℕ
rows_of xs = map (λ (x : Stood). x.row) xs

module _ (form : List ℕ) (s : Scope) (z : ℕ) where
  -- it is a REF at the place `z`, and stands in that row
  pub record Right (x : Stood) : Type 0 where
    pub at_row : row_of_operand s x.place ≡ some x.row
    pub operand : Operand
    pub stands : operand_at s x.place ≡ some operand
    pub is_ref_lem : is_ref_at z operand ≡ true

  -- in n rows from `row` on those at these places
  pub record Found (row n : ℕ) (ps : List Place) : Type 0 where
    pub all : List Stood
    pub span : Span form z row n (rows_of all)
    pub places : places_of all ≡ ps
    pub right : All Right all

  none_found : {row n : ℕ} → Span form z row n [] → Found row n []
  none_found S = record { all = []; span = S; places = refl; right = done }

  found_append : {row n m : ℕ} {ps qs : List Place} → Found row n ps → Found (row + n) m qs → Found row (n + m) (ps ++ qs)
  found_append P Q =
      record {
        all = P.all ++ Q.all;
        span = span_is form z (span_append form z P.span Q.span) refl (sym (map-append (λ (x : Stood). x.row) P.all Q.all));
        places = map-append (λ (x : Stood). x.place) P.all Q.all ∙ ap₂ (λ (a b : List Place). a ++ b) P.places Q.places;
        right = all_append P.all Q.all P.right Q.right;
      }

  found_is : {row n m : ℕ} {ps qs : List Place} → Found row n ps → n ≡ m → ps ≡ qs → Found row m qs
  found_is F e₁ e₂ = rw (← e₁, ← e₂) F

  operand_at_lem : (p : Place) (x : Placed) (o : Operand) → field_at s p ≡ some x → get_elem? (head_of x.item).operands p.at ≡ some o → operand_at s p ≡ some o
  unfolding operand_at ◌then◌
  operand_at_lem p x o e₁ e₂ = rw (e₁, e₂)

  -- an operand's own row, behind a row that is no inserted DECL
  own_test : (row : ℕ) (o : Operand) → Is form row (operand_row_of o) → row_parts_lem.is_inserted form (row - 1) ≡ false → is_reference form row z ≡ is_ref_at z o
  unfolding is_ref_at is_reference encode pick
  own_test row (ref space at paths y) is e = ref_row form z row space (length paths) y at false is e ∙ picked (eqb y z) ∙ eqb_flip y z
    where
      picked : (b : Bool) → pick b true false ≡ b
      picked true = refl
      picked false = refl
  own_test row (outer space up at y) is e = let c : row_parts_lem.code_at form row ≡ 5 = ap code_part is in ap (λ (k : ℕ). pick (eqb k 3) (pick (eqb (row_parts_lem.z_at form row) z) (not (row_parts_lem.is_inserted form (row - 1))) false) false) c
  own_test row (case name y) is e = let c : row_parts_lem.code_at form row ≡ 6 = ap code_part is in ap (λ (k : ℕ). pick (eqb k 3) (pick (eqb (row_parts_lem.z_at form row) z) (not (row_parts_lem.is_inserted form (row - 1))) false) false) c

  one_found : (row : ℕ) (p : Place) (o : Operand) → is_reference form row z ≡ is_ref_at z o → row_of_operand s p ≡ some row → operand_at s p ≡ some o → Found row 1 (if_any (only (is_ref_at z o) p) [])
  unfolding if_any only
  one_found row p o t at_row stands = go (is_ref_at z o) refl t
    where
      go : (b : Bool) → is_ref_at z o ≡ b → is_reference form row z ≡ b → Found row 1 (if_any (only b p) [])
      go true q t = record { all = record { place = p; row = row } ∷ []; span = one_row form z row true t; places = refl; right = record { at_row = at_row; operand = o; stands = stands; is_ref_lem = q } & done }
      go false q t = none_found (one_row form z row false t)

  any_append : (b : Bool) (p : Place) (ps : List Place) → if_any (only b p) [] ++ ps ≡ if_any (only b p) ps
  unfolding if_any only
  any_append true p ps = refl
  any_append false p ps = refl

  -- ---- a field that is not inserted

  module _ (w : List ℕ) (n : ℕ) (x : Placed) (field : (j : ℕ) → field_at s (record { way = w; field = n; at = j }) ≡ some x) where
    operands_found : (k : ℕ) (os : List Operand) (row : ℕ) → ((j : ℕ) → get_elem? (head_of x.item).operands (k + j) ≡ get_elem? os j) → row ≡ operand_row_at x k → At form row (operand_rows os)
        → row_parts_lem.is_inserted form (row - 1) ≡ false → Found row (length (operand_rows os)) (refs_of z w n k os)
    unfolding operand_rows refs_of
    operands_found k [] row same there a old = none_found (no_rows_lem form z row)
    operands_found k (o ∷ os) row same there a old =
        let p : Place = record { way = w; field = n; at = k } in
        let e : get_elem? (head_of x.item).operands k ≡ some o = ap (get_elem? (head_of x.item).operands) (omega arith) ∙ same 0 in
        let O = operand_split o in
        let m = length (path_rows O.0) in
        let rows = operand_row_of o ∷ path_rows O.0 in
        let all : At form row (rows ++ operand_rows os) = subst (At form row) (ap (λ (l : List Row). l ++ operand_rows os) O.1) a in
        let own = at_left form row rows (operand_rows os) all in
        let last = behind_length row rows in
        let here : behind row rows ≡ row + 1 + m = omega (arith, last) in
        let others : At form (row + 1 + m) (operand_rows os) = subst (λ (r : ℕ). At form r (operand_rows os)) here (at_right form row rows (operand_rows os) all) in
        let long : length (operand_row o) ≡ suc m = ap length O.1 in
        let at_next : row + 1 + m ≡ operand_row_at x (suc k) = operand_on x k o row m e there long in
        let still : row_parts_lem.is_inserted form (row + 1 + m - 1) ≡ false = ap (row_parts_lem.is_inserted form) (omega arith) ∙ last_old form row (operand_row_of o) (path_rows O.0) (first_old o & paths_old O.0) own in
        let first = one_found row p o (own_test row o own.0 old) (row_is s p x o (field k) e ∙ ap {B = Option ℕ} some (sym there)) (operand_at_lem p x o (field k) e) in
        let paths = none_found (other_rows form z (row + 1) (path_rows O.0) (paths_not O.0) own.1) in
        let rest = operands_found (suc k) os (row + 1 + m) (λ j. ap (get_elem? (head_of x.item).operands) (omega arith) ∙ same (suc j)) at_next others still in
        let size = length-append (operand_row o) (operand_rows os) in
        found_is (found_append first (found_append paths rest)) (omega (arith, size, long)) (any_append (is_ref_at z o) p (refs_of z w n (suc k) os))

    -- all of a field's own rows
    head_found : At form x.row (head_rows (head_of x.item)) → is_inserted (head_of x.item) ≡ false → Found x.row (length (head_rows (head_of x.item))) (refs_of z w n 0 (head_of x.item).operands)
    unfolding head_rows operand_row_at operand_rows is_inserted encode
    head_found a old =
        let h = head_of x.item in
        let start = Field h.code h.builtin h.z in
        let ds = decl_rows h.decls in
        let os = operand_rows h.operands in
        let export = export_rows h.export in
        let front = at_left form (x.row + 1) ds (os ++ export) a.1 in
        let back = at_right form (x.row + 1) ds (os ++ export) a.1 in
        let b₁ = behind_length (x.row + 1) ds in
        let n₁ = decls_length h.decls in
        let n₂ = length-append ds (os ++ export) in
        let n₃ = length-append os export in
        let at-os : At form (x.row + suc (length ds)) (os ++ export) = subst (λ (r : ℕ). At form r (os ++ export)) (omega (arith, b₁)) back in
        let b₂ = behind_length (x.row + suc (length ds)) os in
        let last = last_old form x.row start ds (refl & decls_old h.decls old) (a.0, front) in
        let before = none_found (other_rows form z x.row (start ∷ ds) (field_not h.code h.builtin h.z & decls_not h.decls) (a.0, front)) in
        let operands = operands_found 0 h.operands (x.row + suc (length ds)) (λ j. ap (get_elem? h.operands) (omega arith)) (omega (arith, n₁)) (at_left form (x.row + suc (length ds)) os export at-os) last in
        let exports = none_found (other_rows form z (x.row + suc (length ds) + length os) export (export_not h.export) (subst (λ (r : ℕ). At form r export) b₂ (at_right form (x.row + suc (length ds)) os export at-os))) in
        found_is (found_append before (found_append operands exports)) (omega (arith, n₂, n₃)) (append-nil (refs_of z w n 0 h.operands))

  -- ---- an inserted field

  -- its REF, if it has one, stands behind its DECL
  new_test : (row : ℕ) (o : Operand) → Is form row (operand_row_of o) → row_parts_lem.is_inserted form (row - 1) ≡ true → is_reference form row z ≡ false
  unfolding is_reference encode pick
  new_test row (ref space at paths y) is e = ref_row form z row space (length paths) y at true is e ∙ picked (eqb y z)
    where
      picked : (b : Bool) → pick b false false ≡ false
      picked true = refl
      picked false = refl
  new_test row (outer space up at y) is e = let c : row_parts_lem.code_at form row ≡ 5 = ap code_part is in ap (λ (k : ℕ). pick (eqb k 3) (pick (eqb (row_parts_lem.z_at form row) z) (not (row_parts_lem.is_inserted form (row - 1))) false) false) c
  new_test row (case name y) is e = let c : row_parts_lem.code_at form row ≡ 6 = ap code_part is in ap (λ (k : ℕ). pick (eqb k 3) (pick (eqb (row_parts_lem.z_at form row) z) (not (row_parts_lem.is_inserted form (row - 1))) false) false) c

  alias_rows : (h : Head) (d : Declaration) (o : Operand) → h.decls ≡ d ∷ [] → h.operands ≡ o ∷ [] → (ps : List ℕ)
      × (head_rows h ≡ (Field h.code h.builtin h.z ∷ decl_rows (d ∷ [])) ++ (operand_row_of o ∷ (path_rows ps ++ export_rows h.export)))
  unfolding head_rows decl_rows operand_rows
  alias_rows h d o e₁ e₂ =
      let O = operand_split o in
      let start = Field h.code h.builtin h.z in
      let export = export_rows h.export in (
        O.0,
        ap₂ (λ (ds : List Declaration) (os : List Operand). start ∷ (decl_rows ds ++ (operand_rows os ++ export))) e₁ e₂
            ∙ (ap (λ (l : List Row). start ∷ (decl_rows (d ∷ []) ++ (l ++ export))) (append-nil (operand_row o)) ∙ ap (λ (l : List Row). start ∷ (decl_rows (d ∷ []) ++ (l ++ export))) O.1),
      )

  new_decl_lem : (row : ℕ) (d : Declaration) (k : ℕ) → At form row (decl_rows (d ∷ [])) → d.name ≡ fresh k → row_parts_lem.is_inserted form row ≡ true
  unfolding decl_rows encode row_parts_lem.is_inserted is_fresh fresh
  new_decl_lem row d k a e =
      let c : row_parts_lem.code_at form row ≡ 2 = ap code_part a.0 in
      let x : row_parts_lem.x_at form row ≡ d.name = ap x_part a.0 in
      rw (c, x, e, leb-true {m = 2147483648} {n = 2147483648 + k} (omega arith))

  inserted_found : (row : ℕ) (h : Head) (A : Alias h) (o : Operand) → h.operands ≡ o ∷ [] → At form row (head_rows h) → Found row (length (head_rows h)) []
  unfolding if_any only decl_rows
  inserted_found row h A o e a =
      let R = alias_rows h A.decl o A.alone e in
      let start = Field h.code h.builtin h.z in
      let front = start ∷ decl_rows (A.decl ∷ []) in
      let more = path_rows R.0 ++ export_rows h.export in
      let all : At form row (front ++ (operand_row_of o ∷ more)) = subst (At form row) R.1 a in
      let own = at_left form row front (operand_row_of o ∷ more) all in
      let back = at_right form row front (operand_row_of o ∷ more) all in
      let two : row + 1 + 1 ≡ row + 2 = omega arith in
      let at-o : At form (row + 2) (operand_row_of o ∷ more) = subst (λ (r : ℕ). At form r (operand_row_of o ∷ more)) two back in
      let new : row_parts_lem.is_inserted form (row + 2 - 1) ≡ true = ap (row_parts_lem.is_inserted form) (omega arith) ∙ new_decl_lem (row + 1) A.decl A.number own.1 A.named in
      let before = other_rows form z row front (field_not h.code h.builtin h.z & decls_not (A.decl ∷ [])) own in
      let operand : Span form z (row + 2) 1 [] = one_row form z (row + 2) false (new_test (row + 2) o at-o.0 new) in
      let behind = other_rows form z (row + 2 + 1) more (all_append (path_rows R.0) (export_rows h.export) (paths_not R.0) (export_not h.export)) at-o.1 in
      let size = ap length R.1 in
      none_found (span_is form z (span_append form z before (span_append form z operand behind)) (omega (arith, size)) refl)

  -- ---- the fields of a scope

  module _ (rules : RuleSet) where
    item_inserted : (i : Item) (kind row : ℕ) → IsAlias i → GoodItem rules i kind → At form row (item_rows i) → Found row (length (item_rows i)) []
    unfolding flatten
    item_inserted (plain h) kind row A g a = let O = alias_operand rules h kind g.0 A.code in inserted_found row h A O.0 O.1 a
    item_inserted (holds h t) kind row A g a = absurd A

    next_field : (f : Floor) (n row kind : ℕ) (i : Item) (fs : Fields) → Rest s f n row (i ▸ fs) → At form row (item_rows i ++ fields_rows fs) → (is_inserted (head_of i) ≡ true → IsAlias i) → GoodItem rules i kind
        → ((m : ℕ) → Rest s f m (row + length (item_rows i)) fs → At form (row + length (item_rows i)) (fields_rows fs) → Found (row + length (item_rows i)) (length (fields_rows fs)) (refs_in z f.level.way m fs))
        → (is_inserted (head_of i) ≡ false → At form row (item_rows i) → Found row (length (item_rows i)) (refs_of z f.level.way n 0 (head_of i).operands ++ refs_inside z (f.level.way ++ (n ∷ [])) i))
        → Found row (length (item_rows i ++ fields_rows fs)) (refs_in z f.level.way n (i ▸ fs))
    unfolding refs_in when◌then◌else◌
    next_field f n row kind i fs R a alias good below item = go (is_inserted (head_of i)) refl
      where
        w : List ℕ
        w = f.level.way

        own : At form row (item_rows i)
        own = at_left form row (item_rows i) (fields_rows fs) a

        rest : At form (row + length (item_rows i)) (fields_rows fs)
        rest = subst (λ (r : ℕ). At form r (fields_rows fs)) (behind_length row (item_rows i)) (at_right form row (item_rows i) (fields_rows fs) a)

        size : length (item_rows i) + length (fields_rows fs) ≡ length (item_rows i ++ fields_rows fs)
        size = sym (length-append (item_rows i) (fields_rows fs))

        go : (b : Bool) → is_inserted (head_of i) ≡ b
            → Found row (length (item_rows i ++ fields_rows fs)) (when b then refs_in z w n fs else refs_of z w n 0 (head_of i).operands ++ (refs_inside z (w ++ (n ∷ [])) i ++ refs_in z w (suc n) fs))
        go true e = found_is (found_append (item_inserted i kind row (alias e) good own) (below n (rest_inserted e R) rest)) size refl
        go false e =
            found_is (found_append (item e own) (below (suc n) (rest_original e R) rest)) size
            (append_assoc (refs_of z w n 0 (head_of i).operands) (refs_inside z (w ++ (n ∷ [])) i) (refs_in z w (suc n) fs))

    own_found : (f : Floor) (n row : ℕ) (i : Item) (fs : Fields) → Rest s f n row (i ▸ fs) → is_inserted (head_of i) ≡ false → At form row (head_rows (head_of i))
        → Found row (length (head_rows (head_of i))) (refs_of z f.level.way n 0 (head_of i).operands)
    own_found f n row i fs R old a = let x : Placed = record { row = row; item = i } in head_found f.level.way n x (place_field R x (first_is row i fs old)) a old

    close_not : NotRef Close
    unfolding encode
    close_not e = omega (arith, e)

    open_not : (kind name : ℕ) → NotRef (Open kind name)
    unfolding encode
    open_not kind name e = omega (arith, e)

    -- between its OPEN and its CLOSE
    scope_rows : (row kind name : ℕ) (fs : Fields) (ps : List Place) → At form row (Open kind name ∷ (fields_rows fs ++ (Close ∷ []))) → (At form (suc row) (fields_rows fs) → Found (suc row) (length (fields_rows fs)) ps)
        → Found row (length (Open kind name ∷ (fields_rows fs ++ (Close ∷ [])))) ps
    scope_rows row kind name fs ps a inner =
        let rows = fields_rows fs in
        let one : row + 1 ≡ suc row = omega arith in
        let last = behind_length (row + 1) rows in
        let inside = subst (λ (r : ℕ). At form r rows) one (at_left form (row + 1) rows (Close ∷ []) a.1) in
        let closes = subst (λ (r : ℕ). At form r (Close ∷ [])) last (at_right form (row + 1) rows (Close ∷ []) a.1) in
        let open_row = none_found (other_rows form z row (Open kind name ∷ []) (open_not kind name & done) (a.0, tt)) in
        let fields = subst (λ (r : ℕ). Found r (length rows) ps) (sym one) (inner inside) in
        let close_row = none_found (other_rows form z (row + 1 + length rows) (Close ∷ []) (close_not & done) closes) in
        let n = length-append rows (Close ∷ []) in
        found_is (found_append open_row (found_append fields close_row)) (omega (arith, n)) (append-nil ps)

    -- a field's own rows, and those of the scope that it holds
    held_rows : (row : ℕ) (h : Head) (t : Scope) (ps qs : List Place) → Found row (length (head_rows h)) ps → At form row (head_rows h ++ flatten t) → (At form (row + length (head_rows h)) (flatten t) → Found (row + length (head_rows h)) (length (flatten t)) qs)
        → Found row (length (head_rows h ++ flatten t)) (ps ++ qs)
    held_rows row h t ps qs head a inner =
        let behind-it = subst (λ (r : ℕ). At form r (flatten t)) (behind_length row (head_rows h)) (at_right form row (head_rows h) (flatten t) a) in
        found_is (found_append head (inner behind-it)) (sym (length-append (head_rows h) (flatten t))) refl

    mutual
      unfolding refs_in flatten head_of Readings.held PlaceRows.inside_of

      fields_found : (fs : Fields) (f : Floor) (n row kind : ℕ) → Rest s f n row fs → At form row (fields_rows fs) → AliasesFields fs → GoodFields rules fs kind → Found row (length (fields_rows fs)) (refs_in z f.level.way n fs)
      fields_found end f n row kind R a al g = none_found (no_rows_lem form z row)
      fields_found (i ▸ fs) f n row kind R a al g =
          next_field f n row kind i fs R a al.0 g.0 (λ m Q b. fields_found fs f m (row + length (item_rows i)) kind Q b al.2 g.1) (λ old b. item_found_lem i f n row kind fs old R b al.1 g.0)

      item_found_lem : (i : Item) (f : Floor) (n row kind : ℕ) (fs : Fields) → is_inserted (head_of i) ≡ false → Rest s f n row (i ▸ fs) → At form row (item_rows i) → AliasesItem i → GoodItem rules i kind
          → Found row (length (item_rows i)) (refs_of z f.level.way n 0 (head_of i).operands ++ refs_inside z (f.level.way ++ (n ∷ [])) i)
      item_found_lem (plain h) f n row kind fs old R a al g = found_is (own_found f n row (plain h) fs R old a) refl (sym (append-nil (refs_of z f.level.way n 0 h.operands)))
      item_found_lem (holds h t) f n row kind fs old R a al g =
          held_rows row h t _ _ (own_found f n row (holds h t) fs R old (at_left form row (head_rows h) (flatten t) a)) a
          (λ b. scope_found t (f.level.way ++ (n ∷ [])) (row + length (head_rows h)) (held_rest (fields_of t) old refl R) b al g.3)

      scope_found : (t : Scope) (w : List ℕ) (row : ℕ) → Rest s (floor (level w (fields_of t)) (suc row)) 0 (suc row) (fields_of t) → At form row (flatten t) → AliasesScope t → GoodScope rules t
          → Found row (length (flatten t)) (refs_scope z w t)
      scope_found (scope kind name fs) w row R a al g = scope_rows row kind name fs _ a (λ b. fields_found fs (floor (level w fs) (suc row)) 0 (suc row) kind R b al g)

-- In the rows of a resolved tree the references at a place that are found are those of the rules, each in its row.
pub scan_finds : (form : List ℕ) (z : ℕ) (rules : RuleSet) (s : Scope) → GoodScope rules s → AliasesScope s → At form 0 (flatten s)
    → (all : List Stood) × (ref_rows form z 0 (length (flatten s)) ≡ rows_of all) × (refs_at s z ≡ places_of all) × All (Right form s z) all
unfolding Readings.root ref_rows
scan_finds form z rules s g al a =
    let F = scope_found form s z rules s [] 0 (all_fields s) a al g in
    let whole : length (flatten s) + 0 ≡ length (flatten s) = omega arith in
    (F.all, ap (ref_rows form z 0) (sym whole) ∙ (F.span.are 0 ∙ append-nil (rows_of F.all)), refs_are s z ∙ sym F.places, F.right)
