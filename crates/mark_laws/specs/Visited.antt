-- The rows of a scope that the code goes through are those of its fields but for the scopes inside, whose OPEN rows alone it meets.
use Rattle.std.specs.Prelude.{◌≡◌, Bool, true, false, not, eqb, get_or}
use Rattle.std.proofs.Math.Path.{refl, sym, ap}
use Rattle.std.proofs.Common.{◌∙◌, lt-ltb}
use Rattle.std.proofs.Math.Option.{Option, none, some}
use mathlib.Core.List.{List, [], ◌∷◌, ◌++◌, append_assoc, append-nil}
use Prim.Native.Nat.{ℕ, zero, suc, ◌+◌, ◌-◌, ◌/◌, ◌<◌, ◌≤◌}
use native.Mathlib.Omega.{arith}
use Rattle.std.proofs.Math.ListN.{length, length-append}
use Rattle.kit.specs.Pick.{pick}
use Rattle.rules.specs.Rows.{Raw, raw, Row, Field, Decl, Ref, Path, Outer, Case, Open, Close, Export, encode}
use Rattle.rules.specs.Tree.{Declaration, Operand, ref, outer, case, Head, scope, Fields, end, ◌▸◌, Item, plain, holds, head_of, decl_rows, path_rows, operand_row, operand_rows, export_rows, head_rows, flatten, fields_rows, item_rows}
use Rattle.rules.specs.Shapes.{here_only}
use Rattle.rules.specs.Laws.ToolLaws.{All, done, ◌&◌, all_append, false_not}
use Rattle.parts.specs.declared.Parts.{Parts}
use Rattle.parts.specs.PartsAt.{parts, parts_at}
use Rattle.matched.specs.Counted.{raw_of}
use Rattle.matched.proofs.Ends.{At, at_first, at_second}
use Rattle.form.specs.Ends.{Ends}
use Rattle.mark.specs.Visits.{place, visits_behind_t, visit_step_t, Visit, visits_t}

-- ---- the parts of a row

unfoldable pub parts_of : Raw → Parts
parts_of (raw code b e x y z) = parts code b e x y z

-- those of the row that stands there
pub parts_there : (l : List ℕ) (i : ℕ) (r : Row) → raw_of (parts_at l i) ≡ encode r → parts_at l i ≡ parts_of (encode r)
unfolding parts_of
parts_there l i r e = ap parts_of e

-- ---- the rows that are gone through

unfoldable pub visit : (row : ℕ) (walked : Bool) → Row → Visit
visit row walked r = record { row = row; walked = walked; parts = parts_of (encode r) }

unfoldable pub visit_rows : (row : ℕ) (walked : Bool) → List Row → List Visit
visit_rows row walked [] = []
visit_rows row walked (r ∷ rs) = visit row walked r ∷ visit_rows (row + 1) walked rs

pub visit_append : (row : ℕ) (walked : Bool) (xs ys : List Row) → visit_rows row walked (xs ++ ys) ≡ visit_rows row walked xs ++ visit_rows (row + length xs) walked ys
unfolding visit_rows
visit_append row walked [] ys = let e : row + 0 ≡ row = omega arith in rw e
visit_append row walked (x ∷ xs) ys =
    let e : row + 1 + length xs ≡ row + suc (length xs) = omega arith in
    ap (λ (l : List Visit). visit row walked x ∷ l) (visit_append (row + 1) walked xs ys ∙ rw e)

-- a field's rows behind its FIELD
unfoldable pub own_rows : Head → List Row
own_rows h = decl_rows h.decls ++ (operand_rows h.operands ++ export_rows h.export)

-- are its names walked?
abbrev pub walks : Head → Bool
walks h = not (here_only h.code)

-- the OPEN of the scope that it holds
unfoldable pub open_rows : Item → List Row
open_rows (plain h) = []
open_rows (holds h (scope kind name fs)) = Open kind name ∷ []

abbrev pub field_row : Head → Row
field_row h = Field h.code h.builtin h.z

-- the fields from row p on, the one before which had walked names or not
unfoldable pub fields_visits : (p : ℕ) (walked : Bool) → Fields → List Visit
fields_visits p walked end = []
fields_visits p walked (i ▸ fs) =
    let h = head_of i in
    visit p walked (field_row h) ∷ (visit_rows (p + 1) (walks h) (own_rows h ++ open_rows i) ++ fields_visits (p + length (item_rows i)) (walks h) fs)

-- ---- rows that are neither FIELD, OPEN nor CLOSE

abbrev pub is_inner : Row → Bool
is_inner (Field code builtin z) = false
is_inner (Decl space name z) = true
is_inner (Ref space at paths z) = true
is_inner (Path name) = true
is_inner (Outer space up at z) = true
is_inner (Case name z) = true
is_inner (Open kind name) = false
is_inner Close = false
is_inner (Export name) = true

abbrev pub Inner : List Row → Type 0
Inner rs = All (λ (r : Row). is_inner r ≡ true) rs

inner_decls : (ds : List Declaration) → Inner (decl_rows ds)
unfolding decl_rows
inner_decls [] = done
inner_decls (d ∷ ds) = refl & inner_decls ds

inner_paths : (ps : List ℕ) → Inner (path_rows ps)
unfolding path_rows
inner_paths [] = done
inner_paths (p ∷ ps) = refl & inner_paths ps

inner_operand : (o : Operand) → Inner (operand_row o)
unfolding operand_row
inner_operand (ref space at paths z) = refl & inner_paths paths
inner_operand (outer space up at z) = refl & done
inner_operand (case name z) = refl & done

inner_operands : (os : List Operand) → Inner (operand_rows os)
unfolding operand_rows
inner_operands [] = done
inner_operands (o ∷ os) = all_append (operand_row o) (operand_rows os) (inner_operand o) (inner_operands os)

inner_export : (e : Option ℕ) → Inner (export_rows e)
unfolding export_rows
inner_export none = done
inner_export (some n) = refl & done

pub inner_own : (h : Head) → Inner (own_rows h)
unfolding own_rows
inner_own h = all_append (decl_rows h.decls) _ (inner_decls h.decls) (all_append (operand_rows h.operands) _ (inner_operands h.operands) (inner_export h.export))

-- ---- the code goes through them

module _ (rows ends : List ℕ) where
  abbrev count : ℕ
  count = length rows / 16

  -- one row behind a row
  next_row : (p : ℕ) → p < count → visits_behind_t count p ≡ p + 1
  unfolding visits_behind_t pick
  next_row p h = rw (lt-ltb _ _ h)

  inner_step : (r : Row) (p e : ℕ) (w : Bool) → is_inner r ≡ true → p < count → visit_step_t ends count (parts_of (encode r)) (place p e w) ≡ place (p + 1) e w
  unfolding visit_step_t parts_of encode pick
  inner_step (Field code builtin z) p e w i h = false_not i
  inner_step (Decl space name z) p e w i h = rw (next_row p h)
  inner_step (Ref space at paths z) p e w i h = rw (next_row p h)
  inner_step (Path name) p e w i h = rw (next_row p h)
  inner_step (Outer space up at z) p e w i h = rw (next_row p h)
  inner_step (Case name z) p e w i h = rw (next_row p h)
  inner_step (Open kind name) p e w i h = false_not i
  inner_step Close p e w i h = false_not i
  inner_step (Export name) p e w i h = rw (next_row p h)

  inner_code : (r : Row) → is_inner r ≡ true → eqb (parts_of (encode r)).code 8 ≡ false
  unfolding parts_of encode
  inner_code (Field code builtin z) i = refl
  inner_code (Decl space name z) i = refl
  inner_code (Ref space at paths z) i = refl
  inner_code (Path name) i = refl
  inner_code (Outer space up at z) i = refl
  inner_code (Case name z) i = refl
  inner_code (Open kind name) i = refl
  inner_code Close i = false_not i
  inner_code (Export name) i = refl

  -- a row that is no CLOSE
  one_row : (r : Row) (turns p e : ℕ) (w : Bool) → eqb (parts_of (encode r)).code 8 ≡ false → parts_at rows p ≡ parts_of (encode r)
      → visits_t rows ends (suc turns) (place p e w) ≡ visit p w r ∷ visits_t rows ends turns (visit_step_t ends count (parts_of (encode r)) (place p e w))
  unfolding visits_t visit pick
  one_row r turns p e w c a = rw (a, c)

  -- rows that belong to one field
  pass : (rs : List Row) (turns p e : ℕ) (w : Bool) → Inner rs → At rows p rs → p + length rs ≤ count → visits_t rows ends (length rs + turns) (place p e w) ≡ visit_rows p w rs ++ visits_t rows ends turns (place (p + length rs) e w)
  unfolding visit_rows
  pass [] turns p e w done a h = let z : p + 0 ≡ p = omega arith in let y : 0 + turns ≡ turns = omega arith in rw (z, y)
  pass (r ∷ rs) turns p e w (i & is) a h =
      let z : p + 1 + length rs ≡ p + suc (length rs) = omega arith in
      let y : suc (length rs) + turns ≡ suc (length rs + turns) = omega arith in
      rw y (one_row r (length rs + turns) p e w (inner_code r i) (parts_there rows p r a.0)
      ∙ ap (λ (l : List Visit). visit p w r ∷ l) (ap (visits_t rows ends (length rs + turns)) (inner_step r p e w i (omega arith)) ∙ pass rs turns (p + 1) e w is a.1 (omega arith) ∙ rw z))

  -- the OPEN of an inner scope, and on behind it
  pass_open : (kind name turns p e : ℕ) (w : Bool) → raw_of (parts_at rows p) ≡ encode (Open kind name) → visits_t rows ends (suc turns) (place p e w) ≡ visit p w (Open kind name) ∷ visits_t rows ends turns (place e e w)
  unfolding visit_step_t parts_of encode pick
  pass_open kind name turns p e w a = one_row (Open kind name) turns p e w refl (parts_there rows p (Open kind name) a)

  pass_field : (h : Head) (turns p e : ℕ) (w : Bool) → raw_of (parts_at rows p) ≡ encode (field_row h) → p < count
      → visits_t rows ends (suc turns) (place p e w) ≡ visit p w (field_row h) ∷ visits_t rows ends turns (place (p + 1) (get_or ends p 0) (walks h))
  unfolding visit_step_t parts_of encode pick
  pass_field h turns p e w a b = one_row (field_row h) turns p e w refl (parts_there rows p (field_row h) a) ∙ rw (next_row p b)

  -- at the CLOSE of the scope there is no more
  at_close : (turns p e : ℕ) (w : Bool) → raw_of (parts_at rows p) ≡ encode Close → visits_t rows ends turns (place p e w) ≡ []
  unfolding visits_t parts_of encode pick
  at_close zero p e w a = refl
  at_close (suc turns) p e w a = rw (parts_there rows p Close a)

  -- ---- one field, and all

  -- how many rows of a field are gone through
  unfoldable gone : Item → ℕ
  gone i = suc (length (own_rows (head_of i) ++ open_rows i))

  -- a field that holds no scope
  plain_visits : (h : Head) (turns p e : ℕ) (w : Bool) → At rows p (head_rows h) → get_or ends p 0 ≡ p + length (head_rows h) → p + length (head_rows h) ≤ count
      → visits_t rows ends (gone (plain h) + turns) (place p e w) ≡ visit p w (field_row h) ∷ (visit_rows (p + 1) (walks h) (own_rows h ++ []) ++ visits_t rows ends turns (place (p + length (head_rows h)) (p + length (head_rows h)) (walks h)))
  unfolding head_rows own_rows gone open_rows head_of
  plain_visits h turns p e w a en b =
      let rs = own_rows h in
      let n : p + 1 + length rs ≡ p + length (head_rows h) = omega arith in
      let y : suc (length (rs ++ [])) + turns ≡ suc (length (rs ++ []) + turns) = omega arith in
      rw (y, append-nil)
      (pass_field h (length rs + turns) p e w a.0 (omega arith)
      ∙ ap (λ (l : List Visit). visit p w (field_row h) ∷ l) (rw en (pass rs turns (p + 1) (p + length (head_rows h)) (walks h) (inner_own h) a.1 (omega arith) ∙ rw n)))

  -- a field that holds one
  holds_visits : (h : Head) (kind name : ℕ) (fs : Fields) (turns p e : ℕ) (w : Bool) → (n : ℕ) → At rows p (head_rows h ++ flatten (scope kind name fs)) → get_or ends p 0 ≡ n → p + length (head_rows h) ≤ count
      → visits_t rows ends (gone (holds h (scope kind name fs)) + turns) (place p e w) ≡ visit p w (field_row h) ∷ (visit_rows (p + 1) (walks h) (own_rows h ++ (Open kind name ∷ [])) ++ visits_t rows ends turns (place n n (walks h)))
  unfolding head_rows own_rows gone open_rows head_of flatten visit_rows
  holds_visits h kind name fs turns p e w n a en b =
      let rs = own_rows h in
      let o : raw_of (parts_at rows (p + length (head_rows h))) ≡ encode (Open kind name) = (at_second rows p (head_rows h) _ a).0 in
      let q : p + length (head_rows h) ≡ p + 1 + length rs = omega arith in
      let y : suc (length (rs ++ (Open kind name ∷ []))) + turns ≡ suc (length rs + suc turns) = omega (arith, length-append rs (Open kind name ∷ [])) in
      rw (y, visit_append (p + 1) (walks h) rs (Open kind name ∷ []))
      (pass_field h (length rs + suc turns) p e w a.0 (omega arith)
      ∙ ap (λ (l : List Visit). visit p w (field_row h) ∷ l)
      (rw en (pass rs (suc turns) (p + 1) n (walks h) (inner_own h) (at_first rows (p + 1) rs _ a.1) (omega arith)
      ∙ ap (λ (l : List Visit). visit_rows (p + 1) (walks h) rs ++ l) (pass_open kind name turns (p + 1 + length rs) n (walks h) (rw q at o))
      ∙ sym (append_assoc (visit_rows (p + 1) (walks h) rs) (visit (p + 1 + length rs) (walks h) (Open kind name) ∷ []) _))))

  item_visits_lem : (i : Item) (turns p e : ℕ) (w : Bool) → At rows p (item_rows i) → get_or ends p 0 ≡ p + length (item_rows i) → p + length (item_rows i) ≤ count
      → visits_t rows ends (gone i + turns) (place p e w) ≡ visit p w (field_row (head_of i)) ∷ (visit_rows (p + 1) (walks (head_of i)) (own_rows (head_of i) ++ open_rows i)
      ++ visits_t rows ends turns (place (p + length (item_rows i)) (p + length (item_rows i)) (walks (head_of i))))
  unfolding flatten head_of open_rows
  item_visits_lem (plain h) turns p e w a en b = plain_visits h turns p e w a en b
  item_visits_lem (holds h (scope kind name fs)) turns p e w a en b =
      holds_visits h kind name fs turns p e w _ a en (omega (arith, length-append (head_rows h) (flatten (scope kind name fs))))

  gone_few : (i : Item) → gone i ≤ length (item_rows i)
  unfolding gone flatten head_of open_rows head_rows own_rows
  gone_few (plain h) = rw append-nil (omega arith)
  gone_few (holds h (scope kind name fs)) =
      omega (arith, length-append (own_rows h) (Open kind name ∷ []), length-append (own_rows h) (flatten (scope kind name fs)))

  -- ALL FIELDS OF A SCOPE, from row p on.
  pub fields_visits_lem : (fs : Fields) (turns p e : ℕ) (w : Bool) → At rows p (fields_rows fs ++ (Close ∷ [])) → Ends fs ends p → p + length (fields_rows fs) ≤ count → length (fields_rows fs) ≤ turns
      → visits_t rows ends turns (place p e w) ≡ fields_visits p w fs
  unfolding fields_visits flatten Ends
  fields_visits_lem end turns p e w a en b t = at_close turns p e w a.0
  fields_visits_lem (i ▸ fs) turns p e w a en b t =
      let l = length-append (item_rows i) (fields_rows fs) in
      let g = gone_few i in
      let y : turns ≡ gone i + (turns - gone i) = omega arith in
      let a' : At rows p (item_rows i ++ (fields_rows fs ++ (Close ∷ []))) = rw append_assoc at a in
      rw y
      (item_visits_lem i (turns - gone i) p e w (at_first rows p (item_rows i) _ a') en.0 (omega arith)
      ∙ ap (λ (l : List Visit). visit p w (field_row (head_of i)) ∷ (visit_rows (p + 1) (walks (head_of i)) (own_rows (head_of i) ++ open_rows i) ++ l))
      (fields_visits_lem fs (turns - gone i) (p + length (item_rows i)) (p + length (item_rows i)) (walks (head_of i)) (at_second rows p (item_rows i) _ a') en.2 (omega arith) (omega arith)))
