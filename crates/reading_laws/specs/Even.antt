-- Rows in which every scope that opens closes, and the walks through them: what a scope that is gone through holds inside another is passed over.
use Rattle.std.specs.Prelude.{◌≡◌, Bool, true, ◌&&◌, List, [], ◌∷◌, ◌++◌, ℕ, ◌+◌, ◌-◌}
use Rattle.std.proofs.Math.Path.{refl, ap}
use Rattle.std.proofs.Common.{sym, ◌∙◌, subst, append_assoc, add-one}
use Rattle.std.proofs.Math.Bool.{false}
use Rattle.std.proofs.Math.Option.{Option, none, some}
use native.Mathlib.Omega.{arith}
use Rattle.std.proofs.Math.Dec.{eqb}
use Rattle.kit.specs.Pick.{pick}
use Rattle.kit.proofs.Laws.{tests}
use Rattle.rules.specs.Rows.{Row, Open, Close, encode}
use Rattle.rules.specs.Tree.{Declaration, Operand, ref, outer, case, Head, Scope, scope, Fields, end, ◌▸◌, Item, plain, holds, flatten, fields_rows, item_rows, head_rows, decl_rows, path_rows, operand_row, operand_rows, export_rows}
use Rattle.row_parts.specs.Parts.{code_at}
use Rattle.scopes.specs.Scopes.{level_above, scope_above}
use Rattle.reading_laws.specs.Stand.{At, code_part, behind, behind_append, at_left, at_right}

-- ---- even rows

abbrev pub code_of : Row → ℕ
code_of r = code_part (encode r)

-- neither OPEN nor CLOSE
pub record Flat (r : Row) : Type 0 where
  pub not_open_lem : eqb (code_of r) 7 ≡ false
  pub not_close : eqb (code_of r) 8 ≡ false

pub data Even : List Row → Type 0 where
  nothing : Even []
  flat : {r : Row} {rs : List Row} → Flat r → Even rs → Even (r ∷ rs)
  nest : {kind name : ℕ} {rs more : List Row} → Even rs → Even more → Even (Open kind name ∷ (rs ++ (Close ∷ more)))

pub even_append : {xs ys : List Row} → Even xs → Even ys → Even (xs ++ ys)
even_append nothing e = e
even_append (flat f x) e = flat f (even_append x e)
even_append {ys = ys} (nest {kind = kind} {name = name} {rs = rs} {more = more} x y) e =
    subst Even (ap (λ (l : List Row). Open kind name ∷ l) (sym (append_assoc rs (Close ∷ more) ys))) (nest x (even_append y e))

-- ---- the rows of a tree are even

pub decls_even : (ds : List Declaration) → Even (decl_rows ds)
unfolding decl_rows encode
decls_even [] = nothing
decls_even (d ∷ ds) = flat (record { not_open_lem = refl; not_close = refl }) (decls_even ds)

paths_even : (ps : List ℕ) → Even (path_rows ps)
unfolding path_rows encode
paths_even [] = nothing
paths_even (p ∷ ps) = flat (record { not_open_lem = refl; not_close = refl }) (paths_even ps)

pub operand_even : (o : Operand) → Even (operand_row o)
unfolding operand_row encode
operand_even (ref space at paths z) = flat (record { not_open_lem = refl; not_close = refl }) (paths_even paths)
operand_even (outer space up at z) = flat (record { not_open_lem = refl; not_close = refl }) nothing
operand_even (case name z) = flat (record { not_open_lem = refl; not_close = refl }) nothing

pub operands_even : (os : List Operand) → Even (operand_rows os)
unfolding operand_rows
operands_even [] = nothing
operands_even (o ∷ os) = even_append (operand_even o) (operands_even os)

pub export_even : (o : Option ℕ) → Even (export_rows o)
unfolding export_rows encode
export_even none = nothing
export_even (some n) = flat (record { not_open_lem = refl; not_close = refl }) nothing

pub head_even : (h : Head) → Even (head_rows h)
unfolding head_rows encode
head_even h =
    flat (record { not_open_lem = refl; not_close = refl })
    (even_append (decls_even h.decls) (even_append (operands_even h.operands) (export_even h.export)))

mutual
  unfolding flatten

  pub scope_even : (s : Scope) → Even (flatten s)
  scope_even (scope kind name fs) = nest (fields_even fs) nothing

  pub fields_even : (fs : Fields) → Even (fields_rows fs)
  fields_even end = nothing
  fields_even (i ▸ fs) = even_append (item_even i) (fields_even fs)

  pub item_even : (i : Item) → Even (item_rows i)
  item_even (plain h) = head_even h
  item_even (holds h s) = even_append (head_even h) (scope_even s)

-- ---- up: the scope of what stands behind even rows is that of what stands before them

and_no : (b : Bool) → b && false ≡ false
and_no true = refl
and_no false = refl

module _ (form : List ℕ) where
  -- a row by its code
  up_flat : (row level : ℕ) → eqb (code_at form row) 7 ≡ false → eqb (code_at form row) 8 ≡ false → scope_above form (row + 1) level ≡ scope_above form row level
  unfolding scope_above level_above pick
  up_flat row level o c = rw (add-one, o, c, and_no (eqb level 0))

  up_close : (row level : ℕ) → code_at form row ≡ 8 → scope_above form (row + 1) level ≡ scope_above form row (level + 1)
  unfolding scope_above level_above pick
  up_close row level c = rw (add-one, c, and_no (eqb level 0))

  up_inner : (row level : ℕ) → code_at form row ≡ 7 → scope_above form (row + 1) (level + 1) ≡ scope_above form row level
  unfolding scope_above level_above pick
  up_inner row level c =
      let deep : eqb (level + 1) 0 ≡ false = omega tests in
      let back : level + 1 - 1 ≡ level = omega arith in
      rw (add-one, c, deep, back)

  -- the OPEN of the scope itself
  pub up_open : (row : ℕ) → code_at form row ≡ 7 → scope_above form (row + 1) 0 ≡ row + 1
  unfolding scope_above pick
  up_open row c = rw (add-one, c)

  pub up_even : {rs : List Row} → Even rs → (row level : ℕ) → At form row rs → scope_above form (behind row rs) level ≡ scope_above form row level
  unfolding encode
  up_even nothing row level a = refl
  up_even (flat {r = r} f e) row level a =
      let code : code_at form row ≡ code_of r = ap code_part a.0 in
      up_even e (row + 1) level a.1 ∙ up_flat row level (rw code f.not_open_lem) (rw code f.not_close)
  up_even (nest {kind = kind} {name = name} {rs = rs} {more = more} e m) row level a =
      let inner = at_left form (row + 1) rs (Close ∷ more) a.1 in
      let rest = at_right form (row + 1) rs (Close ∷ more) a.1 in
      let last = behind (row + 1) rs in
      ap (λ (n : ℕ). scope_above form n level) (behind_append (row + 1) rs (Close ∷ more))
      ∙ up_even m (last + 1) level rest.1
      ∙ up_close last level (ap code_part rest.0)
      ∙ up_even e (row + 1) (level + 1) inner
      ∙ up_inner row level (ap code_part a.0)
