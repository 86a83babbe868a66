-- The rows of a form that is read, by its bytes behind the header.
use Rattle.std.specs.Prelude.{◌≡◌, refl, Bool, true, false, ℕ, suc, ◌+◌, ◌-◌, ◌*◌, ◌/◌, ◌<◌, ◌≤◌, leb, eqb, get_or, drop}
use Rattle.std.proofs.Common.{sym, ap, ◌∙◌, arith, add-one, length-drop, eqb-true, leb-true}
use Rattle.std.proofs.Math.Option.{Option, none, some}
use mathlib.Core.List.{List, [], ◌∷◌, ◌++◌}
use Rattle.std.proofs.Math.ListN.{length}
use Rattle.std.proofs.lemmas.List.{length-map}
use Rattle.kit.specs.Pick.{pick}
use Rattle.kit.proofs.Laws.{pick_has}
use Rattle.parts.specs.PartsAt.{parts_in, parts_at}
use Rattle.parts.specs.declared.Parts.{Parts}
use Rattle.rules.specs.Tools.{between}
use Rattle.rules.specs.Versions.{Setting}
use Rattle.rules.specs.Rows.{Raw, Row, Field, Decl, Ref, Path, Outer, Case, Open, Close, Export, encode}
use Rattle.rules.specs.Tree.{Operand, ref, outer, case, Head, Scope, scope, Fields, end, ◌▸◌, Item, plain, holds, head_of, decl_rows, path_rows, operand_row, operand_rows, export_rows, head_rows, flatten, fields_rows, item_rows}
use Rattle.rules.specs.Answer.{accepted, row_count}
use Rattle.rules.specs.Laws.ToolLaws.{and_right, get_d_all}
use Rattle.rules.specs.Laws.RowLaws.{Bytes}
use Rattle.rules.proofs.Laws.Read.BeginsWritten.{rows_length}
use Rattle.read_form.specs.ReadForm.{read_form}
use Rattle.read_form.proofs.Laws.ReadFormLaws.{ReadAs, read_exactly}
use Rattle.matched.proofs.Ends.{At}
use Rattle.diff.proofs.Lists.{at_rows}
use Rattle.claim_rows.specs.Left.{rows_from, rows_at}
use Rattle.claim_laws.specs.RowParts.{of_raw, as_parts, all_parts, Stands, stands_first, stands_second}
use Rattle.claim_laws.specs.OneOperand.{Narrow}
use Rattle.claim_laws.specs.Operands.{NarrowOperands, NarrowScope, NarrowFields, NarrowItem}

-- ---- rows that stand in bytes

at_stands : (l : List ℕ) (i : ℕ) (rs : List Row) → At l i rs → Stands (parts_at l) i rs
unfolding as_parts
at_stands l i [] a = tt
at_stands l i (r ∷ rs) a = (ap of_raw a.0, at_stands l (suc i) rs (rw add-one at a.1))

from_stands : (l : List ℕ) (i : ℕ) (rs : List Row) → Stands (parts_at l) i rs → rows_from l i (length rs) ≡ all_parts rs
unfolding rows_from all_parts
from_stands l i [] s = refl
from_stands l i (r ∷ rs) s = rw (s.0, add-one i, from_stands l (suc i) rs s.1)

-- ---- a form that is read

module _ (v : Setting) (l : List ℕ) (t : Scope) (e : read_form v l ≡ accepted t) where
  abbrev body : List ℕ
  body = drop v.version.header l

  as_read : ReadAs v l t
  as_read = (read_exactly v l t).0 e

  abbrev count : ℕ
  count = row_count v.version l

  sized : length l ≡ v.version.header + 16 * count
  sized = eqb-true (length l) (v.version.header + 16 * count) as_read.long

  body_long : length body / 16 ≡ count
  body_long = omega (arith, sized, length-drop v.version.header l)

  all_rows_lem : length (flatten t) ≡ count
  all_rows_lem = sym (length-map (flatten t) some) ∙ ap length as_read.is_form.of_tree ∙ rows_length v.version.names count body

  pub rows_count : length body / 16 ≡ length (flatten t)
  rows_count = body_long ∙ sym all_rows_lem

  pub rows_few : length (flatten t) ≤ v.version.rows
  rows_few =
      let f = leb-true count v.version.rows (and_right (leb 1 count) (leb count v.version.rows) as_read.counted) in
      let a = all_rows_lem in
      omega arith

  pub rows_stand : Stands (parts_at body) 0 (flatten t)
  rows_stand = at_stands body 0 (flatten t) (at_rows v.version.names count body 0 (flatten t) as_read.is_form.of_tree (omega (arith, body_long)))

  pub rows_are : rows_at body 0 ≡ all_parts (flatten t)
  unfolding rows_at
  rows_are = let q : length body / 16 - 0 ≡ length (flatten t) = omega (arith, rows_count) in rw q (from_stands body 0 (flatten t) rows_stand)

-- ---- its spaces

byte_parts : (l : List ℕ) → Bytes l → (i : ℕ) → (parts_at l i).b < 256
unfolding parts_at parts_in
byte_parts l a i = pick_has (λ (p : Parts). p.b < 256) (leb (length l / 16) i) (omega arith) (get_d_all (λ (b : ℕ). b < 256) l (16 * i + 1) 0 a (omega arith))

module _ (at : ℕ → Parts) (f : (i : ℕ) → (at i).b < 256) where
  narrow_operand : (o : Operand) (n : ℕ) → Stands at n (operand_row o) → Narrow o
  unfolding operand_row as_parts encode
  narrow_operand (ref space to paths z) n s = let h = f n in rw s.0 at h
  narrow_operand (outer space up to z) n s = let h = f n in rw s.0 at h
  narrow_operand (case name z) n s = tt

  narrow_operands : (os : List Operand) (n : ℕ) → Stands at n (operand_rows os) → NarrowOperands os
  unfolding operand_rows
  narrow_operands [] n s = tt
  narrow_operands (o ∷ os) n s = (narrow_operand o n (stands_first at n (operand_row o) (operand_rows os) s), narrow_operands os _ (stands_second at n (operand_row o) (operand_rows os) s))

  narrow_head : (h : Head) (n : ℕ) → Stands at n (head_rows h) → NarrowOperands h.operands
  unfolding head_rows
  narrow_head h n s = narrow_operands h.operands _ (stands_first at _ (operand_rows h.operands) (export_rows h.export) (stands_second at (suc n) (decl_rows h.decls) (operand_rows h.operands ++ export_rows h.export) s.1))

  mutual
    unfolding flatten head_of

    narrow_scope : (s : Scope) (n : ℕ) → Stands at n (flatten s) → NarrowScope s
    narrow_scope (scope kind name fs) n q = narrow_fields fs (suc n) (stands_first at (suc n) (fields_rows fs) (Close ∷ []) q.1)

    narrow_fields : (fs : Fields) (n : ℕ) → Stands at n (fields_rows fs) → NarrowFields fs
    narrow_fields end n q = tt
    narrow_fields (i ▸ fs) n q =
        let a = stands_first at n (item_rows i) (fields_rows fs) q in
        (narrow_own i n a, narrow_item i n a, narrow_fields fs (n + length (item_rows i)) (stands_second at n (item_rows i) (fields_rows fs) q))

    narrow_own : (i : Item) (n : ℕ) → Stands at n (item_rows i) → NarrowOperands (head_of i).operands
    narrow_own (plain h) n q = narrow_head h n q
    narrow_own (holds h s) n q = narrow_head h n (stands_first at n (head_rows h) (flatten s) q)

    narrow_item : (i : Item) (n : ℕ) → Stands at n (item_rows i) → NarrowItem i
    narrow_item (plain h) n q = tt
    narrow_item (holds h s) n q = narrow_scope s (n + length (head_rows h)) (stands_second at n (head_rows h) (flatten s) q)

-- of the rows of bytes
pub narrow_rows : (l : List ℕ) (t : Scope) → Bytes l → Stands (parts_at l) 0 (flatten t) → NarrowScope t
narrow_rows l t a s = narrow_scope (parts_at l) (byte_parts l a) t 0 s
