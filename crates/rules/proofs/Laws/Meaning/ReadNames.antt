-- A tree that is read from an input has an input's names.
use Rattle.std.specs.Prelude.{◌≡◌, List, [], ◌∷◌, ◌++◌, map, ℕ, zero, suc, ◌≤◌, drop}
use Rattle.std.proofs.Common.{sym, subst}
use Rattle.std.proofs.Math.Option.{some}
use Rattle.rules.specs.Versions.{RuleSet, top_name}
use Rattle.rules.specs.Rows.{raw_at, Row, Close, decode_row}
use Rattle.rules.specs.Tree.{Declaration, Operand, ref, outer, case, Head, Scope, scope, Fields, end, ◌▸◌, Item, plain, holds, head_of, decl_rows, operand_row, operand_rows, export_rows, head_rows, flatten, fields_rows, item_rows, form}
use Rattle.rules.specs.Reader.{read}
use Rattle.rules.specs.Answer.{rows_of}
use Rattle.rules.specs.Laws.ToolLaws.{Ok, All, done, ◌&◌}
use Rattle.rules.specs.Laws.RowLaws.{Legal, legal_wider, decode_legal}
use Rattle.rules.proofs.Laws.Read.ReadRight.{read_right}
use Rattle.rules.specs.Laws.Meaning.Names.{LowDecls, LowOperand, LowOperands, LowHead, LowScope, LowFields, LowItem}

-- ---- a row that can be taken apart is legal

rows_legal : (names count : ℕ) (bs : List ℕ) → All (Ok (Legal names)) (rows_of names count bs)
unfolding rows_of decode_row
rows_legal names zero bs = done
rows_legal names (suc count) bs = decode_legal names (raw_at bs) & rows_legal names count (drop 16 bs)

-- ---- a tree of legal rows

abbrev pub LegalRows : List Row → Type 0
LegalRows [] = Unit {0}
LegalRows (r ∷ rs) = Legal top_name r × LegalRows rs

some_legal : (names : ℕ) (rs : List Row) → names ≤ top_name → All (Ok (Legal names)) (map some rs) → LegalRows rs
some_legal names [] h a = tt
some_legal names (r ∷ rs) h (l & a) = (legal_wider names top_name r h l, some_legal names rs h a)

legal_left : (xs ys : List Row) → LegalRows (xs ++ ys) → LegalRows xs
legal_left [] ys l = tt
legal_left (x ∷ xs) ys l = (l.0, legal_left xs ys l.1)

legal_right : (xs ys : List Row) → LegalRows (xs ++ ys) → LegalRows ys
legal_right [] ys l = l
legal_right (x ∷ xs) ys l = legal_right xs ys l.1

low_decls : (ds : List Declaration) → LegalRows (decl_rows ds) → LowDecls ds
unfolding decl_rows
low_decls [] l = tt
low_decls (d ∷ ds) l = (l.0, low_decls ds l.1)

low_operand : (o : Operand) → LegalRows (operand_row o) → LowOperand o
unfolding operand_row
low_operand (ref space at paths z) l = l.0
low_operand (outer space up at z) l = l.0
low_operand (case name z) l = l.0

low_operands : (os : List Operand) → LegalRows (operand_rows os) → LowOperands os
unfolding operand_rows
low_operands [] l = tt
low_operands (o ∷ os) l = (low_operand o (legal_left (operand_row o) (operand_rows os) l), low_operands os (legal_right (operand_row o) (operand_rows os) l))

low_head : (h : Head) → LegalRows (head_rows h) → LowHead h
unfolding head_rows
low_head h l =
    let rest = legal_right (decl_rows h.decls) (operand_rows h.operands ++ export_rows h.export) l.1 in
    record {
      decls = low_decls h.decls (legal_left (decl_rows h.decls) (operand_rows h.operands ++ export_rows h.export) l.1);
      operands = low_operands h.operands (legal_left (operand_rows h.operands) (export_rows h.export) rest);
    }

mutual
  unfolding flatten head_of

  pub low_scope : (s : Scope) → LegalRows (flatten s) → LowScope s
  low_scope (scope kind name fs) l = (l.0, low_fields fs (legal_left (fields_rows fs) (Close ∷ []) l.1))

  low_fields : (fs : Fields) → LegalRows (fields_rows fs) → LowFields fs
  low_fields end l = tt
  low_fields (i ▸ fs) l = (low_own i (legal_left (item_rows i) (fields_rows fs) l), low_item i (legal_left (item_rows i) (fields_rows fs) l), low_fields fs (legal_right (item_rows i) (fields_rows fs) l))

  low_own : (i : Item) → LegalRows (item_rows i) → LowHead (head_of i)
  low_own (plain h) l = low_head h l
  low_own (holds h s) l = low_head h (legal_left (head_rows h) (flatten s) l)

  low_item : (i : Item) → LegalRows (item_rows i) → LowItem i
  low_item (plain h) l = tt
  low_item (holds h s) l = low_scope s (legal_right (head_rows h) (flatten s) l)

pub read_low : (rules : RuleSet) (scopes names count : ℕ) (bs : List ℕ) (s : Scope) → names ≤ top_name → read rules scopes (rows_of names count bs) ≡ form s → LowScope s
read_low rules scopes names count bs s h e =
    let R = (read_right rules scopes (rows_of names count bs) (form s)).0 e in
    low_scope s (some_legal names (flatten s) h (subst (All (Ok (Legal names))) (sym R.0.of_tree) (rows_legal names count bs)))
