-- The rows of a tree with what the first pass notes of them, part by part.
use Rattle.std.specs.Prelude.{◌≡◌, List, [], ◌∷◌, ◌++◌, ℕ, suc, ◌+◌, length}
use Rattle.std.proofs.Math.Path.{refl}
use Rattle.std.proofs.Common.{sym, ap, ◌∙◌, append_assoc, arith, length-append}
use Rattle.std.proofs.Math.Option.{Option, none, some}
use Rattle.rules.specs.Rows.{Row, Field, Open, Close}
use Rattle.rules.specs.Tree.{Declaration, Operand, ref, outer, case, Head, Scope, scope, Fields, end, ◌▸◌, Item, plain, holds, head_of, decl_rows, operand_row, operand_rows, export_rows, head_rows, flatten, fields_rows, item_rows}
use Rattle.back_notes.specs.Note.{Note, no_note, Noted}
use Rattle.back_laws.specs.Stand.{with, with_notes, with_append}
use Rattle.back_laws.specs.Notes.{decl_notes, blank_notes, operand_notes, operands_notes, head_notes, scope_notes, fields_notes, item_notes, inner_rows, item_split, item_length}

-- ---- each row has a note

pub decls_long : (k : ℕ) (past ds : List Declaration) → length (decl_rows ds) ≡ length (decl_notes k past ds)
unfolding decl_rows decl_notes
decls_long k past [] = refl
decls_long k past (d ∷ ds) = ap suc (decls_long k (past ++ (d ∷ [])) ds)

blanks_long : (rs : List Row) → length rs ≡ length (blank_notes rs)
unfolding blank_notes
blanks_long [] = refl
blanks_long (r ∷ rs) = ap suc (blanks_long rs)

operand_long : (ks : List ℕ) (o : Operand) → length (operand_row o) ≡ length (operand_notes ks o)
unfolding operand_notes
operand_long ks (ref space at paths z) = blanks_long (operand_row (ref space at paths z))
operand_long ks (outer space up at z) = unfold operand_row in refl
operand_long ks (case name z) = unfold operand_row in refl

operands_long : (ks : List ℕ) (os : List Operand) → length (operand_rows os) ≡ length (operands_notes ks os)
unfolding operand_rows operands_notes
operands_long ks [] = refl
operands_long ks (o ∷ os) = omega (arith, length-append (operand_row o) (operand_rows os), length-append (operand_notes ks o) (operands_notes ks os), operand_long ks o, operands_long ks os)

head_long : (k : ℕ) (ks : List ℕ) (past : List Declaration) (h : Head) → length (head_rows h) ≡ length (head_notes k ks past h)
unfolding head_rows head_notes
head_long k ks past h =
    omega (
      arith,
      length-append (decl_rows h.decls) (operand_rows h.operands ++ export_rows h.export),
      length-append (operand_rows h.operands) (export_rows h.export),
      length-append (decl_notes k past h.decls) (operands_notes (k ∷ ks) h.operands ++ blank_notes (export_rows h.export)),
      length-append (operands_notes (k ∷ ks) h.operands) (blank_notes (export_rows h.export)),
      decls_long k past h.decls,
      operands_long (k ∷ ks) h.operands,
      blanks_long (export_rows h.export),
    )

scope_long_lem : (n kind name : ℕ) (ks : List ℕ) (fs : Fields) → length (fields_rows fs) ≡ length (fields_notes (suc n) n ks [] fs) → length (flatten (scope kind name fs)) ≡ length (scope_notes n ks (scope kind name fs))
unfolding flatten scope_notes
scope_long_lem n kind name ks fs e = omega (arith, length-append (fields_rows fs) (Close ∷ []), length-append (fields_notes (suc n) n ks [] fs) (no_note ∷ []))

end_long : (n k : ℕ) (ks : List ℕ) (past : List Declaration) → length (fields_rows end) ≡ length (fields_notes n k ks past end)
unfolding flatten scope_notes
end_long n k ks past = refl

fields_long_lem : (n k : ℕ) (ks : List ℕ) (past : List Declaration) (i : Item) (fs : Fields) → length (inner_rows i) ≡ length (item_notes (n + length (head_rows (head_of i))) (k ∷ ks) i)
    → length (fields_rows fs) ≡ length (fields_notes (n + length (item_rows i)) k ks (past ++ (head_of i).decls) fs) → length (fields_rows (i ▸ fs)) ≡ length (fields_notes n k ks past (i ▸ fs))
unfolding flatten scope_notes
fields_long_lem n k ks past i fs p q =
    let I = item_notes (n + length (head_rows (head_of i))) (k ∷ ks) i in
    let F = fields_notes (n + length (item_rows i)) k ks (past ++ (head_of i).decls) fs in
    omega (arith, length-append (item_rows i) (fields_rows fs), item_length i, head_long k ks past (head_of i), length-append (head_notes k ks past (head_of i)) (I ++ F), length-append I F)

plain_long : (n : ℕ) (ks : List ℕ) (h : Head) → length (inner_rows (plain h)) ≡ length (item_notes n ks (plain h))
unfolding inner_rows scope_notes
plain_long n ks h = refl

holds_long : (n : ℕ) (ks : List ℕ) (h : Head) (t : Scope) → length (flatten t) ≡ length (scope_notes n ks t) → length (inner_rows (holds h t)) ≡ length (item_notes n ks (holds h t))
unfolding inner_rows scope_notes
holds_long n ks h t e = e

mutual
  pub scope_long : (t : Scope) (n : ℕ) (ks : List ℕ) → length (flatten t) ≡ length (scope_notes n ks t)
  scope_long (scope kind name fs) n ks = scope_long_lem n kind name ks fs (fields_long fs (suc n) n ks [])

  fields_long : (fs : Fields) (n k : ℕ) (ks : List ℕ) (past : List Declaration) → length (fields_rows fs) ≡ length (fields_notes n k ks past fs)
  fields_long end n k ks past = end_long n k ks past
  fields_long (i ▸ fs) n k ks past = fields_long_lem n k ks past i fs (item_long i (n + length (head_rows (head_of i))) (k ∷ ks)) (fields_long fs (n + length (item_rows i)) k ks (past ++ (head_of i).decls))

  item_long : (i : Item) (n : ℕ) (ks : List ℕ) → length (inner_rows i) ≡ length (item_notes n ks i)
  item_long (plain h) n ks = plain_long n ks h
  item_long (holds h t) n ks = holds_long n ks h t (scope_long t n ks)

-- ---- the rows with their notes

abbrev pub decls_n : (k : ℕ) (past ds : List Declaration) → List Noted
decls_n k past ds = with_notes (decl_rows ds) (decl_notes k past ds)

abbrev pub operands_n : (ks : List ℕ) → List Operand → List Noted
operands_n ks os = with_notes (operand_rows os) (operands_notes ks os)

abbrev pub export_n : Option ℕ → List Noted
export_n x = with_notes (export_rows x) (blank_notes (export_rows x))

unfoldable pub head_n : (k : ℕ) (ks : List ℕ) (past : List Declaration) → Head → List Noted
head_n k ks past h = with_notes (head_rows h) (head_notes k ks past h)

unfoldable pub item_n : (n : ℕ) (ks : List ℕ) → Item → List Noted
item_n n ks i = with_notes (inner_rows i) (item_notes n ks i)

unfoldable pub fields_n : (n k : ℕ) (ks : List ℕ) (past : List Declaration) → Fields → List Noted
fields_n n k ks past fs = with_notes (fields_rows fs) (fields_notes n k ks past fs)

unfoldable pub scope_n : (n : ℕ) (ks : List ℕ) → Scope → List Noted
scope_n n ks t = with_notes (flatten t) (scope_notes n ks t)

pub head_n_lem : (k : ℕ) (ks : List ℕ) (past : List Declaration) (h : Head)
    → head_n k ks past h ≡ with (Field h.code h.builtin h.z) no_note ∷ (decls_n k past h.decls ++ (operands_n (k ∷ ks) h.operands ++ export_n h.export))
unfolding head_n head_rows head_notes with_notes
head_n_lem k ks past h =
    ap (λ (l : List Noted). with (Field h.code h.builtin h.z) no_note ∷ l)
    (with_append (decl_rows h.decls) (operand_rows h.operands ++ export_rows h.export) (decl_notes k past h.decls) (operands_notes (k ∷ ks) h.operands ++ blank_notes (export_rows h.export)) (decls_long k past h.decls)
    ∙ ap (λ (l : List Noted). decls_n k past h.decls ++ l) (with_append (operand_rows h.operands) (export_rows h.export) (operands_notes (k ∷ ks) h.operands) (blank_notes (export_rows h.export)) (operands_long (k ∷ ks) h.operands)))

pub operands_n_lem : (ks : List ℕ) (o : Operand) (os : List Operand) → operands_n ks (o ∷ os) ≡ with_notes (operand_row o) (operand_notes ks o) ++ operands_n ks os
unfolding operand_rows operands_notes
operands_n_lem ks o os = with_append (operand_row o) (operand_rows os) (operand_notes ks o) (operands_notes ks os) (operand_long ks o)

pub scope_n_lem : (n : ℕ) (ks : List ℕ) (kind name : ℕ) (fs : Fields) → scope_n n ks (scope kind name fs) ≡ with (Open kind name) no_note ∷ (fields_n (suc n) n ks [] fs ++ (with Close no_note ∷ []))
unfolding scope_n fields_n flatten scope_notes with_notes
scope_n_lem n ks kind name fs =
    ap (λ (l : List Noted). with (Open kind name) no_note ∷ l) (with_append (fields_rows fs) (Close ∷ []) (fields_notes (suc n) n ks [] fs) (no_note ∷ []) (fields_long fs (suc n) n ks []))

pub end_n : (n k : ℕ) (ks : List ℕ) (past : List Declaration) → fields_n n k ks past end ≡ []
unfolding fields_n flatten with_notes
end_n n k ks past = refl

pub fields_n_lem : (n k : ℕ) (ks : List ℕ) (past : List Declaration) (i : Item) (fs : Fields)
    → fields_n n k ks past (i ▸ fs) ≡ head_n k ks past (head_of i) ++ (item_n (n + length (head_rows (head_of i))) (k ∷ ks) i ++ fields_n (n + length (item_rows i)) k ks (past ++ (head_of i).decls) fs)
unfolding fields_n item_n head_n flatten scope_notes
fields_n_lem n k ks past i fs =
    let I = item_notes (n + length (head_rows (head_of i))) (k ∷ ks) i in
    let F = fields_notes (n + length (item_rows i)) k ks (past ++ (head_of i).decls) fs in
    let split : item_rows i ++ fields_rows fs ≡ head_rows (head_of i) ++ (inner_rows i ++ fields_rows fs) = ap (λ (l : List Row). l ++ fields_rows fs) (item_split i) ∙ append_assoc (head_rows (head_of i)) (inner_rows i) (fields_rows fs) in
    rw split
    (with_append (head_rows (head_of i)) (inner_rows i ++ fields_rows fs) (head_notes k ks past (head_of i)) (I ++ F) (head_long k ks past (head_of i))
    ∙ ap (λ (l : List Noted). with_notes (head_rows (head_of i)) (head_notes k ks past (head_of i)) ++ l) (with_append (inner_rows i) (fields_rows fs) I F (item_long i (n + length (head_rows (head_of i))) (k ∷ ks))))

pub plain_n : (n : ℕ) (ks : List ℕ) (h : Head) → item_n n ks (plain h) ≡ []
unfolding item_n inner_rows with_notes
plain_n n ks h = refl

pub holds_n : (n : ℕ) (ks : List ℕ) (h : Head) (t : Scope) → item_n n ks (holds h t) ≡ scope_n n ks t
unfolding item_n scope_n inner_rows scope_notes
holds_n n ks h t = refl
