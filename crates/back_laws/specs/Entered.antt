-- Every declaration is entered under its number, and the number of an OUTER is found in the scope that it leads to.
use Rattle.std.specs.Prelude.{◌≡◌, Bool, true, ◌⊎◌, ℕ, zero, suc, ◌+◌, ◌*◌, ◌%◌, ◌<◌, ◌≤◌, eqb, ltb, length, get_or}
use Rattle.std.proofs.Math.Path.{refl}
use Rattle.std.proofs.Common.{sym, ap, ap₂, ◌∙◌, inl, inr, ⊎_elim, arith, length-append, lt-ltb, le-ltb, eq-eqb, ne_eqb, eqb-true}
use Rattle.std.proofs.Math.Bool.{false}
use Rattle.std.proofs.Math.Option.{Option, none, some}
use mathlib.Core.List.{List, [], ◌∷◌, ◌++◌, append_assoc, append-nil}
use Rattle.std.proofs.Math.ListN.{get_elem?}
use Rattle.std.proofs.lemmas.Bool.{eqb-false}
use Rattle.kit.specs.Pick.{pick}
use Rattle.rules.specs.Tools.{when◌then◌else◌, ◌then◌}
use Rattle.rules.specs.Versions.{RuleSet}
use Rattle.rules.specs.Rows.{Index, Num, Row, Field, Decl, Ref, Path, Outer, Case, Open, Close, Export, encode, number}
use Rattle.rules.specs.Tree.{Declaration, Operand, ref, outer, case, Head, Scope, scope, Fields, end, ◌▸◌, Item, plain, holds, head_of, decl_rows, path_rows, operand_row, operand_rows, export_rows, head_rows, flatten, fields_rows, item_rows}
use Rattle.rules.specs.Rules.{declarations}
use Rattle.rules.specs.Good.{GoodHead, GoodScope, GoodFields, GoodItem}
use Rattle.rules.specs.Laws.ToolLaws.{All, done, ◌&◌, all_append, all_map}
use Rattle.unresolving.specs.Back.{or_zero, names_in, name_out}
use Rattle.agree.specs.Fit.Spaces.{SpacesDecls}
use Rattle.agree.specs.Fit.GoodSpaces.{head_decls}
use Rattle.parts.specs.declared.Parts.{Parts}
use Rattle.names.specs.Table.{Slot, space_of, name_of, number_of, find_in}
use Rattle.claim_scopes.specs.Entries.{entry_key_t, slot_t, enter_t}
use Rattle.claim_laws.specs.RowParts.{as_parts, code_in, scope_size, fields_size}
use Rattle.claim_laws.specs.Keys.{or_found, find_append, find_other, Other, other_first, other_last, key_is}
use Rattle.back_notes.specs.Note.{Note, note, no_note, Noted}
use Rattle.back_notes.specs.Names.{slot_of, note_entry_t, slots_t}
use Rattle.back_laws.specs.Stand.{with, with_notes}
use Rattle.back_laws.specs.Notes.{row_out, decl_notes, blank_notes, operand_notes, operands_notes, inner_rows, item_length, names_append, more_names, fewer_names, Blank, blank_field, blank_ref, blank_export, blank_case, decls_few, own_head}
use Rattle.back_laws.specs.Listed.{decls_n, operands_n, export_n, head_n, item_n, fields_n, scope_n, head_n_lem, operands_n_lem, scope_n_lem, end_n, fields_n_lem, plain_n, holds_n}

-- ---- the slots of rows

unfoldable pub slots_of : List Noted → List Slot
slots_of [] = []
slots_of (r ∷ rs) = pick (eqb r.parts.code 2) (slot_of r.parts r.note ∷ slots_of rs) (slots_of rs)

pub slots_append : (xs ys : List Noted) → slots_of (xs ++ ys) ≡ slots_of xs ++ slots_of ys
unfolding slots_of pick
slots_append [] ys = refl
slots_append (x ∷ xs) ys = go (eqb x.parts.code 2) (slots_append xs ys)
  where
    go : (t : Bool) → slots_of (xs ++ ys) ≡ slots_of xs ++ slots_of ys → pick t (slot_of x.parts x.note ∷ slots_of (xs ++ ys)) (slots_of (xs ++ ys)) ≡ pick t (slot_of x.parts x.note ∷ slots_of xs) (slots_of xs) ++ slots_of ys
    go true e = rw e
    go false e = e

-- where there is room for all of them, all are entered
pub slots_all : (room : ℕ) (ss : List Slot) (rs : List Noted) → length ss + length (slots_of rs) ≤ room → slots_t room ss rs ≡ ss ++ slots_of rs
unfolding slots_t slots_of note_entry_t pick
slots_all room ss [] l = sym (append-nil ss)
slots_all room ss (r ∷ rs) l = go (eqb r.parts.code 2) l (λ ss' m. slots_all room ss' rs m)
  where
    go : (t : Bool) → length ss + length (pick t (slot_of r.parts r.note ∷ slots_of rs) (slots_of rs)) ≤ room → ((ss' : List Slot) → length ss' + length (slots_of rs) ≤ room → slots_t room ss' rs ≡ ss' ++ slots_of rs)
        → slots_t room (pick t (enter_t room ss (slot_of r.parts r.note)) ss) rs ≡ ss ++ pick t (slot_of r.parts r.note ∷ slots_of rs) (slots_of rs)
    go true m below =
        let s = slot_of r.parts r.note in
        let n = length-append ss (s ∷ []) in
        let fits : enter_t room ss s ≡ ss ++ (s ∷ []) = unfold enter_t in rw (lt-ltb (length ss) room (omega arith)) in
        rw fits (below (ss ++ (s ∷ [])) (omega arith) ∙ append_assoc ss (s ∷ []) (slots_of rs))
    go false m below = below ss m

-- ---- the slots of a tree; n and k as in `Notes`

unfoldable pub decl_slots : (k : ℕ) (past ds : List Declaration) → List Slot
decl_slots k past [] = []
decl_slots k past (d ∷ ds) = slot_t k d.space (length (names_in past d.space) % 65536 + 1) d.name ∷ decl_slots k (past ++ (d ∷ [])) ds

unfoldable mutual
  pub scope_slots : (n : ℕ) → Scope → List Slot
  scope_slots n (scope kind name fs) = fields_slots (suc n) n [] fs

  pub fields_slots : (n k : ℕ) (past : List Declaration) → Fields → List Slot
  fields_slots n k past end = []
  fields_slots n k past (i ▸ fs) = decl_slots k past (head_of i).decls ++ (item_slots (n + length (head_rows (head_of i))) i ++ fields_slots (n + length (item_rows i)) k (past ++ (head_of i).decls) fs)

  pub item_slots : (n : ℕ) → Item → List Slot
  item_slots n (plain h) = []
  item_slots n (holds h s) = scope_slots n s

blank_slots : (xs : List Row) → All Blank xs → slots_of (with_notes xs (blank_notes xs)) ≡ []
unfolding slots_of with_notes blank_notes pick
blank_slots [] done = refl
blank_slots (x ∷ xs) (b & bs) = rw (ne_eqb (code_in x) 2 b.no_decl) (blank_slots xs bs)

decl_slots_lem : (k : ℕ) (past ds : List Declaration) → slots_of (decls_n k past ds) ≡ decl_slots k past ds
unfolding slots_of with_notes decl_rows decl_notes decl_slots slot_of as_parts encode pick
decl_slots_lem k past [] = refl
decl_slots_lem k past (d ∷ ds) = ap (λ (l : List Slot). slot_t k d.space (length (names_in past d.space) % 65536 + 1) d.name ∷ l) (decl_slots_lem k (past ++ (d ∷ [])) ds)

operand_slots : (ks : List ℕ) (o : Operand) → slots_of (with_notes (operand_row o) (operand_notes ks o)) ≡ []
unfolding operand_notes
operand_slots ks (ref space at paths z) = blank_slots (operand_row (ref space at paths z)) (blank_ref space at paths z)
operand_slots ks (outer space up at z) = unfold slots_of with_notes operand_row as_parts encode pick in refl
operand_slots ks (case name z) = unfold slots_of with_notes operand_row as_parts encode pick in refl

operands_slots_lem : (ks : List ℕ) (os : List Operand) → slots_of (operands_n ks os) ≡ []
operands_slots_lem ks [] = unfold slots_of with_notes operand_rows in refl
operands_slots_lem ks (o ∷ os) =
    rw (operands_n_lem ks o os, slots_append (with_notes (operand_row o) (operand_notes ks o)) (operands_n ks os), operand_slots ks o) (operands_slots_lem ks os)

head_slots_lem : (k : ℕ) (ks : List ℕ) (past : List Declaration) (h : Head) → slots_of (head_n k ks past h) ≡ decl_slots k past h.decls
head_slots_lem k ks past h =
    let D = decls_n k past h.decls in
    let O = operands_n (k ∷ ks) h.operands in
    let X = export_n h.export in
    let first : slots_of (with (Field h.code h.builtin h.z) no_note ∷ (D ++ (O ++ X))) ≡ slots_of (D ++ (O ++ X)) = unfold slots_of as_parts encode pick in refl in
    rw (head_n_lem k ks past h, first, slots_append D (O ++ X), slots_append O X, decl_slots_lem k past h.decls, operands_slots_lem (k ∷ ks) h.operands, blank_slots (export_rows h.export) (blank_export h.export)) (append-nil (decl_slots k past h.decls))

scope_slots_lem : (n : ℕ) (ks : List ℕ) (kind name : ℕ) (fs : Fields) → slots_of (fields_n (suc n) n ks [] fs) ≡ fields_slots (suc n) n [] fs → slots_of (scope_n n ks (scope kind name fs)) ≡ scope_slots n (scope kind name fs)
unfolding scope_slots
scope_slots_lem n ks kind name fs e =
    let F = fields_n (suc n) n ks [] fs in
    let first : slots_of (with (Open kind name) no_note ∷ (F ++ (with Close no_note ∷ []))) ≡ slots_of (F ++ (with Close no_note ∷ [])) = unfold slots_of as_parts encode pick in refl in
    let last : slots_of (with Close no_note ∷ []) ≡ [] = unfold slots_of as_parts encode pick in refl in
    rw (scope_n_lem n ks kind name fs, first, slots_append F (with Close no_note ∷ []), last, e) (append-nil (fields_slots (suc n) n [] fs))

end_slots : (n k : ℕ) (ks : List ℕ) (past : List Declaration) → slots_of (fields_n n k ks past end) ≡ fields_slots n k past end
unfolding scope_slots slots_of
end_slots n k ks past = rw (end_n n k ks past)

fields_slots_lem : (n k : ℕ) (ks : List ℕ) (past : List Declaration) (i : Item) (fs : Fields) → slots_of (item_n (n + length (head_rows (head_of i))) (k ∷ ks) i) ≡ item_slots (n + length (head_rows (head_of i))) i
    → slots_of (fields_n (n + length (item_rows i)) k ks (past ++ (head_of i).decls) fs) ≡ fields_slots (n + length (item_rows i)) k (past ++ (head_of i).decls) fs → slots_of (fields_n n k ks past (i ▸ fs)) ≡ fields_slots n k past (i ▸ fs)
unfolding scope_slots
fields_slots_lem n k ks past i fs p q =
    let H = head_n k ks past (head_of i) in
    let I = item_n (n + length (head_rows (head_of i))) (k ∷ ks) i in
    let F = fields_n (n + length (item_rows i)) k ks (past ++ (head_of i).decls) fs in
    rw (fields_n_lem n k ks past i fs, slots_append H (I ++ F), slots_append I F, head_slots_lem k ks past (head_of i), p, q)

plain_slots : (n : ℕ) (ks : List ℕ) (h : Head) → slots_of (item_n n ks (plain h)) ≡ item_slots n (plain h)
unfolding scope_slots slots_of
plain_slots n ks h = rw (plain_n n ks h)

holds_slots : (n : ℕ) (ks : List ℕ) (h : Head) (t : Scope) → slots_of (scope_n n ks t) ≡ scope_slots n t → slots_of (item_n n ks (holds h t)) ≡ item_slots n (holds h t)
unfolding scope_slots
holds_slots n ks h t e = rw (holds_n n ks h t) e

mutual
  pub tree_slots : (t : Scope) (n : ℕ) (ks : List ℕ) → slots_of (scope_n n ks t) ≡ scope_slots n t
  tree_slots (scope kind name fs) n ks = scope_slots_lem n ks kind name fs (all_slots fs (suc n) n ks [])

  all_slots : (fs : Fields) (n k : ℕ) (ks : List ℕ) (past : List Declaration) → slots_of (fields_n n k ks past fs) ≡ fields_slots n k past fs
  all_slots end n k ks past = end_slots n k ks past
  all_slots (i ▸ fs) n k ks past = fields_slots_lem n k ks past i fs (item_slots_lem i (n + length (head_rows (head_of i))) (k ∷ ks)) (all_slots fs (n + length (item_rows i)) k ks (past ++ (head_of i).decls))

  item_slots_lem : (i : Item) (n : ℕ) (ks : List ℕ) → slots_of (item_n n ks i) ≡ item_slots n i
  item_slots_lem (plain h) n ks = plain_slots n ks h
  item_slots_lem (holds h t) n ks = holds_slots n ks h t (tree_slots t n ks)
