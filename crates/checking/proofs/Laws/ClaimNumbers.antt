-- A claim that passes conditions 2 to 4 has numbers for names, and no PATHs.
use Rattle.std.specs.Prelude.{◌≡◌, refl, Bool, true, false, ℕ, suc}
use Rattle.std.proofs.Common.{sym, arith}
use Rattle.std.proofs.Math.Option.{none, some}
use mathlib.Core.List.{List, [], ◌∷◌, map}
use Rattle.rules.specs.Tools.{when◌then◌else◌}
use Rattle.rules.specs.Rows.{Num, Id}
use Rattle.rules.specs.Tree.{Operand, ref, outer, case, Head, Scope, scope, Fields, end, ◌▸◌, Item, plain, holds, head_of}
use Rattle.rules.specs.Rules.{Env}
use Rattle.checking.specs.Check
use Rattle.checking.specs.Check.{has_numbers, not_number, outer_numbers, ref_number, same_pair, operand_right, not_right, head_operands, table, scope_operands, fields_operands, item_operands}
use Rattle.rules.specs.Laws.ToolLaws.{false_not}
use Rattle.read_form.proofs.Laws.Parting.{or_else_second, no_cons, cons_head, cons_tail}
use Rattle.rules.specs.Laws.Results.{no_option}
use Rattle.rules.proofs.Laws.Output.Kept.{blank_operand, blank, blank_item, without, without_item}
use Rattle.rules.proofs.Laws.Output.Numbers.{Bare, AllBare, Numbered, AllNumbered, NumberedScope, NumberedFields, NumberedItem}
use Rattle.checking.proofs.Laws.SameFields.{BareScope, BareFields, BareItem}
use Rattle.checking.proofs.Laws.AddedFields.{IsAdded, AddedScope, AddedFields, AddedItem}
use Rattle.checking.proofs.Laws.Beside.{Beside, skip, both, beside, same_head, same_operands, same_scope, no_holds, same_inside, item_operands_lem, firsts, head_not_right, right_skip, right_both}

-- ---- added fields

number_numbered : (o : Operand) → Bare o → has_numbers o ≡ true → Numbered o
unfolding has_numbers Check.is_number
number_numbered (ref space (Num n) [] z) b t = tt
number_numbered (ref space (Num n) (p ∷ ps) z) b t = b
number_numbered (ref space (Id name) paths z) b t = false_not t
number_numbered (outer space (Num d) (Num n) z) b t = tt
number_numbered (outer space (Num d) (Id name) z) b t = false_not t
number_numbered (outer space (Id name) at z) b t = false_not t
number_numbered (case name z) b t = tt

numbers_numbered : (n : ℕ) (os : List Operand) → AllBare os → not_number n os ≡ none → AllNumbered os
unfolding not_number when◌then◌else◌
numbers_numbered n [] b e = tt
numbers_numbered n (o ∷ os) b e = go (has_numbers o) refl e (numbers_numbered (suc n) os b.1)
  where
    go : (t : Bool) → has_numbers o ≡ t → (when t then not_number (suc n) os else some n) ≡ none → (not_number (suc n) os ≡ none → AllNumbered os) → AllNumbered (o ∷ os)
    go true t f rest = (number_numbered o b.0 t, rest f)
    go false t f rest = no_option n (sym f)

-- ---- fields of the input

not_case : {X : Type 0} (space z n z' : ℕ) → ref space (Num 0) [] z ≡ case n z' → X
not_case space z n z' e = let c : ◌≡◌ {A = ℕ} 0 1 = cc in absurd (omega arith)

not_outer_case : {X : Type 0} (space z n z' : ℕ) → outer space (Num 0) (Num 0) z ≡ case n z' → X
not_outer_case space z n z' e = let c : ◌≡◌ {A = ℕ} 0 1 = cc in absurd (omega arith)

not_outer : {X : Type 0} (space z s z' : ℕ) → outer space (Num 0) (Num 0) z ≡ ref s (Num 0) [] z' → X
not_outer space z s z' e = let c : ◌≡◌ {A = ℕ} 0 1 = cc in absurd (omega arith)

not_ref : {X : Type 0} (space z s z' : ℕ) → ref space (Num 0) [] z ≡ outer s (Num 0) (Num 0) z' → X
not_ref space z s z' e = let c : ◌≡◌ {A = ℕ} 0 1 = cc in absurd (omega arith)

module _ (here : Scope) (outside : List Env) where
  right_numbered : (x w : Operand) → Bare x → blank_operand x ≡ blank_operand w → operand_right here outside w x ≡ true → Numbered x
  unfolding blank_operand operand_right Check.ref_now_right ref_number outer_numbers same_pair
  right_numbered (ref space (Num n) [] z) w b e t = tt
  right_numbered (ref space (Num n) (p ∷ ps) z) w b e t = b
  right_numbered (ref space (Id name) paths z) (ref s at ps z') b e t = false_not t
  right_numbered (ref space (Id name) paths z) (outer s up at z') b e t = not_ref space z s z' e
  right_numbered (ref space (Id name) paths z) (case n z') b e t = not_case space z n z' e
  right_numbered (outer space (Num d) (Num n) z) w b e t = tt
  right_numbered (outer space (Num d) (Id name) z) (ref s at ps z') b e t = not_outer space z s z' e
  right_numbered (outer space (Num d) (Id name) z) (outer s up at z') b e t = false_not t
  right_numbered (outer space (Num d) (Id name) z) (case n z') b e t = not_outer_case space z n z' e
  right_numbered (outer space (Id name) at z) (ref s at' ps z') b e t = not_outer space z s z' e
  right_numbered (outer space (Id name) at z) (outer s up at' z') b e t = false_not t
  right_numbered (outer space (Id name) at z) (case n z') b e t = not_outer_case space z n z' e
  right_numbered (case name z) w b e t = tt

  all_right_numbered : (n : ℕ) (now was : List Operand) → AllBare now → map blank_operand now ≡ map blank_operand was → not_right here outside n now was ≡ none → AllNumbered now
  all_right_numbered n [] was b s e = tt
  all_right_numbered n (x ∷ now) [] b s e = no_cons (sym s)
  all_right_numbered n (x ∷ now) (w ∷ was) b s e =
      let F = firsts here outside n x w now was e in
      (right_numbered x w b.0 (cons_head s) F.first, all_right_numbered (suc n) now was b.1 (cons_tail s) F.rest)

  own_numbered : (n : ℕ) (i w : Item) → AllBare (head_of i).operands → blank_item (without_item i) ≡ blank_item w → item_operands n i here outside w ≡ none → AllNumbered (head_of i).operands
  own_numbered n i w b s e =
      let H = head_not_right here outside n (head_of i) (head_of w) (item_operands_lem n i here outside w e) in
      all_right_numbered H.0 (head_of i).operands (head_of w).operands b (same_operands _ _ (same_head i w s)) H.1

-- ---- the whole walk

scope_parts : (n kind name : ℕ) (cs : Fields) (outside : List Env) (kind' name' : ℕ) (fs : Fields) → blank (without (scope kind name cs)) ≡ blank (scope kind' name' fs)
    → scope_operands n (scope kind name cs) outside (scope kind' name' fs) ≡ none → Beside cs fs × (fields_operands (suc n) cs (scope kind name cs) outside fs ≡ none)
unfolding blank without scope_operands
scope_parts n kind name cs outside kind' name' fs e t = (beside cs fs (same_inside _ _ _ _ _ _ e), t)

item_kinds : (h w : Head) (s : Scope) → blank_item (without_item (holds h s)) ≡ blank_item (plain w) → {X : Type 0} → X
unfolding blank without
item_kinds h w s e = no_holds _ _ _ (sym e)

record Inner (n : ℕ) (s : Scope) (outside : List Env) (t : Scope) : Type 0 where
  same : blank (without s) ≡ blank t
  row : ℕ
  right : scope_operands row s outside t ≡ none

inner : (n : ℕ) (h w : Head) (s t here : Scope) (outside : List Env) → blank_item (without_item (holds h s)) ≡ blank_item (holds w t) → item_operands n (holds h s) here outside (holds w t) ≡ none
    → Inner n s (table here ∷ outside) t
unfolding blank without scope_operands
inner n h w s t here outside e r = record { same = same_scope _ _ _ _ e; row = _; right = or_else_second (head_operands here outside n h w) _ r }

mutual
  unfolding head_of

  pub scope_numbers : (n : ℕ) (c : Scope) (outside : List Env) (s : Scope) → BareScope c → AddedScope c → blank (without c) ≡ blank s → scope_operands n c outside s ≡ none → NumberedScope c
  scope_numbers n (scope kind name cs) outside (scope kind' name' fs) b a e t =
      let P = scope_parts n kind name cs outside kind' name' fs e t in
      fields_numbers (suc n) cs (scope kind name cs) outside fs b a P.0 P.1

  fields_numbers : (n : ℕ) (cs : Fields) (here : Scope) (outside : List Env) (fs : Fields) → BareFields cs → AddedFields cs → Beside cs fs → fields_operands n cs here outside fs ≡ none → NumberedFields cs
  fields_numbers n end here outside fs b a p e = tt
  fields_numbers n (i ▸ cs) here outside fs b a (skip t p) e =
      let R = right_skip here outside n i cs fs t e in
      (added_numbers i b.0 (a.0 t), fields_numbers R.0 cs here outside fs b.1 a.2 p R.1)
  fields_numbers n (i ▸ cs) here outside (w ▸ fs) b a (both t s p) e =
      let R = right_both here outside n i w cs fs t e in
      (item_numbers n i here outside w b.0 a.1 s R.first, fields_numbers R.row cs here outside fs b.1 a.2 p R.rest)

  item_numbers : (n : ℕ) (i : Item) (here : Scope) (outside : List Env) (w : Item) → BareItem i → AddedItem i → blank_item (without_item i) ≡ blank_item w → item_operands n i here outside w ≡ none → NumberedItem i
  item_numbers n (plain h) here outside w b a s e = own_numbered here outside n (plain h) w b s e
  item_numbers n (holds h c) here outside (plain w) b a s e = item_kinds h w c s
  item_numbers n (holds h c) here outside (holds w t) b a s e =
      let I = inner n h w c t here outside s e in
      (own_numbered here outside n (holds h c) (holds w t) b.0 s e, scope_numbers I.row c (table here ∷ outside) t b.1 a I.same I.right)

  added_numbers : (i : Item) → BareItem i → IsAdded i → NumberedItem i
  added_numbers (plain h) b a = numbers_numbered a.row h.operands b a.numbers
  added_numbers (holds h s) b a = absurd a
