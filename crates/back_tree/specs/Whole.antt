-- The rows of an output, from the last to the first: what is written for them are the rows of the unresolved tree.
use Rattle.std.specs.Prelude.{◌≡◌, Bool, true, false, ℕ, suc, ◌+◌, ◌<◌, ◌≤◌, eqb, leb}
use Rattle.std.proofs.Math.Path.{refl, sym, ap}
use Rattle.std.proofs.Common.{◌∙◌, subst, arith, length-append}
use Rattle.std.proofs.Math.Option.{Option, none, some}
use mathlib.Core.List.{List, [], ◌∷◌, ◌++◌, append_assoc, reverse_aux, reverse, reverse-cons, reverse_aux-append, reverse_aux-eq}
use Rattle.std.proofs.Math.ListN.{length}
use Rattle.rules.specs.Tools.{is_in, is_just}
use Rattle.rules.specs.Versions.{RuleSet}
use Rattle.rules.specs.Rows.{Index, Row, Open as opens, Close, encode}
use Rattle.rules.specs.Tree.{Declaration, Operand, ref, outer, Head, Scope, scope, Fields, end, ◌▸◌, Item, plain, holds, head_of, head_rows, flatten, fields_rows, item_rows}
use Rattle.rules.specs.Shapes
use Rattle.rules.specs.Good.{GoodHead, GoodScope, GoodFields, GoodItem}
use Rattle.rules.specs.Rules.{declarations, outer_alias, export_alias, fresh}
use Rattle.rules.specs.Readings.{is_fresh, any_fresh, is_inserted}
use Rattle.rules.specs.Laws.ToolLaws.{leb-true, or-true, or_cases}
use Rattle.rules.specs.Laws.Meaning.Names.{LowDecls}
use Rattle.rules.proofs.Laws.Meaning.Lookups.{low_original}
use Rattle.rules.proofs.Laws.Output.Numbers.{AllNumbered, NumberedScope, NumberedFields, NumberedItem}
use Rattle.unresolving.specs.Back.{restored_head, unresolve_scope, unresolve_fields, unresolve_item}
use Rattle.unresolving.proofs.Laws.Aliases.{path_alias}
use Rattle.unresolving.proofs.Laws.Returns.{unresolve_own, unresolve_inserted}
use Rattle.claim_laws.specs.RowParts.{as_parts, code_in, scope_size, fields_size}
use Rattle.claim_laws.specs.AliasShape.{AliasOf, of_export, of_outer, alias_of_lem}
use Rattle.names.specs.Table.{Slot}
use Rattle.back_notes.specs.Note.{Note, no_note, Noted}
use Rattle.back_notes.specs.Names.{named_t}
use Rattle.back_rows.specs.Restore.{Wrote}
use Rattle.back_laws.specs.Stand.{with}
use Rattle.back_laws.specs.Notes.{item_length, inner_length, inner_rows, own_head}
use Rattle.back_laws.specs.Listed.{head_n, item_n, fields_n, scope_n, scope_n_lem, end_n, fields_n_lem, plain_n, holds_n}
use Rattle.back_laws.specs.Found.{Stand, StandScope, StandFields, StandItem, Open, Sound}
use Rattle.back_laws.specs.Restored.{put_one, put_rows, put_append, Shown, Waits, all, more, fuller, behind}
use Rattle.back_laws.specs.Backward.{Ends, Own, own_row, copy_ends}
use Rattle.back_tree.specs.Made.{Shape, leads, exports, MadeScope, MadeFields, MadeItem, with_fields, no_more, inserted, own, simple, nested}
use Rattle.back_tree.specs.Named.{renamed, renamed_append}
use Rattle.back_tree.specs.OwnField.{ends_same, Exporting, exports_nothing, exports_one, left, field_back, field_last}
use Rattle.back_tree.specs.NewField.{Before, low_before, before_append, before_next, shown}

-- ---- of one field

-- a good field with an export has one operand
exporting : (rules : RuleSet) (kind : ℕ) (h : Head) → GoodHead rules kind h → Exporting h
unfolding Shapes.exports
exporting rules kind h g = go h.export refl g.exporting
  where
    one : (n : ℕ) → h.export ≡ some n → AliasOf h → Exporting h
    one n e (of_export from at z name o x c) = exports_one n (ref from at [] z) e o
    one n e (of_outer space up at z o x c) = exports_nothing x

    coded : Shapes.exports h.code ≡ true → is_in h.code (9 ∷ 10 ∷ 11 ∷ []) ≡ true
    coded t = or_cases (eqb h.code 9) (eqb h.code 10) t (λ q. rw q) (λ q. rw q (or-true (eqb h.code 9)))

    go : (x : Option ℕ) → h.export ≡ x → Shapes.exports h.code ≡ is_just h.export → Exporting h
    go none e t = exports_nothing e
    go (some n) e t = one n e (alias_of_lem rules kind h g (coded (t ∙ ap is_just e)))

is_inserted_lem : (b : ℕ) (h : Head) → Shape b h → is_inserted h ≡ true
unfolding is_inserted any_fresh is_fresh fresh outer_alias path_alias export_alias
is_inserted_lem b h (leads space d n z small i) = rw (i, leb-true {m = 2147483648} {n = 2147483648 + b} (omega arith))
is_inserted_lem b h (exports space n x z i) = rw (i, leb-true {m = 2147483648} {n = 2147483648 + b} (omega arith))

shape_before : (b : ℕ) (h : Head) → Shape b h → Before (suc b) h.decls
unfolding fresh outer_alias path_alias export_alias
shape_before b h (leads space d n z small i) = rw i (omega arith, tt)
shape_before b h (exports space n x z i) = rw i (omega arith, tt)

decls_split : (past : List Declaration) (i : Item) (fs : Fields) → past ++ declarations (i ▸ fs) ≡ (past ++ (head_of i).decls) ++ declarations fs
unfolding declarations
decls_split past i fs = sym (append_assoc past (head_of i).decls (declarations fs))

decls_plain : (past here : List Declaration) (h : Head) (fs : Fields) → here ≡ past ++ declarations (plain h ▸ fs) → here ≡ (past ++ h.decls) ++ declarations fs
unfolding head_of
decls_plain past here h fs e = e ∙ decls_split past (plain h) fs

longer : (xs l : List Noted) → 0 < length l → 0 < length (reverse_aux xs l)
longer [] l h = h
longer (x ∷ xs) l h = longer xs (x ∷ l) (omega arith)

some_rows : (h : Head) → 1 ≤ length (item_rows (plain h))
unfolding flatten head_rows
some_rows h = omega arith

put_fields : (i : Item) (fs : Fields) (w : Wrote) → put_rows (fields_rows (i ▸ fs)) w ≡ put_rows (item_rows i) (put_rows (fields_rows fs) w)
unfolding flatten
put_fields i fs w = put_append (item_rows i) (fields_rows fs) w

put_scope : (o : Row) (U : List Row) (w : Wrote) → put_rows (o ∷ (U ++ (Close ∷ []))) w ≡ put_one o (put_rows U (put_one Close w))
unfolding put_rows
put_scope o U w = ap (put_one o) (put_append U (Close ∷ []) w)

module _ (rules : RuleSet) (slots : List Slot) (S : Sound slots) where
  -- ---- the rows of a scope

  -- rows as they stand from the last to the first, before others
  abbrev back : List Noted → List Noted → List Noted
  back xs l = reverse_aux (renamed slots xs) l

  back_append : (xs ys l : List Noted) → back (xs ++ ys) l ≡ back ys (back xs l)
  back_append xs ys l = rw (renamed_append slots xs ys) (reverse_aux-append (renamed slots xs) (renamed slots ys) l)

  abbrev row : Row → Noted
  row r = with r (named_t slots (as_parts r) no_note)

  back_one : (r : Row) (l : List Noted) → back (with r no_note ∷ []) l ≡ row r ∷ l
  unfolding renamed
  back_one r l = refl

  back_first : (r : Row) (xs l : List Noted) → back (with r no_note ∷ xs) l ≡ back xs (row r ∷ l)
  unfolding renamed
  back_first r xs l = refl

  back_none : (l : List Noted) → back [] l ≡ l
  unfolding renamed
  back_none l = refl

  scope_list : (n : ℕ) (ks : List ℕ) (kind name : ℕ) (fs : Fields) (rest : List Noted) → back (scope_n n ks (scope kind name fs)) rest ≡ row Close ∷ back (fields_n (suc n) n ks [] fs) (row (opens kind name) ∷ rest)
  scope_list n ks kind name fs rest =
      let F = fields_n (suc n) n ks [] fs in
      rw (scope_n_lem n ks kind name fs, back_first (opens kind name) (F ++ (with Close no_note ∷ [])) rest, back_append F (with Close no_note ∷ []) (row (opens kind name) ∷ rest)) (back_one Close (back F (row (opens kind name) ∷ rest)))

  fields_list : (n k : ℕ) (ks : List ℕ) (past : List Declaration) (i : Item) (fs : Fields) (l : List Noted)
      → back (fields_n n k ks past (i ▸ fs)) l ≡ back (fields_n (n + length (item_rows i)) k ks (past ++ (head_of i).decls) fs) (back (item_n (n + length (head_rows (head_of i))) (k ∷ ks) i) (back (head_n k ks past (head_of i)) l))
  fields_list n k ks past i fs l =
      let H = head_n k ks past (head_of i) in
      let I = item_n (n + length (head_rows (head_of i))) (k ∷ ks) i in
      let F = fields_n (n + length (item_rows i)) k ks (past ++ (head_of i).decls) fs in
      rw (fields_n_lem n k ks past i fs, back_append H (I ++ F) l) (back_append I F (back H l))

  codes : (kind name : ℕ) → (code_in (opens kind name) ≡ 7) × (code_in Close ≡ 8)
  unfolding as_parts encode
  codes kind name = (refl, refl)

  own_open : (kind name : ℕ) (l : List Noted) → Own (row (opens kind name) ∷ l)
  own_open kind name l = let c = (codes kind name).0 in own_row (opens kind name) (named_t slots (as_parts (opens kind name)) no_note) l (omega arith) (omega arith)

  own_close : (l : List Noted) → Own (row Close ∷ l)
  own_close l = let c = (codes 0 0).1 in own_row Close (named_t slots (as_parts Close) no_note) l (omega arith) (omega arith)

  -- ---- what is to be shown of fields, of a scope

  record Around (here : List Declaration) (outside : List (List Declaration)) (before : List Noted) (k : Wrote → Wrote) (hs : List Head) (l : List Noted) : Type 0 where
    nothing : Own before
    some_before : 0 < length before
    ends : Ends before k
    waits : Waits here outside before hs l

  abbrev ScopeBack : (n : ℕ) (ks : List ℕ) (outside : List (List Declaration)) → Scope → Type 0
  ScopeBack n ks outside t =
      (rest : List Noted) (k : Wrote → Wrote) → Ends rest k → Ends (back (scope_n n ks t) rest) (λ w. k (put_rows (flatten (unresolve_scope t outside)) w))

  abbrev FieldsBack : (n k : ℕ) (ks : List ℕ) (past here : List Declaration) (outside : List (List Declaration)) → Fields → Type 0
  FieldsBack n kr ks past here outside fs =
      (before : List Noted) (k : Wrote → Wrote) (hs : List Head) (l : List Noted) → Around here outside before k hs l → length hs ≤ n
      → Ends (back (fields_n n kr ks past fs) l) (λ w. k (put_rows (fields_rows (unresolve_fields fs here outside (reverse hs))) w))

  -- what an item holds, behind its head
  abbrev ItemBack : (n : ℕ) (ks : List ℕ) (outside : List (List Declaration)) → Item → Type 0
  ItemBack n ks outside (plain h) = Unit {0}
  ItemBack n ks outside (holds h t) = ScopeBack n ks outside t

  scope_step : (n : ℕ) (ks : List ℕ) (outside : List (List Declaration)) (kind name : ℕ) (fs : Fields) → FieldsBack (suc n) n ks [] (declarations fs) outside fs → ScopeBack n ks outside (scope kind name fs)
  unfolding unresolve_scope flatten
  scope_step n ks outside kind name fs below rest k E =
      let o = opens kind name in
      let c = codes kind name in
      let U = fields_rows (unresolve_fields fs (declarations fs) outside []) in
      let k₁ : Wrote → Wrote = λ w. k (put_one o w) in
      let E₁ = copy_ends o (named_t slots (as_parts o) no_note) rest k (own_open kind name rest) (let c₀ = c.0 in omega arith) E in
      let A : Around (declarations fs) outside (row o ∷ rest) k₁ [] (row o ∷ rest) = record { nothing = own_open kind name rest; some_before = omega arith; ends = E₁; waits = all } in
      let E₂ = below (row o ∷ rest) k₁ [] (row o ∷ rest) A (omega arith) in
      let L = back (fields_n (suc n) n ks [] fs) (row o ∷ rest) in
      let E₃ = copy_ends Close (named_t slots (as_parts Close) no_note) L (λ w. k₁ (put_rows U w)) (own_close L) (let c₁ = c.1 in omega arith) E₂ in
      rw (scope_list n ks kind name fs rest)
      (ends_same (row Close ∷ L) (λ w. k₁ (put_rows U (put_one Close w))) _ (λ w. ap k (sym (put_scope o U w))) E₃)

  end_step : (n kr : ℕ) (ks : List ℕ) (past here : List Declaration) (outside : List (List Declaration)) → FieldsBack n kr ks past here outside end
  unfolding unresolve_scope flatten put_rows
  end_step n kr ks past here outside before k hs l A few =
      rw (end_n n kr ks past, back_none l) (left slots here outside before A.nothing A.some_before k A.ends A.waits)

  -- an inserted field waits for the next one of the input's
  new_step : (n kr b : ℕ) (ks : List ℕ) (past here : List Declaration) (outside : List (List Declaration)) (h : Head) (fs : Fields) → Shape b h → here ≡ past ++ declarations (plain h ▸ fs) → Before b past
      → Open slots (kr ∷ ks) (here ∷ outside) → 1 ≤ length (item_rows (plain h)) → FieldsBack (n + length (item_rows (plain h))) kr ks (past ++ h.decls) here outside fs → FieldsBack n kr ks past here outside (plain h ▸ fs)
  new_step n kr b ks past here outside h fs s e p O has-rows below before k hs l A few =
      let X = reverse (renamed slots (head_n kr ks past h)) in
      let where_it_is : here ≡ past ++ (h.decls ++ declarations fs) = unfold declarations head_of in e in
      let W : Waits here outside before (h ∷ hs) (X ++ l) = more (shown slots S here outside b kr ks past (declarations fs) O p h s where_it_is) A.waits in
      let A' : Around here outside before k (h ∷ hs) (X ++ l) = record { nothing = A.nothing; some_before = A.some_before; ends = A.ends; waits = W } in
      let E = below before k (h ∷ hs) (X ++ l) A' (omega arith) in
      let list : back (fields_n n kr ks past (plain h ▸ fs)) l ≡ back (fields_n (n + length (item_rows (plain h))) kr ks (past ++ h.decls) fs) (X ++ l) = unfold head_of in
      fields_list n kr ks past (plain h) fs l
      ∙ ap (back (fields_n (n + length (item_rows (plain h))) kr ks (past ++ h.decls) fs)) (rw (plain_n (n + length (head_rows h)) (kr ∷ ks) h) (back_none (back (head_n kr ks past h) l)) ∙ reverse_aux-eq (renamed slots (head_n kr ks past h)) l) in
      let tree : unresolve_fields fs here outside (reverse (h ∷ hs)) ≡ unresolve_fields (plain h ▸ fs) here outside (reverse hs) =
      ap (unresolve_fields fs here outside) (reverse-cons h hs) ∙ sym (unresolve_inserted here outside h fs (reverse hs) (is_inserted_lem b h s)) in
      rw list (ends_same _ _ _ (λ w. ap (λ (u : Fields). k (put_rows (fields_rows u) w)) tree) E)

  -- ---- a field of the input

  -- its rows and those of the scope that it holds
  record ItemDone (here : List Declaration) (outside : List (List Declaration)) (n kr : ℕ) (ks : List ℕ) (past : List Declaration) (i : Item) (k : Wrote → Wrote) (hs : List Head) (l : List Noted) : Type 0 where
    ends : Ends (back (item_n (n + length (head_rows (head_of i))) (kr ∷ ks) i) (back (head_n kr ks past (head_of i)) l)) (λ w. k (put_rows (item_rows (unresolve_item i here outside (reverse hs))) w))
    last : Own (back (item_n (n + length (head_rows (head_of i))) (kr ∷ ks) i) (back (head_n kr ks past (head_of i)) l))

  own_scope : (n : ℕ) (ks : List ℕ) (t : Scope) (rest : List Noted) → Own (back (scope_n n ks t) rest)
  own_scope n ks (scope kind name fs) rest = rw (scope_list n ks kind name fs rest) (own_close (back (fields_n (suc n) n ks [] fs) (row (opens kind name) ∷ rest)))

  put_holds : (a : Head) (t : Scope) (w : Wrote) → put_rows (head_rows a) (put_rows (flatten t) w) ≡ put_rows (item_rows (holds a t)) w
  unfolding flatten
  put_holds a t w = sym (put_append (head_rows a) (flatten t) w)

  item_step : (here : List Declaration) (outside : List (List Declaration)) (n kr kind : ℕ) (ks : List ℕ) (past : List Declaration) (i : Item) (before : List Noted) (k : Wrote → Wrote) (hs : List Head) (l : List Noted)
      → Around here outside before k hs l → length hs < 4294967295 → GoodHead rules kind (head_of i) → AllNumbered (head_of i).operands → LowDecls (head_of i).decls → ItemBack (n + length (head_rows (head_of i))) (kr ∷ ks) (here ∷ outside) i
      → ItemDone here outside n kr ks past i k hs l
  unfolding unresolve_scope head_of
  item_step here outside n kr kind ks past (plain h) before k hs l A few g numbered low below =
      let x = exporting rules kind h g in
      let E = field_back slots here outside before A.nothing A.some_before k A.ends h numbered low x kr ks past A.waits few in
      let L = field_last slots here outside before A.nothing A.some_before k A.ends h numbered low x kr ks past A.waits few in
      let e = plain_n (n + length (head_rows h)) (kr ∷ ks) h in
      let put : (w : Wrote) → k (put_rows (head_rows (restored_head here outside (reverse hs) h)) w) ≡ k (put_rows (item_rows (plain (restored_head here outside (reverse hs) h))) w) = unfold flatten in λ w. refl in
      record { ends = rw (e, back_none (back (head_n kr ks past h) l)) (ends_same _ _ _ put E); last = rw (e, back_none (back (head_n kr ks past h) l)) L }
  item_step here outside n kr kind ks past (holds h t) before k hs l A few g numbered low below =
      let x = exporting rules kind h g in
      let a = restored_head here outside (reverse hs) h in
      let u = unresolve_scope t (here ∷ outside) in
      let E = field_back slots here outside before A.nothing A.some_before k A.ends h numbered low x kr ks past A.waits few in
      let e = holds_n (n + length (head_rows h)) (kr ∷ ks) h t in
      let m = n + length (head_rows h) in
      record {
        ends = rw e (ends_same _ (λ w. k (put_rows (head_rows a) (put_rows (flatten u) w))) _ (λ w. ap k (put_holds a u w)) (below (back (head_n kr ks past h) l) (λ w. k (put_rows (head_rows a) w)) E));
        last = rw e (own_scope m (kr ∷ ks) t (back (head_n kr ks past h) l));
      }

  own_step : (n kr kind : ℕ) (ks : List ℕ) (past here : List Declaration) (outside : List (List Declaration)) (i : Item) (fs : Fields) → n < 65536 → GoodHead rules kind (head_of i) → AllNumbered (head_of i).operands
      → LowDecls (head_of i).decls → ItemBack (n + length (head_rows (head_of i))) (kr ∷ ks) (here ∷ outside) i → FieldsBack (n + length (item_rows i)) kr ks (past ++ (head_of i).decls) here outside fs
      → FieldsBack n kr ks past here outside (i ▸ fs)
  own_step n kr kind ks past here outside i fs small g numbered low inner below before k hs l A few =
      let I = item_step here outside n kr kind ks past i before k hs l A (omega arith) g numbered low inner in
      let j = unresolve_item i here outside (reverse hs) in
      let H = back (head_n kr ks past (head_of i)) l in
      let L = back (item_n (n + length (head_rows (head_of i))) (kr ∷ ks) i) H in
      let full : 0 < length l = behind here outside before A.nothing A.some_before A.waits in
      let A' : Around here outside L (λ w. k (put_rows (item_rows j) w)) [] L =
      record { nothing = I.last; some_before = longer (renamed slots (item_n (n + length (head_rows (head_of i))) (kr ∷ ks) i)) H (longer (renamed slots (head_n kr ks past (head_of i))) l full); ends = I.ends; waits = all } in
      let E = below L (λ w. k (put_rows (item_rows j) w)) [] L A' (omega arith) in
      let u = unresolve_fields fs here outside [] in
      let tree : unresolve_fields (i ▸ fs) here outside (reverse hs) ≡ j ▸ u = unresolve_own here outside i fs (reverse hs) (low_original (head_of i) low) in
      rw (fields_list n kr ks past i fs l)
      (ends_same _ (λ w. k (put_rows (item_rows j) (put_rows (fields_rows u) w))) _ (λ w. ap k (sym (put_fields j u w)) ∙ ap (λ (x : Fields). k (put_rows (fields_rows x) w)) (sym tree)) E)

  -- ---- the whole tree

  numbered_of : (i : Item) → NumberedItem i → AllNumbered (head_of i).operands
  unfolding head_of
  numbered_of (plain h) n = n
  numbered_of (holds h t) n = n.0

  mutual
    pub scope_back : (t : Scope) (n : ℕ) (ks : List ℕ) (outside : List (List Declaration)) → MadeScope t → NumberedScope t → GoodScope rules t → Open slots ks outside → StandScope slots n t → n + length (flatten t) < 65535
        → ScopeBack n ks outside t
    scope_back (scope kind name fs) n ks outside (with_fields b m) num g O T small =
        let z = scope_size kind name fs in
        scope_step n ks outside kind name fs (fields_back kind fs b (suc n) n ks [] (declarations fs) outside m num g refl tt (T.0, O) T.1 (omega arith))

    fields_back : (kind : ℕ) (fs : Fields) (b n kr : ℕ) (ks : List ℕ) (past here : List Declaration) (outside : List (List Declaration)) → MadeFields b fs → NumberedFields fs → GoodFields rules fs kind → here ≡ past ++ declarations fs
        → Before b past → Open slots (kr ∷ ks) (here ∷ outside) → StandFields slots n fs → n + length (fields_rows fs) < 65535 → FieldsBack n kr ks past here outside fs
    fields_back kind end b n kr ks past here outside m num g e p O T small = end_step n kr ks past here outside
    fields_back kind (plain h ▸ fs) b n kr ks past here outside (inserted s m) num g e p O T small =
        let f = fields_size (plain h) fs in
        new_step n kr b ks past here outside h fs s e p O (some_rows h)
        (fields_back kind fs (suc b) (n + length (item_rows (plain h))) kr ks (past ++ h.decls) here outside m num.1 g.1 (decls_plain past here h fs e)
        (before_append (suc b) past h.decls (before_next b past p) (shape_before b h s)) O T.1 (omega arith))
    fields_back kind (i ▸ fs) b n kr ks past here outside (own low m₁ m) num g e p O T small =
        let f = fields_size i fs in
        let z = item_length i in
        own_step n kr kind ks past here outside i fs (omega arith) (own_head rules kind i g.0) (numbered_of i num.0) low
        (item_back kind i (n + length (head_rows (head_of i))) (kr ∷ ks) (here ∷ outside) m₁ num.0 g.0 O T.0 (omega arith))
        (fields_back kind fs b (n + length (item_rows i)) kr ks (past ++ (head_of i).decls) here outside m num.1 g.1 (e ∙ decls_split past i fs)
        (before_append b past (head_of i).decls p (low_before b (head_of i).decls low)) O T.1 (omega arith))

    item_back : (kind : ℕ) (i : Item) (n : ℕ) (ks : List ℕ) (outside : List (List Declaration)) → MadeItem i → NumberedItem i → GoodItem rules i kind → Open slots ks outside → StandItem slots n i → n + length (inner_rows i) < 65535
        → ItemBack n ks outside i
    item_back kind (plain h) n ks outside m num g O T small = tt
    item_back kind (holds h t) n ks outside (nested m) num g O T small =
        let z = inner_length h t in
        scope_back t n ks outside m num.1 g.3 O T (omega arith)
