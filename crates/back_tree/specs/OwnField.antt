-- One of the input's own fields: it is written with its references as they were before.
use Rattle.std.specs.Prelude.{◌≡◌, Bool, true, ℕ, suc, ◌+◌, ◌-◌, ◌<◌, ◌≤◌, eqb, ltb, length}
use Rattle.std.proofs.Math.Path.{refl, ap}
use Rattle.std.proofs.Common.{sym, ◌∙◌, subst, arith, eq-eqb, ne_eqb}
use Rattle.std.proofs.Math.Bool.{false}
use Rattle.std.proofs.Math.Option.{Option, none, some}
use mathlib.Core.List.{List, [], ◌∷◌, ◌++◌, reverse_aux, reverse, reverse_aux-append, reverse_aux-eq}
use Rattle.kit.specs.Pick.{pick}
use Rattle.kit.specs.Out.{◌&◌}
use Rattle.rules.specs.Rows.{Num, Id, Row, Field, Decl, Ref, Outer, Case, Export, encode}
use Rattle.rules.specs.Tree.{Declaration, Operand, ref, outer, case, Head, with_operands, decl_rows, path_rows, operand_row, operand_rows, export_rows, head_rows}
use Rattle.rules.specs.Laws.ToolLaws.{All, done, ◌&◌ as ◌also◌}
use Rattle.rules.specs.Laws.Meaning.Names.{LowDecls}
use Rattle.rules.proofs.Laws.Output.Numbers.{Numbered, AllNumbered}
use Rattle.unresolving.specs.Back.{groups, first_fit, restored, restored_head}
use Rattle.claim_laws.specs.RowParts.{as_parts, code_in}
use Rattle.names.specs.Table.{Slot}
use Rattle.back_notes.specs.Note.{Note, no_note, Noted}
use Rattle.back_notes.specs.Names.{named_t}
use Rattle.back_rows.specs.Below.{nth}
use Rattle.back_rows.specs.Alias.{no_alias_t, note_of, alias_before_t, alias_of_t}
use Rattle.back_rows.specs.declared.alias.Alias.{Alias}
use Rattle.back_rows.specs.Restore.{Wrote}
use Rattle.back_rows.specs.Write.{before_field, going, write_back_t}
use Rattle.back_laws.specs.Stand.{with, with_notes}
use Rattle.back_laws.specs.Notes.{decl_notes, blank_notes, operand_notes, operands_notes}
use Rattle.back_laws.specs.Listed.{decls_n, operands_n, export_n, head_n, head_n_lem, operands_n_lem}
use Rattle.back_laws.specs.Listed
use Rattle.back_laws.specs.Restored.{put_one, put_rows, put_append, Shown, Waits, all, more, behind}
use Rattle.back_laws.specs.Backward.{After, Ends, Own, own_row, own_outer, NotFresh, made_none, copy_ends, field_after, decls_after, left_out}
use Rattle.back_laws.specs.Operands.{Bare, a_ref, an_outer, a_case, op_row, op_row_lem, Ops, no_ops, one_op, ops_not_fresh, waiting, Done, ops}
use Rattle.back_tree.specs.Named.{renamed, notes_of, renamed_append, renamed_notes, notes_long}

pub ends_same : (l : List Noted) (k k' : Wrote → Wrote) → ((w : Wrote) → k w ≡ k' w) → Ends l k → Ends l k'
ends_same l k k' e a left to out = a left to out ∙ e (to & out)

put_parts : (r : Row) (xs ys zs : List Row) (w : Wrote) → put_rows (r ∷ (xs ++ (ys ++ zs))) w ≡ put_one r (put_rows xs (put_rows ys (put_rows zs w)))
unfolding put_rows
put_parts r xs ys zs w = rw (put_append xs (ys ++ zs) w, put_append ys zs w)

-- ---- the rows of DECLs, from the last to the first, before others

decl_codes : (ds : List Declaration) → All (λ (r : Row). code_in r ≡ 2) (decl_rows ds)
unfolding decl_rows as_parts encode
decl_codes [] = done
decl_codes (d ∷ ds) = refl also decl_codes ds

pub record Decls (rest xs : List Noted) : Type 0 where
  pub own : Own rest → Own xs
  pub low : NotFresh rest → NotFresh xs
  pub field : before_field xs ≡ before_field rest

decl_one : (d : Declaration) (n : Note) (rest : List Noted) → d.name < 2147483648 → Decls rest (with (Decl d.space d.name d.z) n ∷ rest)
unfolding as_parts encode before_field pick
decl_one d n rest l = record { own = λ o. own_row (Decl d.space d.name d.z) n rest (unfold as_parts encode in omega arith) (unfold as_parts encode in omega arith); low = λ f e. l; field = refl }

decls_then : {rest mid xs : List Noted} → Decls rest mid → Decls mid xs → Decls rest xs
decls_then A B = record { own = λ o. B.own (A.own o); low = λ f. B.low (A.low f); field = B.field ∙ A.field }

decls_rows : (ds : List Declaration) (ns : List Note) (rest : List Noted) → length (decl_rows ds) ≡ length ns → LowDecls ds → Decls rest (reverse_aux (with_notes (decl_rows ds) ns) rest)
unfolding decl_rows with_notes
decls_rows [] ns rest e l = record { own = λ o. o; low = λ f. f; field = refl }
decls_rows (d ∷ ds) [] rest e l = absurd (omega arith)
decls_rows (d ∷ ds) (n ∷ ns) rest e l =
    decls_then (decl_one d n rest (let low = l.0 in omega arith)) (decls_rows ds ns (with (Decl d.space d.name d.z) n ∷ rest) (omega arith) l.1)

-- ---- the rows of operands

bare_of : (o : Operand) → Numbered o → Bare o
bare_of (ref space (Num n) [] z) p = a_ref space n z
bare_of (ref space (Num n) (m ∷ ms) z) p = absurd p
bare_of (ref space (Id name) paths z) p = absurd p
bare_of (outer space (Num d) (Num n) z) p = an_outer space d n z
bare_of (outer space (Num d) (Id name) z) p = absurd p
bare_of (outer space (Id name) at z) p = absurd p
bare_of (case name z) p = a_case name z

one_noted : (ks : List ℕ) {o : Operand} (b : Bare o) → (n : Note) × (with_notes (operand_row o) (operand_notes ks o) ≡ with (op_row b) n ∷ [])
unfolding operand_row path_rows operand_notes blank_notes with_notes op_row
one_noted ks (a_ref space n z) = (_, refl)
one_noted ks (an_outer space d n z) = (_, refl)
one_noted ks (a_case name z) = (_, refl)

-- the export of a field that has one, which then has one operand
pub data Exporting (h : Head) : Type 0 where
  exports_nothing : h.export ≡ none → Exporting h
  exports_one : (n : ℕ) (o : Operand) → h.export ≡ some n → h.operands ≡ o ∷ [] → Exporting h

one_row : {o : Operand} {xs : List Noted} → Ops (o ∷ []) xs → (x : Noted) × (xs ≡ x ∷ [])
one_row (one_op b n no_ops) = (_, refl)

-- an EXPORT behind one row and a DECL of no fresh name ends no inserted field
own_export : (r : Row) (n : Note) (x : Noted) (rest : List Noted) → code_in r ≡ 9 → NotFresh rest → Own (with r n ∷ (x ∷ rest))
unfolding alias_before_t
own_export r n x rest c f = rw (eq-eqb (code_in r) 9 c) (go (ltb (length (with r n ∷ (x ∷ rest))) 4))
  where
    go : (t : Bool)
        → (pick t (no_alias_t (length (with r n ∷ (x ∷ rest)))) (pick true (alias_of_t 4 (as_parts r).x (with r n ∷ (x ∷ rest))) (pick (eqb (code_in r) 5) (alias_of_t 3 (note_of (with r n)) (with r n ∷ (x ∷ rest))) (no_alias_t (length (with r n ∷ (x ∷ rest))))))).size ≡ 0
    go true = unfold pick in refl
    go false = unfold pick in made_none 4 (as_parts r).x (with r n ∷ (x ∷ rest)) f

module _ (all_slots : List Slot) where
  ops_back : (ks : List ℕ) (os : List Operand) → AllNumbered os → {acc : List Operand} {xs : List Noted} → Ops acc xs → Ops (reverse_aux os acc) (reverse_aux (renamed all_slots (operands_n ks os)) xs)
  ops_back ks [] p {acc} {xs} O = unfold operand_rows with_notes renamed in O
  ops_back ks (o ∷ os) p {acc} {xs} O =
      let b = bare_of o p.0 in
      let N = one_noted ks b in
      let one : renamed all_slots (with_notes (operand_row o) (operand_notes ks o)) ≡ with (op_row b) (named_t all_slots (as_parts (op_row b)) N.0) ∷ [] = rw N.1 (unfold renamed in refl) in
      rw (operands_n_lem ks o os, renamed_append all_slots (with_notes (operand_row o) (operand_notes ks o)) (operands_n ks os), one) (ops_back ks os p.1 (one_op b _ O))

  -- the rows of a field, from the last to the first
  abbrev field_row : Head → Noted
  field_row h = with (Field h.code h.builtin h.z) no_note

  named_field : (h : Head) (xs : List Noted) → renamed all_slots (field_row h ∷ xs) ≡ field_row h ∷ renamed all_slots xs
  unfolding renamed as_parts encode named_t pick
  named_field h xs = refl

  pub head_back : (k : ℕ) (ks : List ℕ) (past : List Declaration) (h : Head) (l : List Noted)
      → reverse_aux (renamed all_slots (head_n k ks past h)) l
      ≡ reverse_aux (renamed all_slots (export_n h.export)) (reverse_aux (renamed all_slots (operands_n (k ∷ ks) h.operands)) (reverse_aux (renamed all_slots (decls_n k past h.decls)) (field_row h ∷ l)))
  head_back k ks past h l =
      let D = decls_n k past h.decls in
      let O = operands_n (k ∷ ks) h.operands in
      let X = export_n h.export in
      let D' = renamed all_slots D in
      let O' = renamed all_slots O in
      let X' = renamed all_slots X in
      rw (head_n_lem k ks past h, named_field h (D ++ (O ++ X)), renamed_append all_slots D (O ++ X), renamed_append all_slots O X)
      (reverse_aux-append D' (O' ++ X') (field_row h ∷ l) ∙ reverse_aux-append O' X' (reverse_aux D' (field_row h ∷ l)))

  -- ---- where inserted fields wait before it

  module _ (here : List Declaration) (outside : List (List Declaration)) (before : List Noted) (nothing : Own before) (some_before : 0 < length before) (k : Wrote → Wrote) (ends : Ends before k) where
    left_one : (xs l : List Noted) (n : ℕ) → length xs ≡ suc n → (alias_before_t (xs ++ l)).size ≡ suc n → Ends l k → Ends (xs ++ l) k
    left_one [] l n e s E = absurd (omega arith)
    left_one (x ∷ xs) l n e s E = left_out x xs l k (rw s (omega arith)) E

    -- they are left out
    pub left : {hs : List Head} {l : List Noted} → Waits here outside before hs l → Ends l k
    left all = ends
    left (more {xs = xs} {l = l} A W) =
        left_one xs l A.size A.long (ap (λ (a : Alias). a.size) (A.sees l (behind here outside before nothing some_before W))) (left W)

    module _ (h : Head) (numbered : AllNumbered h.operands) (low : LowDecls h.decls) (exporting : Exporting h) (n : ℕ) (ks : List ℕ) (past : List Declaration) {hs : List Head} {l : List Noted}
        (W : Waits here outside before hs l) (few : length hs < 4294967295) where
      abbrev F : Row
      F = Field h.code h.builtin h.z

      abbrev ds : List Row
      ds = decl_rows h.decls

      abbrev notes : List Note
      notes = notes_of all_slots ds (decl_notes n past h.decls)

      long : length ds ≡ length notes
      long = notes_long all_slots ds (decl_notes n past h.decls) (Listed.decls_long n past h.decls)

      abbrev D : List Noted
      D = reverse_aux (with_notes ds notes) (field_row h ∷ l)

      abbrev k₂ : Wrote → Wrote
      k₂ w = k (put_one F (put_rows ds w))

      field_code_lem : code_in F ≡ 1
      unfolding as_parts encode
      field_code_lem = refl

      decls_are : renamed all_slots (decls_n n past h.decls) ≡ with_notes ds notes
      decls_are = renamed_notes all_slots ds (decl_notes n past h.decls)

      after_decls : After D k₂
      after_decls = decls_after ds notes (field_row h ∷ l) (λ w. k (put_one F w)) long (decl_codes h.decls) (field_after F no_note l k field_code_lem (left W))

      facts : Decls (field_row h ∷ l) D
      facts = decls_rows h.decls notes (field_row h ∷ l) long low

      before_it : before_field (field_row h ∷ l) ≡ l
      unfolding before_field pick as_parts encode
      before_it = refl

      field_low : NotFresh (field_row h ∷ l)
      unfolding as_parts encode
      field_low e = absurd (omega arith)

      field_own : Own (field_row h ∷ l)
      field_own = own_row F no_note l (let e = field_code_lem in omega arith) (let e = field_code_lem in omega arith)

      abbrev xs : List Noted
      xs = reverse (renamed all_slots (operands_n (n ∷ ks) h.operands))

      O : Ops (reverse h.operands) xs
      O = ops_back (n ∷ ks) h.operands numbered no_ops

      abbrev k₃ : Wrote → Wrote
      k₃ w = k₂ (put_rows (operand_rows (restored here outside h.operands (groups here outside (reverse hs)))) w)

      outside_is : (left : List Noted) → pick false left l ≡ l
      unfolding pick
      outside_is left = refl

      after_operands_lem : Ends (xs ++ D) k₃
      unfolding restored waiting
      after_operands_lem left to out =
          (ops here outside before nothing some_before l D k₂ after_decls (facts.field ∙ before_it) (facts.low field_low) O W few).does false left (outside_is left) to out

      -- the last row of these is no inserted field's
      own_operands : {os : List Operand} {ys : List Noted} → Ops os ys → Own (ys ++ D)
      own_operands no_ops = facts.own field_own
      own_operands (one_op {xs = ys} (a_ref space m z) note p) = unfold op_row as_parts encode in own_row (Ref space (Num m) 0 z) note (ys ++ D) (unfold as_parts encode in omega arith) (unfold as_parts encode in omega arith)
      own_operands (one_op {xs = ys} (an_outer space d m z) note p) =
          unfold op_row in own_outer (Outer space (Num d) (Num m) z) note (ys ++ D) (unfold as_parts encode in refl) (ops_not_fresh D p (facts.low field_low))
      own_operands (one_op {xs = ys} (a_case name z) note p) = unfold op_row in own_row (Case name z) note (ys ++ D) (unfold as_parts encode in omega arith) (unfold as_parts encode in omega arith)

      -- ---- with its EXPORT

      abbrev Wrote-back : (x : Option ℕ) → Type 0
      Wrote-back x = Ends (reverse_aux (renamed all_slots (export_n x)) (xs ++ D)) (λ w. k₃ (put_rows (export_rows x) w)) × Own (reverse_aux (renamed all_slots (export_n x)) (xs ++ D))

      export_none : Wrote-back none
      unfolding export_rows with_notes renamed put_rows
      export_none = (after_operands_lem, own_operands O)

      export_code_lem : (m : ℕ) → code_in (Export m) ≡ 9
      unfolding as_parts encode
      export_code_lem m = refl

      own_one : (m : ℕ) (note : Note) (o : Operand) → h.operands ≡ o ∷ [] → Own (with (Export m) note ∷ (xs ++ D))
      own_one m note o e =
          let one : Ops (o ∷ []) xs = subst (λ (os : List Operand). Ops (reverse os) xs) e O in
          let x = one_row one in
          rw x.1 (own_export (Export m) note x.0 D (export_code_lem m) (facts.low field_low))

      export_some : (m : ℕ) (o : Operand) → h.operands ≡ o ∷ [] → Wrote-back (some m)
      unfolding export_rows with_notes blank_notes renamed put_rows
      export_some m o e =
          let note = named_t all_slots (as_parts (Export m)) no_note in
          let own = own_one m note o e in
          let code = export_code_lem m in
          (copy_ends (Export m) note (xs ++ D) k₃ own (omega arith) after_operands_lem, own)

      export_back : Exporting h → Wrote-back h.export
      export_back (exports_nothing e) = rw e export_none
      export_back (exports_one m o e f) = rw e (export_some m o f)

      list_is : reverse_aux (renamed all_slots (head_n n ks past h)) l ≡ reverse_aux (renamed all_slots (export_n h.export)) (xs ++ D)
      list_is =
          head_back n ks past h l
          ∙ ap (λ (y : List Noted). reverse_aux (renamed all_slots (export_n h.export)) y)
          (rw decls_are (reverse_aux-eq (renamed all_slots (operands_n (n ∷ ks) h.operands)) D))

      put_is : (w : Wrote) → k₃ (put_rows (export_rows h.export) w) ≡ k (put_rows (head_rows (restored_head here outside (reverse hs) h)) w)
      unfolding restored_head with_operands head_rows
      put_is w =
          let R = operand_rows (restored here outside h.operands (groups here outside (reverse hs))) in
          let X = export_rows h.export in
          ap k (sym (put_parts F ds R X w))

      -- THE FIELD is written as the rules restore it, and no inserted field ends with its last row.
      pub field_back : Ends (reverse_aux (renamed all_slots (head_n n ks past h)) l) (λ w. k (put_rows (head_rows (restored_head here outside (reverse hs) h)) w))
      field_back = rw list_is (ends_same _ (λ w. k₃ (put_rows (export_rows h.export) w)) _ put_is (export_back exporting).0)

      pub field_last : Own (reverse_aux (renamed all_slots (head_n n ks past h)) l)
      field_last = rw list_is (export_back exporting).1
