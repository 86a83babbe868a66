-- Condition 4: on the rows of an input and of a claim the code finds the row that the rules name.
use Rattle.std.specs.Prelude.{◌≡◌, Bool, ℕ, suc, ◌+◌, ◌<◌, ◌≤◌, eqb, Result, Ok, Err, ⊤}
use Rattle.std.proofs.Math.Path.{refl, ap}
use Rattle.std.proofs.Common.{sym, ap₂, ◌∙◌, arith, length-append}
use Rattle.std.proofs.Math.Bool.{true, false}
use Rattle.std.proofs.Math.Option.{Option, none, some}
use mathlib.Core.List.{List, [], ◌∷◌, ◌++◌, map, append_assoc, append-nil}
use Rattle.std.proofs.Math.ListN.{length}
use borrow.Author.Tests.{ne_eqb}
use Rattle.kit.specs.Pick.{pick}
use Rattle.parts.specs.PartsAt.{parts_at}
use Rattle.parts.specs.declared.Parts.{Parts}
use Rattle.names.specs.Table.{Slot}
use Rattle.rules.specs.Tools.{when◌then◌else◌, ◌or_else◌}
use Rattle.rules.specs.Versions.{RuleSet}
use Rattle.rules.specs.Rows.{Row, Field, Decl, Ref, Path, Outer, Case, Open, Close, Export, encode}
use Rattle.rules.specs.Tree.{Declaration, Operand, ref, outer, case, Head, Scope, scope, Fields, end, ◌▸◌, Item, plain, holds, head_of, with_operands, decl_rows, path_rows, operand_row, operand_rows, export_rows, head_rows, flatten, fields_rows, item_rows}
use Rattle.rules.specs.Good.{GoodScope, height}
use Rattle.rules.specs.Rules.{Env}
use Rattle.rules.specs.Readings.{is_inserted}
use Rattle.rules.specs.Laws.ToolLaws.{All, done, ◌&◌}
use Rattle.rules.specs.Laws.Meaning.Names.{LowOperand, LowOperands, LowHead, LowScope, LowFields, LowItem}
use Rattle.rules.proofs.Laws.Output.Kept.{blank_operand, blank_head, blank, blank_item, without, without_item}
use Rattle.rules.proofs.Laws.Output.Numbers.{Bare, AllBare}
use Rattle.read_form.proofs.Laws.Parting.{no_cons, cons_head, cons_tail}
use Rattle.checking.specs.Check.{is_path, table, operand_right, not_right, head_operands, scope_operands, fields_operands, item_operands, condition4}
use Rattle.checking.proofs.Laws.SameFields.{BareScope, BareFields, BareItem}
use Rattle.checking.proofs.Laws.AddedFields.{IsAdded, AddedScope, AddedFields, AddedItem}
use Rattle.checking.proofs.Laws.Beside.{Beside, stop, skip, both, same_head, same_operands, same_decls, same_export}
use Rattle.claim_rows.specs.Added.{is_added_t}
use Rattle.claim_rows.specs.Same.{past_paths, same_next_t}
use Rattle.claim_scopes.specs.Open.{open_scope_t, open_one_t}
use Rattle.claim_operands.specs.Operands.{next_in, is_right_t, try_operands_t}
use Rattle.claim_laws.specs.RowParts.{as_parts, all_parts, code_in, Stands, decls_size, scope_size, fields_size, holds_size, head_size}
use Rattle.claim_laws.specs.Pairs.{other_kinds, kinds_other, same_inner, beside_scope}
use Rattle.claim_laws.specs.Marks.{Mark, mark, marks_t, row_marks, scope_marks, fields_marks, item_marks, scope_marks_lem}
use Rattle.claim_laws.specs.Slots.{marks_append, scope_slots}
use Rattle.claim_laws.specs.SameRows.{tried, Settled, settled_parts}
use Rattle.claim_laws.specs.NewNames.{or_tried, or_tried_lem, last_tried}
use Rattle.claim_laws.specs.Known.{Known}
use Rattle.claim_laws.specs.Scopes.{KnownScope, KnownFields, KnownItem, all_known}
use Rattle.claim_laws.specs.Reaching.{OpenedAs, Opened}
use Rattle.claim_laws.specs.OneOperand.{Narrow, operand_right_lem}

-- ---- spaces that a byte can say

abbrev pub NarrowOperands : List Operand → Type 0
NarrowOperands [] = Unit {0}
NarrowOperands (o ∷ os) = Narrow o × NarrowOperands os

abbrev mutual
  pub NarrowScope : Scope → Type 0
  NarrowScope (scope kind name fs) = NarrowFields fs

  pub NarrowFields : Fields → Type 0
  NarrowFields end = Unit {0}
  NarrowFields (i ▸ fs) = NarrowOperands (head_of i).operands × NarrowItem i × NarrowFields fs

  pub NarrowItem : Item → Type 0
  NarrowItem (plain h) = Unit {0}
  NarrowItem (holds h s) = NarrowScope s

-- ---- rows that are no operands and no PATHs

record Calm (r : Row) : Type 0 where
  no_ref : code_in r ≡ 3 → ⊥
  no_outer : code_in r ≡ 5 → ⊥
  no_path : is_path (encode r) ≡ false

calm_decls : (ds : List Declaration) → All Calm (decl_rows ds)
unfolding decl_rows as_parts encode is_path
calm_decls [] = done
calm_decls (d ∷ ds) = ◌&◌ {x = Decl d.space d.name d.z} (record { no_ref = omega arith; no_outer = omega arith; no_path = refl }) (calm_decls ds)

calm_export : (x : Option ℕ) → All Calm (export_rows x)
unfolding export_rows as_parts encode is_path
calm_export none = done
calm_export (some n) = ◌&◌ {x = Export n} (record { no_ref = omega arith; no_outer = omega arith; no_path = refl }) done

calm_field : (code builtin z : ℕ) → Calm (Field code builtin z)
unfolding as_parts encode is_path
calm_field code builtin z = record { no_ref = omega arith; no_outer = omega arith; no_path = refl }

calm_open : (kind name : ℕ) → Calm (Open kind name)
unfolding as_parts encode is_path
calm_open kind name = record { no_ref = omega arith; no_outer = omega arith; no_path = refl }

calm_close : Calm Close
unfolding as_parts encode is_path
calm_close = record { no_ref = omega arith; no_outer = omega arith; no_path = refl }

settled_calm : (xs ws : List Row) → All Calm xs → Settled ws → Settled (xs ++ ws)
settled_calm [] ws done s = s
settled_calm (x ∷ xs) ws (c & cs) s = c.no_path

settled_operands : (os : List Operand) (ws : List Row) → Settled ws → Settled (operand_rows os ++ ws)
unfolding operand_rows operand_row is_path encode
settled_operands [] ws s = s
settled_operands (ref space at paths z ∷ os) ws s = refl
settled_operands (outer space up at z ∷ os) ws s = refl
settled_operands (case name z ∷ os) ws s = refl

settled_fields : (fs : Fields) (ws : List Row) → Settled ws → Settled (fields_rows fs ++ ws)
unfolding flatten head_rows is_path encode
settled_fields end ws s = s
settled_fields (plain h ▸ fs) ws s = refl
settled_fields (holds h t ▸ fs) ws s = refl

settled_scope : (s : Scope) (ws : List Row) → Settled (flatten s ++ ws)
unfolding flatten is_path encode
settled_scope (scope kind name fs) ws = refl

settled_behind : (h : Head) (ws : List Row) → Settled ws → Settled ((decl_rows h.decls ++ (operand_rows h.operands ++ export_rows h.export)) ++ ws)
settled_behind h ws s =
    rw (append_assoc (decl_rows h.decls) (operand_rows h.operands ++ export_rows h.export) ws, append_assoc (operand_rows h.operands) (export_rows h.export) ws)
    (settled_calm (decl_rows h.decls) _ (calm_decls h.decls) (settled_operands h.operands (export_rows h.export ++ ws) (settled_calm (export_rows h.export) ws (calm_export h.export) s)))

-- the PATHs behind a REF are passed over
past_paths_lem : (ps : List ℕ) (ws : List Row) → Settled ws → past_paths (all_parts (path_rows ps ++ ws)) ≡ all_parts ws
unfolding path_rows past_paths all_parts as_parts encode pick
past_paths_lem [] ws s = settled_parts ws s
past_paths_lem (p ∷ ps) ws s = past_paths_lem ps ws s

-- behind an operand
next_operand : (o : Operand) (ws : List Row) → Settled ws → same_next_t (all_parts (operand_row o ++ ws)) ≡ all_parts ws
unfolding same_next_t operand_row
next_operand (ref space at paths z) ws s = unfold all_parts in past_paths_lem paths ws s
next_operand (outer space up at z) ws s = unfold all_parts in settled_parts ws s
next_operand (case name z) ws s = unfold all_parts in settled_parts ws s

-- ---- row by row

module _ (claim : List ℕ) (ss : List Slot) (used : ℕ) where
  unfoldable tries : List Mark → List Parts → Result ⊤ ℕ
  tries [] qs = Ok tt
  tries (m ∷ ms) qs = pick (is_right_t ss claim used m.added m.st m.parts qs) (tries ms (next_in m.added qs)) (Err m.row)

  tries_marks : (i : ℕ) (a : Bool) (st : List (List ℕ)) (ps qs : List Parts) → try_operands_t ss claim used i a st ps qs ≡ tries (marks_t i a st ps) qs
  unfolding try_operands_t tries marks_t
  tries_marks i a st [] qs = refl
  tries_marks i a st (p ∷ ps) qs =
      let b = is_added_t a p.code ps in
      ap (λ (t : Result ⊤ ℕ). pick (is_right_t ss claim used b st p qs) t (Err i)) (tries_marks (i + 1) b (open_one_t 64 st p i) ps (next_in b qs))

  abbrev run : List Mark → List Row → Result ⊤ ℕ
  run ms ws = tries ms (all_parts ws)

  added_right : (st : List (List ℕ)) (p : Parts) (qs : List Parts) → is_right_t ss claim used true st p qs ≡ true
  unfolding is_right_t pick
  added_right st p [] = refl
  added_right st p (q ∷ qs) = refl

  added_rows : (xs : List Row) (st : List (List ℕ)) (n : ℕ) (ms : List Mark) (ws : List Row) → run (row_marks true st n xs ++ ms) ws ≡ run ms ws
  unfolding row_marks tries next_in pick
  added_rows [] st n ms ws = refl
  added_rows (x ∷ xs) st n ms ws = rw (added_right st (as_parts x) (all_parts ws)) (added_rows xs st (suc n) ms ws)

  calm_row : (st : List (List ℕ)) (n : ℕ) (r w : Row) (ms : List Mark) (ws : List Row) → Calm r → Settled ws → run (mark false st n (as_parts r) ∷ ms) (w ∷ ws) ≡ run ms ws
  unfolding tries is_right_t next_in same_next_t all_parts pick
  calm_row st n r w ms ws c s = rw (ne_eqb (code_in r) 3 c.no_ref, ne_eqb (code_in r) 5 c.no_outer, settled_parts ws s)

  calm_rows : (xs : List Row) (st : List (List ℕ)) (n : ℕ) (ms : List Mark) (ws : List Row) → All Calm xs → Settled ws → run (row_marks false st n xs ++ ms) (xs ++ ws) ≡ run ms ws
  unfolding row_marks
  calm_rows [] st n ms ws done s = refl
  calm_rows (x ∷ xs) st n ms ws (c & cs) s = calm_row st n x x _ (xs ++ ws) c (settled_calm xs ws cs s) ∙ calm_rows xs st (suc n) ms ws cs s

  -- ---- the operands of a field

  one_row : (o : Operand) → Bare o → (r : Row) × (operand_row o ≡ r ∷ [])
  unfolding operand_row path_rows
  one_row (ref space at [] z) b = (Ref space at 0 z, refl)
  one_row (ref space at (p ∷ ps) z) b = absurd b
  one_row (outer space up at z) b = (Outer space up at z, refl)
  one_row (case name z) b = (Case name z, refl)

  turn_right : (t : Bool) (n : ℕ) (o : Option ℕ) (x y : Result ⊤ ℕ) → x ≡ or_tried o y → pick t x (Err n) ≡ or_tried (when t then o else some n) y
  unfolding pick or_tried when◌then◌else◌
  turn_right true n o x y e = e
  turn_right false n o x y e = refl

  module _ (kind name k : ℕ) (cs : Fields) (K : Known (parts_at claim) ss k cs) (l : suc k < 65536) (st : List (List ℕ)) (outside : List Env) (O : Opened claim ss used st outside) where
    abbrev here : Scope
    here = scope kind name cs

    abbrev st₀ : List (List ℕ)
    st₀ = open_scope_t name k ∷ st

    operand_row_lem : (n : ℕ) (o w : Operand) (r : Row) (ms : List Mark) (ws : List Row) → Bare o → operand_row o ≡ r ∷ [] → blank_operand o ≡ blank_operand w → Narrow w → LowOperand w → Settled ws
        → run (mark false st₀ n (as_parts r) ∷ ms) (operand_row w ++ ws) ≡ pick (operand_right here outside w o) (run ms ws) (Err n)
    unfolding tries next_in pick
    operand_row_lem n o w r ms ws b p e t low s = rw (operand_right_lem claim ss used kind name k cs K l st outside O o w r ws b p e t low, next_operand w ws s)

    operands_run : (now was : List Operand) (n : ℕ) (ms : List Mark) (ws : List Row) → AllBare now → map blank_operand now ≡ map blank_operand was → NarrowOperands was → LowOperands was → Settled ws
        → run (row_marks false st₀ n (operand_rows now) ++ ms) (operand_rows was ++ ws) ≡ or_tried (not_right here outside n now was) (run ms ws)
    unfolding operand_rows row_marks not_right or_tried
    operands_run [] [] n ms ws b e t low s = refl
    operands_run [] (w ∷ was) n ms ws b e t low s = no_cons e
    operands_run (o ∷ now) [] n ms ws b e t low s = no_cons (sym e)
    operands_run (o ∷ now) (w ∷ was) n ms ws b e t low s =
        let R = one_row o b.0 in
        rw (R.1, append_assoc (operand_row w) (operand_rows was) ws)
        (operand_row_lem n o w R.0 _ (operand_rows was ++ ws) b.0 R.1 (cons_head e) t.0 low.0 (settled_operands was ws s)
        ∙ turn_right (operand_right here outside w o) n (not_right here outside (suc n) now was) _ (run ms ws) (operands_run now was (suc n) ms ws b.1 (cons_tail e) t.1 low.1 s))

    -- what is behind the FIELD
    behind_run : (h w : Head) (n : ℕ) (ms : List Mark) (ws : List Row) → w.decls ≡ h.decls → w.export ≡ h.export → AllBare h.operands → map blank_operand h.operands ≡ map blank_operand w.operands → NarrowOperands w.operands → LowOperands w.operands → Settled ws
        → run (row_marks false st₀ n (decl_rows h.decls ++ (operand_rows h.operands ++ export_rows h.export)) ++ ms) ((decl_rows w.decls ++ (operand_rows w.operands ++ export_rows w.export)) ++ ws) ≡ or_tried (not_right here outside (n + length h.decls) h.operands w.operands) (run ms ws)
    behind_run h w n ms ws d x b e t low s =
        let ds = decl_rows h.decls in
        let os = operand_rows h.operands in
        let xs = export_rows h.export in
        let c = calm_export h.export in
        rw (ap decl_rows d, ap export_rows x, append_assoc ds (operand_rows w.operands ++ xs) ws, append_assoc (operand_rows w.operands) xs ws, marks_append false st₀ n ds (os ++ xs), append_assoc (row_marks false st₀ n ds) (row_marks false st₀ (n + length ds) (os ++ xs)) ms)
        (calm_rows ds st₀ n _ (operand_rows w.operands ++ (xs ++ ws)) (calm_decls h.decls) (settled_operands w.operands (xs ++ ws) (settled_calm xs ws c s))
        ∙ rw (decls_size h.decls, marks_append false st₀ (n + length h.decls) os xs, append_assoc (row_marks false st₀ (n + length h.decls) os) (row_marks false st₀ (n + length h.decls + length os) xs) ms)
        (operands_run h.operands w.operands (n + length h.decls) _ (xs ++ ws) b e t low (settled_calm xs ws c s)
        ∙ ap (or_tried (not_right here outside (n + length h.decls) h.operands w.operands)) (calm_rows xs st₀ (n + length h.decls + length os) ms ws c s)))

    head_run : (h w : Head) (n : ℕ) (ms : List Mark) (ws : List Row) → blank_head h ≡ blank_head w → AllBare h.operands → NarrowOperands w.operands → LowHead w → Settled ws → run (row_marks false st₀ n (head_rows h) ++ ms) (head_rows w ++ ws) ≡ or_tried (head_operands here outside n h w) (run ms ws)
    unfolding head_rows row_marks head_operands
    head_run h w n ms ws e b t low s =
        let rest = decl_rows w.decls ++ (operand_rows w.operands ++ export_rows w.export) in
        calm_row st₀ n (Field h.code h.builtin h.z) (Field w.code w.builtin w.z) _ (rest ++ ws) (calm_field h.code h.builtin h.z) (settled_behind w ws s)
        ∙ behind_run h w (suc n) ms ws (sym (same_decls h w e)) (sym (same_export h w e)) b (same_operands h w e) t low.operands s

  -- ---- fields and scopes

  abbrev ScopeRun : (n : ℕ) (st : List (List ℕ)) (outside : List Env) (c s : Scope) → List Mark → List Row → Type 0
  ScopeRun n st outside c s ms ws = run (scope_marks n st c ++ ms) (flatten s ++ ws) ≡ or_tried (scope_operands n c outside s) (run ms ws)

  abbrev FieldsRun : (n : ℕ) (here : Scope) (st : List (List ℕ)) (outside : List Env) (cs fs : Fields) → List Mark → List Row → Type 0
  FieldsRun n here st outside cs fs ms ws = run (fields_marks n st cs ++ ms) (fields_rows fs ++ ws) ≡ or_tried (fields_operands n cs here outside fs) (run ms ws)

  abbrev ItemRun : (n : ℕ) (here : Scope) (st : List (List ℕ)) (outside : List Env) (i w : Item) → List Mark → List Row → Type 0
  ItemRun n here st outside i w ms ws = run (row_marks false st n (head_rows (head_of i)) ++ (item_marks (n + length (head_rows (head_of i))) st i ++ ms)) (item_rows w ++ ws) ≡ or_tried (item_operands n i here outside w) (run ms ws)

  end_run : (n : ℕ) (here : Scope) (st : List (List ℕ)) (outside : List Env) (ms : List Mark) (ws : List Row) → FieldsRun n here st outside end end ms ws
  unfolding scope_marks flatten scope_operands or_tried
  end_run n here st outside ms ws = refl

  -- an added field is passed over
  past_end : (n : ℕ) (cs : Fields) (here : Scope) (outside : List Env) → fields_operands n cs here outside end ≡ none
  unfolding scope_operands
  past_end n end here outside = refl
  past_end n (i ▸ cs) here outside = refl

  skip_is : (n : ℕ) (i : Item) (cs : Fields) (here : Scope) (outside : List Env) (fs : Fields) → is_inserted (head_of i) ≡ true → fields_operands n (i ▸ cs) here outside fs ≡ fields_operands (n + length (item_rows i)) cs here outside fs
  skip_is n i cs here outside end t = past_end n (i ▸ cs) here outside ∙ sym (past_end (n + length (item_rows i)) cs here outside)
  skip_is n i cs here outside (w ▸ fs) t = unfold scope_operands when◌then◌else◌ in rw t

  plain_only : (n : ℕ) (st : List (List ℕ)) (i : Item) → IsAdded i → item_marks n st i ≡ []
  unfolding scope_marks
  plain_only n st (plain h) a = refl
  plain_only n st (holds h s) a = absurd a

  skip_run : (n : ℕ) (here : Scope) (st : List (List ℕ)) (outside : List Env) (i : Item) (cs fs : Fields) (ms : List Mark) (ws : List Row) → is_inserted (head_of i) ≡ true → IsAdded i → FieldsRun (n + length (item_rows i)) here st outside cs fs ms ws → FieldsRun n here st outside (i ▸ cs) fs ms ws
  unfolding scope_marks
  skip_run n here st outside i cs fs ms ws t a f =
      rw (skip_is n i cs here outside fs t, t, plain_only (n + length (head_rows (head_of i))) st i a, append_assoc (row_marks true st n (head_rows (head_of i))) (fields_marks (n + length (item_rows i)) st cs) ms)
      (added_rows (head_rows (head_of i)) st n _ (fields_rows fs ++ ws) ∙ f)

  -- one of the input
  both_is : (n : ℕ) (i w : Item) (cs : Fields) (here : Scope) (outside : List Env) (fs : Fields) → is_inserted (head_of i) ≡ false → fields_operands n (i ▸ cs) here outside (w ▸ fs) ≡ (item_operands n i here outside w or_else fields_operands (n + length (item_rows i)) cs here outside fs)
  unfolding scope_operands when◌then◌else◌
  both_is n i w cs here outside fs t = rw t

  both_run : (n : ℕ) (here : Scope) (st : List (List ℕ)) (outside : List Env) (i w : Item) (cs fs : Fields) (ms : List Mark) (ws : List Row) → is_inserted (head_of i) ≡ false → ((ks : List Mark) → ItemRun n here st outside i w ks (fields_rows fs ++ ws))
      → FieldsRun (n + length (item_rows i)) here st outside cs fs ms ws → FieldsRun n here st outside (i ▸ cs) (w ▸ fs) ms ws
  unfolding scope_marks flatten
  both_run n here st outside i w cs fs ms ws t f g =
      rw (both_is n i w cs here outside fs t, t, or_tried_lem, append_assoc (item_rows w) (fields_rows fs) ws, append_assoc (row_marks false st n (head_rows (head_of i))) (item_marks (n + length (head_rows (head_of i))) st i ++ fields_marks (n + length (item_rows i)) st cs) ms, append_assoc (item_marks (n + length (head_rows (head_of i))) st i) (fields_marks (n + length (item_rows i)) st cs) ms)
      (f _ ∙ ap (or_tried (item_operands n i here outside w)) g)

  -- the OPEN and the CLOSE
  scope_is : (n : ℕ) (st : List (List ℕ)) (outside : List Env) (kind name : ℕ) (cs : Fields) (kind' name' : ℕ) (fs : Fields) (ms : List Mark) (ws : List Row) → Settled ws
      → ((ks : List Mark) → FieldsRun (suc n) (scope kind name cs) (open_scope_t name n ∷ st) outside cs fs ks (Close ∷ ws)) → ScopeRun n st outside (scope kind name cs) (scope kind' name' fs) ms ws
  unfolding scope_marks flatten scope_operands
  scope_is n st outside kind name cs kind' name' fs ms ws s f =
      rw (append_assoc (fields_rows fs) (Close ∷ []) ws, append_assoc (fields_marks (suc n) (open_scope_t name n ∷ st) cs) (mark false (open_scope_t name n ∷ st) (suc n + length (fields_rows cs)) (as_parts Close) ∷ []) ms)
      (calm_row st n (Open kind name) (Open kind' name') _ (fields_rows fs ++ (Close ∷ ws)) (calm_open kind name) (settled_fields fs (Close ∷ ws) calm_close.no_path)
      ∙ (f _ ∙ ap (or_tried (fields_operands (suc n) cs (scope kind name cs) outside fs)) (calm_row (open_scope_t name n ∷ st) (suc n + length (fields_rows cs)) Close Close ms ws calm_close s)))

  -- an item of both
  plain_run : (n : ℕ) (here : Scope) (st : List (List ℕ)) (outside : List Env) (h w : Head) (ms : List Mark) (ws : List Row) → run (row_marks false st n (head_rows h) ++ ms) (head_rows w ++ ws) ≡ or_tried (head_operands here outside n h w) (run ms ws) → ItemRun n here st outside (plain h) (plain w) ms ws
  unfolding scope_marks flatten scope_operands head_of
  plain_run n here st outside h w ms ws e = e

  holds_run : (n : ℕ) (here : Scope) (st : List (List ℕ)) (outside : List Env) (h w : Head) (c s : Scope) (ms : List Mark) (ws : List Row)
      → ((ks : List Mark) → run (row_marks false st n (head_rows h) ++ ks) (head_rows w ++ (flatten s ++ ws)) ≡ or_tried (head_operands here outside n h w) (run ks (flatten s ++ ws))) → ScopeRun (n + length (head_rows h)) st (table here ∷ outside) c s ms ws → ItemRun n here st outside (holds h c) (holds w s) ms ws
  unfolding scope_marks flatten scope_operands head_of
  holds_run n here st outside h w c s ms ws f g =
      rw (append_assoc (head_rows w) (flatten s) ws, or_tried_lem) (f _ ∙ ap (or_tried (head_operands here outside n h w)) g)

  plain_heads : (h w : Head) → blank_item (without_item (plain h)) ≡ blank_item (plain w) → blank_head h ≡ blank_head w
  unfolding head_of
  plain_heads h w e = same_head (plain h) (plain w) e

  holds_heads : (h w : Head) (s t : Scope) → blank_item (without_item (holds h s)) ≡ blank_item (holds w t) → blank_head h ≡ blank_head w
  unfolding head_of
  holds_heads h w s t e = same_head (holds h s) (holds w t) e

  module _ (rules : RuleSet) where
    -- the scope that is gone through, and those around it
    record Site (kind name k : ℕ) (cs₀ : Fields) (st : List (List ℕ)) (outside : List Env) : Type 0 where
      known : Known (parts_at claim) ss k cs₀
      low : suc k < 65536
      around : Opened claim ss used st outside

    site_opened : (kind name k : ℕ) (cs₀ : Fields) (st : List (List ℕ)) (outside : List Env) → Site kind name k cs₀ st outside → Opened claim ss used (open_scope_t name k ∷ st) (table (scope kind name cs₀) ∷ outside)
    unfolding table
    site_opened kind name k cs₀ st outside S = (record { k = k; name = name; fs = cs₀; is_scope_lem = refl; is_env = refl; known = S.known }, S.around)

    site_head : (kind name k : ℕ) (cs₀ : Fields) (st : List (List ℕ)) (outside : List Env) (h w : Head) (n : ℕ) (ms : List Mark) (ws : List Row) → Site kind name k cs₀ st outside → blank_head h ≡ blank_head w → AllBare h.operands → NarrowOperands w.operands → LowHead w → Settled ws
        → run (row_marks false (open_scope_t name k ∷ st) n (head_rows h) ++ ms) (head_rows w ++ ws) ≡ or_tried (head_operands (scope kind name cs₀) outside n h w) (run ms ws)
    site_head kind name k cs₀ st outside h w n ms ws S e b t low s = head_run kind name k cs₀ S.known S.low st outside S.around h w n ms ws e b t low s

    mutual
      unfolding head_of

      scope_run : (c : Scope) (n : ℕ) (st : List (List ℕ)) (outside : List Env) (s : Scope) (ms : List Mark) (ws : List Row) → KnownScope (parts_at claim) rules ss n c → Opened claim ss used st outside → AddedScope c → BareScope c → blank (without c) ≡ blank s → LowScope s → NarrowScope s
          → n + length (flatten c) ≤ 65536 → Settled ws → ScopeRun n st outside c s ms ws
      scope_run (scope kind name cs) n st outside (scope kind' name' fs) ms ws K O a b e low t l s =
          let z = scope_size kind name cs in
          scope_is n st outside kind name cs kind' name' fs ms ws s
          (λ ks. fields_run cs kind name n cs (suc n) st outside fs ks (Close ∷ ws) (record { known = K.0; low = omega arith; around = O }) K.1 a b (beside_scope kind name cs kind' name' fs e) low.1 t (omega arith) calm_close.no_path)

      fields_run : (cs : Fields) (kind name k : ℕ) (cs₀ : Fields) (n : ℕ) (st : List (List ℕ)) (outside : List Env) (fs : Fields) (ms : List Mark) (ws : List Row) → Site kind name k cs₀ st outside → KnownFields (parts_at claim) rules ss n cs → AddedFields cs → BareFields cs → Beside cs fs → LowFields fs → NarrowFields fs
          → n + length (fields_rows cs) ≤ 65536 → Settled ws → FieldsRun n (scope kind name cs₀) (open_scope_t name k ∷ st) outside cs fs ms ws
      fields_run end kind name k cs₀ n st outside end ms ws S K a b stop low t l s = end_run n (scope kind name cs₀) (open_scope_t name k ∷ st) outside ms ws
      fields_run (i ▸ cs) kind name k cs₀ n st outside fs ms ws S K a b (skip e p) low t l s =
          let z = fields_size i cs in
          skip_run n (scope kind name cs₀) (open_scope_t name k ∷ st) outside i cs fs ms ws e (a.0 e) (fields_run cs kind name k cs₀ (n + length (item_rows i)) st outside fs ms ws S K.1 a.2 b.1 p low t (omega arith) s)
      fields_run (i ▸ cs) kind name k cs₀ n st outside (w ▸ fs) ms ws S K a b (both e q p) low t l s =
          let z = fields_size i cs in
          both_run n (scope kind name cs₀) (open_scope_t name k ∷ st) outside i w cs fs ms ws e
          (λ ks. item_run i kind name k cs₀ n st outside w ks (fields_rows fs ++ ws) S K.0 a.1 b.0 q low.0 low.1 t.0 t.1 (omega arith) (settled_fields fs ws s))
          (fields_run cs kind name k cs₀ (n + length (item_rows i)) st outside fs ms ws S K.1 a.2 b.1 p low.2 t.2 (omega arith) s)
      fields_run end kind name k cs₀ n st outside (w ▸ fs) ms ws S K a b x38 low t l s = elim x38 [ ]

      item_run : (i : Item) (kind name k : ℕ) (cs₀ : Fields) (n : ℕ) (st : List (List ℕ)) (outside : List Env) (w : Item) (ms : List Mark) (ws : List Row) → Site kind name k cs₀ st outside → KnownItem (parts_at claim) rules ss (n + length (head_rows (head_of i))) i → AddedItem i → BareItem i
          → blank_item (without_item i) ≡ blank_item w → LowHead (head_of w) → LowItem w → NarrowOperands (head_of w).operands → NarrowItem w → n + length (item_rows i) ≤ 65536 → Settled ws → ItemRun n (scope kind name cs₀) (open_scope_t name k ∷ st) outside i w ms ws
      item_run (plain h) kind name k cs₀ n st outside (plain w) ms ws S K a b e low li t ti l s = plain_run n (scope kind name cs₀) (open_scope_t name k ∷ st) outside h w ms ws (site_head kind name k cs₀ st outside h w n ms ws S (plain_heads h w e) b t low s)
      item_run (plain h) kind name k cs₀ n st outside (holds w s₀) ms ws S K a b e low li t ti l s = kinds_other h w s₀ e
      item_run (holds h c) kind name k cs₀ n st outside (plain w) ms ws S K a b e low li t ti l s = other_kinds h w c e
      item_run (holds h c) kind name k cs₀ n st outside (holds w s₀) ms ws S K a b e low li t ti l s =
          let z = holds_size h c in
          holds_run n (scope kind name cs₀) (open_scope_t name k ∷ st) outside h w c s₀ ms ws (λ ks. site_head kind name k cs₀ st outside h w n ks (flatten s₀ ++ ws) S (holds_heads h w c s₀ e) b.0 t low (settled_scope s₀ ws))
          (scope_run c (n + length (head_rows h)) (open_scope_t name k ∷ st) (table (scope kind name cs₀) ∷ outside) s₀ ms ws K (site_opened kind name k cs₀ st outside S) a b.1 (same_inner h w c s₀ e) li ti (omega arith) s)

  no_rows_lem : run [] [] ≡ Ok tt
  unfolding tries
  no_rows_lem = refl

-- Condition 4, of a claim that passed conditions 2 and 3, whose slots are all entered.
pub right_operands : (rules : RuleSet) (claim : List ℕ) (used : ℕ) (s c : Scope) → GoodScope rules c → AddedScope c → BareScope c → blank (without c) ≡ blank s → LowScope s → NarrowScope s → Stands (parts_at claim) 0 (flatten c) → length (flatten c) ≤ 65536 → height c ≤ 64
    → try_operands_t (scope_slots 0 c) claim used 0 false [] (all_parts (flatten c)) (all_parts (flatten s)) ≡ tried (condition4 s c)
unfolding condition4
right_operands rules claim used s c g a b e low t stands l d =
    let ss = scope_slots 0 c in
    let K = all_known (parts_at claim) rules c g a stands l in
    let R = scope_run claim ss used rules c 0 [] [] s [] [] K tt a b e low t (omega arith) tt in
    tries_marks claim ss used 0 false [] (all_parts (flatten c)) (all_parts (flatten s))
    ∙ (rw (scope_marks_lem c a d)
    (ap₂ (λ (ms : List Mark) (ws : List Row). run claim ss used ms ws) (sym (append-nil (scope_marks 0 [] c))) (sym (append-nil (flatten s))) ∙ (R ∙ rw (no_rows_lem claim ss used) (last_tried (scope_operands 0 c [] s)))))
