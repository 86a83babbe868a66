-- The rows of an output in bytes: after both passes they have the notes of their tree, and what is written for them is the unresolved tree.
use Rattle.std.specs.Prelude.{◌≡◌, Bool, ℕ, suc, ◌+◌, ◌-◌, ◌*◌, ◌/◌, ◌%◌, ◌<◌, ◌≤◌, eqb, get_or, set, drop, None, Option}
use Rattle.std.proofs.Math.Path.{refl, sym, ap}
use Rattle.std.proofs.Common.{◌∙◌, subst, drop_at, ne_eqb}
use Rattle.std.proofs.Math.Bool.{true, false}
use mathlib.Core.List.{List, [], ◌∷◌, ◌++◌, append_assoc, append-nil, reverse_aux}
use native.Mathlib.Omega.{arith}
use Rattle.std.proofs.Math.ListN.{length, length-append}
use Rattle.std.proofs.lemmas.List.Edits.{sets, sets-eq}
use Rattle.std.proofs.Math.Seq.{set_at}
use Rattle.std.proofs.lemmas.List.{get_or_at}
use Rattle.kit.specs.Pick.{pick}
use Rattle.kit.specs.Out.{◌&◌}
use Rattle.rules.specs.Versions.{RuleSet}
use Rattle.rules.specs.Rows.{Row}
use Rattle.rules.specs.Tree.{Declaration, Head, Scope, scope, Fields, end, ◌▸◌, Item, plain, holds, head_of, head_rows, flatten, fields_rows, item_rows}
use Rattle.rules.specs.Good.{height, GoodScope}
use Rattle.rules.specs.Answer.{rows_bytes}
use Rattle.rules.specs.Laws.ToolLaws.{All, done, ◌&◌ as ◌also◌, all_append}
use Rattle.rules.proofs.Laws.Output.Numbers.{NumberedScope}
use Rattle.unresolving.specs.Back.{names_in, unresolve_scope, unresolve}
use Rattle.parts.specs.PartsAt.{parts_at}
use Rattle.parts.specs.declared.Parts.{Parts}
use Rattle.names.specs.Table.{Slot, space_of, name_of, find_in}
use Rattle.matched.proofs.Ends.{At}
use Rattle.claim_rows.specs.Left.{rows_from, rows_at}
use Rattle.claim_scopes.specs.Entries.{entry_key_t, slot_t}
use Rattle.claim_laws.specs.RowParts.{as_parts, all_parts}
use Rattle.claim_laws.specs.Keys.{find_other, outside}
use Rattle.back_notes.specs.Note.{Note, note, no_note, Noted, noted_from, noted_at}
use Rattle.back_notes.specs.Number.{notes_t}
use Rattle.back_notes.specs.Names.{slots_t, name_of_t, named_t, name_row_t, naming_t, named_from, names_t}
use Rattle.back_rows.specs.Below.{below}
use Rattle.back_rows.specs.Restore.{Wrote}
use Rattle.back_rows.specs.Write.{going, start_t, write_back_t}
use Rattle.back_laws.specs.Stand.{with_notes, part_is, rows_are, Stands, noted_are, below_are}
use Rattle.back_laws.specs.Notes.{scope_notes, numbered_rows}
use Rattle.back_laws.specs.Listed.{scope_n, scope_long}
use Rattle.back_laws.specs.Entered.{slots_of, slots_all, decl_slots, scope_slots, fields_slots, item_slots, tree_slots}
use Rattle.back_laws.specs.Found.{Sound, StandScope, stands_scope, scope_within}
use Rattle.back_laws.specs.Restored.{put_rows}
use Rattle.back_laws.specs.Backward.{done_all}
use Rattle.back_tree.specs.Made.{MadeScope}
use Rattle.back_tree.specs.Few.{decls_scope, slots_count}
use Rattle.back_tree.specs.Named.{renamed, notes_of, renamed_notes, notes_long}
use Rattle.back_tree.specs.Whole.{scope_back}

-- ---- the slots of a tree

abbrev HasName : Slot → Type 0
HasName s = 0 < name_of s

decls_named : (k : ℕ) (past ds : List Declaration) → All HasName (decl_slots k past ds)
unfolding decl_slots slot_t
decls_named k past [] = done
decls_named k past (d ∷ ds) =
    let some-name : 0 < length (names_in past d.space) % 65536 + 1 = omega arith in
    some-name also decls_named k (past ++ (d ∷ [])) ds

fields_step : (n k : ℕ) (past : List Declaration) (i : Item) (fs : Fields) → All HasName (item_slots (n + length (head_rows (head_of i))) i)
    → All HasName (fields_slots (n + length (item_rows i)) k (past ++ (head_of i).decls) fs) → All HasName (fields_slots n k past (i ▸ fs))
unfolding scope_slots
fields_step n k past i fs p q = all_append (decl_slots k past (head_of i).decls) _ (decls_named k past (head_of i).decls) (all_append (item_slots (n + length (head_rows (head_of i))) i) _ p q)

mutual
  unfolding scope_slots

  scope_named_lem : (t : Scope) (n : ℕ) → All HasName (scope_slots n t)
  scope_named_lem (scope kind name fs) n = fields_named fs (suc n) n []

  fields_named : (fs : Fields) (n k : ℕ) (past : List Declaration) → All HasName (fields_slots n k past fs)
  fields_named end n k past = done
  fields_named (i ▸ fs) n k past = fields_step n k past i fs (item_named i (n + length (head_rows (head_of i)))) (fields_named fs (n + length (item_rows i)) k (past ++ (head_of i).decls))

  item_named : (i : Item) (n : ℕ) → All HasName (item_slots n i)
  item_named (plain h) n = done
  item_named (holds h s) n = scope_named_lem s n

none_named : (ss : List Slot) (key : ℕ) → All HasName ss → find_in ss key 0 ≡ None
unfolding find_in pick
none_named [] key done = refl
none_named (s ∷ ss) key (h also p) = rw (ne_eqb (name_of s) 0 (omega arith), none_named ss key p) (go (eqb (space_of s) key))
  where
    go : (t : Bool) → ◌≡◌ {A = Option ℕ} (pick t None None) None
    go true = refl
    go false = refl

module _ (rules : RuleSet) (t : Scope) (good : GoodScope rules t) (few : length (flatten t) < 65535) where
  abbrev pub tree : List Slot
  tree = scope_slots 0 t

  sound : Sound tree
  sound =
      record {
        named = λ key. none_named tree key (scope_named_lem t 0);
        low = λ space x h. find_other tree (entry_key_t 65535 space) x ((outside 0 (0 + length (flatten t)) 65535 space tree (omega arith) (omega arith) (scope_within rules t 0 good (omega arith))).1 (omega arith));
      }

  stands : StandScope tree 0 t
  stands = stands_scope rules t tree 0 [] [] good (omega arith) (sym (append-nil tree)) done done

  -- ---- the notes

  module _ (deep : height t ≤ 64) (body : List ℕ) (at : At body 0 (flatten t)) (bytes : body ≡ rows_bytes (flatten t)) (count : length body / 16 ≡ length (flatten t)) where
    abbrev rs : List Row
    rs = flatten t

    abbrev first : List Note
    first = scope_notes 0 [] t

    abbrev second : List Note
    second = notes_of tree rs first

    first_is : notes_t 0 [] [] (rows_at body 0) ≡ first
    unfolding rows_at
    first_is = let n : length body / 16 - 0 ≡ length rs = omega arith in rw (n, rows_are body 0 rs at) (numbered_rows rules t good deep (omega arith))

    first_long : length rs ≡ length first
    first_long = scope_long t 0 []

    second_long : length rs ≡ length second
    second_long = notes_long tree rs first first_long

    all_bytes : drop (16 * 0) body ≡ rows_bytes rs ++ []
    all_bytes = bytes ∙ sym (append-nil (rows_bytes rs))

    stand : (ns more : List Note) → Stands body (ns ++ more) 0 rs ns
    stand ns more = record { at = at; more = []; bytes = all_bytes; rest = more; notes = refl }

    noted_from_lem : (ns more : List Note) → length rs ≡ length ns → noted_from body (ns ++ more) 0 (length rs) ≡ with_notes rs ns
    noted_from_lem ns more e = noted_are body (ns ++ more) 0 rs ns (stand ns more) e

    -- the slots that are entered
    entered_are : (room : ℕ) (more : List Note) → decls_scope t ≤ room → slots_t room [] (noted_at body (first ++ more) 0) ≡ tree
    unfolding noted_at
    entered_are room more l =
        let n : length body / 16 - 0 ≡ length rs = omega arith in
        let listed : with_notes rs first ≡ scope_n 0 [] t = unfold scope_n in refl in
        let slots = tree_slots t 0 [] in
        let enough : 0 + length (slots_of (scope_n 0 [] t)) ≤ room = rw slots (omega (arith, slots_count t 0)) in
        rw (n, noted_from_lem first more first_long, listed) (slots_all room [] (scope_n 0 [] t) enough ∙ slots)

    -- the names that are noted
    one_name : (p : Parts) (i : ℕ) (pre : List Note) (n : Note) (more : List Note) → length pre ≡ i → name_row_t tree p i (pre ++ (n ∷ more)) ≡ pre ++ (named_t tree p n ∷ more)
    unfolding name_row_t named_t pick
    one_name p i pre n more e = rw (get_or_at pre n more no_note i e) (go (eqb p.code 5) (note (name_of_t tree p n) (get_or n 1 0)))
      where
        go : (b : Bool) (x : Note) → pick b (set (pre ++ (n ∷ more)) i (pick b x n)) (pre ++ (n ∷ more)) ≡ pre ++ (pick b x n ∷ more)
        go true x = set_at pre n more x i e
        go false x = refl

    turn : (noted : List Note) (i left : ℕ) → naming_t tree body noted i (suc left) ≡ naming_t tree body (name_row_t tree (parts_at body i) i noted) (i + 1) left
    unfolding naming_t
    turn noted i left = refl

    naming : (i : ℕ) (rs : List Row) (ns pre more : List Note) → At body i rs → length rs ≡ length ns → length pre ≡ i → naming_t tree body (pre ++ (ns ++ more)) i (length rs) ≡ pre ++ (notes_of tree rs ns ++ more)
    unfolding naming_t notes_of
    naming i [] [] pre more a e p = refl
    naming i [] (n ∷ ns) pre more a e p = absurd (omega arith)
    naming i (r ∷ rs) [] pre more a e p = absurd (omega arith)
    naming i (r ∷ rs) (n ∷ ns) pre more a e p =
        let x = named_t tree (as_parts r) n in
        let part : parts_at body i ≡ as_parts r = part_is (parts_at body i) r a.0 in
        let long : length (pre ++ (x ∷ [])) ≡ i + 1 = omega (arith, length-append pre (x ∷ [])) in
        let below = naming (i + 1) rs ns (pre ++ (x ∷ [])) more a.1 (omega arith) long in
        let step : name_row_t tree (parts_at body i) i (pre ++ (n ∷ (ns ++ more))) ≡ (pre ++ (x ∷ [])) ++ (ns ++ more) = rw part (one_name (as_parts r) i pre n (ns ++ more) p ∙ sym (append_assoc pre (x ∷ []) (ns ++ more))) in
        turn (pre ++ (n ∷ (ns ++ more))) i (length rs) ∙ ap (λ (l : List Note). naming_t tree body l (i + 1) (length rs)) step ∙ below ∙ append_assoc pre (x ∷ []) (notes_of tree rs ns ++ more)

    module _ (noted : List Note) (room : ℕ) (notes_fit : length rs ≤ length noted) (slots-fit : decls_scope t ≤ room) where
      abbrev more : List Note
      more = drop (length first) noted

      pub after_first : sets noted 0 (notes_t 0 [] [] (rows_at body 0)) ≡ first ++ more
      after_first =
          let long = first_long in
          let z : 0 + length first ≡ length first = omega arith in
          rw first_is (sets-eq first noted 0 (omega arith) ∙ ap (λ (k : ℕ). first ++ drop k noted) z)

      pub after_second : names_t room body (first ++ more) ≡ second ++ more
      unfolding names_t named_from
      after_second = rw (entered_are room more slots-fit, count) (naming 0 rs first [] more at first_long refl)

      below_is : below body (second ++ more) (length body / 16) ≡ reverse_aux (renamed tree (scope_n 0 [] t)) []
      below_is =
          let listed : with_notes rs second ≡ renamed tree (scope_n 0 [] t) = unfold scope_n in sym (renamed_notes tree rs first) in
          let z : 0 + length rs ≡ length rs = omega arith in
          rw count (ap (below body (second ++ more)) (sym z) ∙ below_are body (second ++ more) 0 (length rs) ∙ rw (noted_from_lem second more second_long, listed) (unfold below in refl))

      -- THE ROWS that are written for those of an output
      pub rows_back : MadeScope t → NumberedScope t → (to : ℕ) (out : List ℕ) → write_back_t (below body (names_t room body (sets noted 0 (notes_t 0 [] [] (rows_at body 0)))) (length body / 16)) (start_t to) out ≡ put_rows (flatten (unresolve t)) (to & out)
      unfolding unresolve
      rows_back m num to out =
          rw (after_first, after_second, below_is)
          (scope_back rules tree sound t 0 [] [] m num good tt stands (omega arith) [] (λ w. w) (λ left to out. done_all false left to out) [] to out)
