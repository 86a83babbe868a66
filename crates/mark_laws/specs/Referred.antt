-- The references of a scope are marked as the rules mark them, while the scopes inside it stay as they are.
use Rattle.std.specs.Prelude.{◌≡◌, Bool, ◌&&◌, not, eqb, Option as CodeOption, Some, None, is_some}
use Rattle.std.proofs.Math.Path.{refl}
use Rattle.std.proofs.Common.{sym, ap, ◌∙◌, length-set, drop_at, lt-ltb, eqb-true}
use Rattle.std.proofs.Math.Bool.{true, false}
use Rattle.std.proofs.Math.Option.{Option, none, some}
use mathlib.Core.List.{List, [], ◌∷◌, ◌++◌, append_assoc, append-nil}
use Prim.Native.Nat.{ℕ, suc, ◌+◌, ◌*◌, ◌/◌, ◌%◌, ◌<◌, ◌≤◌}
use native.Mathlib.Omega.{arith}
use Rattle.std.proofs.Math.ListN.{length, set, length-append}
use Rattle.std.proofs.lemmas.List.Edits.{sets}
use Rattle.kit.specs.Pick.{pick}
use Rattle.kit.specs.Out.{◌&◌}
use Rattle.kit.proofs.Laws.{sets_seam}
use Rattle.rules.specs.Tools.{when◌then◌else◌, is_just}
use Rattle.rules.specs.Rows.{Index, Num, Id, Row, Field, Decl, Ref, Path, Outer, Case, Open, Close, Export, encode, flag, number, encode_row}
use Rattle.rules.specs.Tree.{Declaration, Operand, ref, outer, case, Head, scope, Fields, end, ◌▸◌, Item, plain, holds, head_of, with_operands, decl_rows, path_rows, operand_row, operand_rows, export_rows, head_rows, flatten, fields_rows, item_rows}
use Rattle.rules.specs.Shapes.{here_only}
use Rattle.rules.specs.Rules.{fresh, find}
use Rattle.rules.specs.Answer.{rows_bytes}
use Rattle.rules.specs.Laws.ToolLaws
use Rattle.rules.specs.Laws.ToolLaws.{All, done, all_append, false_not, length_snoc}
use Rattle.rules.proofs.Laws.Output.FourTimes.{paths_length}
use Rattle.read_form.proofs.Laws.OutputLength.{row_length, rows_length}
use Rattle.sharing.specs.Sharing.{Served, served_by, Marked, mark_outer, mark_operand, mark_operands, mark_head, insertions}
use Rattle.names.specs.Table.{Slot, between, find_in}
use Rattle.names.proofs.Storey.{pushed_room, between_push, between_set}
use Rattle.put.specs.Put.{put_row, row_bytes, bytes_of, rule_row, rule_index}
use Rattle.parts.specs.declared.Parts.{Parts}
use Rattle.parts.specs.PartsAt.{parts}
use Rattle.mark.specs.declared.Marking.{Marking}
use Rattle.mark.specs.Visits.{Visit}
use Rattle.mark.specs.MarkedRows.{left_by, slot_of, Step, marking, insert_with, insert_marked_t, serve_t, beside, mark_outer_t, mark_name_t, mark_ref_t, mark_row_t, mark_then, mark_all}
use Rattle.mark_laws.specs.Visited.{parts_of, visit, visit_rows, visit_append, own_rows, walks, open_rows, field_row, fields_visits}
use Rattle.mark_laws.specs.Entered.{Known, found_snoc}

-- ---- one row over another

pub bytes_append : (xs ys : List Row) → rows_bytes (xs ++ ys) ≡ rows_bytes xs ++ rows_bytes ys
unfolding rows_bytes
bytes_append [] ys = refl
bytes_append (x ∷ xs) ys = rw (bytes_append xs ys) (sym (append_assoc (encode_row x) (rows_bytes xs) (rows_bytes ys)))

put_over : (pre post : List Row) (r r' : Row) (i : ℕ) → length pre ≡ i → sets (rows_bytes (pre ++ (r ∷ post))) (16 * i) (encode_row r') ≡ rows_bytes (pre ++ (r' ∷ post))
unfolding rows_bytes
put_over pre post r r' i e =
    let a = row_length r in
    let b = row_length r' in
    let n : length (rows_bytes pre) ≡ 16 * i = omega (arith, rows_length pre) in
    let l = length-append (encode_row r) (rows_bytes post) in
    rw (bytes_append pre (r ∷ post), bytes_append pre (r' ∷ post))
    (sets_seam (rows_bytes pre) (encode_row r ++ rows_bytes post) (encode_row r') (16 * i) n (omega arith)
    ∙ ap (λ (k : List ℕ). (rows_bytes pre ++ encode_row r') ++ k) (drop_at (encode_row r) (rows_bytes post) (length (encode_row r')) (omega arith))
    ∙ append_assoc (rows_bytes pre) (encode_row r') (rows_bytes post))

-- a reference that is named by its alias
serve_is : (p : Parts) (pre post : List Row) (r : Row) (i alias : ℕ) → length pre ≡ i → serve_t p i alias (rows_bytes (pre ++ (r ∷ post))) ≡ rows_bytes (pre ++ (Ref p.b (Id alias) 0 p.z ∷ post))
unfolding serve_t left_by put_row row_bytes bytes_of rule_row rule_index pick
serve_is p pre post r i alias e =
    let l = length-append pre (r ∷ post) in
    let n = rows_length (pre ++ (r ∷ post)) in
    let q : i < length (rows_bytes (pre ++ (r ∷ post))) / 16 = omega arith in
    let t = lt-ltb _ _ q in
    rw t (put_over pre post r (Ref p.b (Id alias) 0 p.z) i e)

-- ---- the rows of a field

-- a field with another head, and the same scope inside
unfoldable pub with_head : Item → Head → Item
with_head (plain h) h' = plain h'
with_head (holds h s) h' = holds h' s

pub same_head : (i : Item) → with_head i (head_of i) ≡ i
unfolding with_head head_of
same_head (plain h) = refl
same_head (holds h s) = refl

unfoldable pub inside_rows : Item → List Row
inside_rows (plain h) = []
inside_rows (holds h s) = flatten s

-- its rows, parted
pub item_parts : (i : Item) (os : List Operand) → item_rows (with_head i (with_operands (head_of i) os)) ≡ (field_row (head_of i) ∷ decl_rows (head_of i).decls) ++ (operand_rows os ++ (export_rows (head_of i).export ++ inside_rows i))
unfolding flatten head_rows head_of with_head with_operands inside_rows
item_parts (plain h) os = rw append-nil
item_parts (holds h s) os = simp append_assoc

own_parts : (i : Item) → item_rows i ≡ (field_row (head_of i) ∷ decl_rows (head_of i).decls) ++ (operand_rows (head_of i).operands ++ (export_rows (head_of i).export ++ inside_rows i))
unfolding with_operands
own_parts i = ap item_rows (sym (same_head i)) ∙ item_parts i (head_of i).operands

-- the operand rows of a field, and of all fields of a scope
abbrev pub refs : Item → ℕ
refs i = length (operand_rows (head_of i).operands)

unfoldable pub all_refs : Fields → ℕ
all_refs end = 0
all_refs (i ▸ fs) = refs i + all_refs fs

-- the fields of a scope with its own references marked, and the scopes inside as they are; and what is remembered then
unfoldable pub mark_own : (here : List Declaration) → List Served → (k : ℕ) → Fields → Fields
mark_own here seen k end = end
mark_own here seen k (i ▸ fs) = let m = mark_head here seen k (head_of i) in with_head i m.now ▸ mark_own here m.seen m.k fs

unfoldable pub last_seen : (here : List Declaration) → List Served → (k : ℕ) → Fields → List Served
last_seen here seen k end = seen
last_seen here seen k (i ▸ fs) = let m = mark_head here seen k (head_of i) in last_seen here m.seen m.k fs

-- ---- what is known while a scope is gone through

-- the name of the alias
unfoldable pub alias_of : Option ℕ → CodeOption ℕ
alias_of none = None
alias_of (some k) = Some (fresh k)

module _ (here : List Declaration) (own room : ℕ) where
  pub record State (seen : List Served) (used : ℕ) (table : List Slot) : Type 0 where
    pub size : length table ≡ room
    pub known : Known own table here
    pub served : (space name : ℕ) → find_in (between own used table) space name ≡ alias_of (served_by seen space name)
    pub within : own ≤ used

  -- from the rows L to the rows L', and from insertion k to k'; each insertion takes a slot or none
  pub record Goes (vs : List Visit) (k used : ℕ) (table : List Slot) (L : List Row) (seen' : List Served) (k' : ℕ) (L' : List Row) : Type 0 where
    pub used' : ℕ
    pub table' : List Slot
    pub answer : mark_all vs (marking own used (fresh k)) table (rows_bytes L) ≡ (marking own used' (fresh k') & table' & rows_bytes L')
    pub state : State seen' used' table'
    pub few : used' + k ≤ used + k'

  mark_append : (xs ys : List Visit) (m : Marking) (table : List Slot) (l : List ℕ) → mark_all (xs ++ ys) m table l ≡ mark_then (mark_all xs m table l) (λ m' t l'. mark_all ys m' t l')
  unfolding mark_all mark_then
  mark_append [] ys m table l = refl
  mark_append (x ∷ xs) ys m table l = go (mark_row_t x.parts x.row x.walked m table l) (λ m' t l'. mark_append xs ys m' t l')
    where
      go : (o : Step) → ((m' : Marking) (t : List Slot) (l' : List ℕ) → mark_all (xs ++ ys) m' t l' ≡ mark_then (mark_all xs m' t l') (λ m'' t' l''. mark_all ys m'' t' l''))
          → mark_then o (λ m' t l'. mark_all (xs ++ ys) m' t l') ≡ mark_then (mark_then o (λ m' t l'. mark_all xs m' t l')) (λ m' t l'. mark_all ys m' t l')
      go (m' & t & l') f = f m' t l'

  -- some rows, and what is left to do behind them
  mark_behind : (xs ys : List Visit) (m m' : Marking) (table t : List Slot) (l l' : List ℕ) → mark_all xs m table l ≡ (m' & t & l') → mark_all (xs ++ ys) m table l ≡ mark_all ys m' t l'
  unfolding mark_then
  mark_behind xs ys m m' table t l l' e = mark_append xs ys m table l ∙ rw e

  pub goes_then_lem : (xs ys : List Visit) (k used : ℕ) (table : List Slot) (L : List Row) (seen₁ : List Served) (k₁ : ℕ) (L₁ : List Row) (seen₂ : List Served) (k₂ : ℕ) (L₂ : List Row)
      → (g : Goes xs k used table L seen₁ k₁ L₁) → Goes ys k₁ g.used' g.table' L₁ seen₂ k₂ L₂ → Goes (xs ++ ys) k used table L seen₂ k₂ L₂
  goes_then_lem xs ys k used table L seen₁ k₁ L₁ seen₂ k₂ L₂ g h =
      record {
        used' = h.used';
        table' = h.table';
        answer = mark_behind xs ys _ _ table g.table' _ _ g.answer ∙ h.answer;
        state = h.state;
        few = omega (arith, g.few, h.few);
      }

  -- rows at which nothing is done
  pub goes_nowhere : (vs : List Visit) (seen : List Served) (k used : ℕ) (table : List Slot) (L : List Row) → State seen used table → ((m : Marking) (l : List ℕ) → mark_all vs m table l ≡ (m & table & l)) → Goes vs k used table L seen k L
  goes_nowhere vs seen k used table L s f = record { used' = used; table' = table; answer = f _ _; state = s; few = omega arith }

  -- and then others
  none_then : (xs ys : List Visit) (k used : ℕ) (table : List Slot) (L : List Row) (seen₂ : List Served) (k₂ : ℕ) (L₂ : List Row)
      → ((m : Marking) (l : List ℕ) → mark_all xs m table l ≡ (m & table & l)) → Goes ys k used table L seen₂ k₂ L₂ → Goes (xs ++ ys) k used table L seen₂ k₂ L₂
  none_then xs ys k used table L seen₂ k₂ L₂ f h =
      record { used' = h.used'; table' = h.table'; answer = mark_behind xs ys _ _ table table _ _ (f _ _) ∙ h.answer; state = h.state; few = h.few }

  -- ---- rows at which nothing is done

  abbrev is_ref : Row → Bool
  is_ref (Field code builtin z) = false
  is_ref (Decl space name z) = false
  is_ref (Ref space at paths z) = true
  is_ref (Path name) = false
  is_ref (Outer space up at z) = false
  is_ref (Case name z) = false
  is_ref (Open kind name) = false
  is_ref Close = false
  is_ref (Export name) = false

  abbrev NoRefs : List Row → Type 0
  NoRefs rs = All (λ (r : Row). is_ref r ≡ false) rs

  -- a row that is no REF, whether names are walked or not
  passed : (r : Row) (p : ℕ) (w : Bool) (m : Marking) (table : List Slot) (l : List ℕ) → is_ref r ≡ false → mark_row_t (parts_of (encode r)) p w m table l ≡ (m & table & l)
  unfolding mark_row_t parts_of encode pick
  passed r p false m table l e = refl
  passed (Field code builtin z) p true m table l e = refl
  passed (Decl space name z) p true m table l e = refl
  passed (Ref space at paths z) p true m table l e = false_not (sym e)
  passed (Path name) p true m table l e = refl
  passed (Outer space up at z) p true m table l e = refl
  passed (Case name z) p true m table l e = refl
  passed (Open kind name) p true m table l e = refl
  passed Close p true m table l e = refl
  passed (Export name) p true m table l e = refl

  mark_none : (rs : List Row) (p : ℕ) (w : Bool) (m : Marking) (table : List Slot) (l : List ℕ) → NoRefs rs → mark_all (visit_rows p w rs) m table l ≡ (m & table & l)
  unfolding visit_rows visit mark_all mark_then
  mark_none [] p w m table l done = refl
  mark_none (r ∷ rs) p w m table l (ToolLaws.◌&◌ e es) = rw (passed r p w m table l e) (mark_none rs (p + 1) w m table l es)

  -- rows of a field whose names are not walked
  mark_unwalked : (rs : List Row) (p : ℕ) (m : Marking) (table : List Slot) (l : List ℕ) → mark_all (visit_rows p false rs) m table l ≡ (m & table & l)
  unfolding visit_rows visit mark_all mark_then mark_row_t pick
  mark_unwalked [] p m table l = refl
  mark_unwalked (r ∷ rs) p m table l = mark_unwalked rs (p + 1) m table l

  no_paths : (ps : List ℕ) → NoRefs (path_rows ps)
  unfolding path_rows
  no_paths [] = done
  no_paths (p ∷ ps) = ToolLaws.◌&◌ refl (no_paths ps)

  no_decls : (ds : List Declaration) → NoRefs (decl_rows ds)
  unfolding decl_rows
  no_decls [] = done
  no_decls (d ∷ ds) = ToolLaws.◌&◌ refl (no_decls ds)

  no_export : (e : Option ℕ) → NoRefs (export_rows e)
  unfolding export_rows
  no_export none = done
  no_export (some n) = ToolLaws.◌&◌ refl done

  no_open : (i : Item) → NoRefs (open_rows i)
  unfolding open_rows
  no_open (plain h) = done
  no_open (holds h (scope kind name fs)) = ToolLaws.◌&◌ refl done

  -- ---- one reference

  -- a row alone
  one_row : (r : Row) (p : ℕ) (m m' : Marking) (table t : List Slot) (l l' : List ℕ) → mark_row_t (parts_of (encode r)) p true m table l ≡ (m' & t & l') → mark_all (visit_rows p true (r ∷ [])) m table l ≡ (m' & t & l')
  unfolding visit_rows visit mark_all mark_then
  one_row r p m m' table t l l' e = rw e

  number_row : (space n z p : ℕ) (m : Marking) (table : List Slot) (l : List ℕ) → mark_row_t (parts_of (encode (Ref space (Num n) 0 z))) p true m table l ≡ (m & table & l)
  unfolding mark_row_t mark_ref_t parts_of encode flag number pick
  number_row space n z p m table l = refl

  name_row : (space name z p : ℕ) (m : Marking) (table : List Slot) (l : List ℕ) → mark_row_t (parts_of (encode (Ref space (Id name) 0 z))) p true m table l ≡ mark_name_t (parts 3 space 1 name 0 z) p m table l
  unfolding mark_row_t mark_ref_t parts_of encode flag number pick
  name_row space name z p m table l = refl

  -- the next insertion, where no number wraps
  fresh_on : (k n : ℕ) → k + n < 2147483648 → (fresh k + n) % 4294967296 ≡ fresh (k + n)
  unfolding fresh
  fresh_on k n h = omega arith

  path_row : (space : ℕ) (at : Index) (n z p : ℕ) (m : Marking) (table : List Slot) (l : List ℕ) → mark_row_t (parts_of (encode (Ref space at (suc n) z))) p true m table l ≡ (marking m.own m.used ((m.fresh + suc n) % 4294967296) & table & l)
  unfolding mark_row_t mark_ref_t parts_of encode pick
  path_row space at n z p m table l = let q : 0 < suc n = omega arith in rw (lt-ltb _ _ q)

  -- ---- a walked name

  -- one more name that has an alias
  served_more : (ss : List Slot) (seen : List Served) (space name k : ℕ) → served_by seen space name ≡ none
      → ((sp n : ℕ) → find_in ss sp n ≡ alias_of (served_by seen sp n)) → (sp n : ℕ)
      → find_in (ss ++ ((space ∷ name ∷ fresh k ∷ 0 ∷ 0 ∷ 0 ∷ []) ∷ [])) sp n ≡ alias_of (served_by (record { space = space; name = name; k = k } ∷ seen) sp n)
  unfolding served_by when◌then◌else◌ alias_of
  served_more ss seen space name k none_yet same sp n =
      found_snoc ss (space ∷ name ∷ fresh k ∷ 0 ∷ 0 ∷ 0 ∷ []) sp n ∙ go (eqb space sp) (eqb name n) refl refl
    where
      F : CodeOption ℕ
      F = find_in ss sp n

      rest : (f : CodeOption ℕ) → pick (is_some f) f None ≡ f
      rest (Some m) = unfold pick in refl
      rest None = unfold pick in refl

      absent : space ≡ sp → name ≡ n → F ≡ None
      absent e f = same sp n ∙ (rw (← e, ← f, none_yet))

      go : (t u : Bool) → eqb space sp ≡ t → eqb name n ≡ u → pick (is_some F) F (pick (t && u) (Some (fresh k)) None) ≡ alias_of (when t && u then some k else served_by seen sp n)
      go true true e f = unfold pick in (rw (absent (eqb-true space sp e) (eqb-true name n f)))
      go true false e f = unfold pick in rest F ∙ same sp n
      go false u e f = unfold pick in rest F ∙ same sp n

  module _ (seen : List Served) (k used : ℕ) (table : List Slot) (pre post : List Row) (space name z : ℕ) (s : State seen used table) where
    abbrev p : Parts
    p = parts 3 space 1 name 0 z

    abbrev row : Row
    row = Ref space (Id name) 0 z

    abbrev m : Marking
    m = marking own used (fresh k)

    abbrev L : List Row
    L = pre ++ (row ∷ post)

    abbrev i : ℕ
    i = length pre

    declared_here : is_just (find here space name) ≡ true → mark_name_t p i m table (rows_bytes L) ≡ (m & table & rows_bytes L)
    unfolding mark_name_t pick
    declared_here e = rw (s.known space name, e)

    module _ (e : is_just (find here space name) ≡ false) where
      has_alias : (j : ℕ) → served_by seen space name ≡ some j → mark_name_t p i m table (rows_bytes L) ≡ (m & table & rows_bytes (pre ++ (Ref space (Id (fresh j)) 0 z ∷ post)))
      unfolding mark_name_t mark_outer_t alias_of pick
      has_alias j f = rw (s.known space name, e, s.served space name, f, serve_is p pre post row i (fresh j) refl)

      gets_alias : served_by seen space name ≡ none → used < room → k + 1 < 2147483648 → mark_name_t p i m table (rows_bytes L) ≡ (marking own (used + 1) (fresh (k + 1)) & set table used (slot_of p (fresh k)) & rows_bytes L)
      unfolding mark_name_t mark_outer_t alias_of beside insert_marked_t insert_with pick
      gets_alias f h g =
          let r : used < length table = omega (arith, s.size) in
          rw (s.known space name, e, s.served space name, f, pushed_room table used (slot_of p (fresh k)) r, fresh_on k 1 g)

    state_more : served_by seen space name ≡ none → used < room → State (record { space = space; name = name; k = k } ∷ seen) (used + 1) (set table used (slot_of p (fresh k)))
    state_more f h =
        let slot : Slot = slot_of p (fresh k) in
        let r : used < length table = omega (arith, s.size) in
        record {
          size = length-set table used slot ∙ s.size;
          known = λ sp n. rw (between_set table used slot 0 own s.within) (s.known sp n);
          served = λ sp n. rw (between_push table used slot own s.within r) (served_more (between own used table) seen space name k f s.served sp n);
          within = omega (arith, s.within);
        }

    -- what a walked name comes to
    abbrev NameGoes : Marked Operand → Type 0
    NameGoes r = Goes (visit_rows i true (row ∷ [])) k used table L r.seen r.k (pre ++ (operand_row r.now ++ post))

    outer_goes : (o : Option ℕ) → served_by seen space name ≡ o → is_just (find here space name) ≡ false → used < room → k + 1 < 2147483648 → NameGoes (mark_outer seen k space name z o)
    unfolding mark_outer operand_row path_rows
    outer_goes none f e h g =
        let q : suc k ≡ k + 1 = omega arith in
        record {
          used' = used + 1;
          table' = set table used (slot_of p (fresh k));
          answer = one_row row i _ _ table _ _ _ (name_row space name z i m table (rows_bytes L) ∙ gets_alias e f h g ∙ rw q);
          state = state_more f h;
          few = omega arith;
        }
    outer_goes (some j) f e h g =
        record {
          used' = used;
          table' = table;
          answer = one_row row i _ _ table _ _ _ (name_row space name z i m table (rows_bytes L) ∙ has_alias e j f);
          state = s;
          few = omega arith;
        }

    name_goes : used < room → k + 1 < 2147483648 → NameGoes (mark_operand here seen k (ref space (Id name) [] z))
    unfolding mark_operand when◌then◌else◌
    name_goes h g = go (is_just (find here space name)) refl
      where
        go : (b : Bool) → is_just (find here space name) ≡ b → NameGoes (when b then record { now = ref space (Id name) [] z; seen = seen; k = k } else mark_outer seen k space name z (served_by seen space name))
        go true e =
            unfold operand_row path_rows in record {
              used' = used;
              table' = table;
              answer = one_row row i _ _ table _ _ _ (name_row space name z i m table (rows_bytes L) ∙ declared_here e);
              state = s;
              few = omega arith;
            }
        go false e = outer_goes (served_by seen space name) refl e h g

  -- ---- operands

  -- what an operand comes to
  abbrev OperandGoes : (seen : List Served) (k used : ℕ) (table : List Slot) (pre post : List Row) → Operand → Type 0
  OperandGoes seen k used table pre post o =
      let r = mark_operand here seen k o in
      Goes (visit_rows (length pre) true (operand_row o)) k used table (pre ++ (operand_row o ++ post)) r.seen r.k (pre ++ (operand_row r.now ++ post))

  module _ (seen : List Served) (k used : ℕ) (table : List Slot) (pre post : List Row) (s : State seen used table) where
    -- a reference with PATHs
    paths_go : (space : ℕ) (at : Index) (q : ℕ) (qs : List ℕ) (z : ℕ) → k + suc (length qs) < 2147483648 → OperandGoes seen k used table pre post (ref space at (q ∷ qs) z)
    unfolding mark_operand operand_row visit_rows
    paths_go space at q qs z h =
        let M : Marking = marking own used (fresh k) in
        let n : k + suc (length qs) ≡ suc (k + length qs) = omega arith in
        record {
          used' = used;
          table' = table;
          answer = mark_behind (visit_rows (length pre) true (Ref space at (suc (length qs)) z ∷ [])) (visit_rows (length pre + 1) true (path_rows (q ∷ qs))) M (marking own used (fresh (suc (k + length qs)))) table table _ _
              (one_row (Ref space at (suc (length qs)) z) (length pre) _ _ table table _ _ (path_row space at (length qs) z (length pre) M table _ ∙ rw (fresh_on k (suc (length qs)) h, n)))
              ∙ mark_none (path_rows (q ∷ qs)) (length pre + 1) true _ table _ (no_paths (q ∷ qs));
          state = s;
          few = omega arith;
        }

    operand_goes : (o : Operand) → used + length (operand_row o) ≤ room → k + length (operand_row o) < 2147483648 → OperandGoes seen k used table pre post o
    unfolding mark_operand operand_row path_rows
    operand_goes (ref space (Num n) [] z) h g =
        goes_nowhere (visit_rows (length pre) true (Ref space (Num n) 0 z ∷ [])) seen k used table (pre ++ (Ref space (Num n) 0 z ∷ post)) s (λ M l. one_row (Ref space (Num n) 0 z) (length pre) M M table table l l (number_row space n z (length pre) M table l))
    operand_goes (ref space (Id name) [] z) h g = name_goes seen k used table pre post space name z s (omega arith) (omega arith)
    operand_goes (ref space at (q ∷ qs) z) h g = paths_go space at q qs z (omega (arith, paths_length qs))
    operand_goes (outer space up at z) h g =
        goes_nowhere (visit_rows (length pre) true (Outer space up at z ∷ [])) seen k used table (pre ++ (Outer space up at z ∷ post)) s (λ M l. mark_none (Outer space up at z ∷ []) (length pre) true M table l (ToolLaws.◌&◌ refl done))
    operand_goes (case name z) h g =
        goes_nowhere (visit_rows (length pre) true (Case name z ∷ [])) seen k used table (pre ++ (Case name z ∷ post)) s (λ M l. mark_none (Case name z ∷ []) (length pre) true M table l (ToolLaws.◌&◌ refl done))

  -- a marked operand has as many rows, and counts no more insertions
  outer_size : (seen : List Served) (k space name z : ℕ) (o : Option ℕ) → (length (operand_row (mark_outer seen k space name z o).now) ≡ 1) × ((mark_outer seen k space name z o).k ≤ k + 1)
  unfolding mark_outer operand_row path_rows
  outer_size seen k space name z none = (refl, omega arith)
  outer_size seen k space name z (some j) = (refl, omega arith)

  pub operand_size : (seen : List Served) (k : ℕ) (o : Operand) → (length (operand_row (mark_operand here seen k o).now) ≡ length (operand_row o)) × ((mark_operand here seen k o).k ≤ k + length (operand_row o))
  unfolding mark_operand when◌then◌else◌
  operand_size seen k (ref space (Num n) [] z) = (refl, omega arith)
  operand_size seen k (ref space (Id name) [] z) = go (is_just (find here space name))
    where
      go : (b : Bool) → (length (operand_row (when b then record { now = ref space (Id name) [] z; seen = seen; k = k } else mark_outer seen k space name z (served_by seen space name)).now) ≡ length (operand_row (ref space (Id name) [] z)))
          × ((when b then record { now = ref space (Id name) [] z; seen = seen; k = k } else mark_outer seen k space name z (served_by seen space name)).k ≤ k + length (operand_row (ref space (Id name) [] z)))
      go true = (refl, omega arith)
      go false = unfold operand_row path_rows in outer_size seen k space name z (served_by seen space name)
  operand_size seen k (ref space at (q ∷ qs) z) = (refl, unfold operand_row in omega (arith, paths_length (q ∷ qs)))
  operand_size seen k (outer space up at z) = (refl, omega arith)
  operand_size seen k (case name z) = (refl, omega arith)

  pub operands_size : (seen : List Served) (k : ℕ) (os : List Operand) → (length (operand_rows (mark_operands here seen k os).now) ≡ length (operand_rows os)) × ((mark_operands here seen k os).k ≤ k + length (operand_rows os))
  unfolding mark_operands operand_rows
  operands_size seen k [] = (refl, omega arith)
  operands_size seen k (o ∷ os) =
      let r = mark_operand here seen k o in
      let a = operand_size seen k o in
      let b = operands_size r.seen r.k os in
      let l = length-append (operand_row o) (operand_rows os) in
      let l' = length-append (operand_row r.now) (operand_rows (mark_operands here r.seen r.k os).now) in
      (omega arith, omega arith)

  -- what several operands come to
  abbrev OperandsGo : (os : List Operand) (seen : List Served) (k used : ℕ) (table : List Slot) (pre post : List Row) → Type 0
  OperandsGo os seen k used table pre post =
      Goes (visit_rows (length pre) true (operand_rows os)) k used table (pre ++ (operand_rows os ++ post)) (mark_operands here seen k os).seen (mark_operands here seen k os).k (pre ++ (operand_rows (mark_operands here seen k os).now ++ post))

  -- one operand, and then the others
  operands_more : (o : Operand) (os : List Operand) (seen : List Served) (k used : ℕ) (table : List Slot) (pre post : List Row) → (A : OperandGoes seen k used table pre (operand_rows os ++ post) o)
      → OperandsGo os (mark_operand here seen k o).seen (mark_operand here seen k o).k A.used' A.table' (pre ++ operand_row (mark_operand here seen k o).now) post → OperandsGo (o ∷ os) seen k used table pre post
  unfolding mark_operands operand_rows
  operands_more o os seen k used table pre post A B =
      let r = mark_operand here seen k o in
      let rs = operand_rows (mark_operands here r.seen r.k os).now in
      let n : length (pre ++ operand_row r.now) ≡ length pre + length (operand_row o) = omega (arith, length-append pre (operand_row r.now), (operand_size seen k o).0) in
      rw (visit_append (length pre) true (operand_row o) (operand_rows os), append_assoc (operand_row o) (operand_rows os) post, append_assoc (operand_row r.now) rs post)
      (goes_then_lem (visit_rows (length pre) true (operand_row o)) (visit_rows (length pre + length (operand_row o)) true (operand_rows os)) k used table _ r.seen r.k (pre ++ (operand_row r.now ++ (operand_rows os ++ post))) _ _ _ A
      (rw (n, append_assoc pre (operand_row r.now) (operand_rows os ++ post), append_assoc pre (operand_row r.now) (rs ++ post)) at B))

  pub operands_go : (os : List Operand) (seen : List Served) (k used : ℕ) (table : List Slot) (pre post : List Row) → State seen used table → used + length (operand_rows os) ≤ room → k + length (operand_rows os) < 2147483648 → OperandsGo os seen k used table pre post
  operands_go [] seen k used table pre post s h g =
      unfold mark_operands operand_rows in goes_nowhere (visit_rows (length pre) true []) seen k used table (pre ++ post) s (λ M l. mark_none [] (length pre) true M table l done)
  operands_go (o ∷ os) seen k used table pre post s h g =
      let l : length (operand_rows (o ∷ os)) ≡ length (operand_row o) + length (operand_rows os) = unfold operand_rows in length-append (operand_row o) (operand_rows os) in
      let r = mark_operand here seen k o in
      let sz = operand_size seen k o in
      let A = operand_goes seen k used table pre (operand_rows os ++ post) s o (omega arith) (omega arith) in
      operands_more o os seen k used table pre post A
      (operands_go os r.seen r.k A.used' A.table' (pre ++ operand_row r.now) post A.state (omega (arith, A.few, sz.1)) (omega (arith, sz.1)))

  -- ---- a field

  -- the visits of one
  abbrev item_visits : (p : ℕ) (w : Bool) → Item → List Visit
  item_visits p w i = visit p w (field_row (head_of i)) ∷ visit_rows (p + 1) (walks (head_of i)) (own_rows (head_of i) ++ open_rows i)

  -- a FIELD and rows at which nothing is done
  field_none : (h : Head) (rs : List Row) (p : ℕ) (w v : Bool) (m : Marking) (table : List Slot) (l : List ℕ) → mark_all (visit_rows (p + 1) v rs) m table l ≡ (m & table & l) → mark_all (visit p w (field_row h) ∷ visit_rows (p + 1) v rs) m table l ≡ (m & table & l)
  unfolding visit mark_all mark_then
  field_none h rs p w v m table l e = rw (passed (field_row h) p w m table l refl) e

  module _ (i : Item) (seen : List Served) (k used : ℕ) (table : List Slot) (pre post : List Row) (w : Bool) (s : State seen used table) where
    abbrev h : Head
    h = head_of i

    -- from its rows to those with this head
    abbrev ItemGoes : (vs : List Visit) → Marked Head → Type 0
    ItemGoes vs r = Goes vs k used table (pre ++ (item_rows i ++ post)) r.seen r.k (pre ++ (item_rows (with_head i r.now) ++ post))

    unwalked_goes : ItemGoes (visit (length pre) w (field_row h) ∷ visit_rows (length pre + 1) false (own_rows h ++ open_rows i)) (record { now = h; seen = seen; k = k })
    unwalked_goes =
        rw (same_head i)
        (goes_nowhere _ seen k used table (pre ++ (item_rows i ++ post)) s (λ M l. field_none h (own_rows h ++ open_rows i) (length pre) w false M table l (mark_unwalked (own_rows h ++ open_rows i) (length pre + 1) M table l)))

    -- the visits before its operands, theirs, and those behind them
    visits_parts : visit (length pre) w (field_row h) ∷ visit_rows (length pre + 1) true (own_rows h ++ open_rows i)
        ≡ (visit (length pre) w (field_row h) ∷ visit_rows (length pre + 1) true (decl_rows h.decls))
        ++ (visit_rows (length (pre ++ (field_row h ∷ decl_rows h.decls))) true (operand_rows h.operands)
        ++ visit_rows (length (pre ++ (field_row h ∷ decl_rows h.decls)) + length (operand_rows h.operands)) true (export_rows h.export ++ open_rows i))
    unfolding own_rows
    visits_parts =
        let ds = decl_rows h.decls in
        let os = operand_rows h.operands in
        let es = export_rows h.export ++ open_rows i in
        let n : length (pre ++ (field_row h ∷ ds)) ≡ length pre + 1 + length ds = omega (arith, length-append pre (field_row h ∷ ds)) in
        rw (n, append_assoc ds (os ++ export_rows h.export) (open_rows i), append_assoc os (export_rows h.export) (open_rows i), visit_append (length pre + 1) true ds (os ++ es), visit_append (length pre + 1 + length ds) true os es)

    walked_goes : used + length (operand_rows h.operands) ≤ room → k + length (operand_rows h.operands) < 2147483648
        → (let r = mark_operands here seen k h.operands in
        ItemGoes (visit (length pre) w (field_row h) ∷ visit_rows (length pre + 1) true (own_rows h ++ open_rows i)) (record { now = with_operands h r.now; seen = r.seen; k = r.k }))
    walked_goes b g =
        let r = mark_operands here seen k h.operands in
        let first : List Row = field_row h ∷ decl_rows h.decls in
        let rest : List Row = export_rows h.export ++ inside_rows i in
        let L : List Row = (pre ++ first) ++ (operand_rows h.operands ++ (rest ++ post)) in
        let L' : List Row = (pre ++ first) ++ (operand_rows r.now ++ (rest ++ post)) in
        let e : pre ++ (item_rows i ++ post) ≡ L = rw (own_parts i) (simp append_assoc) in
        let e' : pre ++ (item_rows (with_head i (with_operands h r.now)) ++ post) ≡ L' = rw (item_parts i r.now) (simp append_assoc) in
        let A : (M : Marking) (l : List ℕ) → mark_all (visit (length pre) w (field_row h) ∷ visit_rows (length pre + 1) true (decl_rows h.decls)) M table l ≡ (M & table & l) =
        (λ M l. field_none h (decl_rows h.decls) (length pre) w true M table l (mark_none (decl_rows h.decls) (length pre + 1) true M table l (no_decls h.decls))) in
        let B = operands_go h.operands seen k used table (pre ++ first) (rest ++ post) s b g in
        let C = goes_nowhere (visit_rows (length (pre ++ first) + length (operand_rows h.operands)) true (export_rows h.export ++ open_rows i)) r.seen r.k B.used' B.table' L' B.state
        (λ M l. mark_none (export_rows h.export ++ open_rows i) _ true M B.table' l (all_append (export_rows h.export) (open_rows i) (no_export h.export) (no_open i))) in
        rw (visits_parts, e, e')
        (none_then _ _ k used table L r.seen r.k L' A (goes_then_lem _ _ k used table L r.seen r.k L' r.seen r.k L' B C))

    -- ONE FIELD
    item_goes : used + length (operand_rows h.operands) ≤ room → k + length (operand_rows h.operands) < 2147483648 → ItemGoes (item_visits (length pre) w i) (mark_head here seen k h)
    unfolding mark_head when◌then◌else◌
    item_goes b g = go (here_only h.code)
      where
        go : (t : Bool) → ItemGoes (visit (length pre) w (field_row h) ∷ visit_rows (length pre + 1) (not t) (own_rows h ++ open_rows i))
            (when t then record { now = h; seen = seen; k = k } else (let r = mark_operands here seen k h.operands in record { now = with_operands h r.now; seen = r.seen; k = r.k }))
        go true = unwalked_goes
        go false = walked_goes b g

  -- a marked field has as many rows, and counts no more insertions than it has operand rows
  pub item_size : (i : Item) (seen : List Served) (k : ℕ) → (length (item_rows (with_head i (mark_head here seen k (head_of i)).now)) ≡ length (item_rows i)) × ((mark_head here seen k (head_of i)).k ≤ k + refs i)
  unfolding mark_head when◌then◌else◌
  item_size i seen k = go (here_only (head_of i).code)
    where
      R : Marked Head
      R = let r = mark_operands here seen k (head_of i).operands in record { now = with_operands (head_of i) r.now; seen = r.seen; k = r.k }

      go : (t : Bool) → (length (item_rows (with_head i (when t then record { now = head_of i; seen = seen; k = k } else R).now)) ≡ length (item_rows i)) × ((when t then record { now = head_of i; seen = seen; k = k } else R).k ≤ k + refs i)
      go true = (ap (λ (j : Item). length (item_rows j)) (same_head i), omega arith)
      go false =
          let r = mark_operands here seen k (head_of i).operands in
          let sz = operands_size seen k (head_of i).operands in
          let first : List Row = field_row (head_of i) ∷ decl_rows (head_of i).decls in
          let rest : List Row = export_rows (head_of i).export ++ inside_rows i in
          let a : length (item_rows (with_head i (with_operands (head_of i) r.now))) ≡ length (item_rows i) =
          omega (arith, ap length (item_parts i r.now), ap length (own_parts i), length-append first (operand_rows r.now ++ rest), length-append first (operand_rows (head_of i).operands ++ rest), length-append (operand_rows r.now) rest, length-append (operand_rows (head_of i).operands) rest, sz.0) in
          (a, sz.1)

  -- ---- all fields

  -- what all fields come to
  abbrev FieldsGo : (fs : Fields) (seen : List Served) (k used : ℕ) (table : List Slot) (pre post : List Row) (w : Bool) → Type 0
  FieldsGo fs seen k used table pre post w =
      Goes (fields_visits (length pre) w fs) k used table (pre ++ (fields_rows fs ++ post)) (last_seen here seen k fs) (insertions here seen k fs) (pre ++ (fields_rows (mark_own here seen k fs) ++ post))

  fields_more : (i : Item) (fs : Fields) (seen : List Served) (k used : ℕ) (table : List Slot) (pre post : List Row) (w : Bool) (s : State seen used table) → (A : ItemGoes i seen k used table pre (fields_rows fs ++ post) w s (item_visits (length pre) w i) (mark_head here seen k (head_of i)))
      → (let m = mark_head here seen k (head_of i) in FieldsGo fs m.seen m.k A.used' A.table' (pre ++ item_rows (with_head i m.now)) post (walks (head_of i))) → FieldsGo (i ▸ fs) seen k used table pre post w
  unfolding flatten fields_visits last_seen insertions mark_own
  fields_more i fs seen k used table pre post w s A B =
      let m = mark_head here seen k (head_of i) in
      let row : List Row = item_rows (with_head i m.now) in
      let rs : List Row = fields_rows (mark_own here m.seen m.k fs) in
      let n : length (pre ++ row) ≡ length pre + length (item_rows i) = omega (arith, length-append pre row, (item_size i seen k).0) in
      rw (append_assoc (item_rows i) (fields_rows fs) post, append_assoc row rs post)
      (goes_then_lem (item_visits (length pre) w i) (fields_visits (length pre + length (item_rows i)) (walks (head_of i)) fs) k used table _ m.seen m.k (pre ++ (row ++ (fields_rows fs ++ post))) _ _ _ A
      (rw (n, append_assoc pre row (fields_rows fs ++ post), append_assoc pre row (rs ++ post)) at B))

  pub fields_go : (fs : Fields) (seen : List Served) (k used : ℕ) (table : List Slot) (pre post : List Row) (w : Bool) → State seen used table → used + all_refs fs ≤ room → k + all_refs fs < 2147483648 → FieldsGo fs seen k used table pre post w
  fields_go end seen k used table pre post w s b g =
      unfold flatten fields_visits last_seen insertions mark_own in goes_nowhere [] seen k used table (pre ++ post) s (λ M l. unfold mark_all in refl)
  fields_go (i ▸ fs) seen k used table pre post w s b g =
      let l : all_refs (i ▸ fs) ≡ refs i + all_refs fs = unfold all_refs in refl in
      let m = mark_head here seen k (head_of i) in
      let sz = (item_size i seen k).1 in
      let A = item_goes i seen k used table pre (fields_rows fs ++ post) w s (omega arith) (omega arith) in
      fields_more i fs seen k used table pre post w s A
      (fields_go fs m.seen m.k A.used' A.table' (pre ++ item_rows (with_head i m.now)) post (walks (head_of i)) A.state (omega (arith, A.few, sz)) (omega (arith, sz)))
