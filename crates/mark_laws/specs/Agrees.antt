-- On the rows of a tree the marked rows are those of the rules' marked tree.
use Rattle.std.specs.Prelude.{◌≡◌, Bool, true, take, drop}
use Rattle.std.proofs.Math.Path.{refl}
use Rattle.std.proofs.Common.{sym, ap, ap₂, ◌∙◌, take-append-drop}
use Rattle.std.proofs.Math.Bool.{false}
use Rattle.std.proofs.Math.Option.{some}
use mathlib.Core.List.{List, [], ◌∷◌, ◌++◌, map, append_assoc, append-nil, head-eq_of_cons-eq, tail-eq_of_cons-eq, cons≢nil}
use Prim.Native.Nat.{ℕ, zero, suc, ◌+◌, ◌*◌, ◌-◌, ◌/◌, ◌<◌, ◌≤◌}
use native.Mathlib.Omega.{arith}
use Rattle.std.proofs.Math.ListN.{length, length-append, length-drop}
use Rattle.std.proofs.lemmas.List.{length-map}
use Rattle.std.proofs.Math.Seq.{take-add, take-length, length-take-le}
use borrow.Author.Tests.{lt-ltb}
use Rattle.kit.specs.Pick.{pick}
use Rattle.kit.specs.Out.{Out, ◌&◌}
use Rattle.kit.proofs.Laws.{sets_seam}
use Rattle.rules.specs.Versions.{top_name}
use Rattle.rules.specs.Rows.{Row, Field, Decl, Ref, Path, Outer, Case, Open, Close, Export, encode, encode_row}
use Rattle.rules.specs.Tree.{Declaration, Head, Scope, scope, Fields, end, ◌▸◌, Item, plain, holds, head_of, decl_rows, head_rows, flatten, fields_rows, item_rows}
use Rattle.rules.specs.Rules.{fresh, declarations}
use Rattle.rules.specs.Answer.{rows_of, rows_bytes}
use Rattle.rules.specs.Readings.{fields_of}
use Rattle.rules.specs.Laws.ToolLaws
use Rattle.rules.specs.Laws.ToolLaws.{All, done, all_map, false_not}
use Rattle.rules.specs.Laws.RowLaws.{Bytes, bytes_drop}
use Rattle.rules.proofs.Laws.Output.FourTimes.{inner, fields_size, head_length}
use Rattle.rules.proofs.Laws.Output.Counts.{own, deep, rows_split, scope_split}
use Rattle.sharing.specs.Sharing.{Served, served_by, mark_head, insertions, mark_scope, mark_fields, mark_item, mark}
use Rattle.rows.proofs.Runs.{rows_count, encode_again}
use Rattle.put.specs.Put.{copy_row}
use Rattle.names.specs.Table.{Slot, between, find_in}
use Rattle.parts.specs.PartsAt.{parts_at}
use Rattle.matched.specs.Counted.{raw_of}
use Rattle.matched.proofs.Ends.{At, at_first, at_second}
use Rattle.diff.proofs.Lists.{at_rows}
use Rattle.form.specs.Ends.{Ends, Inside, EndsIn}
use Rattle.sharing.proofs.Laws.Marks.{like_rows, scope_like}
use Rattle.mark.specs.Visits.{place_at, visits_t}
use Rattle.mark.specs.MarkedRows.{enter_then, enter_all, Steps, next_of, mark_scope_t, mark_open_t, scopes_then, scopes_t, left_by, copies_t, mark_rows_t}
use Rattle.mark_laws.specs.Visited.{parts_of, parts_there, own_rows, is_inner, inner_own, fields_visits, fields_visits_lem}
use Rattle.mark_laws.specs.Entered.{Entered, enter_scope}
use Rattle.mark_laws.specs.Referred.{State, alias_of, with_head, mark_own, all_refs, item_size, fields_go}

-- ---- there is room

decl_rows_lem : (ds : List Declaration) → length (decl_rows ds) ≡ length ds
unfolding decl_rows
decl_rows_lem [] = refl
decl_rows_lem (d ∷ ds) = ap suc (decl_rows_lem ds)

-- a scope's declarations and references each have a row of its own
few_slots : (fs : Fields) → length (declarations fs) + all_refs fs ≤ own fs
unfolding declarations all_refs own
few_slots end = omega arith
few_slots (i ▸ fs) = omega (arith, few_slots fs, head_length (head_of i), decl_rows_lem (head_of i).decls, length-append (head_of i).decls (declarations fs))

-- ---- one scope

-- where nothing refers to an alias none is found
none_served : (n : ℕ) (table : List Slot) (space name : ℕ) → find_in (between n n table) space name ≡ alias_of (served_by [] space name)
unfolding between find_in served_by alias_of
none_served n table space name = let z : n - n ≡ 0 = omega arith in rw z

-- the rows of one among others, parted at the OPEN
behind_open : (kind name : ℕ) (pre post : List Row) (fs : Fields) → pre ++ (flatten (scope kind name fs) ++ post) ≡ (pre ++ (Open kind name ∷ [])) ++ (fields_rows fs ++ (Close ∷ post))
unfolding flatten
behind_open kind name pre post fs = simp append_assoc

module _ (rows ends : List ℕ) where
  pub record Scope-marked (o : Steps) (room k : ℕ) (L : List Row) : Type 0 where
    pub table : List Slot
    pub answer : o ≡ (fresh k & table & rows_bytes L)
    pub size : length table ≡ room

  module _ (kind name : ℕ) (fs : Fields) (k : ℕ) (table : List Slot) (pre post : List Row) where
    abbrev ds : List Declaration
    ds = declarations fs

    -- no name has an alias yet
    at_first_field : (e : Entered (length table) ds (enter_all (fields_visits (length pre + 1) false fs) table 0)) → State ds (length ds) (length table) [] (length ds) e.table
    at_first_field e =
        record {
          size = e.size;
          known = e.known;
          served = λ space n. none_served (length ds) e.table space n;
          within = omega arith;
        }

    own_marked : At rows (length pre) (flatten (scope kind name fs)) → Ends fs ends (length pre + 1) → length pre + length (flatten (scope kind name fs)) ≤ length rows / 16 → own fs ≤ length table → k + own fs < 2147483648
        → Scope-marked (mark_scope_t rows ends (length pre + 1) (fresh k) table (rows_bytes (pre ++ (flatten (scope kind name fs) ++ post)))) (length table) (insertions ds [] k fs) (pre ++ (flatten (scope kind name (mark_own ds [] k fs)) ++ post))
    unfolding mark_scope_t enter_then next_of flatten
    own_marked a en b r h =
        let f = few_slots fs in
        let l = length-append (fields_rows fs) (Close ∷ []) in
        let v : visits_t rows ends (length rows / 16) (place_at (length pre + 1)) ≡ fields_visits (length pre + 1) false fs =
        fields_visits_lem rows ends fs (length rows / 16) (length pre + 1) (length pre + 1) false a.1 en (omega arith) (omega arith) in
        let e = enter_scope (length table) fs (length pre + 1) false table refl (omega arith) in
        let n : length (pre ++ (Open kind name ∷ [])) ≡ length pre + 1 = length-append pre (Open kind name ∷ []) in
        let g = fields_go ds (length ds) (length table) fs [] k (length ds) e.table (pre ++ (Open kind name ∷ [])) (Close ∷ post) false (at_first_field e) (omega arith) (omega arith) in
        let q = rw n at g.answer in
        record {
          table = g.table';
          answer = rw (v, e.answer, behind_open kind name pre post fs, q, behind_open kind name pre post (mark_own ds [] k fs));
          size = g.state.size;
        }

  -- ---- rows that open no scope

  abbrev is_open : Row → Bool
  is_open (Field code builtin z) = false
  is_open (Decl space name z) = false
  is_open (Ref space at paths z) = false
  is_open (Path name) = false
  is_open (Outer space up at z) = false
  is_open (Case name z) = false
  is_open (Open kind name) = true
  is_open Close = false
  is_open (Export name) = false

  abbrev NoOpens : List Row → Type 0
  NoOpens rs = All (λ (r : Row). is_open r ≡ false) rs

  passed : (r : Row) (i f : ℕ) (t : List Slot) (l : List ℕ) → raw_of (parts_at rows i) ≡ encode r → is_open r ≡ false → mark_open_t rows ends i f t l ≡ (f & t & l)
  unfolding mark_open_t parts_of encode pick
  passed (Field code builtin z) i f t l a e = rw (parts_there rows i (Field code builtin z) a)
  passed (Decl space name z) i f t l a e = rw (parts_there rows i (Decl space name z) a)
  passed (Ref space at paths z) i f t l a e = rw (parts_there rows i (Ref space at paths z) a)
  passed (Path name) i f t l a e = rw (parts_there rows i (Path name) a)
  passed (Outer space up at z) i f t l a e = rw (parts_there rows i (Outer space up at z) a)
  passed (Case name z) i f t l a e = rw (parts_there rows i (Case name z) a)
  passed (Open kind name) i f t l a e = false_not (sym e)
  passed Close i f t l a e = rw (parts_there rows i Close a)
  passed (Export name) i f t l a e = rw (parts_there rows i (Export name) a)

  skip : (rs : List Row) (i left f : ℕ) (t : List Slot) (l : List ℕ) → At rows i rs → NoOpens rs → scopes_t rows ends i (length rs + left) f t l ≡ scopes_t rows ends (i + length rs) left f t l
  unfolding scopes_t scopes_then
  skip [] i left f t l a done = let y : 0 + left ≡ left = omega arith in let z : i + 0 ≡ i = omega arith in rw (y, z)
  skip (r ∷ rs) i left f t l a (ToolLaws.◌&◌ e es) =
      let y : suc (length rs) + left ≡ suc (length rs + left) = omega arith in
      let z : i + 1 + length rs ≡ i + suc (length rs) = omega arith in
      rw (y, passed r i f t l a.0 e) (skip rs (i + 1) left f t l a.1 es ∙ rw z)

  inner_none : (r : Row) → is_inner r ≡ true → is_open r ≡ false
  inner_none (Field code builtin z) e = refl
  inner_none (Decl space name z) e = refl
  inner_none (Ref space at paths z) e = refl
  inner_none (Path name) e = refl
  inner_none (Outer space up at z) e = refl
  inner_none (Case name z) e = refl
  inner_none (Open kind name) e = false_not e
  inner_none Close e = refl
  inner_none (Export name) e = refl

  -- a field's own rows
  head_none : (h : Head) → NoOpens (head_rows h)
  unfolding head_rows own_rows
  head_none h = ToolLaws.◌&◌ refl (all_map (own_rows h) inner_none (inner_own h))

  -- ---- all scopes

  -- from row p with `left` rows to go, to row p' with `left'`
  pub record Scans (p left k : ℕ) (table : List Slot) (L : List Row) (p' left' k' : ℕ) (L' : List Row) : Type 0 where
    pub table' : List Slot
    pub answer : scopes_t rows ends p left (fresh k) table (rows_bytes L) ≡ scopes_t rows ends p' left' (fresh k') table' (rows_bytes L')
    pub size : length table' ≡ length table

  scans_then : (p left k : ℕ) (table : List Slot) (L : List Row) (p₁ left₁ k₁ : ℕ) (L₁ : List Row) (p₂ left₂ k₂ : ℕ) (L₂ : List Row)
      → (a : Scans p left k table L p₁ left₁ k₁ L₁) → Scans p₁ left₁ k₁ a.table' L₁ p₂ left₂ k₂ L₂ → Scans p left k table L p₂ left₂ k₂ L₂
  scans_then p left k table L p₁ left₁ k₁ L₁ p₂ left₂ k₂ L₂ a b = record { table' = b.table'; answer = a.answer ∙ b.answer; size = b.size ∙ a.size }

  -- rows that open no scope, and then others
  skip_then : (rs : List Row) (p left k : ℕ) (table : List Slot) (L : List Row) (p₂ left₂ k₂ : ℕ) (L₂ : List Row) → At rows p rs → NoOpens rs → Scans (p + length rs) left k table L p₂ left₂ k₂ L₂ → Scans p (length rs + left) k table L p₂ left₂ k₂ L₂
  skip_then rs p left k table L p₂ left₂ k₂ L₂ a n b = record { table' = b.table'; answer = skip rs p left (fresh k) table (rows_bytes L) a n ∙ b.answer; size = b.size }

  -- an OPEN
  open_turn : (kind name i left f : ℕ) (t : List Slot) (l : List ℕ) (f' : ℕ) (t' : List Slot) (l' : List ℕ) → raw_of (parts_at rows i) ≡ encode (Open kind name) → mark_scope_t rows ends (i + 1) f t l ≡ (f' & t' & l') → scopes_t rows ends i (suc left) f t l ≡ scopes_t rows ends (i + 1) left f' t' l'
  unfolding scopes_t scopes_then mark_open_t parts_of encode pick
  open_turn kind name i left f t l f' t' l' a e = rw (parts_there rows i (Open kind name) a, e)

  opened : (kind name : ℕ) (fs : Fields) (p : ℕ) → At rows p (flatten (scope kind name fs)) → raw_of (parts_at rows p) ≡ encode (Open kind name)
  unfolding flatten
  opened kind name fs p a = a.0

  open_scans : (kind name : ℕ) (fs : Fields) (k left : ℕ) (table : List Slot) (pre post : List Row) → At rows (length pre) (flatten (scope kind name fs)) → Ends fs ends (length pre + 1) → length pre + length (flatten (scope kind name fs)) ≤ length rows / 16 → own fs ≤ length table → k + own fs < 2147483648
      → Scans (length pre) (suc left) k table (pre ++ (flatten (scope kind name fs) ++ post)) (length pre + 1) left (insertions (declarations fs) [] k fs) (pre ++ (flatten (scope kind name (mark_own (declarations fs) [] k fs)) ++ post))
  open_scans kind name fs k left table pre post a en b r h =
      let m = own_marked kind name fs k table pre post a en b r h in
      record { table' = m.table; answer = open_turn kind name (length pre) left (fresh k) table (rows_bytes (pre ++ (flatten (scope kind name fs) ++ post))) _ _ _ (opened kind name fs (length pre) a) m.answer; size = m.size }

  -- ---- what insertions a scope and its fields count

  insertions_grow : (here : List Declaration) (seen : List Served) (k : ℕ) (fs : Fields) → insertions here seen k fs ≤ k + all_refs fs
  unfolding insertions all_refs
  insertions_grow here seen k end = omega arith
  insertions_grow here seen k (i ▸ fs) =
      let m = mark_head here seen k (head_of i) in
      omega (arith, (item_size here 0 0 i seen k).1, insertions_grow here m.seen m.k fs)

  -- ---- the cases

  -- the scope's rows are gone through, and no more insertions are counted than it has rows
  abbrev ScopeScans : (s : Scope) (k left : ℕ) (table : List Slot) (pre post : List Row) → Type 0
  ScopeScans s k left table pre post =
      Scans (length pre) (length (flatten s) + left) k table (pre ++ (flatten s ++ post)) (length pre + length (flatten s)) left (mark_scope s k).1 (pre ++ (flatten (mark_scope s k).0 ++ post))
      × ((mark_scope s k).1 ≤ k + length (flatten s))

  -- the scopes inside its fields; their own references are marked already
  abbrev FieldsScan : (fs : Fields) (here : List Declaration) (seen : List Served) (b k left : ℕ) (table : List Slot) (pre post : List Row) → Type 0
  FieldsScan fs here seen b k left table pre post =
      Scans (length pre) (length (fields_rows fs) + left) k table (pre ++ (fields_rows (mark_own here seen b fs) ++ post)) (length pre + length (fields_rows fs)) left (mark_fields fs here seen b k).1 (pre ++ (fields_rows (mark_fields fs here seen b k).0 ++ post))
      × ((mark_fields fs here seen b k).1 ≤ k + deep fs)

  abbrev ItemScans : (i : Item) (h : Head) (k left : ℕ) (table : List Slot) (pre post : List Row) → Type 0
  ItemScans i h k left table pre post =
      Scans (length pre) (length (item_rows i) + left) k table (pre ++ (item_rows (with_head i h) ++ post)) (length pre + length (item_rows i)) left (mark_item i h k).1 (pre ++ (item_rows (mark_item i h k).0 ++ post))
      × ((mark_item i h k).1 ≤ k + inner i)

  -- the scope's CLOSE
  close_scans : (p left k : ℕ) (table : List Slot) (L : List Row) → At rows p (Close ∷ []) → Scans p (suc left) k table L (p + 1) left k L
  close_scans p left k table L a =
      let y : 1 + left ≡ suc left = omega arith in
      record { table' = table; answer = rw y at (skip (Close ∷ []) p left (fresh k) table (rows_bytes L) a (ToolLaws.◌&◌ refl done)); size = refl }

  -- its OPEN, its fields, its CLOSE
  scope_join : (kind name : ℕ) (fs : Fields) (p left k k₁ k₂ : ℕ) (table : List Slot) (L L₁ L₂ : List Row) → At rows p (flatten (scope kind name fs))
      → (A : Scans p (suc (length (fields_rows fs) + suc left)) k table L (p + 1) (length (fields_rows fs) + suc left) k₁ L₁)
      → Scans (p + 1) (length (fields_rows fs) + suc left) k₁ A.table' L₁ (p + 1 + length (fields_rows fs)) (suc left) k₂ L₂
      → Scans p (length (flatten (scope kind name fs)) + left) k table L (p + length (flatten (scope kind name fs))) left k₂ L₂
  unfolding flatten
  scope_join kind name fs p left k k₁ k₂ table L L₁ L₂ a A B =
      let q = length-append (fields_rows fs) (Close ∷ []) in
      let x : suc (length (fields_rows fs ++ (Close ∷ []))) + left ≡ suc (length (fields_rows fs) + suc left) = omega arith in
      let z : p + suc (length (fields_rows fs ++ (Close ∷ []))) ≡ p + 1 + length (fields_rows fs) + 1 = omega arith in
      let C = close_scans (p + 1 + length (fields_rows fs)) left k₂ B.table' L₂ (at_second rows (p + 1) (fields_rows fs) (Close ∷ []) a.1) in
      rw (x, z) (scans_then _ _ k table L _ _ k₁ L₁ _ _ k₂ L₂ A (scans_then _ _ k₁ A.table' L₁ _ _ k₂ L₂ _ _ k₂ L₂ B C))

  -- the fields of one among other rows
  fields_among : (kind name : ℕ) (fs fs₁ fs₂ : Fields) (left k₁ k₂ : ℕ) (table : List Slot) (pre post : List Row)
      → Scans (length (pre ++ (Open kind name ∷ []))) (length (fields_rows fs) + suc left) k₁ table ((pre ++ (Open kind name ∷ [])) ++ (fields_rows fs₁ ++ (Close ∷ post))) (length (pre ++ (Open kind name ∷ [])) + length (fields_rows fs)) (suc left) k₂ ((pre ++ (Open kind name ∷ [])) ++ (fields_rows fs₂ ++ (Close ∷ post)))
      → Scans (length pre + 1) (length (fields_rows fs) + suc left) k₁ table (pre ++ (flatten (scope kind name fs₁) ++ post)) (length pre + 1 + length (fields_rows fs)) (suc left) k₂ (pre ++ (flatten (scope kind name fs₂) ++ post))
  fields_among kind name fs fs₁ fs₂ left k₁ k₂ table pre post B =
      let n : length (pre ++ (Open kind name ∷ [])) ≡ length pre + 1 = length-append pre (Open kind name ∷ []) in
      rw (behind_open kind name pre post fs₁, behind_open kind name pre post fs₂) (rw n at B)

  scope_case : (kind name : ℕ) (fs : Fields) (k left : ℕ) (table : List Slot) (pre post : List Row) → At rows (length pre) (flatten (scope kind name fs)) → Ends fs ends (length pre + 1) → length pre + length (flatten (scope kind name fs)) ≤ length rows / 16
      → own fs ≤ length table → k + own fs < 2147483648
      → ((t : List Slot) → length t ≡ length table → FieldsScan fs (declarations fs) [] k (insertions (declarations fs) [] k fs) (suc left) t (pre ++ (Open kind name ∷ [])) (Close ∷ post)) → ScopeScans (scope kind name fs) k left table pre post
  unfolding mark_scope
  scope_case kind name fs k left table pre post a en b r h f =
      let A = open_scans kind name fs k (length (fields_rows fs) + suc left) table pre post a en b r h in
      let B = f A.table' A.size in (
        scope_join kind name fs (length pre) left k _ _ table _ _ _ a A (fields_among kind name fs _ _ left _ _ A.table' pre post B.0),
        omega (arith, B.1, insertions_grow (declarations fs) [] k fs, few_slots fs, scope_split kind name fs),
      )

  item_plain : (h h' : Head) (k left : ℕ) (table : List Slot) (pre post : List Row) → At rows (length pre) (head_rows h) → ItemScans (plain h) h' k left table pre post
  unfolding flatten mark_scope with_head inner
  item_plain h h' k left table pre post a =
      (record { table' = table; answer = skip (head_rows h) (length pre) left (fresh k) table (rows_bytes (pre ++ (head_rows h' ++ post))) a (head_none h); size = refl }, omega arith)

  item_holds : (h h' : Head) (s : Scope) (k left : ℕ) (table : List Slot) (pre post : List Row) → length (head_rows h') ≡ length (head_rows h) → At rows (length pre) (head_rows h ++ flatten s)
      → ScopeScans s k left table (pre ++ head_rows h') post → ItemScans (holds h s) h' k left table pre post
  unfolding flatten mark_scope with_head inner
  item_holds h h' s k left table pre post e a B =
      let l = length-append (head_rows h) (flatten s) in
      let n : length (pre ++ head_rows h') ≡ length pre + length (head_rows h) = omega (arith, length-append pre (head_rows h')) in
      let x : length (head_rows h ++ flatten s) + left ≡ length (head_rows h) + (length (flatten s) + left) = omega arith in
      let z : length pre + length (head_rows h ++ flatten s) ≡ length pre + length (head_rows h) + length (flatten s) = omega arith in
      let B' = rw (n, append_assoc pre (head_rows h') (flatten s ++ post), append_assoc pre (head_rows h') (flatten (mark_scope s k).0 ++ post)) at B.0 in
      (rw (x, z, append_assoc (head_rows h') (flatten s) post, append_assoc (head_rows h') (flatten (mark_scope s k).0) post) (skip_then (head_rows h) (length pre) _ k table _ _ _ _ _ (at_first rows (length pre) (head_rows h) (flatten s) a) (head_none h) B'), B.1)

  -- a marked item has as many rows
  marked_size : (i : Item) (h : Head) (k : ℕ) → length (item_rows (with_head i h)) ≡ length (item_rows i) → length (item_rows (mark_item i h k).0) ≡ length (item_rows i)
  unfolding mark_scope with_head flatten
  marked_size (plain h) h' k e = e
  marked_size (holds h s) h' k e =
      omega (arith, length-append (head_rows h') (flatten (mark_scope s k).0), length-append (head_rows h') (flatten s), like_rows (k + length (flatten s)) s (mark_scope s k).0 (scope_like s k))

  -- one field, and then the others
  items_among : (i i₁ i₂ : Item) (fs fs₁ fs₂ : Fields) (left k k₁ k₂ : ℕ) (table : List Slot) (pre post : List Row) → length (item_rows i₂) ≡ length (item_rows i)
      → (A : Scans (length pre) (length (item_rows i) + (length (fields_rows fs) + left)) k table (pre ++ (item_rows i₁ ++ (fields_rows fs₁ ++ post))) (length pre + length (item_rows i)) (length (fields_rows fs) + left) k₁ (pre ++ (item_rows i₂ ++ (fields_rows fs₁ ++ post))))
      → Scans (length (pre ++ item_rows i₂)) (length (fields_rows fs) + left) k₁ A.table' ((pre ++ item_rows i₂) ++ (fields_rows fs₁ ++ post)) (length (pre ++ item_rows i₂) + length (fields_rows fs)) left k₂ ((pre ++ item_rows i₂) ++ (fields_rows fs₂ ++ post))
      → Scans (length pre) (length (fields_rows (i ▸ fs)) + left) k table (pre ++ (fields_rows (i₁ ▸ fs₁) ++ post)) (length pre + length (fields_rows (i ▸ fs))) left k₂ (pre ++ (fields_rows (i₂ ▸ fs₂) ++ post))
  unfolding flatten
  items_among i i₁ i₂ fs fs₁ fs₂ left k k₁ k₂ table pre post e A B =
      let l = length-append (item_rows i) (fields_rows fs) in
      let n : length (pre ++ item_rows i₂) ≡ length pre + length (item_rows i) = omega (arith, length-append pre (item_rows i₂)) in
      let x : length (item_rows i ++ fields_rows fs) + left ≡ length (item_rows i) + (length (fields_rows fs) + left) = omega arith in
      let z : length pre + length (item_rows i ++ fields_rows fs) ≡ length pre + length (item_rows i) + length (fields_rows fs) = omega arith in
      rw (x, z, append_assoc (item_rows i₁) (fields_rows fs₁) post, append_assoc (item_rows i₂) (fields_rows fs₂) post)
      (scans_then _ _ k table _ _ _ k₁ _ _ _ k₂ _ A (rw (n, append_assoc pre (item_rows i₂) (fields_rows fs₁ ++ post), append_assoc pre (item_rows i₂) (fields_rows fs₂ ++ post)) at B))

  fields_case : (i : Item) (fs : Fields) (here : List Declaration) (seen : List Served) (b k left : ℕ) (table : List Slot) (pre post : List Row)
      → (A : ItemScans i (mark_head here seen b (head_of i)).now k (length (fields_rows fs) + left) table pre (fields_rows (mark_own here (mark_head here seen b (head_of i)).seen (mark_head here seen b (head_of i)).k fs) ++ post))
      → FieldsScan fs here (mark_head here seen b (head_of i)).seen (mark_head here seen b (head_of i)).k (mark_item i (mark_head here seen b (head_of i)).now k).1 left A.0.table' (pre ++ item_rows (mark_item i (mark_head here seen b (head_of i)).now k).0) post
      → FieldsScan (i ▸ fs) here seen b k left table pre post
  unfolding mark_own mark_scope deep
  fields_case i fs here seen b k left table pre post A B =
      let m = mark_head here seen b (head_of i) in (
        items_among i (with_head i m.now) (mark_item i m.now k).0 fs _ _ left k _ _ table pre post (marked_size i m.now k (item_size here 0 0 i seen b).0) A.0 B.0,
        omega (arith, A.1, B.1),
      )

  -- ---- what stands where, one layer in

  scope_ends : (kind name : ℕ) (fs : Fields) (p : ℕ) → EndsIn (scope kind name fs) ends p → Ends fs ends (p + 1)
  unfolding Ends
  scope_ends kind name fs p en = en

  scope_at_lem : (kind name : ℕ) (fs : Fields) (p : ℕ) → At rows p (flatten (scope kind name fs)) → At rows (p + 1) (fields_rows fs)
  unfolding flatten
  scope_at_lem kind name fs p a = at_first rows (p + 1) (fields_rows fs) (Close ∷ []) a.1

  fields_at : (i : Item) (fs : Fields) (p : ℕ) → At rows p (fields_rows (i ▸ fs)) → At rows p (item_rows i) × At rows (p + length (item_rows i)) (fields_rows fs)
  unfolding flatten
  fields_at i fs p a = (at_first rows p (item_rows i) (fields_rows fs) a, at_second rows p (item_rows i) (fields_rows fs) a)

  fields_ends : (i : Item) (fs : Fields) (p : ℕ) → Ends (i ▸ fs) ends p → Inside i ends p × Ends fs ends (p + length (item_rows i))
  unfolding Ends
  fields_ends i fs p en = (en.1, en.2)

  fields_none : (here : List Declaration) (seen : List Served) (b k left : ℕ) (table : List Slot) (pre post : List Row) → FieldsScan end here seen b k left table pre post
  unfolding flatten mark_own mark_scope deep
  fields_none here seen b k left table pre post =
      let y : 0 + left ≡ left = omega arith in
      let z : length pre + 0 ≡ length pre = omega arith in
      (rw (y, z) (record { table' = table; answer = refl; size = refl }), omega arith)

  plain_at : (h : Head) (p : ℕ) → At rows p (item_rows (plain h)) → At rows p (head_rows h)
  unfolding flatten
  plain_at h p a = a

  holds_at : (h : Head) (s : Scope) (p : ℕ) → At rows p (item_rows (holds h s)) → At rows p (head_rows h ++ flatten s)
  unfolding flatten
  holds_at h s p a = a

  holds_ends : (h : Head) (s : Scope) (p : ℕ) → Inside (holds h s) ends p → EndsIn s ends (p + length (head_rows h))
  unfolding Ends
  holds_ends h s p en = en

  holds_size : (h h' : Head) (s : Scope) → length (item_rows (with_head (holds h s) h')) ≡ length (item_rows (holds h s)) → length (head_rows h') ≡ length (head_rows h)
  unfolding flatten with_head
  holds_size h h' s e = omega (arith, length-append (head_rows h) (flatten s), length-append (head_rows h') (flatten s))

  holds_rows : (h : Head) (s : Scope) → (length (item_rows (holds h s)) ≡ length (head_rows h) + length (flatten s)) × (inner (holds h s) ≡ length (flatten s))
  unfolding flatten inner
  holds_rows h s = (length-append (head_rows h) (flatten s), refl)

  deep_more : (i : Item) (fs : Fields) → deep (i ▸ fs) ≡ inner i + deep fs
  unfolding deep
  deep_more i fs = refl

  -- ---- by recursion

  mutual
    scan_scope : (s : Scope) (k left : ℕ) (table : List Slot) (pre post : List Row) → At rows (length pre) (flatten s) → EndsIn s ends (length pre) → length pre + length (flatten s) ≤ length rows / 16 → length (flatten s) ≤ length table → k + length (flatten s) < 2147483648 → ScopeScans s k left table pre post
    scan_scope (scope kind name fs) k left table pre post a en b r h =
        let n : length (pre ++ (Open kind name ∷ [])) ≡ length pre + 1 = length-append pre (Open kind name ∷ []) in
        let sp = scope_split kind name fs in
        let g = insertions_grow (declarations fs) [] k fs in
        let fw = few_slots fs in
        let e : Ends fs ends (length pre + 1) = scope_ends kind name fs (length pre) en in
        scope_case kind name fs k left table pre post a e b (omega arith) (omega arith)
        (λ t q. scan_fields fs (declarations fs) [] k (insertions (declarations fs) [] k fs) (suc left) t (pre ++ (Open kind name ∷ [])) (Close ∷ post) (rw n (scope_at_lem kind name fs (length pre) a)) (rw n e) (rw n (omega (arith, rows_split fs))) (omega arith) (omega arith))

    scan_fields : (fs : Fields) (here : List Declaration) (seen : List Served) (b k left : ℕ) (table : List Slot) (pre post : List Row) → At rows (length pre) (fields_rows fs) → Ends fs ends (length pre) → length pre + length (fields_rows fs) ≤ length rows / 16 → deep fs ≤ length table → k + deep fs < 2147483648 → FieldsScan fs here seen b k left table pre post
    scan_fields end here seen b k left table pre post a en c r h = fields_none here seen b k left table pre post
    scan_fields (i ▸ fs) here seen b k left table pre post a en c r h =
        let m = mark_head here seen b (head_of i) in
        let l = fields_size i fs in
        let d = deep_more i fs in
        let sz = marked_size i m.now k (item_size here 0 0 i seen b).0 in
        let n : length (pre ++ item_rows (mark_item i m.now k).0) ≡ length pre + length (item_rows i) = omega (arith, length-append pre (item_rows (mark_item i m.now k).0)) in
        let x = fields_at i fs (length pre) a in
        let y = fields_ends i fs (length pre) en in
        let A = scan_item i m.now k (length (fields_rows fs) + left) table pre (fields_rows (mark_own here m.seen m.k fs) ++ post) (item_size here 0 0 i seen b).0 x.0 y.0 (omega arith) (omega arith) (omega arith) in
        fields_case i fs here seen b k left table pre post A
        (scan_fields fs here m.seen m.k (mark_item i m.now k).1 left A.0.table' (pre ++ item_rows (mark_item i m.now k).0) post (rw n x.1) (rw n y.1) (rw n (omega arith)) (omega (arith, A.0.size)) (omega (arith, A.1)))

    scan_item : (i : Item) (h : Head) (k left : ℕ) (table : List Slot) (pre post : List Row) → length (item_rows (with_head i h)) ≡ length (item_rows i) → At rows (length pre) (item_rows i) → Inside i ends (length pre) → length pre + length (item_rows i) ≤ length rows / 16 → inner i ≤ length table → k + inner i < 2147483648 → ItemScans i h k left table pre post
    scan_item (plain h) h' k left table pre post e a en c r g = item_plain h h' k left table pre post (plain_at h (length pre) a)
    scan_item (holds h s) h' k left table pre post e a en c r g =
        let q = holds_size h h' s e in
        let n : length (pre ++ head_rows h') ≡ length pre + length (head_rows h) = omega (arith, length-append pre (head_rows h')) in
        let w = holds_at h s (length pre) a in
        let o = holds_rows h s in
        item_holds h h' s k left table pre post q w
        (scan_scope s k left table (pre ++ head_rows h') post (rw n (at_second rows (length pre) (head_rows h) (flatten s) w)) (rw n (holds_ends h s (length pre) en)) (rw n (omega arith)) (omega arith) (omega arith))

-- ---- the rows, copied

-- the bytes of rows are those that they were read from
bytes_are_lem : (count : ℕ) (bs : List ℕ) (rs : List Row) → Bytes bs → length bs ≡ 16 * count → map some rs ≡ rows_of top_name count bs → bs ≡ rows_bytes rs
unfolding rows_of rows_bytes
bytes_are_lem zero [] [] p h e = refl
bytes_are_lem zero (b ∷ bs) rs p h e = absurd (omega arith)
bytes_are_lem zero [] (r ∷ rs) p h e = absurd (cons≢nil e)
bytes_are_lem (suc count) bs [] p h e = absurd (cons≢nil (sym e))
bytes_are_lem (suc count) bs (r ∷ rs) p h e =
    let l = length-drop 16 bs in
    let first : encode_row r ≡ take 16 bs = encode_again top_name bs r p (omega arith) (sym (head-eq_of_cons-eq e)) in
    sym (take-append-drop 16 bs) ∙ ap₂ (λ (x y : List ℕ). x ++ y) (sym first) (bytes_are_lem count (drop 16 bs) rs (bytes_drop 16 bs p) (omega arith) (tail-eq_of_cons-eq e))

module _ (rows : List ℕ) where
  copy_one : (i : ℕ) (rest : List ℕ) → i < length rows / 16 → 16 ≤ length rest → left_by (copy_row rows i (take (16 * i) rows ++ rest) i) ≡ take (16 * (i + 1)) rows ++ drop 16 rest
  unfolding left_by copy_row pick
  copy_one i rest h g =
      let n : 16 * (i + 1) ≡ 16 * i + 16 = omega arith in
      let a : length (take (16 * i) rows) ≡ 16 * i = length-take-le (16 * i) rows (omega arith) in
      let d = length-drop (16 * i) rows in
      let c : length (take 16 (drop (16 * i) rows)) ≡ 16 = length-take-le 16 (drop (16 * i) rows) (omega arith) in
      let w : i < length (take (16 * i) rows ++ rest) / 16 = omega (arith, length-append (take (16 * i) rows) rest) in
      rw (lt-ltb _ _ h, lt-ltb _ _ w, n, take-add (16 * i) 16 rows)
      (sets_seam (take (16 * i) rows) rest (take 16 (drop (16 * i) rows)) (16 * i) a (omega arith) ∙ rw c)

  copied : (left i : ℕ) (rest : List ℕ) → i + left ≡ length rows / 16 → length rows ≡ 16 * (i + left) → length rest ≡ 16 * left → copies_t rows i left (take (16 * i) rows ++ rest) ≡ rows
  unfolding copies_t
  copied zero i [] h e q = let n : 16 * i ≡ length rows = omega arith in rw (append-nil, n) (take-length rows)
  copied zero i (b ∷ rest) h e q = absurd (omega arith)
  copied (suc left) i rest h e q =
      let d = length-drop 16 rest in
      rw (copy_one i rest (omega arith) (omega arith)) (copied left (i + 1) (drop 16 rest) (omega arith) (omega arith) (omega arith))

-- ---- the whole

-- what the code leaves: the table, and the marked rows
pub record AllMarked (o : Out (List Slot) (List ℕ)) (room : ℕ) (L : List Row) : Type 0 where
  pub table : List Slot
  pub answer : o ≡ (table & rows_bytes L)
  pub size : length table ≡ room

-- no row is left
scans_end : (rows ends : List ℕ) (p left k : ℕ) (table : List Slot) (L : List Row) (p' k' : ℕ) (L' : List Row) (o : Out (List Slot) (List ℕ)) → Scans rows ends p left k table L p' 0 k' L' → o ≡ scopes_t rows ends p left (fresh k) table (rows_bytes L) → AllMarked o (length table) L'
unfolding scopes_t
scans_end rows ends p left k table L p' k' L' o s e = record { table = s.table'; answer = e ∙ s.answer; size = s.size }

root_ends : (t : Scope) (ends : List ℕ) → Ends (fields_of t) ends 1 → EndsIn t ends 0
unfolding Ends
root_ends (scope kind name fs) ends en = en

-- THE MARKED ROWS OF A TREE are those of the rules' marked tree: where the bytes are its rows, the ends of its fields are noted, there is room
-- for as many rows and as many slots, and names are left for as many insertions.
pub mark_agrees : (rows ends marked : List ℕ) (table : List Slot) (t : Scope) → Bytes rows → map some (flatten t) ≡ rows_of top_name (length rows / 16) rows → length rows ≡ 16 * (length rows / 16) → Ends (fields_of t) ends 1
    → length marked ≡ length rows → length (flatten t) ≤ length table → length (flatten t) < 2147483648 → AllMarked (mark_rows_t rows ends table marked) (length table) (flatten (mark t))
unfolding mark_rows_t mark fresh
mark_agrees rows ends marked table t bs e whole en l r k =
    let n : length (flatten t) ≡ length rows / 16 = sym (length-map (flatten t) some) ∙ ap length e ∙ rows_count top_name (length rows / 16) rows in
    let c : copies_t rows 0 (length rows / 16) marked ≡ rows = copied rows (length rows / 16) 0 marked (omega arith) (omega arith) (omega arith) in
    let b : rows ≡ rows_bytes (flatten t) = bytes_are_lem (length rows / 16) rows (flatten t) bs whole e in
    let S = (scan_scope rows ends t 0 0 table [] [] (at_rows top_name (length rows / 16) rows 0 (flatten t) e (omega arith)) (root_ends t ends en) (omega arith) r (omega arith)).0 in
    let m : length (flatten t) + 0 ≡ length rows / 16 = omega arith in
    let q : flatten t ++ [] ≡ flatten t = append-nil (flatten t) in
    rw (← append-nil (flatten (mark_scope t 0).0))
    (scans_end rows ends 0 (length (flatten t) + 0) 0 table (flatten t ++ []) _ _ _ _ S (rw (m, q) (ap (scopes_t rows ends 0 (length rows / 16) 2147483648 table) (c ∙ b))))
