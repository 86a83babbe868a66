-- On the rows of a resolved form, what is entered of its root is its declarations, with their numbers and rows.
use Rattle.std.specs.Prelude.{◌≡◌, Bool, eqb, get_or, set}
use Rattle.std.proofs.Math.Path.{refl}
use Rattle.std.proofs.Common.{sym, ap, ◌∙◌, add-one, length-set, get_or-set_same, get_or-set_other}
use Rattle.std.proofs.Math.Bool.{true, false}
use Rattle.std.proofs.Math.Option.{Option, none, some}
use mathlib.Core.List.{List, [], ◌∷◌, ◌++◌, map, append_assoc, append-nil}
use Prim.Native.Nat.{ℕ, suc, ◌+◌, ◌-◌, ◌%◌, ◌≤◌, ◌<◌}
use native.Mathlib.Omega.{arith}
use Rattle.std.proofs.Math.ListN.{length, length-append}
use Rattle.std.proofs.lemmas.List.{length-map}
use Rattle.kit.proofs.Laws.{copies_at}
use borrow.Author.Tests.{ne_eqb, lt-leb, eqb-true}
use Rattle.kit.specs.Pick.{pick}
use Rattle.kit.specs.Out.{Out, ◌&◌}
use Rattle.rules.specs.Rows.{Row, Field, Decl, Ref, Path, Outer, Case, Open, Close, Export, encode}
use Rattle.rules.specs.Tree.{Declaration, Operand, ref, outer, case, Head, Scope, scope, Fields, end, ◌▸◌, Item, plain, holds, head_of, decl_rows, path_rows, operand_row, operand_rows, export_rows, head_rows, flatten, fields_rows, item_rows}
use Rattle.rules.specs.Rules.{Entry, decls_in, declarations, entered, table_of}
use Rattle.rules.specs.Readings.{fields_of}
use Rattle.rules.specs.Laws.ToolLaws.{All, done, ◌&◌ as ◌⊕◌, all_append, eqb_same, false_not, length_snoc}
use Rattle.rules.specs.Laws.Entries.{decls_append, entered_decls}
use Rattle.batching.specs.Batch.{entered_fields, root_of}
use Rattle.names.specs.Table.{Slot, row_of, slot_of, between}
use Rattle.names.specs.Stands.{count, Stands, entry_rows}
use Rattle.names.proofs.Storey.{count_same, count_other, pushed_room, between_push, stands_push}
use Rattle.claim_numbers.specs.Count.{no_counts, counts_at, more_count_t, bump_count_t, count_before_t}
use Rattle.claim_laws.specs.RowParts.{as_parts, all_parts, code_in, Inner, behind_field, inner_behind, decls_size}
use Rattle.agree.specs.Fit.Spaces.{Spaces, SpacesDecls}
use Rattle.agree.specs.StepsAB.PlanTables.{count_le}
use Rattle.prelude_root.specs.Root.{depth_t, beside_t, numbered_t, root_row_t, root_behind_t, turn_t, then_t, root_rows_t, root_t}
use Rattle.prelude_root.specs.declared.Cursor.{Cursor}

-- ---- rows that are passed

abbrev cursor : (depth used : ℕ) → Cursor
cursor depth used = record { depth = depth; used = used }

-- a row that opens and closes nothing, and is no DECL of the root
pub record Passed (depth : ℕ) (r : Row) : Type 0 where
  pub no_open : code_in r ≡ 7 → ⊥
  pub no_close : code_in r ≡ 8 → ⊥
  pub no_decl : depth ≡ 1 → code_in r ≡ 2 → ⊥

module _ (names : List Slot) (counts : List (List ℕ)) (depth used : ℕ) where
  row_passed : (r : Row) (i : ℕ) → (depth ≡ 1 → code_in r ≡ 2 → ⊥) → (b c : Bool) → eqb depth 1 ≡ b → eqb (code_in r) 2 ≡ c → root_row_t (as_parts r) i depth used names counts ≡ (used & names & counts)
  unfolding root_row_t pick
  row_passed r i h false c e f = rw e
  row_passed r i h true false e f = rw (e, f)
  row_passed r i h true true e f = absurd (h (eqb-true depth 1 e) (eqb-true (code_in r) 2 f))

  turn_passed : (r : Row) (i : ℕ) → Passed depth r → turn_t (as_parts r) i names counts (cursor depth used) ≡ (cursor depth used & names & counts)
  unfolding turn_t root_behind_t depth_t pick
  turn_passed r i h = rw (row_passed r i h.no_decl (eqb depth 1) (eqb (code_in r) 2) refl refl, ne_eqb (code_in r) 7 h.no_open, ne_eqb (code_in r) 8 h.no_close)

  -- several of them
  rows_passed : (rs rest : List Row) (i : ℕ) → All (Passed depth) rs → root_rows_t i names counts (cursor depth used) (all_parts (rs ++ rest)) ≡ root_rows_t (i + length rs) names counts (cursor depth used) (all_parts rest)
  unfolding root_rows_t all_parts then_t
  rows_passed [] rest i h = let e : i + 0 ≡ i = omega arith in rw e
  rows_passed (r ∷ rs) rest i (h ⊕ hs) =
      let e : i + 1 + length rs ≡ i + suc (length rs) = omega arith in
      rw (turn_passed r i h) (rows_passed rs rest (i + 1) hs ∙ rw e)

-- ---- the rows of a field

field_passed : (depth code builtin z : ℕ) → Passed depth (Field code builtin z)
unfolding as_parts encode
field_passed depth code builtin z = record { no_open = omega arith; no_close = omega arith; no_decl = λ h. omega arith }

inner_passed : (depth : ℕ) → (depth ≡ 1 → ⊥) → (rs : List Row) → All Inner rs → All (Passed depth) rs
inner_passed depth d [] h = done
inner_passed depth d (r ∷ rs) (h ⊕ hs) = record { no_open = h.no_open; no_close = h.no_close; no_decl = λ e. absurd (d e) } ⊕ inner_passed depth d rs hs

head_passed : (depth : ℕ) → (depth ≡ 1 → ⊥) → (h : Head) → All (Passed depth) (head_rows h)
unfolding head_rows behind_field
head_passed depth d h = field_passed depth h.code h.builtin h.z ⊕ inner_passed depth d (behind_field h) (inner_behind h)

-- those behind its DECLs, in whatever scope
module _ (depth : ℕ) where
  passed : (r : Row) → (code_in r ≡ 7 → ⊥) → (code_in r ≡ 8 → ⊥) → (code_in r ≡ 2 → ⊥) → Passed depth r
  passed r f g h = record { no_open = f; no_close = g; no_decl = λ e. h }

  paths_passed : (ps : List ℕ) → All (Passed depth) (path_rows ps)
  unfolding path_rows as_parts encode
  paths_passed [] = done
  paths_passed (p ∷ ps) = passed (Path p) (omega arith) (omega arith) (omega arith) ⊕ paths_passed ps

  operand_passed : (o : Operand) → All (Passed depth) (operand_row o)
  unfolding operand_row as_parts encode
  operand_passed (ref space at paths z) = passed (Ref space at (length paths) z) (omega arith) (omega arith) (omega arith) ⊕ paths_passed paths
  operand_passed (outer space up at z) = passed (Outer space up at z) (omega arith) (omega arith) (omega arith) ⊕ done
  operand_passed (case name z) = passed (Case name z) (omega arith) (omega arith) (omega arith) ⊕ done

  operands_passed : (os : List Operand) → All (Passed depth) (operand_rows os)
  unfolding operand_rows
  operands_passed [] = done
  operands_passed (o ∷ os) = all_append (operand_row o) (operand_rows os) (operand_passed o) (operands_passed os)

  export_passed : (x : Option ℕ) → All (Passed depth) (export_rows x)
  unfolding export_rows as_parts encode
  export_passed none = done
  export_passed (some n) = passed (Export n) (omega arith) (omega arith) (omega arith) ⊕ done

-- ---- scopes inside fields are passed

module _ (names : List Slot) (counts : List (List ℕ)) (used : ℕ) where
  opens : (depth kind name i : ℕ) → turn_t (as_parts (Open kind name)) i names counts (cursor depth used) ≡ (cursor (depth + 1) used & names & counts)
  unfolding turn_t root_behind_t depth_t pick as_parts encode
  opens depth kind name i = rw (row_passed names counts depth used (Open kind name) i (λ h. omega arith) (eqb depth 1) false refl refl)

  closes : (depth i : ℕ) → turn_t (as_parts Close) i names counts (cursor (depth + 1) used) ≡ (cursor depth used & names & counts)
  unfolding turn_t root_behind_t depth_t pick as_parts encode
  closes depth i =
      let e : depth + 1 - 1 ≡ depth = omega arith in
      rw (row_passed names counts (depth + 1) used Close i (λ h. omega arith) (eqb (depth + 1) 1) false refl refl, e)

  -- from row i to row k nothing is entered, where this many scopes are open
  abbrev Skips : (depth i k : ℕ) (rs : List Row) → Type 0
  Skips depth i k rs = (rest : List Row) → root_rows_t i names counts (cursor depth used) (all_parts (rs ++ rest)) ≡ root_rows_t k names counts (cursor depth used) (all_parts rest)

  skips_then : (depth i : ℕ) (xs ys : List Row) → Skips depth i (i + length xs) xs → Skips depth (i + length xs) (i + length xs + length ys) ys → Skips depth i (i + length (xs ++ ys)) (xs ++ ys)
  skips_then depth i xs ys f g rest =
      let e : i + length xs + length ys ≡ i + length (xs ++ ys) = omega (arith, length-append xs ys) in
      rw (append_assoc xs ys rest) (f (ys ++ rest) ∙ (g rest ∙ rw e))

  scope_skips : (depth kind name i : ℕ) (fs : Fields) → Skips (depth + 1) (i + 1) (i + 1 + length (fields_rows fs)) (fields_rows fs) → Skips depth i (i + length (flatten (scope kind name fs))) (flatten (scope kind name fs))
  unfolding flatten root_rows_t all_parts then_t
  scope_skips depth kind name i fs inside rest =
      let e : i + 1 + length (fields_rows fs) + 1 ≡ i + suc (length (fields_rows fs ++ (Close ∷ []))) = omega (arith, length-append (fields_rows fs) (Close ∷ [])) in
      rw (opens depth kind name i, append_assoc (fields_rows fs) (Close ∷ []) rest)
      (inside (Close ∷ rest) ∙ rw (closes depth (i + 1 + length (fields_rows fs)), e))

  mutual
    unfolding flatten

    skip_scope : (s : Scope) (depth i : ℕ) → (depth ≡ 0 → ⊥) → Skips depth i (i + length (flatten s)) (flatten s)
    skip_scope (scope kind name fs) depth i h rest = scope_skips depth kind name i fs (λ more. skip_fields fs (depth + 1) (i + 1) (omega arith) more) rest

    skip_fields : (fs : Fields) (depth i : ℕ) → 2 ≤ depth → Skips depth i (i + length (fields_rows fs)) (fields_rows fs)
    skip_fields end depth i h rest = let e : i + 0 ≡ i = omega arith in rw e
    skip_fields (f ▸ fs) depth i h rest = skips_then depth i (item_rows f) (fields_rows fs) (λ more. skip_item f depth i h more) (λ more. skip_fields fs depth (i + length (item_rows f)) h more) rest

    skip_item : (f : Item) (depth i : ℕ) → 2 ≤ depth → Skips depth i (i + length (item_rows f)) (item_rows f)
    skip_item (plain h) depth i g rest = rows_passed names counts depth used (head_rows h) rest i (head_passed depth (omega arith) h)
    skip_item (holds h s) depth i g rest =
        skips_then depth i (head_rows h) (flatten s) (λ more. rows_passed names counts depth used (head_rows h) more i (head_passed depth (omega arith) h)) (λ more. skip_scope s depth (i + length (head_rows h)) (omega arith) more) rest

-- ---- the DECLs of the root are entered

-- the table and the counts where these are entered
pub record Tab (room : ℕ) (es : List Entry) (names : List Slot) (counts : List (List ℕ)) (used : ℕ) : Type 0 where
  pub size : length names ≡ room
  pub next : used ≡ length es
  pub stands : Stands [] (between 0 used names) (decls_in es)
  pub rows : map row_of (between 0 used names) ≡ entry_rows es
  pub one : length counts ≡ 1
  pub width : length (counts_at counts 0) ≡ 13
  pub counted : (s : ℕ) → s < 13 → get_or (counts_at counts 0) s 0 ≡ count s (decls_in es)

map_snoc : {A B : Type 0} (f : A → B) (xs : List A) (x : A) → map f (xs ++ (x ∷ [])) ≡ map f xs ++ (f x ∷ [])
map_snoc f [] x = refl
map_snoc f (y ∷ ys) x = ap (λ l. f y ∷ l) (map_snoc f ys x)

not_same : (a b : ℕ) → eqb a b ≡ false → b ≡ a → ⊥
not_same a b f e = let t : eqb a b ≡ true = rw e (eqb_same a) in false_not (sym f ∙ t)

module _ (room : ℕ) (narrow : room < 65536) (es : List Entry) (names : List Slot) (counts : List (List ℕ)) (used : ℕ) (tab : Tab room es names counts used) (d : Declaration) (legal : d.space < 13) (some-room : used < room) (i : ℕ) (low : i < 4294967296) where
  abbrev c : List ℕ
  c = counts_at counts 0

  abbrev n : ℕ
  n = count d.space (decls_in es)

  abbrev e : Entry
  e = record { decl = d; row = i }

  abbrev slot : Slot
  slot = slot_of d.space d.name n i 0 0

  abbrev counts' : List (List ℕ)
  counts' = set counts 0 (set c d.space (n + 1))

  few : n ≤ used
  few = let l = count_le d.space (decls_in es) in let m = length-map es (λ (x : Entry). x.decl) in omega (arith, tab.next)

  numbers : count_before_t counts 1 (as_parts (Decl d.space d.name d.z)) ≡ (n & counts')
  unfolding count_before_t bump_count_t more_count_t pick as_parts encode
  numbers =
      let f = few in
      let m : n % 65536 ≡ n = omega arith in
      rw (tab.one, lt-leb 13 d.space legal, tab.counted d.space legal, m)

  enters : root_row_t (as_parts (Decl d.space d.name d.z)) i 1 used names counts ≡ (used + 1 & set names used slot & counts')
  unfolding root_row_t pick numbered_t beside_t as_parts encode
  enters =
      let m : i % 4294967296 ≡ i = omega arith in
      rw (numbers, m, pushed_room names used slot (omega (arith, tab.size)))

  counted_next : (s : ℕ) → s < 13 → get_or (set c d.space (n + 1)) s 0 ≡ count s (decls_in es ++ (d ∷ []))
  counted_next s h = go (eqb d.space s) refl
    where
      go : (t : Bool) → eqb d.space s ≡ t → get_or (set c d.space (n + 1)) s 0 ≡ count s (decls_in es ++ (d ∷ []))
      go true q =
          let same = eqb-true d.space s q in
          rw (← same) (get_or-set_same c d.space (n + 1) 0 (omega (arith, tab.width)) ∙ (add-one n ∙ sym (count_same d.space (decls_in es) d (eqb_same d.space))))
      go false q = get_or-set_other c d.space s (n + 1) 0 (not_same d.space s q) ∙ tab.counted s h ∙ sym (count_other s (decls_in es) d q)

  turn_enters : turn_t (as_parts (Decl d.space d.name d.z)) i names counts (cursor 1 used) ≡ (cursor 1 (used + 1) & set names used slot & counts')
  unfolding turn_t root_behind_t depth_t pick as_parts encode
  turn_enters = rw enters

  tab_next : Tab room (es ++ (e ∷ [])) (set names used slot) counts' (used + 1)
  tab_next =
      let k : get_or counts' 0 no_counts ≡ set c d.space (n + 1) = get_or-set_same counts 0 (set c d.space (n + 1)) no_counts (omega (arith, tab.one)) in
      let g : used < length names = omega (arith, tab.size) in
      record {
        size = length-set names used slot ∙ tab.size;
        next = omega (arith, tab.next, length_snoc es e);
        stands = rw (decls_append es (e ∷ [])) (stands_push names used slot 0 (decls_in es) d (omega arith) g (record { space = refl; name = refl; number = refl }) tab.stands);
        rows = rw (between_push names used slot 0 (omega arith) g, map_snoc row_of (between 0 used names) slot, map_snoc (λ (x : Entry). x.row) es e, tab.rows);
        one = length-set counts 0 _ ∙ tab.one;
        width = rw k (length-set c d.space (n + 1) ∙ tab.width);
        counted = λ s h. rw (k, decls_append es (e ∷ [])) (counted_next s h);
      }

-- what the rows leave of the table, from row i to row k
pub record Enters (room : ℕ) (es : List Entry) (names : List Slot) (counts : List (List ℕ)) (used i k : ℕ) (rs rest : List Row) : Type 0 where
  pub names' : List Slot
  pub counts' : List (List ℕ)
  pub used' : ℕ
  pub goes : root_rows_t i names counts (cursor 1 used) (all_parts (rs ++ rest)) ≡ root_rows_t k names' counts' (cursor 1 used') (all_parts rest)
  pub tab : Tab room es names' counts' used'

entered_length : (row : ℕ) (ds : List Declaration) → length (entered row ds) ≡ length ds
unfolding entered
entered_length row [] = refl
entered_length row (d ∷ ds) = ap suc (entered_length (suc row) ds)

module _ (room : ℕ) (narrow : room < 65536) where
  -- nothing is entered
  enters_none : (es : List Entry) (names : List Slot) (counts : List (List ℕ)) (used i : ℕ) (rs rest : List Row) → Tab room es names counts used → Skips names counts used 1 i (i + length rs) rs → Enters room es names counts used i (i + length rs) rs rest
  enters_none es names counts used i rs rest tab f = record { names' = names; counts' = counts; used' = used; goes = f rest; tab = tab }

  -- some rows, and then others
  enters_then : (es es' : List Entry) (names : List Slot) (counts : List (List ℕ)) (used i : ℕ) (xs ys rest : List Row) (first : Enters room es names counts used i (i + length xs) xs (ys ++ rest))
      → Enters room es' first.names' first.counts' first.used' (i + length xs) (i + length xs + length ys) ys rest → Enters room es' names counts used i (i + length (xs ++ ys)) (xs ++ ys) rest
  enters_then es es' names counts used i xs ys rest first then =
      let e : i + length xs + length ys ≡ i + length (xs ++ ys) = omega (arith, length-append xs ys) in
      record { names' = then.names'; counts' = then.counts'; used' = then.used'; goes = rw (append_assoc xs ys rest) (first.goes ∙ (then.goes ∙ rw e)); tab = then.tab }

  -- DECLs, the first of them in row i
  enter_decls : (ds : List Declaration) (es : List Entry) (names : List Slot) (counts : List (List ℕ)) (used i : ℕ) (rest : List Row) → SpacesDecls ds → Tab room es names counts used → used + length ds ≤ room → i + length ds < 4294967296
      → Enters room (es ++ entered i ds) names counts used i (i + length (decl_rows ds)) (decl_rows ds) rest
  unfolding entered decl_rows all_parts root_rows_t then_t
  enter_decls [] es names counts used i rest s tab r l =
      let e : i + 0 ≡ i = omega arith in
      record { names' = names; counts' = counts; used' = used; goes = rw e; tab = rw (append-nil es) tab }
  enter_decls (d ∷ ds) es names counts used i rest (s, ss) tab r l =
      let slot = slot_of d.space d.name (count d.space (decls_in es)) i 0 0 in
      let t = tab_next room narrow es names counts used tab d s (omega arith) i (omega arith) in
      let more = enter_decls ds (es ++ (record { decl = d; row = i } ∷ [])) (set names used slot) (counts' room narrow es names counts used tab d s (omega arith) i (omega arith)) (used + 1) (i + 1) rest ss t (omega arith) (omega arith) in
      let e : i + 1 + length (decl_rows ds) ≡ i + suc (length (decl_rows ds)) = omega arith in
      let q : es ++ (record { decl = d; row = i } ∷ entered (suc i) ds) ≡ (es ++ (record { decl = d; row = i } ∷ [])) ++ entered (i + 1) ds = rw (add-one i) (sym (append_assoc es (record { decl = d; row = i } ∷ []) (entered (suc i) ds))) in
      record {
        names' = more.names';
        counts' = more.counts';
        used' = more.used';
        goes = rw (turn_enters room narrow es names counts used tab d s (omega arith) i (omega arith)) (more.goes ∙ rw e);
        tab = rw q more.tab;
      }

  -- a field without the scope that it may hold
  enter_head : (h : Head) (es : List Entry) (names : List Slot) (counts : List (List ℕ)) (used i : ℕ) (rest : List Row) → SpacesDecls h.decls → Tab room es names counts used → used + length h.decls ≤ room → i + length (head_rows h) < 4294967296
      → Enters room (es ++ entered (suc i) h.decls) names counts used i (i + length (head_rows h)) (head_rows h) rest
  unfolding head_rows enters_none
  enter_head h es names counts used i rest s tab r l =
      let field = Field h.code h.builtin h.z in
      let tail = operand_rows h.operands ++ export_rows h.export in
      let n = length-append (decl_rows h.decls) tail in
      let m = decls_size h.decls in
      let passed-tail = all_append (operand_rows h.operands) (export_rows h.export) (operands_passed 1 h.operands) (export_passed 1 h.export) in
      let first = enters_none es names counts used i (field ∷ []) ((decl_rows h.decls ++ tail) ++ rest) tab (λ more. rows_passed names counts 1 used (field ∷ []) more i (field_passed 1 h.code h.builtin h.z ⊕ done)) in
      let second = enter_decls h.decls es names counts used (i + 1) (tail ++ rest) s tab r (omega arith) in
      let third = enters_none (es ++ entered (i + 1) h.decls) second.names' second.counts' second.used' (i + 1 + length (decl_rows h.decls)) tail rest second.tab (λ more. rows_passed second.names' second.counts' 1 second.used' tail more (i + 1 + length (decl_rows h.decls)) passed-tail) in
      let E : Enters room (es ++ entered (i + 1) h.decls) names counts used i (i + length (head_rows h)) (head_rows h) rest =
      enters_then es (es ++ entered (i + 1) h.decls) names counts used i (field ∷ []) (decl_rows h.decls ++ tail) rest first (enters_then (es ++ entered (i + 1) h.decls) (es ++ entered (i + 1) h.decls) names counts used (i + 1) (decl_rows h.decls) tail rest second third) in
      rw (add-one i) at E

  enter_item : (f : Item) (es : List Entry) (names : List Slot) (counts : List (List ℕ)) (used i : ℕ) (rest : List Row) → SpacesDecls (head_of f).decls → Tab room es names counts used → used + length (head_of f).decls ≤ room → i + length (item_rows f) < 4294967296
      → Enters room (es ++ entered (suc i) (head_of f).decls) names counts used i (i + length (item_rows f)) (item_rows f) rest
  unfolding flatten head_of
  enter_item (plain h) es names counts used i rest s tab r l = enter_head h es names counts used i rest s tab r l
  enter_item (holds h t) es names counts used i rest s tab r l =
      let n = length-append (head_rows h) (flatten t) in
      let first = enter_head h es names counts used i (flatten t ++ rest) s tab r (omega arith) in
      enters_then (es ++ entered (suc i) h.decls) (es ++ entered (suc i) h.decls) names counts used i (head_rows h) (flatten t) rest first
      (enters_none (es ++ entered (suc i) h.decls) first.names' first.counts' first.used' (i + length (head_rows h)) (flatten t) rest first.tab (λ more. skip_scope first.names' first.counts' first.used' t 1 (i + length (head_rows h)) (omega arith) more))

  abbrev FieldsEnter : Fields → Type 0
  FieldsEnter fs =
      (es : List Entry) (names : List Slot) (counts : List (List ℕ)) (used i : ℕ) (rest : List Row) → Spaces fs → Tab room es names counts used → used + length (declarations fs) ≤ room → i + length (fields_rows fs) < 4294967296
      → Enters room (es ++ entered_fields i fs) names counts used i (i + length (fields_rows fs)) (fields_rows fs) rest

  -- one field, and then those behind it
  field_enters : (f : Item) (fs : Fields) → FieldsEnter fs → FieldsEnter (f ▸ fs)
  unfolding flatten entered_fields declarations
  field_enters f fs behind es names counts used i rest s tab r l =
      let n = length-append (item_rows f) (fields_rows fs) in
      let m = length-append (head_of f).decls (declarations fs) in
      go (enter_item f es names counts used i (fields_rows fs ++ rest) s.0.decls tab (omega arith) (omega arith))
    where
      go : Enters room (es ++ entered (suc i) (head_of f).decls) names counts used i (i + length (item_rows f)) (item_rows f) (fields_rows fs ++ rest)
          → Enters room (es ++ (entered (suc i) (head_of f).decls ++ entered_fields (i + length (item_rows f)) fs)) names counts used i (i + length (item_rows f ++ fields_rows fs)) (item_rows f ++ fields_rows fs) rest
      go first =
          let n = length-append (item_rows f) (fields_rows fs) in
          let m = length-append (head_of f).decls (declarations fs) in
          let k = length-append es (entered (suc i) (head_of f).decls) in
          let o = entered_length (suc i) (head_of f).decls in
          rw (← append_assoc es (entered (suc i) (head_of f).decls) (entered_fields (i + length (item_rows f)) fs))
          (enters_then (es ++ entered (suc i) (head_of f).decls) ((es ++ entered (suc i) (head_of f).decls) ++ entered_fields (i + length (item_rows f)) fs) names counts used i (item_rows f) (fields_rows fs) rest first
          (behind (es ++ entered (suc i) (head_of f).decls) first.names' first.counts' first.used' (i + length (item_rows f)) rest s.1 first.tab (omega (arith, first.tab.next, tab.next)) (omega arith)))

  none_enters : FieldsEnter end
  unfolding flatten entered_fields declarations
  none_enters es names counts used i rest s tab r l =
      let e : i + 0 ≡ i = omega arith in
      record { names' = names; counts' = counts; used' = used; goes = rw e; tab = rw (append-nil es) tab }

  enter_fields : (fs : Fields) → FieldsEnter fs
  enter_fields end es names counts used i rest s tab r l = none_enters es names counts used i rest s tab r l
  enter_fields (f ▸ fs) es names counts used i rest s tab r l = field_enters f fs (enter_fields fs) es names counts used i rest s tab r l

-- ---- the root

fields_decls : (row : ℕ) (fs : Fields) → decls_in (entered_fields row fs) ≡ declarations fs
unfolding entered_fields declarations
fields_decls row end = refl
fields_decls row (i ▸ fs) =
    decls_append (entered (suc row) (head_of i).decls) (entered_fields (row + length (item_rows i)) fs)
    ∙ rw (entered_decls (suc row) (head_of i).decls, fields_decls (row + length (item_rows i)) fs)

-- all that a root declares stands before what lies inside it
pub root_come : (t : Scope) → (root_of t).before ≡ table_of (root_of t)
unfolding root_of
root_come (scope kind name fs) = sym (fields_decls 1 fs)

start : (names : List Slot) → Stands [] (between 0 0 names) []
unfolding between Stands
start names = tt

start_rows : (names : List Slot) → map row_of (between 0 0 names) ≡ []
unfolding between
start_rows names = refl

start_counts : (s : ℕ) → s < 13 → get_or no_counts s 0 ≡ count s []
unfolding count
start_counts s h = copies_at 13 s 0

-- the table where the declarations of a root are entered, and no others
pub record Around (t : Scope) (names : List Slot) (o : Out ℕ (List Slot)) : Type 0 where
  pub names' : List Slot
  pub used : ℕ
  pub is : o ≡ (used & names')
  pub count_is : used ≡ length (root_of t).entries
  pub size : length names' ≡ length names
  pub stands : Stands [] (between 0 used names') (table_of (root_of t))
  pub rows : map row_of (between 0 used names') ≡ entry_rows (root_of t).entries

all_entered : (kind name : ℕ) (fs : Fields) (names : List Slot) → Enters (length names) (entered_fields 1 fs) names (no_counts ∷ []) 0 1 (1 + length (fields_rows fs)) (fields_rows fs) (Close ∷ [])
    → Around (scope kind name fs) names (root_t names (all_parts (flatten (scope kind name fs))))
unfolding root_t root_of flatten root_rows_t all_parts then_t
all_entered kind name fs names E =
    record {
      names' = E.names';
      used = E.used';
      is = rw (opens names (no_counts ∷ []) 0 0 kind name 0) (E.goes ∙ rw (closes E.names' E.counts' E.used' 0 (1 + length (fields_rows fs))));
      count_is = E.tab.next;
      size = E.tab.size;
      stands = E.tab.stands;
      rows = E.tab.rows;
    }

pub root_entered : (t : Scope) (names : List Slot) → Spaces (fields_of t) → length names < 65536 → length (root_of t).entries ≤ length names → length (flatten t) < 4294967295
    → Around t names (root_t names (all_parts (flatten t)))
unfolding root_of flatten
root_entered (scope kind name fs) names s narrow room short =
    let n = length-append (fields_rows fs) (Close ∷ []) in
    let none : Tab (length names) [] names (no_counts ∷ []) 0 =
    record { size = refl; next = refl; stands = start names; rows = start_rows names; one = refl; width = refl; counted = start_counts } in
    let d : length (declarations fs) ≡ length (entered_fields 1 fs) = sym (ap length (fields_decls 1 fs)) ∙ length-map (entered_fields 1 fs) (λ (x : Entry). x.decl) in
    all_entered kind name fs names (enter_fields (length names) narrow fs [] names (no_counts ∷ []) 0 1 (Close ∷ []) s none (omega arith) (omega arith))
