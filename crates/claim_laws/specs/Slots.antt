-- What is entered for a claim: by its tree.
use Rattle.std.specs.Prelude.{◌≡◌, Bool, true, false, ℕ, suc, ◌+◌, ◌<◌, ◌≤◌, eqb, leb, ltb, get_or}
use Rattle.std.proofs.Math.Path.{refl}
use Rattle.std.proofs.Common.{sym, ap, ap₂, ◌∙◌, add-one}
use Rattle.std.proofs.Math.Option.{Option, none, some}
use mathlib.Core.List.{List, [], ◌∷◌, ◌++◌, append_assoc, append-nil}
use native.Mathlib.Omega.{arith}
use Rattle.std.proofs.Math.Nat.{le-max_left, le-max_right}
use Rattle.std.proofs.Math.ListN.{length, length-append}
use borrow.Author.Tests.{lt-ltb, lt-leb, ne_eqb}
use Rattle.kit.specs.Pick.{pick}
use Rattle.parts.specs.declared.Parts.{Parts}
use Rattle.names.specs.Table.{Slot}
use Rattle.rules.specs.Versions.{RuleSet}
use Rattle.rules.specs.Rows.{Row, Field, Decl, Ref, Path, Outer, Case, Open, Close, Export, encode}
use Rattle.rules.specs.Tree.{Declaration, Operand, ref, outer, case, Head, Scope, scope, Fields, end, ◌▸◌, Item, plain, holds, head_of, decl_rows, path_rows, operand_row, operand_rows, export_rows, head_rows, flatten, fields_rows, item_rows}
use Rattle.rules.specs.Good.{GoodHead, GoodScope, GoodFields, GoodItem, height, heights, height_item}
use Rattle.rules.specs.Readings.{is_inserted}
use Rattle.rules.specs.Laws.ToolLaws.{All, done, ◌&◌, all_append}
use Rattle.agree.specs.Fit.Spaces.{SpacesDecls}
use Rattle.agree.specs.Fit.GoodSpaces.{head_decls}
use Rattle.checking.proofs.Laws.AddedFields.{AddedScope}
use Rattle.claim_rows.specs.Added.{is_added_t}
use Rattle.claim_scopes.specs.Open.{open_scope_t, here_t, open_one_t}
use Rattle.claim_scopes.specs.Entries.{enter_t}
use Rattle.claim_numbers.specs.Count.{no_counts, more_count_t, number_in, more_in, less_in, number_before_t, counts_t}
use Rattle.claim_numbers.specs.Enter.{decl_slot, decl_entry_t, entries_t}
use Rattle.claim_laws.specs.RowParts.{as_parts, all_parts, code_in}
use Rattle.claim_laws.specs.Marks.{Mark, mark, marks_t, row_marks, scope_marks, fields_marks, item_marks, scope_marks_lem}

-- ---- the declarations of a scope, each with its field and its row

pub record Declared : Type 0 where
  pub head : Head
  pub row : ℕ
  pub decl : Declaration

abbrev pub from_head : Head → (row : ℕ) → List Declaration → List Declared
from_head h row [] = []
from_head h row (d ∷ ds) = record { head = h; row = row; decl = d } ∷ from_head h (suc row) ds

abbrev pub head_declared : (n : ℕ) → Head → List Declared
head_declared n h = from_head h (suc n) h.decls

-- the first field is row n
unfoldable pub declared_in : (n : ℕ) → Fields → List Declared
declared_in n end = []
declared_in n (i ▸ fs) = head_declared n (head_of i) ++ declared_in (n + length (item_rows i)) fs

-- ---- their slots, in the scope whose OPEN is row k; `c`: how many of each space stand before

unfoldable pub counts_by : (c : List ℕ) → List Declared → List ℕ
counts_by c [] = c
counts_by c (x ∷ xs) = counts_by (more_count_t c x.decl.space) xs

abbrev pub decl_parts : Declaration → Parts
decl_parts d = as_parts (Decl d.space d.name d.z)

unfoldable pub slot_of : (k : ℕ) (c : List ℕ) → Declared → Slot
slot_of k c x = decl_slot (is_inserted x.head) k (decl_parts x.decl) (get_or c x.decl.space 0) x.row

unfoldable pub slots_of : (k : ℕ) (c : List ℕ) → List Declared → List Slot
slots_of k c [] = []
slots_of k c (x ∷ xs) = slot_of k c x ∷ slots_of k (more_count_t c x.decl.space) xs

pub counts_append : (c : List ℕ) (xs ys : List Declared) → counts_by c (xs ++ ys) ≡ counts_by (counts_by c xs) ys
unfolding counts_by
counts_append c [] ys = refl
counts_append c (x ∷ xs) ys = counts_append (more_count_t c x.decl.space) xs ys

pub slots_append : (k : ℕ) (c : List ℕ) (xs ys : List Declared) → slots_of k c (xs ++ ys) ≡ slots_of k c xs ++ slots_of k (counts_by c xs) ys
unfolding slots_of counts_by
slots_append k c [] ys = refl
slots_append k c (x ∷ xs) ys = ap (λ (l : List Slot). slot_of k c x ∷ l) (slots_append k (more_count_t c x.decl.space) xs ys)

-- of all scopes, in the order of the rows; row n is the scope's OPEN, the first field, or what follows the item's head
unfoldable mutual
  pub scope_slots : (n : ℕ) → Scope → List Slot
  scope_slots n (scope kind name fs) = fields_slots n (suc n) no_counts fs

  pub fields_slots : (k n : ℕ) (c : List ℕ) → Fields → List Slot
  fields_slots k n c end = []
  fields_slots k n c (i ▸ fs) =
      slots_of k c (head_declared n (head_of i))
      ++ (item_slots (n + length (head_rows (head_of i))) i ++ fields_slots k (n + length (item_rows i)) (counts_by c (head_declared n (head_of i))) fs)

  pub item_slots : (n : ℕ) → Item → List Slot
  item_slots n (plain h) = []
  item_slots n (holds h s) = scope_slots n s

-- ---- how many they are

slots_length : (k : ℕ) (c : List ℕ) (h : Head) (n : ℕ) (ds : List Declaration) → length (slots_of k c (from_head h n ds)) ≡ length ds
unfolding slots_of
slots_length k c h n [] = refl
slots_length k c h n (d ∷ ds) = ap suc (slots_length k (more_count_t c d.space) h (suc n) ds)

pub fields_length : (k n : ℕ) (c : List ℕ) (i : Item) (fs : Fields) → length (fields_slots k n c (i ▸ fs)) ≡ length (head_of i).decls + length (item_slots (n + length (head_rows (head_of i))) i) + length (fields_slots k (n + length (item_rows i)) (counts_by c (head_declared n (head_of i))) fs)
unfolding scope_slots
fields_length k n c i fs =
    let own = slots_of k c (head_declared n (head_of i)) in
    let inner = item_slots (n + length (head_rows (head_of i))) i in
    let rest = fields_slots k (n + length (item_rows i)) (counts_by c (head_declared n (head_of i))) fs in
    omega (arith, length-append own (inner ++ rest), length-append inner rest, slots_length k c (head_of i) (suc n) (head_of i).decls)

-- ---- row by row

-- a row that is no DECL and opens and closes nothing
record Still (r : Row) : Type 0 where
  no_decl : code_in r ≡ 2 → ⊥
  no_open : code_in r ≡ 7 → ⊥
  no_close : code_in r ≡ 8 → ⊥

still : (r : Row) → (code_in r ≡ 2 → ⊥) → (code_in r ≡ 7 → ⊥) → (code_in r ≡ 8 → ⊥) → Still r
still r f g h = record { no_decl = f; no_open = g; no_close = h }

still_paths : (ps : List ℕ) → All Still (path_rows ps)
unfolding path_rows as_parts encode
still_paths [] = done
still_paths (p ∷ ps) = still (Path p) (omega arith) (omega arith) (omega arith) & still_paths ps

still_operand : (o : Operand) → All Still (operand_row o)
unfolding operand_row as_parts encode
still_operand (ref space at paths z) = still (Ref space at (length paths) z) (omega arith) (omega arith) (omega arith) & still_paths paths
still_operand (outer space up at z) = still (Outer space up at z) (omega arith) (omega arith) (omega arith) & done
still_operand (case name z) = still (Case name z) (omega arith) (omega arith) (omega arith) & done

still_operands : (os : List Operand) → All Still (operand_rows os)
unfolding operand_rows
still_operands [] = done
still_operands (o ∷ os) = all_append (operand_row o) (operand_rows os) (still_operand o) (still_operands os)

still_export : (x : Option ℕ) → All Still (export_rows x)
unfolding export_rows as_parts encode
still_export none = done
still_export (some n) = still (Export n) (omega arith) (omega arith) (omega arith) & done

still_field : (code builtin z : ℕ) → Still (Field code builtin z)
unfolding as_parts encode
still_field code builtin z = still (Field code builtin z) (omega arith) (omega arith) (omega arith)

pub marks_append : (a : Bool) (st : List (List ℕ)) (n : ℕ) (xs ys : List Row) → row_marks a st n (xs ++ ys) ≡ row_marks a st n xs ++ row_marks a st (n + length xs) ys
unfolding row_marks
marks_append a st n [] ys = let e : n + 0 ≡ n = omega arith in rw e
marks_append a st n (x ∷ xs) ys = let e : suc n + length xs ≡ n + suc (length xs) = omega arith in ap (λ (l : List Mark). mark a st n (as_parts x) ∷ l) (marks_append a st (suc n) xs ys ∙ rw e)

module _ (room : ℕ) where
  unfoldable entries : (cs : List (List ℕ)) (ss : List Slot) → List Mark → List Slot
  entries cs ss [] = ss
  entries cs ss (m ∷ ms) = entries (counts_t 64 cs m.parts) (decl_entry_t room m.added ss (here_t m.st) m.parts (number_before_t cs m.parts) m.row) ms

  entries_marks : (i : ℕ) (a : Bool) (st cs : List (List ℕ)) (ss : List Slot) (ps : List Parts) → entries_t room i a st cs ss ps ≡ entries cs ss (marks_t i a st ps)
  unfolding entries_t entries marks_t
  entries_marks i a st cs ss [] = refl
  entries_marks i a st cs ss (p ∷ ps) =
      let b = is_added_t a p.code ps in
      entries_marks (i + 1) b (open_one_t 64 st p i) (counts_t 64 cs p) (decl_entry_t room b ss (here_t st) p (number_before_t cs p) i) ps

  still_row : (cs : List (List ℕ)) (ss : List Slot) (a : Bool) (st : List (List ℕ)) (n : ℕ) (r : Row) (ms : List Mark) → Still r → entries cs ss (mark a st n (as_parts r) ∷ ms) ≡ entries cs ss ms
  unfolding entries counts_t decl_entry_t pick
  still_row cs ss a st n r ms i = rw (ne_eqb (code_in r) 7 i.no_open, ne_eqb (code_in r) 8 i.no_close, ne_eqb (code_in r) 2 i.no_decl)

  still_rows : (xs : List Row) (cs : List (List ℕ)) (ss : List Slot) (a : Bool) (st : List (List ℕ)) (n : ℕ) (ms : List Mark) → All Still xs → entries cs ss (row_marks a st n xs ++ ms) ≡ entries cs ss ms
  unfolding row_marks
  still_rows [] cs ss a st n ms done = refl
  still_rows (r ∷ xs) cs ss a st n ms (i & p) = still_row cs ss a st n r _ i ∙ still_rows xs cs ss a st (suc n) ms p

  -- a DECL
  decl_row_lem : (c : List ℕ) (cs : List (List ℕ)) (ss : List Slot) (st : List (List ℕ)) (x : Declared) (ms : List Mark) → x.decl.space < 13 → length ss < room
      → entries (c ∷ cs) ss (mark (is_inserted x.head) st x.row (decl_parts x.decl) ∷ ms) ≡ entries (more_count_t c x.decl.space ∷ cs) (ss ++ (slot_of (here_t st) c x ∷ [])) ms
  unfolding entries counts_t decl_entry_t number_before_t number_in more_in enter_t slot_of as_parts encode pick
  decl_row_lem c cs ss st x ms l r = rw (lt-leb _ _ l, lt-ltb _ _ r)

  decl_rows_lem : (h : Head) (c : List ℕ) (cs : List (List ℕ)) (ss : List Slot) (st : List (List ℕ)) (n : ℕ) (ds : List Declaration) (ms : List Mark) → SpacesDecls ds → length ss + length ds ≤ room
      → entries (c ∷ cs) ss (row_marks (is_inserted h) st n (decl_rows ds) ++ ms) ≡ entries (counts_by c (from_head h n ds) ∷ cs) (ss ++ slots_of (here_t st) c (from_head h n ds)) ms
  unfolding row_marks decl_rows counts_by slots_of
  decl_rows_lem h c cs ss st n [] ms s r = rw (append-nil ss)
  decl_rows_lem h c cs ss st n (d ∷ ds) ms s r =
      let x : Declared = record { head = h; row = n; decl = d } in
      let t = slot_of (here_t st) c x in
      decl_row_lem c cs ss st x _ s.0 (omega arith)
      ∙ (decl_rows_lem h (more_count_t c d.space) cs (ss ++ (t ∷ [])) st (suc n) ds ms s.1 (omega (arith, length-append ss (t ∷ []))) ∙ rw (append_assoc ss (t ∷ []) (slots_of (here_t st) (more_count_t c d.space) (from_head h (suc n) ds))))

  -- a field without the scope that it may hold
  head_rows_lem : (h : Head) (c : List ℕ) (cs : List (List ℕ)) (ss : List Slot) (st : List (List ℕ)) (n : ℕ) (ms : List Mark) → SpacesDecls h.decls → length ss + length h.decls ≤ room
      → entries (c ∷ cs) ss (row_marks (is_inserted h) st n (head_rows h) ++ ms) ≡ entries (counts_by c (head_declared n h) ∷ cs) (ss ++ slots_of (here_t st) c (head_declared n h)) ms
  unfolding head_rows row_marks
  head_rows_lem h c cs ss st n ms s r =
      let rest = operand_rows h.operands ++ export_rows h.export in
      still_row (c ∷ cs) ss (is_inserted h) st n (Field h.code h.builtin h.z) _ (still_field h.code h.builtin h.z)
      ∙ rw (marks_append (is_inserted h) st (suc n) (decl_rows h.decls) rest, append_assoc)
      (decl_rows_lem h c cs ss st (suc n) h.decls _ s r
      ∙ still_rows rest _ _ (is_inserted h) st (suc n + length (decl_rows h.decls)) ms (all_append (operand_rows h.operands) (export_rows h.export) (still_operands h.operands) (still_export h.export)))

  -- ---- fields and scopes

  open_row : (cs : List (List ℕ)) (ss : List Slot) (st : List (List ℕ)) (n kind name : ℕ) (ms : List Mark) → length cs < 64 → entries cs ss (mark false st n (as_parts (Open kind name)) ∷ ms) ≡ entries (no_counts ∷ cs) ss ms
  unfolding entries counts_t decl_entry_t as_parts encode pick
  open_row cs ss st n kind name ms l = rw (lt-ltb _ _ l)

  close_row : (c : List ℕ) (cs : List (List ℕ)) (ss : List Slot) (st : List (List ℕ)) (n : ℕ) (ms : List Mark) → entries (c ∷ cs) ss (mark false st n (as_parts Close) ∷ ms) ≡ entries cs ss ms
  unfolding entries counts_t decl_entry_t less_in as_parts encode pick
  close_row c cs ss st n ms = refl

  abbrev ScopeEntered : (cs : List (List ℕ)) (ss : List Slot) (st : List (List ℕ)) (n : ℕ) → Scope → List Mark → Type 0
  ScopeEntered cs ss st n s ms = entries cs ss (scope_marks n st s ++ ms) ≡ entries cs (ss ++ scope_slots n s) ms

  abbrev FieldsEntered : (c : List ℕ) (cs : List (List ℕ)) (ss : List Slot) (st : List (List ℕ)) (n : ℕ) → Fields → List Mark → Type 0
  FieldsEntered c cs ss st n fs ms = entries (c ∷ cs) ss (fields_marks n st fs ++ ms) ≡ entries (counts_by c (declared_in n fs) ∷ cs) (ss ++ fields_slots (here_t st) n c fs) ms

  end_entered : (c : List ℕ) (cs : List (List ℕ)) (ss : List Slot) (st : List (List ℕ)) (n : ℕ) (ms : List Mark) → FieldsEntered c cs ss st n end ms
  unfolding scope_marks declared_in counts_by scope_slots
  end_entered c cs ss st n ms = rw (append-nil ss)

  scope_entered_is : (cs : List (List ℕ)) (ss : List Slot) (st : List (List ℕ)) (n kind name : ℕ) (fs : Fields) (ms : List Mark) → length cs < 64
      → ((ks : List Mark) → FieldsEntered no_counts cs ss (open_scope_t name n ∷ st) (suc n) fs ks) → ScopeEntered cs ss st n (scope kind name fs) ms
  unfolding scope_marks scope_slots here_t
  scope_entered_is cs ss st n kind name fs ms l f =
      rw (append_assoc) (open_row cs ss st n kind name _ l ∙ (f _ ∙ close_row _ cs _ (open_scope_t name n ∷ st) _ ms))

  next_entered : (c : List ℕ) (cs : List (List ℕ)) (ss : List Slot) (st : List (List ℕ)) (n : ℕ) (i : Item) (fs : Fields) (ms : List Mark) → SpacesDecls (head_of i).decls → length ss + length (head_of i).decls ≤ room
      → ((us : List Slot) (es : List (List ℕ)) (ks : List Mark) → us ≡ ss ++ slots_of (here_t st) c (head_declared n (head_of i)) → es ≡ counts_by c (head_declared n (head_of i)) ∷ cs → entries es us (item_marks (n + length (head_rows (head_of i))) st i ++ ks) ≡ entries es (us ++ item_slots (n + length (head_rows (head_of i))) i) ks)
      → ((us : List Slot) → us ≡ (ss ++ slots_of (here_t st) c (head_declared n (head_of i))) ++ item_slots (n + length (head_rows (head_of i))) i → FieldsEntered (counts_by c (head_declared n (head_of i))) cs us st (n + length (item_rows i)) fs ms)
      → FieldsEntered c cs ss st n (i ▸ fs) ms
  unfolding scope_marks declared_in scope_slots
  next_entered c cs ss st n i fs ms s r f g =
      rw (append_assoc (row_marks (is_inserted (head_of i)) st n (head_rows (head_of i))) (item_marks (n + length (head_rows (head_of i))) st i ++ fields_marks (n + length (item_rows i)) st fs) ms, append_assoc (item_marks (n + length (head_rows (head_of i))) st i) (fields_marks (n + length (item_rows i)) st fs) ms)
      (head_rows_lem (head_of i) c cs ss st n _ s r
      ∙ (f _ _ _ refl refl ∙ (g _ refl ∙ rw (counts_append c (head_declared n (head_of i)) (declared_in (n + length (item_rows i)) fs), append_assoc, append_assoc))))

  plain_entered : (cs : List (List ℕ)) (us : List Slot) (st : List (List ℕ)) (n : ℕ) (h : Head) (ks : List Mark) → entries cs us (item_marks n st (plain h) ++ ks) ≡ entries cs (us ++ item_slots n (plain h)) ks
  unfolding scope_marks scope_slots
  plain_entered cs us st n h ks = rw (append-nil us)

  holds_entered : (cs : List (List ℕ)) (us : List Slot) (st : List (List ℕ)) (n : ℕ) (h : Head) (s : Scope) (ks : List Mark) → ScopeEntered cs us st n s ks → entries cs us (item_marks n st (holds h s) ++ ks) ≡ entries cs (us ++ item_slots n (holds h s)) ks
  unfolding scope_marks scope_slots
  holds_entered cs us st n h s ks e = e

  scope_room : (n kind name : ℕ) (fs : Fields) (st : List (List ℕ)) (ss : List Slot) → length ss + length (scope_slots n (scope kind name fs)) ≤ room → length ss + length (fields_slots (here_t (open_scope_t name n ∷ st)) (suc n) no_counts fs) ≤ room
  unfolding scope_slots here_t
  scope_room n kind name fs st ss r = r

  held_room : (n : ℕ) (h : Head) (s : Scope) (m : ℕ) → m + length (item_slots n (holds h s)) ≤ room → m + length (scope_slots n s) ≤ room
  unfolding scope_slots
  held_room n h s m r = r

  scope_deep : (kind name : ℕ) (fs : Fields) (cs : List (List ℕ)) → length cs + height (scope kind name fs) ≤ 64 → (length cs < 64) × (suc (length cs) + heights fs ≤ 64)
  unfolding height
  scope_deep kind name fs cs d = (omega arith, omega arith)

  next_deep : (i : Item) (fs : Fields) (d : ℕ) → d + heights (i ▸ fs) ≤ 64 → (d + height_item i ≤ 64) × (d + heights fs ≤ 64)
  unfolding height
  next_deep i fs d l = let a = le-max_left (height_item i) (heights fs) in let b = le-max_right (height_item i) (heights fs) in (omega arith, omega arith)

  held_deep : (h : Head) (s : Scope) (d : ℕ) → d + height_item (holds h s) ≤ 64 → d + height s ≤ 64
  unfolding height
  held_deep h s d l = l

  module _ (rules : RuleSet) where
    item_decls : (i : Item) (kind : ℕ) → GoodItem rules i kind → SpacesDecls (head_of i).decls
    unfolding head_of
    item_decls (plain h) kind g = head_decls rules kind h g.0
    item_decls (holds h s) kind g = head_decls rules kind h g.0

    mutual
      unfolding head_of

      scope_entered : (s : Scope) (cs : List (List ℕ)) (ss : List Slot) (st : List (List ℕ)) (n : ℕ) (ms : List Mark) → GoodScope rules s → length cs + height s ≤ 64 → length ss + length (scope_slots n s) ≤ room → ScopeEntered cs ss st n s ms
      scope_entered (scope kind name fs) cs ss st n ms g d r =
          let D = scope_deep kind name fs cs d in
          scope_entered_is cs ss st n kind name fs ms D.0 (λ ks. fields_entered fs kind no_counts cs ss (open_scope_t name n) st (suc n) ks g D.1 (scope_room n kind name fs st ss r))

      fields_entered : (fs : Fields) (kind : ℕ) (c : List ℕ) (cs : List (List ℕ)) (ss : List Slot) (s : List ℕ) (st : List (List ℕ)) (n : ℕ) (ms : List Mark) → GoodFields rules fs kind → suc (length cs) + heights fs ≤ 64
          → length ss + length (fields_slots (here_t (s ∷ st)) n c fs) ≤ room → FieldsEntered c cs ss (s ∷ st) n fs ms
      fields_entered end kind c cs ss s st n ms g d r = end_entered c cs ss (s ∷ st) n ms
      fields_entered (i ▸ fs) kind c cs ss s st n ms g d r =
          let k = here_t (s ∷ st) in
          let D = next_deep i fs (suc (length cs)) d in
          let l = fields_length k n c i fs in
          let own = slots_of k c (head_declared n (head_of i)) in
          let o = slots_length k c (head_of i) (suc n) (head_of i).decls in
          let a = length-append ss own in
          let b = length-append (ss ++ own) (item_slots (n + length (head_rows (head_of i))) i) in
          next_entered c cs ss (s ∷ st) n i fs ms (item_decls i kind g.0) (omega arith)
          (λ us es ks u e. item_entered i kind es us (s ∷ st) (n + length (head_rows (head_of i))) ks g.0 (rw e D.0) (rw u (omega arith)))
          (λ us u. fields_entered fs kind (counts_by c (head_declared n (head_of i))) cs us s st (n + length (item_rows i)) ms g.1 D.1 (rw u (omega arith)))

      item_entered : (i : Item) (kind : ℕ) (cs : List (List ℕ)) (us : List Slot) (st : List (List ℕ)) (n : ℕ) (ks : List Mark) → GoodItem rules i kind → length cs + height_item i ≤ 64 → length us + length (item_slots n i) ≤ room
          → entries cs us (item_marks n st i ++ ks) ≡ entries cs (us ++ item_slots n i) ks
      item_entered (plain h) kind cs us st n ks g d r = plain_entered cs us st n h ks
      item_entered (holds h s) kind cs us st n ks g d r = holds_entered cs us st n h s ks (scope_entered s cs us st n ks g.3 (held_deep h s (length cs) d) (held_room n h s (length us) r))

-- What is entered for a claim whose added fields hold no scopes, where there is room.
pub entered_slots : (rules : RuleSet) (room : ℕ) (c : Scope) → GoodScope rules c → AddedScope c → height c ≤ 64 → length (scope_slots 0 c) ≤ room → entries_t room 0 false [] [] [] (all_parts (flatten c)) ≡ scope_slots 0 c
unfolding entries
entered_slots rules room c g a d r =
    entries_marks room 0 false [] [] [] (all_parts (flatten c))
    ∙ (rw (scope_marks_lem c a d)
    (ap (entries room [] []) (sym (append-nil (scope_marks 0 [] c))) ∙ scope_entered room rules c [] [] [] 0 [] g (omega arith) (omega arith)))
