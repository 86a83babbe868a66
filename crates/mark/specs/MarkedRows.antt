-- The marked rows as the code writes them, scope by scope.
use Rattle.std.specs.Prelude.{ℕ, zero, suc, ◌+◌, ◌/◌, ◌%◌, ◌≤◌, Bool, List, [], ◌∷◌, length, ◌==◌, nat_lt, Option, Some, None, is_some}
use Rattle.kit.specs.Pick.{pick}
use Rattle.kit.specs.Out.{Out, ◌&◌}
use Rattle.parts.specs.declared.Parts.{Parts}
use Rattle.parts.specs.PartsAt.{parts_at}
use Rattle.rows.specs.declared.row.Index.TheVariants.{Name}
use Rattle.rows.specs.declared.row.Row.TheVariants.{Ref}
use Rattle.put.specs.Put.{put_row, copy_row}
use Rattle.names.specs.Table.{Slot, between, pushed, find_in}
use Rattle.index.specs.Indexed.{Holds}
use Rattle.mark.specs.declared.Marking.{Marking}
use Rattle.mark.specs.Visits.{place_at, Visit, visits_t}

-- the index serves the table, and the names that the scope declares are among those that are used
pub record Serves (m : Marking) (table : List Slot) (index : List ℕ) : Type 0 where
  pub holds : Holds table index m.used
  pub within : m.own ≤ m.used

-- what a write leaves of the rows
unfoldable pub left_by : Out ℕ (List ℕ) → List ℕ
left_by (to & rows) = rows

-- ---- what a scope declares

abbrev pub slot_of : Parts → (number : ℕ) → Slot
slot_of p number = p.b ∷ p.x ∷ number ∷ 0 ∷ 0 ∷ 0 ∷ []

-- a DECL is entered
unfoldable pub enter_row_t : Parts → List Slot → (used : ℕ) → Out ℕ (List Slot)
enter_row_t p table used = pick (p.code == 2) (pushed table used (slot_of p 0)) (used & table)

unfoldable pub enter_then : {A : Type 0} → Out ℕ (List Slot) → (ℕ → List Slot → A) → A
enter_then (used & table) f = f used table

-- every DECL of the scope is entered
unfoldable pub enter_all : List Visit → List Slot → (used : ℕ) → Out ℕ (List Slot)
enter_all [] table used = used & table
enter_all (v ∷ vs) table used = enter_then (enter_row_t v.parts table used) λ u t. enter_all vs t u

-- ---- what it refers to

-- what is carried along, the table, and the marked rows
abbrev pub Step : Type 0
Step = Out Marking (Out (List Slot) (List ℕ))

abbrev pub marking : (own used fresh : ℕ) → Marking
marking own used fresh = record { own = own; used = used; fresh = fresh }

unfoldable pub insert_with : Marking → Out ℕ (List Slot) → Out Marking (List Slot)
insert_with m (used & table) = marking m.own used ((m.fresh + 1) % 4294967296) & table

-- a name that has no alias yet gets the next
unfoldable pub insert_marked_t : Parts → Marking → List Slot → Out Marking (List Slot)
insert_marked_t p m table = insert_with m (pushed table m.used (slot_of p m.fresh))

-- a name that has one is named by it
unfoldable pub serve_t : Parts → (row alias : ℕ) (marked : List ℕ) → List ℕ
serve_t p row alias marked = left_by (put_row marked row (Ref p.b (Name alias) 0 p.z))

unfoldable pub beside : Out Marking (List Slot) → List ℕ → Step
beside (m & table) marked = m & table & marked

-- a name of a scope further out: it gets the alias that served it before, or is noted as the one that an alias will serve
unfoldable pub mark_outer_t : Option ℕ → Parts → (row : ℕ) → Marking → List Slot → List ℕ → Step
mark_outer_t (Some alias) p row m table marked = m & table & serve_t p row alias marked
mark_outer_t None p row m table marked = beside (insert_marked_t p m table) marked

-- a walked name: one that the scope declares stays as it is
unfoldable pub mark_name_t : Parts → (row : ℕ) → Marking → List Slot → List ℕ → Step
mark_name_t p row m table marked =
    pick (is_some (find_in (between 0 m.own table) p.b p.x)) (m & table & marked)
    (mark_outer_t (find_in (between m.own m.used table) p.b p.x) p row m table marked)

-- a REF: with PATHs as many fresh names are passed, without PATHs a number stays and a name is walked
unfoldable pub mark_ref_t : Parts → (row : ℕ) → Marking → List Slot → List ℕ → Step
mark_ref_t p row m table marked =
    pick (nat_lt 0 p.y) (marking m.own m.used ((m.fresh + p.y) % 4294967296) & table & marked)
    (pick (p.e == 0) (m & table & marked) (mark_name_t p row m table marked))

-- a row of the scope: only a REF whose operands are walked is looked at
unfoldable pub mark_row_t : Parts → (row : ℕ) (walked : Bool) → Marking → List Slot → List ℕ → Step
mark_row_t p row walked m table marked =
    pick walked (pick (p.code == 3) (mark_ref_t p row m table marked) (m & table & marked)) (m & table & marked)

unfoldable pub mark_then : {A : Type 0} → Step → (Marking → List Slot → List ℕ → A) → A
mark_then (m & table & marked) f = f m table marked

-- all rows of a scope, in order
unfoldable pub mark_all : List Visit → Marking → List Slot → List ℕ → Step
mark_all [] m table marked = m & table & marked
mark_all (v ∷ vs) m table marked =
    mark_then (mark_row_t v.parts v.row v.walked m table marked) λ m' t l. mark_all vs m' t l

-- ---- one scope, and all

-- the next insertion's name, the table, and the marked rows
abbrev pub Steps : Type 0
Steps = Out ℕ (Out (List Slot) (List ℕ))

unfoldable pub next_of : Step → Steps
next_of (m & rest) = m.fresh & rest

-- the scope whose first row this is
unfoldable pub mark_scope_t : (rows ends : List ℕ) (first fresh : ℕ) → List Slot → List ℕ → Steps
mark_scope_t rows ends first fresh table marked =
    let vs = visits_t rows ends (length rows / 16) (place_at first) in
    enter_then (enter_all vs table 0) λ own t. next_of (mark_all vs (marking own own fresh) t marked)

-- the row at i, if it opens a scope
unfoldable pub mark_open_t : (rows ends : List ℕ) (i fresh : ℕ) → List Slot → List ℕ → Steps
mark_open_t rows ends i fresh table marked =
    pick ((parts_at rows i).code == 7) (mark_scope_t rows ends (i + 1) fresh table marked) (fresh & table & marked)

unfoldable pub scopes_then : {A : Type 0} → Steps → (ℕ → List Slot → List ℕ → A) → A
scopes_then (fresh & table & marked) f = f fresh table marked

-- the rows from i on, `left` of them
unfoldable pub scopes_t : (rows ends : List ℕ) (i left fresh : ℕ) → List Slot → List ℕ → Out (List Slot) (List ℕ)
scopes_t rows ends i zero fresh table marked = table & marked
scopes_t rows ends i (suc left) fresh table marked =
    scopes_then (mark_open_t rows ends i fresh table marked) λ f t l. scopes_t rows ends (i + 1) left f t l

-- the rows from i on copied to their own places, `left` of them
unfoldable pub copies_t : (rows : List ℕ) (i left : ℕ) (marked : List ℕ) → List ℕ
copies_t rows i zero marked = marked
copies_t rows i (suc left) marked = copies_t rows (i + 1) left (left_by (copy_row rows i marked i))

-- all rows of a form: copied, and then marked scope by scope
unfoldable pub mark_rows_t : (rows ends : List ℕ) → List Slot → (marked : List ℕ) → Out (List Slot) (List ℕ)
mark_rows_t rows ends table marked =
    let count = length rows / 16 in
    scopes_t rows ends 0 count 2147483648 table (copies_t rows 0 count marked)
