-- The declarations of a root, as the code enters them.
use Rattle.std.specs.Prelude.{List, [], ◌∷◌, ℕ, ◌+◌, ◌-◌, ◌%◌, eqb}
use Rattle.kit.specs.Pick.{pick}
use Rattle.kit.specs.Out.{Out, ◌&◌}
use Rattle.parts.specs.declared.Parts.{Parts}
use Rattle.names.specs.Table.{Slot, slot_of, pushed}
use Rattle.claim_numbers.specs.Count.{no_counts, count_before_t}
use Rattle.prelude_root.specs.declared.Cursor.{Cursor}

-- how many scopes are open behind a row of this code
unfoldable pub depth_t : (depth code : ℕ) → ℕ
depth_t depth code = pick (eqb code 7) (depth + 1) (pick (eqb code 8) (depth - 1) depth)

-- how many slots are used, the table, and how many declarations of each space the root has
abbrev pub Tables : Type 0
Tables = Out ℕ (Out (List Slot) (List (List ℕ)))

unfoldable pub beside_t : Out ℕ (List Slot) → (counts : List (List ℕ)) → Tables
beside_t (used & names) counts = used & names & counts

unfoldable pub numbered_t : Out ℕ (List (List ℕ)) → Parts → (i used : ℕ) → List Slot → Tables
numbered_t (number & counts) p i used names = beside_t (pushed names used (slot_of p.b p.x number (i % 4294967296) 0 0)) counts

-- behind row i, where this many scopes are open before it
unfoldable pub root_row_t : Parts → (i depth used : ℕ) → List Slot → (counts : List (List ℕ)) → Tables
root_row_t p i depth used names counts =
    pick (eqb depth 1)
    (pick (eqb p.code 2) (numbered_t (count_before_t counts 1 p) p i used names) (used & names & counts))
    (used & names & counts)

-- the cursor, the table and the counts
abbrev pub Went : Type 0
Went = Out Cursor (Out (List Slot) (List (List ℕ)))

unfoldable pub root_behind_t : (depth : ℕ) → Tables → Went
root_behind_t depth (used & names & counts) = record { depth = depth; used = used } & names & counts

-- goes over row i
unfoldable pub turn_t : Parts → (i : ℕ) → List Slot → (counts : List (List ℕ)) → Cursor → Went
turn_t p i names counts c = root_behind_t (depth_t c.depth p.code) (root_row_t p i c.depth c.used names counts)

unfoldable pub then_t : {A : Type 0} → Went → (Cursor → List Slot → List (List ℕ) → A) → A
then_t (c & names & counts) f = f c names counts

-- all rows from row i on
unfoldable pub root_rows_t : (i : ℕ) → List Slot → (counts : List (List ℕ)) → Cursor → List Parts → Out ℕ (List Slot)
root_rows_t i names counts c [] = c.used & names
root_rows_t i names counts c (p ∷ ps) = then_t (turn_t p i names counts c) λ d n k. root_rows_t (i + 1) n k d ps

-- of a form: nothing is entered yet, and no scope is open
unfoldable pub root_t : List Slot → List Parts → Out ℕ (List Slot)
root_t names ps = root_rows_t 0 names (no_counts ∷ []) (record { depth = 0; used = 0 }) ps
