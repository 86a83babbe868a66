-- Rows of places: which row of a tree a declaration or an operand at a place is, counted from 0 along the tree.
-- It serves the input's tree and the output's: a place leaves inserted fields out, and its row counts theirs. An inserted declaration,
-- which has no place, has a row too.
use Rattle.std.proofs.Math.Option.{Option, none, some}
use Rattle.std.specs.Prelude.{List, [], ◌∷◌, ◌++◌, ℕ, suc, ◌+◌, eqb, length, take}
use Rattle.std.proofs.Math.ListN.{get_elem?}
use Rattle.rules.specs.Tools.{when◌then◌else◌, ◌then◌}
use Rattle.rules.specs.Tree.{Declaration, Operand, Scope, Fields, end, ◌▸◌, Item, head_of, operand_rows, head_rows, item_rows}
use Rattle.rules.specs.Readings.{is_inserted, Place, Level, level, held, root, Standing, in_original, in_inserted}

-- ---- fields and scopes with their rows

-- a field, and the row of its FIELD
pub record Placed : Type 0 where
  pub row : ℕ
  pub item : Item

-- the fields that are not inserted, where the first of all fields is at `row`
unfoldable pub originals_from : (row : ℕ) → Fields → List Placed
originals_from row end = []
originals_from row (i ▸ fs) =
    let rest = originals_from (row + length (item_rows i)) fs in
    when is_inserted (head_of i) then rest else record { row = row; item = i } ∷ rest

-- a scope, and the row of its first field: the one behind its OPEN
pub record Floor : Type 0 where
  pub level : Level
  pub row : ℕ

-- the scope `l`, whose first field is at `row`
abbrev pub floor : Level → ℕ → Floor
floor l row = record { level = l; row = row }

-- the row behind a field's own rows and the OPEN that follows them
unfoldable pub inside_of : Placed → ℕ
inside_of i = suc (i.row + length (head_rows (head_of i.item)))

-- the scopes around a place, as `around` has them, with their rows
unfoldable pub floors : (way : List ℕ) → Floor → (outside : List Floor) → Option (List Floor)
floors [] f outside = some (f ∷ outside)
floors (n ∷ way) f outside =
    get_elem? (originals_from f.row f.level.fields) n then λ i. held i.item then λ fs.
    floors way (floor (level (f.level.way ++ (n ∷ [])) fs) (inside_of i)) (f ∷ outside)

-- the scopes at the end of a way from the root, with their rows; the root's first field is at row 1
unfoldable pub floors_at : Scope → (way : List ℕ) → Option (List Floor)
floors_at s way = floors way (floor (root s) 1) []

-- ---- the row of a DECL, of an operand

-- field number `field` of the first of these scopes, with its row
unfoldable pub field_in : List Floor → (field : ℕ) → Option Placed
field_in [] field = none
field_in (f ∷ fs) field = get_elem? (originals_from f.row f.level.fields) field

-- the field of a place
unfoldable pub field_at : Scope → Place → Option Placed
field_at s p = floors_at s p.way then λ fs. field_in fs p.field

-- the declaration at a place
unfoldable pub decl_at : Scope → Place → Option Declaration
decl_at s p = field_at s p then λ i. get_elem? (head_of i.item).decls p.at

-- the operand at a place
unfoldable pub operand_at : Scope → Place → Option Operand
operand_at s p = field_at s p then λ i. get_elem? (head_of i.item).operands p.at

-- the row of the DECL `at` of a field: behind the FIELD stand the DECLs, and behind these the operands, each with its PATHs
unfoldable pub decl_row : Placed → (at : ℕ) → ℕ
decl_row i at = suc (i.row + at)

-- the row of the operand `at` of a field
unfoldable pub operand_row_at : Placed → (at : ℕ) → ℕ
operand_row_at i at =
    let h = head_of i.item in
    suc (i.row + (length h.decls + length (operand_rows (take at h.operands))))

-- the row of the declaration at a place
unfoldable pub row_of_decl : Scope → Place → Option ℕ
row_of_decl s p = field_at s p then λ i. get_elem? (head_of i.item).decls p.at then λ d. some (decl_row i p.at)

-- the row of the operand at a place
unfoldable pub row_of_operand : Scope → Place → Option ℕ
row_of_operand s p = field_at s p then λ i. get_elem? (head_of i.item).operands p.at then λ o. some (operand_row_at i p.at)

-- ---- all declarations of a scope with their rows, the inserted ones among them

-- a declaration, where it stands, and its row
pub record Located : Type 0 where
  pub standing : Standing
  pub row : ℕ

-- these declarations one behind another, the first at `row`
unfoldable pub in_rows : (row : ℕ) → List Standing → List Located
in_rows row [] = []
in_rows row (s ∷ ss) = record { standing = s; row = row } ∷ in_rows (suc row) ss

-- the declarations of these fields, as `standings` has them; the first field is at `row`, and `n` original fields stand before these
unfoldable pub located : (row n : ℕ) → Fields → List Located
located row n end = []
located row n (i ▸ fs) =
    let h = head_of i in
    in_rows (suc row) (when is_inserted h then in_inserted h h.decls else in_original n 0 h.decls)
    ++ located (row + length (item_rows i)) (when is_inserted h then n else suc n) fs

-- those of one space, in order
unfoldable pub located_of : List Located → (space : ℕ) → List Located
located_of [] space = []
located_of (x ∷ xs) space = when eqb x.standing.decl.space space then x ∷ located_of xs space else located_of xs space

-- the n-th declaration of a space in a scope, as `counted` finds it, with its row
unfoldable pub counted_row : Floor → (space n : ℕ) → Option Located
counted_row f space n = get_elem? (located_of (located f.row 0 f.level.fields) space) n

-- Unfolds all of this module: for a claim that antt computes.
unfoldable pub computes : Unit {0}
unfolding originals_from inside_of floors floors_at field_in field_at decl_at operand_at decl_row operand_row_at row_of_decl row_of_operand in_rows located located_of counted_row
computes = tt
