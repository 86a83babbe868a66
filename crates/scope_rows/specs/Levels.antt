-- The scope of a row and the number of a declaration. A scope is known by its first row, the one behind its OPEN; the rows outside every OPEN
-- have 0 for theirs.
use Rattle.std.specs.Prelude.{Bool, true, ◌&&◌, List, ℕ, zero, suc, ◌+◌, ◌-◌, eqb}
use Rattle.kit.specs.Pick.{pick}
use Rattle.row_parts.specs.Parts.{code_at, b_at, count_on}

-- ---- levels: how many scopes lie between a row and the scope that is gone through

-- the level behind a row of that code, going down
unfoldable pub level_behind : (level code : ℕ) → ℕ
level_behind level code = pick (eqb code 7) (level + 1) (pick (eqb code 8) (level - 1) level)

-- the same, where the highest count stays
unfoldable pub level_on : (level code : ℕ) → ℕ
level_on level code = pick (eqb code 7) (count_on level true) (pick (eqb code 8) (level - 1) level)

-- the level above a row of that code, going up
unfoldable pub level_above : (level code : ℕ) → ℕ
level_above level code = pick (eqb code 8) (level + 1) (pick (eqb code 7) (level - 1) level)

-- ---- the scope of a row

-- the scope in which a row stands, by the rows above it, of which `above` are left
unfoldable pub scope_above : (form : List ℕ) (above level : ℕ) → ℕ
scope_above form zero level = zero
scope_above form (suc above) level =
    let code = code_at form above in
    pick (eqb level 0 && eqb code 7) (suc above) (scope_above form above (level_above level code))

-- the scope in which a row stands
unfoldable pub scope_of : (form : List ℕ) (row : ℕ) → ℕ
scope_of form row = scope_above form row 0

-- ---- declarations

-- is it a DECL of that space, in the scope itself?
unfoldable pub declares : (form : List ℕ) (row level space : ℕ) → Bool
declares form row level space = eqb level 0 && eqb (code_at form row) 2 && eqb (b_at form row) space

-- `number` and how many declarations of a space stand in `left` rows, from `row` on
unfoldable pub number_from : (form : List ℕ) (space row left level number : ℕ) → ℕ
number_from form space row zero level number = number
number_from form space row (suc left) level number =
    number_from form space (row + 1) left (level_behind level (code_at form row))
    (pick (declares form row level space) (number + 1) number)

-- how many declarations of its space its scope has before it
unfoldable pub number_of : (form : List ℕ) (decl : ℕ) → ℕ
number_of form decl =
    let scope = scope_of form decl in
    number_from form (b_at form decl) scope (decl - scope) 0 0
