-- The two forms of either version, and the row itself.
use Rattle.std.specs.Prelude.{List, [], ℕ, ◌+◌, ◌*◌, eqb, leb, ltb, length, get_or, take, drop, Option, Some, None}
use Rattle.kit.specs.Pick.{pick}
use Rattle.meant.specs.Names.{name_meant_t}
use Rattle.meant.specs.declared.Declared.TheVariants.{Member, Prelude}
use Rattle.meant.specs.declared.Declared.{Declared}

-- a form from where its rows stand eight bytes behind: all of it, or from byte 8 on where it is of version 2
unfoldable pub part_of : List ℕ → List ℕ
part_of form = pick (ltb (length form) 8) form (pick (eqb (get_or form 3 0) 2) (drop 8 form) form)

-- which declaration the name in a row of the member means, and in which of the two forms it stands
unfoldable pub meant_t : (prelude member : List ℕ) (row : ℕ) → Option Declared
meant_t prelude member row = name_meant_t (part_of prelude) (part_of member) row

-- the sixteen bytes of a row, if it is there
unfoldable pub row_part : (form : List ℕ) (row : ℕ) → List ℕ
row_part form row =
    let part = part_of form in
    pick (leb (8 + 16 * row + 16) (length part)) (take 16 (drop (8 + 16 * row) part)) []

-- the row out of the form in which it stands
unfoldable pub chosen : Option Declared → (prelude member : List ℕ) → List ℕ
chosen (Some (Member row)) prelude member = row_part member row
chosen (Some (Prelude row)) prelude member = row_part prelude row
chosen None prelude member = []
