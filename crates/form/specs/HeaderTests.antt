-- What a header says, as the code tests it: its first six bytes, and its row count.
use Rattle.std.specs.Prelude.{Bool, false, ◌&&◌, List, ℕ, ◌+◌, ◌*◌, eqb, ltb, length, get_or}
use Rattle.kit.specs.Pick.{pick}
use Rattle.form_bytes.specs.Begins.{begins_as}

-- do the first six bytes say WNT, this version and this rule set?
unfoldable pub is_marked_t : (version rules : ℕ) → List ℕ → Bool
is_marked_t version rules l =
    pick (ltb (length l) 6) false
    (begins_as l version && (eqb (get_or l 4 0) 0 && eqb (get_or l 5 0) rules))

-- the row count in a header, of two bytes or of four
unfoldable pub row_count_t : (long : Bool) → List ℕ → ℕ
row_count_t long l =
    let low = get_or l 6 0 + get_or l 7 0 * 256 in
    pick long (low + get_or l 8 0 * 65536 + get_or l 9 0 * 16777216) low
