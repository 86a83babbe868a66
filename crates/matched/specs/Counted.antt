-- A row as it counts, by its six parts.
use Rattle.std.specs.Prelude.{Bool, ◌&&◌, ℕ, ◌/◌, ◌%◌, eqb}
use Rattle.kit.specs.Pick.{pick}
use Rattle.rules.specs.Rows.{Raw, raw}
use Rattle.comparing.specs.Compare.{Choice, blur_place, blur_name}
use Rattle.comparing.specs.Laws.Parts.{is_name_x, is_name_y}
use Rattle.parts.specs.PartsAt.{parts}
use Rattle.parts.specs.declared.Parts.{Parts}

-- what a number ignores: bit 0 places, bit 1 fresh names; higher bits are passed over
unfoldable pub choice_of : ℕ → Choice
choice_of n = record { places = eqb (n % 2) 1; fresh = eqb (n / 2 % 2) 1 }

-- six parts as the rules have them
abbrev pub raw_of : Parts → Raw
raw_of p = raw p.code p.b p.e p.x p.y p.z

-- the number of an operand as it counts
unfoldable pub number_t : Choice → (is_name : Bool) (n : ℕ) → ℕ
number_t c is_name n = pick is_name (blur_name c n) n

-- the parts of a row as they count
unfoldable pub counted_t : Choice → Parts → Parts
counted_t c p =
    parts p.code p.b p.e (number_t c (is_name_x p.code p.e) p.x) (number_t c (is_name_y p.code p.e) p.y) (blur_place c p.z)

-- are all six the same?
unfoldable pub all_same : Parts → Parts → Bool
all_same p q =
    eqb p.code q.code && (eqb p.b q.b && (eqb p.e q.e && (eqb p.x q.x && (eqb p.y q.y && eqb p.z q.z))))

-- whether the left's row at i is the right's at j
unfoldable pub same_t : Choice → Parts → Parts → Bool
same_t c p q = all_same (counted_t c p) (counted_t c q)
