-- The run as the code takes it.
use Rattle.std.specs.Prelude.{List, ◌++◌, ℕ, ◌*◌, take, drop, Result, Ok, Err}
use Rattle.kit.specs.Out.{Out, ◌&◌}
use Rattle.stores.specs.Zeros.{zero_from}
use Rattle.limits.specs.Held.{limits_of, setting}
use Rattle.form.specs.Header.{header_to}
use Rattle.form.specs.declared.header.BadHeader.TheVariants.{Wrong, Count}
use Rattle.moved_list.specs.Listing.{entries_in, noted, none}
use Rattle.moved_list.specs.declared.Listed.{Listed}
use Rattle.form.specs.declared.header.BadHeader.{BadHeader}

abbrev pub rows_of : Result ℕ BadHeader → ℕ
rows_of (Ok rows) = rows
rows_of (Err Wrong) = 0
rows_of (Err Count) = 0

-- how many rows a form has whose header and length are right under the setting at place i, 0 for any other
unfoldable pub rows_asked : (i : ℕ) → List ℕ → ℕ
rows_asked i form = rows_of (header_to (limits_of (setting i)) form)

-- how many are listed, and the two lists
abbrev pub Lists : Type 0
Lists = Out Listed (Out (List ℕ) (List ℕ))

-- fills both lists: the entries, and zeros behind them
unfoldable pub listed_t : (form out moved apart : List ℕ) → Lists
listed_t form out moved apart = noted none (zero_from moved 0) (zero_from apart 0) (entries_in form out)

-- the fronts are filled, and the rest is as it was
unfoldable pub before : Lists → (moved apart : List ℕ) → Lists
before (n & first & second) moved apart = n & first ++ moved & second ++ apart

-- fills the lists' share for a form of this many rows; what lies beyond stays as it was
unfoldable pub fronts_t : (form out moved apart : List ℕ) (rows : ℕ) → Lists
fronts_t form out moved apart rows =
    before (listed_t form out (take (16 * rows) moved) (take (12 * rows) apart)) (drop (16 * rows) moved) (drop (12 * rows) apart)
