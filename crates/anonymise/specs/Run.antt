-- The whole run as the code takes it.
use Rattle.std.specs.Prelude.{List, ◌++◌, ℕ, ◌/◌, ◌%◌, ltb, length, take, drop, Result, Ok, Err, ⊤}
use Rattle.kit.specs.Pick.{pick}
use Rattle.kit.specs.Out.{Out, ◌&◌}
use Rattle.renaming.specs.Anonymous.{over}
use Rattle.reader.specs.ReadTo.{read_of}
use Rattle.anonymise.specs.Renamed.{key_of, rows_written}
use Rattle.anonymise.specs.declared.run.Fault.TheVariants.{Header, RowCount, Room, Broken, Deep}
use Rattle.form.specs.declared.header.BadHeader.{BadHeader}
use Rattle.form.specs.declared.header.BadHeader.TheVariants.{Wrong, Count}
use Rattle.reader.specs.declared.BadRows.TheVariants as rows_read
use Rattle.anonymise.specs.declared.run.Fault.{Fault}
use Rattle.reader.specs.declared.BadRows.{BadRows}

-- what a wrong header is answered with,
abbrev pub fault_of_header : BadHeader → Fault
fault_of_header Wrong = Header
fault_of_header Count = RowCount

-- and rows that are no form
abbrev pub fault_of_rows : BadRows → Fault
fault_of_rows (rows_read.Broken row) = Broken (row % 4294967296)
fault_of_rows (rows_read.Deep row) = Deep (row % 4294967296)

-- an answer, the output and the key
abbrev pub Ran : Type 0
Ran = Out (Result ℕ Fault) (Out (List ℕ) (List ℕ))

-- all rows with numbers for names
unfoldable pub all_written : (rows out : List ℕ) → List ℕ
all_written rows out = rows_written (key_of rows) rows 0 (length rows / 16) out

-- `front` is the part of the output that is as long as the form
unfoldable pub fill_names_t : (form front key : List ℕ) → Ran
fill_names_t form front key =
    Ok (length (key_of (drop 8 form))) & (take 8 form ++ all_written (drop 8 form) (drop 8 front)) & over (key_of (drop 8 form)) key

-- the front is filled, and the rest is as it was
unfoldable pub before : Ran → (rest : List ℕ) → Ran
before (a & l & key) rest = a & (l ++ rest) & key

unfoldable pub read_then : Result ⊤ BadRows → (form out key : List ℕ) → Ran
read_then (Err bad) form out key = Err (fault_of_rows bad) & out & key
read_then (Ok tt) form out key = before (fill_names_t form (take (length form) out) key) (drop (length form) out)

-- the run on a form whose header was right
unfoldable pub run_t : (form out key : List ℕ) → Ran
run_t form out key = pick (ltb (length out) (length form)) (Err Room & out & key) (read_then (read_of (drop 8 form)) form out key)
