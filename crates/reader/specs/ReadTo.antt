-- What the rows in a run of bytes are read as, by the rules' `read`.
use Rattle.std.specs.Prelude.{List, ℕ, ◌/◌, length, Result, Ok, Err, ⊤}
use Rattle.rules.specs.Versions.{version1, today}
use Rattle.rules.specs.Tree as rules
use Rattle.rules.specs.Reader.{read}
use Rattle.rules.specs.Answer.{rows_of}
use Rattle.limits.specs.declared.Limits.{Limits}
use Rattle.limits.specs.Held.{setting_in}
use Rattle.reader.specs.declared.BadRows.TheVariants.{Broken, Deep}
use Rattle.reader.specs.declared.BadRows.{BadRows}

-- the rules' answer as the code gives it
unfoldable pub answer_of : rules.RowsRead → Result ⊤ BadRows
answer_of (rules.form tree) = Ok tt
answer_of (rules.bad place) = Err (Broken place)
answer_of (rules.deep place) = Err (Deep place)

-- the rows of these bytes, sixteen each, within limits
unfoldable pub read_to : Limits → (bytes : List ℕ) → Result ⊤ BadRows
read_to l bytes =
    let s = setting_in l in
    let v = s.version in
    answer_of (read s.rules v.scopes (rows_of v.names (length bytes / 16) bytes))

-- what the rows of an input of version 1 are read as
unfoldable pub read_of : (bytes : List ℕ) → Result ⊤ BadRows
read_of bytes = answer_of (read today version1.scopes (rows_of version1.names (length bytes / 16) bytes))
