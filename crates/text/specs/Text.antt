-- The form that a text spells: its rows one behind the other, and before them a header with their count.
use Rattle.std.specs.Prelude.{List, [], ◌∷◌, ◌++◌, ℕ, ◌+◌, ◌*◌, ◌-◌, ◌/◌, eqb, ltb, length, Some, None, Result, Ok, Err, Option}
use Rattle.std.proofs.lemmas.List.Edits.{sets}
use Rattle.kit.specs.Pick.{pick}
use Rattle.kit.specs.Out.{Out, ◌&◌}
use Rattle.rules.specs.Rows.{bytes, raw, raw_bytes}
use Rattle.parts.specs.declared.Parts.{Parts}
use Rattle.text.specs.Lines.{lines_of, line_of}
use Rattle.text.specs.declared.lines.Why.TheVariants.{Many, Empty}
use Rattle.parts.specs.declared.Parts.{Parts}
use Rattle.text.specs.declared.lines.Why.{Why}
use Rattle.text.specs.declared.Wrong.{Wrong}

-- the first four bytes of a row, with the parts before x
unfoldable pub start_bytes : (code b e : ℕ) → List ℕ
start_bytes code b e = bytes 1 code ++ (bytes 1 b ++ bytes 2 e)

-- a row's sixteen bytes
unfoldable pub row_bytes : Parts → List ℕ
row_bytes p = raw_bytes (raw p.code p.b p.e p.x p.y p.z)

-- WNT, version 1, and how many rows there are
unfoldable pub header : (rows : ℕ) → List ℕ
header rows = 87 ∷ 78 ∷ 84 ∷ 1 ∷ 0 ∷ 0 ∷ bytes 2 rows

-- how many rows a form in this many bytes can have
unfoldable pub most_rows : ℕ → ℕ
most_rows room = let rows = (room - 8) / 16 in pick (ltb rows 4092) rows 4092

-- behind the last line: a form has a row
unfoldable pub ended : (line rows : ℕ) (out : List ℕ) → Out (Result ℕ Wrong) (List ℕ)
ended line rows out = pick (eqb rows 0) (Err (record { line = line; why = Empty }) & out) (Ok rows & sets out 0 (header rows))

-- a line behind this many rows, and then the others
unfoldable pub line_then : Result (Option Parts) Why → (most line rows : ℕ) (out : List ℕ) → (ℕ → List ℕ → Out (Result ℕ Wrong) (List ℕ)) → Out (Result ℕ Wrong) (List ℕ)
line_then (Ok None) most line rows out others = others rows out
line_then (Ok (Some p)) most line rows out others = pick (ltb rows most) (others (rows + 1) (sets out (8 + 16 * rows) (row_bytes p))) (Err (record { line = line; why = Many }) & out)
line_then (Err why) most line rows out others = Err (record { line = line; why = why }) & out

-- the lines behind line number `line` and this many rows
unfoldable pub lines_then : List (List ℕ) → (most line rows : ℕ) (out : List ℕ) → Out (Result ℕ Wrong) (List ℕ)
lines_then [] most line rows out = ended line rows out
lines_then (l ∷ ls) most line rows out = line_then (line_of l) most (line + 1) rows out (lines_then ls most (line + 1))

-- turns a text into the form that its lines make
unfoldable pub parsed : (text out : List ℕ) → Out (Result ℕ Wrong) (List ℕ)
parsed text out = lines_then (lines_of text) (most_rows (length out)) 0 0 out
