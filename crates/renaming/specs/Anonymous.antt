-- A form whose names become 1, 2, 3, … in the order in which they first stand: the answer to an input, what the output buffer
-- then holds, and the key.
use Rattle.std.specs.Prelude.{◌||◌, not, List, [], ◌++◌, ℕ, ◌+◌, ◌*◌, eqb, ltb, length, take, drop}
use Rattle.std.proofs.Math.Option.{Option, none, some}
use Rattle.rules.specs.Tools.{when◌then◌else◌, between}
use Rattle.rules.specs.Versions.{Setting}
use Rattle.rules.specs.Tree.{RowsRead, bad, deep, form}
use Rattle.rules.specs.Reader.{read}
use Rattle.rules.specs.Answer.{AnswerOf, refused, accepted, setting_of, row_count, rows_in}
use Rattle.renaming.specs.Renaming.{renamed_bytes, names_of, firsts, place_of}

-- the names of an input, each once and where it first stands: the first of them becomes 1
unfoldable pub key_in : Setting → List ℕ → List ℕ
key_in s input = firsts [] (names_of (rows_in s input))

-- refusals 4 and 5; of a form the key
unfoldable pub after_reading : RowsRead → (key : List ℕ) → AnswerOf (List ℕ)
after_reading (bad place) key = refused 4 place []
after_reading (deep place) key = refused 5 place []
after_reading (form s) key = accepted key

-- the answer under one setting: refusals 2 and 3, then the reading; the output has to be as long as the input
unfoldable pub anonymous_in : Setting → (input : List ℕ) (room : ℕ) → AnswerOf (List ℕ)
anonymous_in s input room =
    let v = s.version in
    let rows = row_count v input in
    when not (between 1 v.rows rows) || not (eqb (length input) (v.header + 16 * rows)) then refused 2 0 []
    else when ltb room (length input) then refused 3 0 []
    else after_reading (read s.rules v.scopes (rows_in s input)) (key_in s input)

-- the answer under this setting; refusal 1, if the header is not that of any
unfoldable pub anonymous_for : Option Setting → (input : List ℕ) (room : ℕ) → AnswerOf (List ℕ)
anonymous_for none input room = refused 1 0 []
anonymous_for (some s) input room = anonymous_in s input room

-- the key of an input, or its refusal; `room` is the length of the output buffer
unfoldable pub anonymous : List Setting → (input : List ℕ) (room : ℕ) → AnswerOf (List ℕ)
anonymous settings input room = anonymous_for (setting_of settings input) input room

-- ---- the buffers

-- a refusal leaves the output as it was; else it holds the form with its new names, and what lies beyond stays
unfoldable pub anonymous_after : List Setting → (input : List ℕ) → AnswerOf (List ℕ) → (old : List ℕ) → List ℕ
anonymous_after settings input (refused number place carried) old = old
anonymous_after settings input (accepted key) old = renamed_bytes (place_of key) settings input ++ drop (length input) old

-- what the output buffer holds then, where it held `old` before
unfoldable pub anonymous_output : List Setting → (input old : List ℕ) → List ℕ
anonymous_output settings input old = anonymous_after settings input (anonymous settings input (length old)) old

-- numbers put over others from the first on, as many as there is room for
unfoldable pub over : (new old : List ℕ) → List ℕ
over new old = take (length old) new ++ drop (length new) old

-- what the buffer of the key holds: a refusal leaves it as it was; else it begins with the old name of 1, of 2, of 3, …
unfoldable pub key_after : AnswerOf (List ℕ) → (old : List ℕ) → List ℕ
key_after (refused number place carried) old = old
key_after (accepted key) old = over key old

-- Unfolds all of this module: for a claim that antt computes.
unfoldable pub computes : Unit {0}
unfolding key_in after_reading anonymous_in anonymous_for anonymous anonymous_after anonymous_output over key_after
computes = tt
