-- A form by itself, with no step taken on it: its tree, or refusal 1, 2, 4 or 5. No output is written, so that 3 plays no part.
use Rattle.std.specs.Prelude.{◌||◌, not, List, [], ℕ, ◌+◌, ◌*◌, eqb, length}
use Rattle.rules.specs.Tools.{when◌then◌else◌, between}
use Rattle.rules.specs.Versions.{Setting}
use Rattle.rules.specs.Tree.{Scope, RowsRead, bad, deep, form}
use Rattle.rules.specs.Reader.{read}
use Rattle.rules.specs.Answer.{AnswerOf, refused, accepted, has_header, row_count, rows_in}

-- the next answer, unless this one refuses
infixl 20 ◌and_then◌
unfoldable pub ◌and_then◌ : {A B : Type 0} → AnswerOf A → (A → AnswerOf B) → AnswerOf B
refused number place carried and_then f = refused number place carried
accepted a and_then f = f a

-- what rows are read as, as an answer: the tree, or refusal 4 or 5
unfoldable pub as_answer : RowsRead → AnswerOf Scope
as_answer (bad place) = refused 4 place []
as_answer (deep place) = refused 5 place []
as_answer (form t) = accepted t

-- the tree of a form; `s` is the setting that the form is held to: that of an input, or for an output `as_claimed` of it
unfoldable pub read_form : Setting → List ℕ → AnswerOf Scope
read_form s input =
    let v = s.version in
    let rows = row_count v input in
    when not (has_header s input) then refused 1 0 []
    else when not (between 1 v.rows rows) || not (eqb (length input) (v.header + 16 * rows)) then refused 2 0 []
    else as_answer (read s.rules v.scopes (rows_in s input))

-- Unfolds all of this module: for a claim that antt computes.
unfoldable pub computes : Unit {0}
unfolding ◌and_then◌ as_answer read_form
computes = tt
