-- A form by itself: the code's answer for that of the rules' `read_form`.
use Rattle.std.specs.Prelude.{List, ℕ, ◌%◌, length, drop, Result, Ok, Err, ⊤}
use Rattle.rules.specs.Tree.{Scope, flatten}
use Rattle.rules.specs.Answer.{AnswerOf, refused, accepted}
use Rattle.limits.specs.declared.Limits.{Limits}
use Rattle.form.specs.Header.{header_to, refusal_of}
use Rattle.reader.specs.ReadTo.{read_to}
use Rattle.reader.specs.declared.BadRows.TheVariants as rows_read
use Rattle.form.specs.declared.header.BadHeader.{BadHeader}
use Rattle.reader.specs.declared.BadRows.{BadRows}
use Rattle.refusal.specs.declared.Refusal.{Refusal}

-- a refusal by its number and place
abbrev pub refused_t : (number place : ℕ) → Result ℕ Refusal
refused_t number place = Err (record { number = number; place = place })

-- how many rows, or the refusal's number and place
unfoldable pub form_of : AnswerOf Scope → Result ℕ Refusal
form_of (refused number place carried) = refused_t number place
form_of (accepted tree) = Ok (length (flatten tree))

-- ---- as the code goes

-- what the rows were read as: the form, refusal 4, or refusal 5
unfoldable pub read_t : Result ⊤ BadRows → (rows : ℕ) → Result ℕ Refusal
read_t (Err (rows_read.Broken row)) rows = refused_t 4 (row % 4294967296)
read_t (Err (rows_read.Deep row)) rows = refused_t 5 (row % 4294967296)
read_t (Ok tt) rows = Ok rows

-- the rows behind the header, held to the limits
unfoldable pub body_t : Limits → (rows : ℕ) → List ℕ → Result ℕ Refusal
body_t l rows form = read_t (read_to l (drop l.header form)) rows

unfoldable pub head_t : Limits → Result ℕ BadHeader → List ℕ → Result ℕ Refusal
head_t l (Err why) form = Err (refusal_of why)
head_t l (Ok rows) form = body_t l rows form

unfoldable pub held_t : Limits → List ℕ → Result ℕ Refusal
held_t l form = head_t l (header_to l form) form
