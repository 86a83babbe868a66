-- From one version of the row form to another: the same rows behind another header. Refusals 1 to 5 of the form as it is come
-- first, in document 01's order; then those of the version asked for: 1 (its rule set), 2, 5.
use Rattle.std.specs.Prelude.{◌&&◌, ◌||◌, not, List, [], ◌∷◌, ◌++◌, ℕ, ◌+◌, ◌*◌, eqb, ltb, length, drop}
use Rattle.std.proofs.Math.Option.{Option, none, some}
use Rattle.rules.specs.Tools.{when◌then◌else◌, between, only, ◌or_else◌}
use Rattle.rules.specs.Versions.{Version, Setting}
use Rattle.rules.specs.Tree.{RowsRead, bad, deep, form}
use Rattle.rules.specs.Reader.{read}
use Rattle.rules.specs.Answer.{AnswerOf, refused, accepted, setting_of, row_count, rows_in, header_bytes}

-- ---- what is asked for

-- the version of this number
unfoldable pub version_of : List Setting → (number : ℕ) → Option Version
version_of [] number = none
version_of (s ∷ ss) number = only (eqb s.version.number number) s.version or_else version_of ss number

-- the setting with this version and this rule set, by their numbers
unfoldable pub setting_with : List Setting → (version rules : ℕ) → Option Setting
setting_with [] version rules = none
setting_with (s ∷ ss) version rules = only (eqb s.version.number version && eqb s.rules.number rules) s or_else setting_with ss version rules

-- ---- the converted form

-- a form of `s` with the header of `t`
unfoldable pub recast : (s t : Setting) → List ℕ → List ℕ
recast s t input = header_bytes t (row_count s.version input) ++ drop s.version.header input

-- a form must be within the limits of `t` too: refusal 5 at the OPEN while all its scopes are open
unfoldable pub within_scopes : (s t : Setting) → List ℕ → RowsRead → AnswerOf (List ℕ)
within_scopes s t input (bad place) = refused 4 place []
within_scopes s t input (deep place) = refused 5 place []
within_scopes s t input (form tree) = accepted (recast s t input)

-- refusal 1 if the version asked for lacks the rule set of the form; refusal 2 if there are too many rows
unfoldable pub within_limits : (s : Setting) → Option Setting → List ℕ → AnswerOf (List ℕ)
within_limits s none input = refused 1 0 []
within_limits s (some t) input =
    when ltb t.version.rows (row_count s.version input) then refused 2 0 []
    else within_scopes s t input (read t.rules t.version.scopes (rows_in s input))

-- refusals 4 and 5 of the form as it is
unfoldable pub if_form : (s : Setting) → Option Setting → List ℕ → RowsRead → AnswerOf (List ℕ)
if_form s t input (bad place) = refused 4 place []
if_form s t input (deep place) = refused 5 place []
if_form s t input (form tree) = within_limits s t input

-- before them come 2, and 3 if there is no room for the converted form
unfoldable pub converted_in : (s : Setting) → Option Setting → (header : ℕ) (input : List ℕ) (room : ℕ) → AnswerOf (List ℕ)
converted_in s t header input room =
    let v = s.version in
    let rows = row_count v input in
    when not (between 1 v.rows rows) || not (eqb (length input) (v.header + 16 * rows)) then refused 2 0 []
    else when ltb room (header + 16 * rows) then refused 3 0 []
    else if_form s t input (read s.rules v.scopes (rows_in s input))

-- refusal 1 if the header is not that of any setting, or there is no version of the number asked for
unfoldable pub converted_for : List Setting → Option Setting → Option Version → (version : ℕ) (input : List ℕ) (room : ℕ) → AnswerOf (List ℕ)
converted_for settings none to version input room = refused 1 0 []
converted_for settings (some s) none version input room = refused 1 0 []
converted_for settings (some s) (some to) version input room =
    converted_in s (setting_with settings version s.rules.number) to.header input room

-- the bytes of the input as a form of this version; `room` is the length of the output buffer
unfoldable pub converted : List Setting → (version : ℕ) (input : List ℕ) (room : ℕ) → AnswerOf (List ℕ)
converted settings version input room = converted_for settings (setting_of settings input) (version_of settings version) version input room

-- ---- the output buffer

-- what the output buffer holds after this answer: the form, and behind it what was there; a refusal leaves it as it was
unfoldable pub buffer_after : AnswerOf (List ℕ) → (old : List ℕ) → List ℕ
buffer_after (refused number place carried) old = old
buffer_after (accepted new) old = new ++ drop (length new) old

-- what the output buffer holds after an input is converted
unfoldable pub converted_output : List Setting → (version : ℕ) (input old : List ℕ) → List ℕ
converted_output settings version input old = buffer_after (converted settings version input (length old)) old

-- the row count in the header of a form, under this setting
unfoldable pub said_by : Option Setting → List ℕ → ℕ
said_by none input = 0
said_by (some s) input = row_count s.version input

-- the row count in the header of a form, under the setting that the header asks for
unfoldable pub rows_said : List Setting → List ℕ → ℕ
rows_said settings input = said_by (setting_of settings input) input

-- Unfolds all of this module: for a claim that antt computes.
unfoldable pub computes : Unit {0}
unfolding version_of setting_with recast within_scopes within_limits if_form converted_in converted_for converted buffer_after converted_output said_by rows_said
computes = tt
