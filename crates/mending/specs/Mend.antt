-- Mending forms (request R-11, whose clauses are quoted): the mended bytes and the list of changes.
-- A form is cut into pieces. Each is told with its bytes before and after; a piece whose bytes differ is a change.
use Rattle.std.specs.Prelude.{Bool, ◌&&◌, ◌||◌, not, List, [], ◌∷◌, ◌++◌, ℕ, zero, suc, ◌+◌, ◌*◌, ◌-◌, ◌/◌, ◌%◌, eqb, leb, ltb, length, take, drop, replicate, get_or}
use Rattle.std.proofs.Math.Option.{Option, none, some}
use Rattle.rules.specs.Tools.{when◌then◌else◌, only, ◌or_else◌, between}
use Rattle.rules.specs.Versions.{Version, Setting}
use Rattle.rules.specs.Rows.{value, bytes, Close, encode_row}
use Rattle.rules.specs.Tree.{Scope}
use Rattle.rules.specs.Answer.{AnswerOf, accepted, same_numbers, row_count}
use Rattle.rules.specs.Answer
use Rattle.read_form.specs.ReadForm.{read_form}

-- ---- pieces and changes

-- a piece of a form: its bytes before and after
pub record Piece : Type 0 where
  pub before : List ℕ
  pub after : List ℕ

-- the piece with these bytes
abbrev pub piece : (before after : List ℕ) → Piece
piece before after = record { before = before; after = after }

-- the bytes of all pieces before
unfoldable pub befores : List Piece → List ℕ
befores [] = []
befores (p ∷ ps) = p.before ++ befores ps

-- the bytes of all pieces after
unfoldable pub afters : List Piece → List ℕ
afters [] = []
afters (p ∷ ps) = p.after ++ afters ps

-- "It lists each change with byte offset and bytes before": from byte `at` on there stand `now` bytes in place of those before
pub record Change : Type 0 where
  pub at : ℕ
  pub before : List ℕ
  pub now : ℕ

-- the changes among these pieces; the first piece begins at byte `at`
unfoldable pub changes : (at : ℕ) → List Piece → List Change
changes at [] = []
changes at (p ∷ ps) =
    when same_numbers p.before p.after then changes (at + length p.after) ps
    else record { at = at; before = p.before; now = length p.after } ∷ changes (at + length p.after) ps

-- the bytes with all changes taken back: the first of them is byte `at`
unfoldable pub undo : (at : ℕ) → List Change → List ℕ → List ℕ
undo at [] bs = bs
undo at (c ∷ cs) bs =
    let rest = drop (c.at - at) bs in
    take (c.at - at) bs ++ (c.before ++ undo (c.at + c.now) cs (drop c.now rest))

-- the list as bytes: of each change the offset, how many bytes stood there and how many stand there now, each a word of four
-- bytes, and then the bytes before, with zeros up to a multiple of four
unfoldable pub change_bytes : Change → List ℕ
change_bytes c =
    let n = length c.before in
    bytes 4 c.at ++ (bytes 4 n ++ (bytes 4 c.now ++ (c.before ++ replicate ((4 - n % 4) % 4) 0)))

-- the bytes of a list of changes, one behind another
unfoldable pub list_bytes : List Change → List ℕ
list_bytes [] = []
list_bytes (c ∷ cs) = change_bytes c ++ list_bytes cs

-- ---- a row: "zeroes what 01 says is zero"

-- what becomes of a part: it stays, it is zeroed, or all but its two lowest bits are
pub data Fate : Type 0 where
  stays : Fate
  zeroed : Fate
  two_bits : Fate

-- what becomes of the parts b, e, x, y, z of a row, by its code, 0 first; e of a builtin (19) and of an export (22) says something
unfoldable pub fates : (code b : ℕ) → List Fate
fates code b =
    get_or
    ([]
    ∷ (stays ∷ (when eqb b 19 then stays else when eqb b 22 then stays else zeroed) ∷ zeroed ∷ zeroed ∷ stays ∷ [])
    ∷ (stays ∷ zeroed ∷ stays ∷ zeroed ∷ stays ∷ [])
    ∷ (stays ∷ stays ∷ stays ∷ stays ∷ stays ∷ [])
    ∷ (zeroed ∷ zeroed ∷ stays ∷ zeroed ∷ zeroed ∷ [])
    ∷ (stays ∷ two_bits ∷ stays ∷ stays ∷ stays ∷ [])
    ∷ (zeroed ∷ zeroed ∷ stays ∷ zeroed ∷ stays ∷ [])
    ∷ (stays ∷ zeroed ∷ stays ∷ zeroed ∷ zeroed ∷ [])
    ∷ (zeroed ∷ zeroed ∷ zeroed ∷ zeroed ∷ zeroed ∷ [])
    ∷ (zeroed ∷ zeroed ∷ stays ∷ zeroed ∷ zeroed ∷ [])
    ∷ [])
    code []

-- the bytes of a part after its fate
unfoldable pub fated : Fate → List ℕ → List ℕ
fated stays bs = bs
fated zeroed bs = replicate (length bs) 0
fated two_bits bs = bytes (length bs) (value bs % 4)

-- the pieces of parts with these widths; what lies behind them stays
unfoldable pub parts : (widths : List ℕ) → List Fate → List ℕ → List Piece
parts [] fs bs = piece bs bs ∷ []
parts (w ∷ ws) [] bs = piece bs bs ∷ []
parts (w ∷ ws) (f ∷ fs) bs = piece (take w bs) (fated f (take w bs)) ∷ parts ws fs (drop w bs)

-- the pieces of a row, by its sixteen bytes
unfoldable pub row_pieces : List ℕ → List Piece
row_pieces row =
    let code = value (take 1 row) in let b = value (take 1 (drop 1 row)) in
    parts (1 ∷ 1 ∷ 2 ∷ 4 ∷ 4 ∷ 4 ∷ []) (stays ∷ fates code b) row

-- ---- all rows, by counting OPEN (7) and CLOSE (8) codes

-- is it the root's CLOSE, where this many scopes are open?
unfoldable pub closes_root : (code depth : ℕ) → Bool
closes_root code depth = eqb code 8 && leb depth 1

-- how many scopes are open behind a row of this code
unfoldable pub depth_after : (code depth : ℕ) → ℕ
depth_after code depth = when eqb code 7 then suc depth else when eqb code 8 then depth - 1 else depth

-- `count` CLOSE rows
unfoldable pub close_rows : (count : ℕ) → List ℕ
close_rows zero = []
close_rows (suc count) = encode_row Close ++ close_rows count

-- `count` whole rows, and what is behind them: "drops a part row", "cuts rows after the root's CLOSE", "adds missing CLOSE rows at the end"
unfoldable pub all_rows : (depth count : ℕ) → List ℕ → List Piece
all_rows depth zero bs = piece bs (close_rows depth) ∷ []
all_rows depth (suc count) bs =
    let code = value (take 1 bs) in
    row_pieces (take 16 bs)
    ++ (when closes_root code depth then piece (drop 16 bs) [] ∷ [] else all_rows (depth_after code depth) count (drop 16 bs))

-- the pieces behind the header: the whole rows there, and what follows them
unfoldable pub behind_header : Version → List ℕ → List Piece
behind_header v input = let bs = drop v.header input in all_rows 0 (length bs / 16) bs

-- ---- the header: "sets the row count to the whole rows left"

-- the pieces of the header: mark and version, rule set, row count, zeros
unfoldable pub header_pieces : Setting → (count : ℕ) → List ℕ → List Piece
header_pieces s count input =
    let v = s.version in
    piece (take 5 input) (take 5 input)
    ∷ piece (take 1 (drop 5 input)) (bytes 1 s.rules.number)
    ∷ piece (take v.counting (drop 6 input)) (bytes v.counting count)
    ∷ piece (take (v.header - (6 + v.counting)) (drop v.counting (drop 6 input))) (replicate (v.header - (6 + v.counting)) 0)
    ∷ []

-- all pieces of a form
unfoldable pub form_pieces : Setting → List ℕ → List Piece
form_pieces s input =
    let rows = behind_header s.version input in
    header_pieces s (length (afters rows) / 16) input ++ rows

-- ---- the answer

-- "If 01 still refuses with 1, 2, 4 or 5, or form or list has no room (3, in 01's order), it says so and changes nothing"
pub data Mending : Type 0 where
  refused : (number place : ℕ) → Mending
  mended : (form : List ℕ) (list : List Change) → Mending

-- the mended form with its list, if it is read; else its refusal
unfoldable pub read : AnswerOf Scope → (form : List ℕ) (list : List Change) → Mending
read (AnswerOf.refused number place carried) form list = refused number place
read (accepted tree) form list = mended form list

-- refusal 2 does not strike the form: its row count is within the limits and fits its length
unfoldable pub sized : Version → List ℕ → Bool
sized v form = between 1 v.rows (row_count v form) && eqb (length form) (v.header + 16 * row_count v form)

-- the answer under one setting: `room` bytes for the form, `space` bytes for the list
unfoldable pub mend_in : Setting → (input : List ℕ) (room space : ℕ) → Mending
mend_in s input room space =
    let form = afters (form_pieces s input) in
    let list = changes 0 (form_pieces s input) in
    when not (sized s.version form) then refused 2 0
    else when ltb room (length form) || ltb space (length (list_bytes list)) then refused 3 0
    else read (read_form s form) form list

-- Has it the header of a setting? Byte 5 of version 1 is zeroed, and so is not asked.
unfoldable pub asks_for : Setting → List ℕ → Bool
asks_for s input =
    leb s.version.header (length input)
    && same_numbers (take 5 input) (take 5 (Answer.mark s))
    && (eqb s.version.number 1 || same_numbers (take 1 (drop 5 input)) (bytes 1 s.rules.number))

-- the first setting whose header it has
unfoldable pub setting_for : List Setting → List ℕ → Option Setting
setting_for [] input = none
setting_for (s ∷ ss) input = only (asks_for s input) s or_else setting_for ss input

-- the answer under this setting; refusal 1, if the header is not that of any
unfoldable pub mend_for : Option Setting → (input : List ℕ) (room space : ℕ) → Mending
mend_for none input room space = refused 1 0
mend_for (some s) input room space = mend_in s input room space

-- the answer to an input: the mended form and the list of changes, or a refusal
unfoldable pub mend : List Setting → (input : List ℕ) (room space : ℕ) → Mending
mend settings input room space = mend_for (setting_for settings input) input room space

-- ---- the buffers

-- The form is the first `long` bytes of `buffer`, and the rest of it is room for added rows; `space` is the length of the list's buffer. A form
-- that is longer than the buffer is refusal 2.
unfoldable pub mend_buffer : List Setting → (buffer : List ℕ) (long space : ℕ) → Mending
mend_buffer settings buffer long space =
    when ltb (length buffer) long then refused 2 0 else mend settings (take long buffer) (length buffer) space

-- what the form's buffer holds: the mended form, zeros where a cut left bytes behind it, and what lay behind the longer of the two
unfoldable pub buffer_after : Mending → (long : ℕ) (old : List ℕ) → List ℕ
buffer_after (refused number place) long old = old
buffer_after (mended form list) long old =
    form ++ (replicate (long - length form) 0 ++ drop (length form + (long - length form)) old)

-- what the list's buffer holds: the list, and what lay behind it
unfoldable pub list_after : Mending → (old : List ℕ) → List ℕ
list_after (refused number place) old = old
list_after (mended form list) old = list_bytes list ++ drop (length (list_bytes list)) old

-- Unfolds all of this module: for a claim that antt computes.
unfoldable pub computes : Unit {0}
unfolding befores afters changes undo change_bytes list_bytes fates fated parts row_pieces closes_root depth_after close_rows all_rows behind_header header_pieces form_pieces read sized mend_in asks_for setting_for mend_for mend mend_buffer buffer_after list_after
computes = tt
