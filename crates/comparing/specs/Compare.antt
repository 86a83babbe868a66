-- Two resolved forms compared: the list of what differs, and what applying the list to the left one gives.
use Rattle.std.specs.Prelude.{Bool, ◌&&◌, List, [], ◌∷◌, ◌++◌, map, reverse, ℕ, suc, ◌+◌, ◌-◌, eqb, ltb, length, take, drop}
use Rattle.std.proofs.Math.Option.{Option, none, some}
use Rattle.rules.specs.Tools.{when◌then◌else◌}
use Rattle.rules.specs.Versions.{Setting, top_name, as_claimed}
use Rattle.rules.specs.Rows.{bytes, Raw, raw, Index, Num, Id, Row, Field, Decl, Ref, Path, Outer, Case, Open, Close, Export, encode}
use Rattle.rules.specs.Tree.{Scope, scope, Fields, end, ◌▸◌, Item, head_of, item_rows}
use Rattle.rules.specs.Answer.{AnswerOf, refused, accepted, same_numbers, setting_of, rows_bytes}
use Rattle.read_form.specs.ReadForm.{◌and_then◌, read_form}

-- ---- what counts

-- what is ignored: places (z of every row), and which fresh name it is (those above an input's names)
pub record Choice : Type 0 where
  pub places : Bool
  pub fresh : Bool

-- a place as it counts under the choice: not at all, or as it is
unfoldable pub blur_place : Choice → ℕ → ℕ
blur_place c z = when c.places then 0 else z

-- all fresh names count as one, which is no original name
unfoldable pub blur_name : Choice → ℕ → ℕ
blur_name c n = when c.fresh && ltb top_name n then suc top_name else n

-- an operand as it counts
unfoldable pub blur_index : Choice → Index → Index
blur_index c (Num n) = Num n
blur_index c (Id n) = Id (blur_name c n)

-- a row as it counts under the choice
unfoldable pub blur : Choice → Row → Row
blur c (Field code builtin z) = Field code builtin (blur_place c z)
blur c (Decl space name z) = Decl space (blur_name c name) (blur_place c z)
blur c (Ref space at paths z) = Ref space (blur_index c at) paths (blur_place c z)
blur c (Path name) = Path name
blur c (Outer space up at z) = Outer space (blur_index c up) (blur_index c at) (blur_place c z)
blur c (Case name z) = Case (blur_name c name) (blur_place c z)
blur c (Open kind name) = Open kind (blur_name c name)
blur c Close = Close
blur c (Export name) = Export name

-- ---- are they the same?

-- the six parts of a row as a list
unfoldable pub six_parts : Raw → List ℕ
six_parts (raw code b e x y z) = code ∷ b ∷ e ∷ x ∷ y ∷ z ∷ []

-- the parts of rows, one row after another
unfoldable pub rows_parts : List Row → List ℕ
rows_parts [] = []
rows_parts (r ∷ rs) = six_parts (encode r) ++ rows_parts rs

-- are these the same rows, as far as they count?
unfoldable pub same : Choice → (left right : List Row) → Bool
same c left right = same_numbers (rows_parts (map (blur c) left)) (rows_parts (map (blur c) right))

-- ---- the two forms side by side

-- what an entry of the list says: the root's OPEN rows differ, a field is only in the left, only in the right, or two lone fields differ
pub data Kind : Type 0 where
  opening : Kind
  left_only : Kind
  right_only : Kind
  differing : Kind

-- Rows of the left beside rows of the right: the same, or the right's stand in the left's place. None where a field is missing.
pub data Pair : Type 0 where
  alike : (left right : List Row) → Pair
  differs : Kind → (left right : List Row) → Pair

-- the fields of a scope, each with all inside it
unfoldable pub items : Fields → List Item
items end = []
items (i ▸ fs) = i ∷ items fs

-- a field that is only in the left
unfoldable pub only_left : Item → Pair
only_left i = differs left_only (item_rows i) []

-- a field that is only in the right
unfoldable pub only_right : Item → Pair
only_right i = differs right_only [] (item_rows i)

-- what is left over on both sides: two lone fields of one code are a differing pair
unfoldable pub rest : (left right : List Item) → List Pair
rest [] rs = map only_right rs
rest (l ∷ []) [] = only_left l ∷ []
rest (l ∷ []) (r ∷ []) =
    when eqb (head_of l).code (head_of r).code then differs differing (item_rows l) (item_rows r) ∷ []
    else only_left l ∷ only_right r ∷ []
rest (l ∷ []) (r ∷ r' ∷ rs) = only_left l ∷ map only_right (r ∷ r' ∷ rs)
rest (l ∷ l' ∷ ls) rs = map only_left (l ∷ l' ∷ ls) ++ map only_right rs

-- fields from the front while they are the same, then what `go` makes of the others
unfoldable pub front : Choice → (go : List Item → List Item → List Pair) → (left right : List Item) → List Pair
front c go [] rs = go [] rs
front c go (l ∷ ls) [] = go (l ∷ ls) []
front c go (l ∷ ls) (r ∷ rs) =
    when same c (item_rows l) (item_rows r) then alike (item_rows l) (item_rows r) ∷ front c go ls rs
    else go (l ∷ ls) (r ∷ rs)

-- `go` from the back: both sides are reversed, and what it makes of them is reversed again
unfoldable pub mirrored : (List Item → List Item → List Pair) → (left right : List Item) → List Pair
mirrored go ls rs = reverse (go (reverse ls) (reverse rs))

-- the root's fields: from the front while they are the same, then from the back, then the rest
unfoldable pub field_pairs : Choice → (left right : List Item) → List Pair
field_pairs c = front c (mirrored (front c (mirrored rest)))

-- the root's OPEN rows are a pair of their own
unfoldable pub open_pair : Choice → (left right : List Row) → Pair
open_pair c l r = when same c l r then alike l r else differs opening l r

-- all rows of two forms side by side
unfoldable pub form_pairs : Choice → (left right : Scope) → List Pair
form_pairs c (scope kind name fs) (scope kind' name' fs') =
    open_pair c (Open kind name ∷ []) (Open kind' name' ∷ [])
    ∷ (field_pairs c (items fs) (items fs') ++ (alike (Close ∷ []) (Close ∷ []) ∷ []))

-- ---- the list

-- An entry of the list: the left's first row and the number of rows there, the right's first row and its rows. Where a side has no rows, its first row is the one before which they are missing.
pub record Entry : Type 0 where
  pub kind : Kind
  pub left : ℕ
  pub count : ℕ
  pub right : ℕ
  pub rows : List Row

-- the entries for these pairs; `i` and `j` are the next rows of the left and of the right
unfoldable pub entries : (i j : ℕ) → List Pair → List Entry
entries i j [] = []
entries i j (alike l r ∷ ps) = entries (i + length l) (j + length r) ps
entries i j (differs k l r ∷ ps) =
    record { kind = k; left = i; count = length l; right = j; rows = r } ∷ entries (i + length l) (j + length r) ps

-- the list for two trees
unfoldable pub differences : Choice → (left right : Scope) → List Entry
differences c a b = entries 0 0 (form_pairs c a b)

-- Applied to the rows of the left, from row `i` on: each entry's rows stand in place of those that it counts.
unfoldable pub apply : (i : ℕ) → List Entry → List Row → List Row
apply i [] rows = rows
apply i (e ∷ es) rows =
    take (e.left - i) rows ++ (e.rows ++ apply (e.left + e.count) es (drop (e.left + e.count - i) rows))

-- ---- of bytes

-- The left's refusals, then the right's: refusal 1 where the right has another header than the left's, but for the count.
-- Both are read as an output may be.
unfoldable pub both_read : Option Setting → (left right : List ℕ) → AnswerOf (Scope × Scope)
both_read none left right = refused 1 0 []
both_read (some s) left right = read_form (as_claimed s) left and_then λ a. read_form (as_claimed s) right and_then λ b. accepted (a, b)

-- the list for two resolved forms as bytes, or a refusal
unfoldable pub compared : List Setting → Choice → (left right : List ℕ) → AnswerOf (List Entry)
compared settings c left right =
    both_read (setting_of settings left) left right and_then λ t. accepted (differences c t.0 t.1)

-- ---- the list as bytes

-- the number of a kind in the list
unfoldable pub kind_number : Kind → ℕ
kind_number opening = 1
kind_number left_only = 2
kind_number right_only = 3
kind_number differing = 4

-- an entry as bytes: five numbers of four bytes, and then the right's rows
unfoldable pub entry_bytes : Entry → List ℕ
entry_bytes e =
    bytes 4 (kind_number e.kind) ++ (bytes 4 e.left ++ (bytes 4 e.count ++ (bytes 4 e.right ++ (bytes 4 (length e.rows) ++ rows_bytes e.rows))))

-- the list as bytes, one entry after another
unfoldable pub list_bytes : List Entry → List ℕ
list_bytes [] = []
list_bytes (e ∷ es) = entry_bytes e ++ list_bytes es

-- the list, if there is room for it; `room` is the length of the buffer: refusal 3, last
unfoldable pub listed : List Setting → Choice → (left right : List ℕ) (room : ℕ) → AnswerOf (List Entry)
listed settings c left right room =
    compared settings c left right and_then λ es. when ltb room (length (list_bytes es)) then refused 3 0 [] else accepted es

-- what the buffer for the list holds after this answer
unfoldable pub list_after : AnswerOf (List Entry) → List ℕ → List ℕ
list_after (refused number place carried) old = old
list_after (accepted es) old = list_bytes es ++ drop (length (list_bytes es)) old

-- what the buffer holds after two forms are compared: the list, and beyond it what it held
unfoldable pub list_output : List Setting → Choice → (left right old : List ℕ) → List ℕ
list_output settings c left right old = list_after (listed settings c left right (length old)) old

-- Unfolds all of this module: for a claim that antt computes.
unfoldable pub computes : Unit {0}
unfolding blur_place blur_name blur_index blur six_parts rows_parts same items only_left only_right rest front mirrored field_pairs open_pair form_pairs entries differences apply both_read compared kind_number entry_bytes list_bytes listed list_after list_output
computes = tt
