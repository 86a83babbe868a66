-- A form whose names have gone through a mapping: row by row, header, numbers, export names and places stay.
use Rattle.std.specs.Prelude.{◌≡◌, true, List, [], ◌∷◌, ◌++◌, ℕ, zero, suc, ◌+◌, ◌*◌, ◌≤◌, eqb, length, take, drop}
use Rattle.std.proofs.Math.Option.{Option, none, some}
use Rattle.rules.specs.Tools.{when◌then◌else◌, is_in, between}
use Rattle.rules.specs.Versions.{Setting, top_name}
use Rattle.rules.specs.Rows.{Index, Num, Id, Row, Field, Decl, Ref, Path, Outer, Case, Open, Close, Export, decode_row, encode_row}
use Rattle.rules.specs.Answer.{row_count, setting_of}

-- ---- mappings

-- a mapping of names to names that keeps different ones different
pub record Keeps (f : ℕ → ℕ) : Type 0 where
  pub within : (n : ℕ) → 1 ≤ n → n ≤ top_name → (1 ≤ f n) × (f n ≤ top_name)
  pub apart : (a b : ℕ) → 1 ≤ a → a ≤ top_name → 1 ≤ b → b ≤ top_name → f a ≡ f b → a ≡ b

-- a mapping that does so for these names
pub record KeepsOn (ns : List ℕ) (f : ℕ → ℕ) : Type 0 where
  pub within : (n : ℕ) → is_in n ns ≡ true → (1 ≤ f n) × (f n ≤ top_name)
  pub apart : (a b : ℕ) → is_in a ns ≡ true → is_in b ns ≡ true → f a ≡ f b → a ≡ b

-- ---- every name of a row goes through `g`

-- a number stays, a name is mapped
abbrev pub renamed_index : (g : ℕ → ℕ) → Index → Index
renamed_index g (Num n) = Num n
renamed_index g (Id n) = Id (g n)

-- a row with its names mapped; export names are not names of the form
unfoldable pub renamed_row : (g : ℕ → ℕ) → Row → Row
renamed_row g (Field code builtin z) = Field code builtin z
renamed_row g (Decl space name z) = Decl space (g name) z
renamed_row g (Ref space at paths z) = Ref space (renamed_index g at) paths z
renamed_row g (Path name) = Path name
renamed_row g (Outer space up at z) = Outer space (renamed_index g up) (renamed_index g at) z
renamed_row g (Case name z) = Case (g name) z
renamed_row g (Open kind name) = Open kind (g name)
renamed_row g Close = Close
renamed_row g (Export name) = Export name

-- the bytes of a row with its names mapped; a row that cannot be taken apart stays
unfoldable pub renamed_part : (g : ℕ → ℕ) → Option Row → (bs : List ℕ) → List ℕ
renamed_part g none bs = take 16 bs
renamed_part g (some row) bs = encode_row (renamed_row g row)

-- the bytes of `count` rows, with their names mapped
unfoldable pub renamed_rows : (g : ℕ → ℕ) (count : ℕ) → List ℕ → List ℕ
renamed_rows g zero bs = bs
renamed_rows g (suc count) bs = renamed_part g (decode_row top_name bs) bs ++ renamed_rows g count (drop 16 bs)

-- ---- an input

-- the names of an input are 1 to 2147483647: 0 stays, and so do the names of inserted fields
unfoldable pub renamed : (f : ℕ → ℕ) → ℕ → ℕ
renamed f n = when between 1 top_name n then f n else n

-- the header stays, and so does an input that is not as long as its header says
unfoldable pub renamed_in : (f : ℕ → ℕ) → Setting → List ℕ → List ℕ
renamed_in f s input =
    let v = s.version in
    when eqb (length input) (v.header + 16 * row_count v input)
    then take v.header input ++ renamed_rows (renamed f) (row_count v input) (drop v.header input)
    else input

-- so does an input that no setting takes
unfoldable pub renamed_for : (f : ℕ → ℕ) → Option Setting → List ℕ → List ℕ
renamed_for f none input = input
renamed_for f (some s) input = renamed_in f s input

-- an input with its names mapped
unfoldable pub renamed_bytes : (f : ℕ → ℕ) → List Setting → List ℕ → List ℕ
renamed_bytes f settings input = renamed_for f (setting_of settings input) input

-- ---- a mapping by first appearance: the names become 1, 2, 3, … in the order in which they first stand in the rows

-- the name that a part holds: 0 is no name
unfoldable pub name_in : ℕ → List ℕ
name_in n = when eqb n 0 then [] else n ∷ []

-- the name in an operand
abbrev pub index_names : Index → List ℕ
index_names (Num n) = []
index_names (Id n) = name_in n

-- the names in a row, in order
unfoldable pub row_names : Row → List ℕ
row_names (Field code builtin z) = []
row_names (Decl space name z) = name_in name
row_names (Ref space at paths z) = index_names at
row_names (Path name) = []
row_names (Outer space up at z) = index_names up ++ index_names at
row_names (Case name z) = name_in name
row_names (Open kind name) = name_in name
row_names Close = []
row_names (Export name) = []

-- the names of all rows
unfoldable pub names_of : List (Option Row) → List ℕ
names_of [] = []
names_of (none ∷ rows) = names_of rows
names_of (some row ∷ rows) = row_names row ++ names_of rows

-- each name once, where it first stands; `seen` are those before
unfoldable pub firsts : (seen : List ℕ) → List ℕ → List ℕ
firsts seen [] = seen
firsts seen (n ∷ ns) = when is_in n seen then firsts seen ns else firsts (seen ++ (n ∷ [])) ns

-- the place of a name in a list, from 1; the next one, if it is not there
unfoldable pub place_of : List ℕ → ℕ → ℕ
place_of [] n = 1
place_of (m ∷ ms) n = when eqb n m then 1 else suc (place_of ms n)

-- the mapping by first appearance in these rows
unfoldable pub by_first : List (Option Row) → ℕ → ℕ
by_first rows n = place_of (firsts [] (names_of rows)) n

-- Unfolds all of this module: for a claim that antt computes.
unfoldable pub computes : Unit {0}
unfolding renamed_row renamed_part renamed_rows renamed renamed_in renamed_for renamed_bytes name_in row_names names_of firsts place_of by_first
computes = tt
