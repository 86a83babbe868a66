-- What a refusal carries besides its number and place, and what lookup answers besides a number.
use Rattle.std.specs.Prelude.{◌≡◌, refl, Bool, true, false, ◌&&◌, List, [], ◌∷◌, ◌++◌, map, ℕ, ◌+◌, ◌*◌, eqb, length}
use Rattle.rules.specs.Tools
use Rattle.rules.specs.Versions.{version1, today, base}
use Rattle.rules.specs.Rows
use Rattle.rules.specs.Rows.{Raw, raw, decode}
use Rattle.rules.specs.Tree
use Rattle.rules.specs.Tree.{scope, RowsRead, bad, deep, form}
use Rattle.rules.specs.Shapes
use Rattle.rules.specs.Reader
use Rattle.rules.specs.Reader.{read}
use Rattle.rules.specs.Rules
use Rattle.rules.specs.Rules.{Result, ok, Entry, Env, at_root, prepare, found, absent, look_up}
use Rattle.rules.specs.Answer
use Rattle.rules.specs.Answer.{Answer, accepted, answer, same_numbers}
use Rattle.rules.specs.Examples

-- ---- refusals

record Said : Type 0 where
  input : List Raw
  number : ℕ
  place : ℕ
  carried : List ℕ

root : List Raw → List Raw
root rs = raw 7 0 0 0 0 0 ∷ (rs ++ (raw 8 0 0 0 0 0 ∷ []))

said : Answer → Said → Bool
said (Answer.refused n p c) s = eqb n s.number && (eqb p s.place && same_numbers c s.carried)
said (accepted out) s = false

said_all : List Said → Bool
said_all [] = true
said_all (s ∷ ss) = said (answer base (Examples.input_bytes (record { version = version1; rules = today }) s.input) (8 + 64 * length s.input)) s && said_all ss

cases : List Said
cases =
    -- 6: the space, and the place of the first
    record { input = root (raw 1 5 0 0 0 0 ∷ raw 2 4 0 1 0 10 ∷ raw 2 4 0 2 0 11 ∷ raw 2 4 0 1 0 12 ∷ []); number = 6; place = 12; carried = 4 ∷ 10 ∷ [] }
    -- 8: the space
    ∷ record {
      input = root (raw 1 22 0 0 0 0 ∷ raw 2 8 0 5 0 0 ∷ raw 3 8 0 0 0 0 ∷ raw 1 6 0 0 0 0 ∷ raw 2 11 0 0 0 0 ∷ raw 7 0 0 0 0 0 ∷ raw 1 22 0 0 0 0 ∷ raw 2 8 0 0 0 0 ∷ raw 3 8 1 5 0 9 ∷ raw 8 0 0 0 0 0 ∷ []);
      number = 8;
      place = 9;
      carried = 8 ∷ [];
    }
    -- 9: the space; of a path that of its instance; of a named index
    ∷ record { input = root (raw 1 12 0 0 0 0 ∷ raw 2 9 0 1 0 0 ∷ raw 3 9 1 2 0 9 ∷ []); number = 9; place = 9; carried = 9 ∷ [] }
    ∷ record { input = root (raw 1 22 0 0 0 0 ∷ raw 2 8 0 0 0 0 ∷ raw 3 8 1 1 1 9 ∷ raw 4 0 0 5 0 0 ∷ []); number = 9; place = 9; carried = 10 ∷ [] }
    ∷ record { input = root (raw 1 3 0 0 0 0 ∷ raw 2 6 0 0 0 0 ∷ raw 3 1 1 1 1 9 ∷ raw 4 0 0 5 0 0 ∷ []); number = 9; place = 9; carried = 6 ∷ [] }
    ∷ record { input = root (raw 1 11 0 0 0 50 ∷ raw 2 4 0 1 0 0 ∷ raw 5 4 2 0 2 9 ∷ []); number = 9; place = 9; carried = 4 ∷ [] }
    -- nothing with the others
    ∷ record { input = root (raw 1 2 0 0 0 0 ∷ raw 2 6 0 0 0 0 ∷ raw 3 7 0 0 0 0 ∷ raw 3 6 1 1 1 95 ∷ raw 4 0 0 5 0 0 ∷ []); number = 7; place = 95; carried = [] }
    ∷ record { input = root (raw 1 11 0 0 0 50 ∷ raw 2 9 0 1 0 0 ∷ raw 5 9 1 7 0 51 ∷ []); number = 10; place = 50; carried = [] }
    ∷ record { input = root (raw 1 11 0 0 0 50 ∷ raw 2 9 0 1 0 0 ∷ raw 5 9 2 1 7 51 ∷ []); number = 11; place = 50; carried = [] }
    ∷ record { input = root (raw 1 12 0 0 0 0 ∷ raw 2 9 0 0 0 0 ∷ raw 6 0 0 1 0 60 ∷ raw 6 0 0 1 0 61 ∷ []); number = 12; place = 61; carried = [] }
    ∷ record { input = raw 7 0 0 0 0 0 ∷ []; number = 4; place = 1; carried = [] }
    ∷ []

all_right : said_all cases ≡ true
unfolding cases said_all said root Examples.input_bytes Examples.raws_bytes Tools.computes Rows.computes Tree.computes Shapes.computes Reader.computes Rules.computes Answer.computes
all_right = refl

-- ---- lookup

entries_of : Result (Env × ℕ) → List Entry
entries_of (Result.refused why place) = []
entries_of (ok p) = p.0.entries

-- the table of the root
table_of_root : RowsRead → List Entry
table_of_root (bad place) = []
table_of_root (deep place) = []
table_of_root (form (scope kind name fs)) = entries_of (prepare name fs (at_root today []) 0)

table : List Raw → List Entry
table rs = table_of_root (read today 32 (map (decode 2147483647) rs))

-- an instance 1 in row 2, and in row 5 a func of it, two PATHs further; an instance 3 in row 9
pathed : List Raw
pathed =
    root (raw 1 8 0 0 0 0 ∷ raw 2 10 0 1 0 0
    ∷ raw 1 22 0 0 0 0 ∷ raw 2 8 0 2 0 0 ∷ raw 3 8 1 1 2 70 ∷ raw 4 0 0 5 0 0 ∷ raw 4 0 0 6 0 0
    ∷ raw 1 8 0 0 0 0 ∷ raw 2 10 0 3 0 0 ∷ [])

-- each with its number and row; the inserted ones have that of their reference
looked : (look_up (table pathed) 10 1 ≡ found 0 2) × (look_up (table pathed) 8 2 ≡ found 1 4) × (look_up (table pathed) 10 3 ≡ found 2 9)
    × (look_up (table pathed) 10 2147483648 ≡ found 1 5) × (look_up (table pathed) 8 2147483649 ≡ found 0 5) × (look_up (table pathed) 9 1 ≡ absent 9)
unfolding table table_of_root entries_of pathed root Tools.computes Rows.computes Tree.computes Shapes.computes Reader.computes Rules.computes
looked = (refl, refl, refl, refl, refl, refl)
