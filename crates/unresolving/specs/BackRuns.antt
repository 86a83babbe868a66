-- Runs of `unresolve` that antt computes: the output of an input, what `unresolve` makes of it, and that this resolves to the same output.
use Rattle.std.specs.Prelude.{◌≡◌, refl, Bool, true, false, ◌&&◌, List, [], ◌∷◌, ◌++◌, map, ℕ}
use Rattle.std.proofs.Math.Option.{Option, none, some}
use Rattle.rules.specs.Tools
use Rattle.rules.specs.Versions
use Rattle.rules.specs.Versions.{RuleSet, version1, version2, today, newer, base}
use Rattle.rules.specs.Rows
use Rattle.rules.specs.Rows.{Raw, raw, Row, decode_row, raw_bytes}
use Rattle.rules.specs.Tree
use Rattle.rules.specs.Tree.{Scope, flatten, RowsRead, bad, deep, form}
use Rattle.rules.specs.Shapes
use Rattle.rules.specs.Reader
use Rattle.rules.specs.Reader.{read}
use Rattle.rules.specs.Rules
use Rattle.rules.specs.Rules.{Result, refused, ok, resolve}
use Rattle.rules.specs.Readings.{is_fresh, any_fresh, is_inserted}
use Rattle.rules.specs.Answer
use Rattle.rules.specs.Answer.{same_numbers, rows_bytes}
use Rattle.rules.specs.Examples.{raws_bytes, input_bytes}
use Rattle.unresolving.specs.Back
use Rattle.unresolving.specs.Back.{unresolve}
use Rattle.unresolving.specs.BackAnswer
use Rattle.unresolving.specs.BackAnswer.{back}

-- an input, and what `unresolve` makes of its output
pub record Run : Type 0 where
  pub input : List Raw
  pub back : List Raw

-- rows that are given by their parts
unfoldable pub rows_from : List Raw → List (Option Row)
rows_from rs = map (λ (x : Raw). decode_row version1.names (raw_bytes x)) rs

-- are these the rows of the tree?
unfoldable pub are : List Raw → Scope → Bool
are rs s = same_numbers (rows_bytes (flatten s)) (raws_bytes rs)

-- is that tree the result?
unfoldable pub is : Result (Scope × ℕ) → Scope → Bool
is (refused why place) s = false
is (ok r) s = same_numbers (rows_bytes (flatten r.0)) (rows_bytes (flatten s))

module _ (rules : RuleSet) where
  -- does the output come back as `back`, and does that resolve to the output?
  unfoldable pub right_after : List Raw → Result (Scope × ℕ) → Bool
  right_after back (refused why place) = false
  right_after back (ok r) = are back (unresolve r.0) && is (resolve rules (unresolve r.0)) r.0

  -- the same of a form that was read
  unfoldable pub right_reading : List Raw → RowsRead → Bool
  right_reading back (bad place) = false
  right_reading back (deep place) = false
  right_reading back (form s) = right_after back (resolve rules s)

  -- does a run come out right?
  unfoldable pub right : Run → Bool
  right c = right_reading c.back (read rules 32 (rows_from c.input))

  -- do all runs?
  unfoldable pub all : List Run → Bool
  all [] = true
  all (c ∷ cs) = right c && all cs

-- runs under rule set 0: names, paths, written numbers and ascribed types, there and back
unfoldable pub runs : List Run
runs =
    -- P1: a type of the root, named in a component inside it: the same input
    record {
      input = raw 7 0 0 0 0 0 ∷ raw 1 12 0 0 0 0 ∷ raw 2 9 0 1 0 0 ∷ raw 1 6 0 0 0 0 ∷ raw 2 11 0 2 0 0 ∷ raw 7 0 0 2 0 0 ∷ raw 1 12 0 0 0 0 ∷ raw 2 9 0 3 0 0 ∷ raw 3 9 1 1 0 70 ∷ raw 8 0 0 0 0 0 ∷ raw 8 0 0 0 0 0 ∷ [];
      back = raw 7 0 0 0 0 0 ∷ raw 1 12 0 0 0 0 ∷ raw 2 9 0 1 0 0 ∷ raw 1 6 0 0 0 0 ∷ raw 2 11 0 2 0 0 ∷ raw 7 0 0 2 0 0 ∷ raw 1 12 0 0 0 0 ∷ raw 2 9 0 3 0 0 ∷ raw 3 9 1 1 0 70 ∷ raw 8 0 0 0 0 0 ∷ raw 8 0 0 0 0 0 ∷ [];
    }
    -- P9: two references to one outer type
    ∷ record {
      input = raw 7 0 0 0 0 0 ∷ raw 1 12 0 0 0 0 ∷ raw 2 9 0 1 0 0 ∷ raw 1 6 0 0 0 0 ∷ raw 2 11 0 0 0 0 ∷ raw 7 0 0 0 0 0 ∷ raw 1 12 0 0 0 0 ∷ raw 2 9 0 0 0 0 ∷ raw 3 9 1 1 0 70 ∷ raw 3 9 1 1 0 71 ∷ raw 8 0 0 0 0 0 ∷ raw 8 0 0 0 0 0 ∷ [];
      back = raw 7 0 0 0 0 0 ∷ raw 1 12 0 0 0 0 ∷ raw 2 9 0 1 0 0 ∷ raw 1 6 0 0 0 0 ∷ raw 2 11 0 0 0 0 ∷ raw 7 0 0 0 0 0 ∷ raw 1 12 0 0 0 0 ∷ raw 2 9 0 0 0 0 ∷ raw 3 9 1 1 0 70 ∷ raw 3 9 1 1 0 71 ∷ raw 8 0 0 0 0 0 ∷ raw 8 0 0 0 0 0 ∷ [];
    }
    -- P10: a name that is found in its own scope stays a number
    ∷ record {
      input = raw 7 0 0 0 0 0 ∷ raw 1 12 0 0 0 0 ∷ raw 2 9 0 1 0 0 ∷ raw 3 9 1 2 0 9 ∷ raw 1 12 0 0 0 0 ∷ raw 2 9 0 2 0 0 ∷ raw 8 0 0 0 0 0 ∷ [];
      back = raw 7 0 0 0 0 0 ∷ raw 1 12 0 0 0 0 ∷ raw 2 9 0 1 0 0 ∷ raw 3 9 0 1 0 9 ∷ raw 1 12 0 0 0 0 ∷ raw 2 9 0 2 0 0 ∷ raw 8 0 0 0 0 0 ∷ [];
    }
    -- a path of three on a named instance: its number is that after the insertions
    ∷ record {
      input = raw 7 0 0 0 0 0 ∷ raw 1 22 0 0 0 0 ∷ raw 2 8 0 0 0 0 ∷ raw 3 8 1 1 3 90 ∷ raw 4 0 0 5 0 0 ∷ raw 4 0 0 6 0 0 ∷ raw 4 0 0 7 0 0 ∷ raw 1 8 0 0 0 0 ∷ raw 2 10 0 1 0 0 ∷ raw 8 0 0 0 0 0 ∷ [];
      back = raw 7 0 0 0 0 0 ∷ raw 1 22 0 0 0 0 ∷ raw 2 8 0 0 0 0 ∷ raw 3 8 0 2 3 90 ∷ raw 4 0 0 5 0 0 ∷ raw 4 0 0 6 0 0 ∷ raw 4 0 0 7 0 0 ∷ raw 1 8 0 0 0 0 ∷ raw 2 10 0 1 0 0 ∷ raw 8 0 0 0 0 0 ∷ [];
    }
    -- a written number that counts to the alias of the reference before it: the last that fits becomes the name
    ∷ record {
      input = raw 7 0 0 0 0 0 ∷ raw 1 12 0 0 0 0 ∷ raw 2 9 0 1 0 0 ∷ raw 1 6 0 0 0 0 ∷ raw 2 11 0 0 0 0 ∷ raw 7 0 0 0 0 0 ∷ raw 1 12 0 0 0 0 ∷ raw 2 9 0 0 0 0 ∷ raw 3 9 1 1 0 70 ∷ raw 3 9 0 0 0 70 ∷ raw 8 0 0 0 0 0 ∷ raw 8 0 0 0 0 0 ∷ [];
      back = raw 7 0 0 0 0 0 ∷ raw 1 12 0 0 0 0 ∷ raw 2 9 0 1 0 0 ∷ raw 1 6 0 0 0 0 ∷ raw 2 11 0 0 0 0 ∷ raw 7 0 0 0 0 0 ∷ raw 1 12 0 0 0 0 ∷ raw 2 9 0 0 0 0 ∷ raw 3 9 0 0 0 70 ∷ raw 3 9 1 1 0 70 ∷ raw 8 0 0 0 0 0 ∷ raw 8 0 0 0 0 0 ∷ [];
    }
    -- at another place it is not that alias's reference
    ∷ record {
      input = raw 7 0 0 0 0 0 ∷ raw 1 12 0 0 0 0 ∷ raw 2 9 0 1 0 0 ∷ raw 1 6 0 0 0 0 ∷ raw 2 11 0 0 0 0 ∷ raw 7 0 0 0 0 0 ∷ raw 1 12 0 0 0 0 ∷ raw 2 9 0 0 0 0 ∷ raw 3 9 1 1 0 70 ∷ raw 3 9 0 0 0 71 ∷ raw 8 0 0 0 0 0 ∷ raw 8 0 0 0 0 0 ∷ [];
      back = raw 7 0 0 0 0 0 ∷ raw 1 12 0 0 0 0 ∷ raw 2 9 0 1 0 0 ∷ raw 1 6 0 0 0 0 ∷ raw 2 11 0 0 0 0 ∷ raw 7 0 0 0 0 0 ∷ raw 1 12 0 0 0 0 ∷ raw 2 9 0 0 0 0 ∷ raw 3 9 1 1 0 70 ∷ raw 3 9 0 0 0 71 ∷ raw 8 0 0 0 0 0 ∷ raw 8 0 0 0 0 0 ∷ [];
    }
    -- two paths, the second on the written number of the first one's alias: one path of two, and a number
    ∷ record {
      input = raw 7 0 0 0 0 0 ∷ raw 1 8 0 0 0 0 ∷ raw 2 10 0 1 0 0 ∷ raw 1 8 0 0 0 0 ∷ raw 2 10 0 2 0 0 ∷ raw 3 10 1 1 1 9 ∷ raw 4 0 0 5 0 0 ∷ raw 3 10 0 1 1 9 ∷ raw 4 0 0 6 0 0 ∷ raw 8 0 0 0 0 0 ∷ [];
      back = raw 7 0 0 0 0 0 ∷ raw 1 8 0 0 0 0 ∷ raw 2 10 0 1 0 0 ∷ raw 1 8 0 0 0 0 ∷ raw 2 10 0 2 0 0 ∷ raw 3 10 0 1 0 9 ∷ raw 3 10 0 0 2 9 ∷ raw 4 0 0 5 0 0 ∷ raw 4 0 0 6 0 0 ∷ raw 8 0 0 0 0 0 ∷ [];
    }
    -- the same at another place: two paths
    ∷ record {
      input = raw 7 0 0 0 0 0 ∷ raw 1 8 0 0 0 0 ∷ raw 2 10 0 1 0 0 ∷ raw 1 8 0 0 0 0 ∷ raw 2 10 0 2 0 0 ∷ raw 3 10 1 1 1 9 ∷ raw 4 0 0 5 0 0 ∷ raw 3 10 0 1 1 10 ∷ raw 4 0 0 6 0 0 ∷ raw 8 0 0 0 0 0 ∷ [];
      back = raw 7 0 0 0 0 0 ∷ raw 1 8 0 0 0 0 ∷ raw 2 10 0 1 0 0 ∷ raw 1 8 0 0 0 0 ∷ raw 2 10 0 2 0 0 ∷ raw 3 10 0 0 1 9 ∷ raw 4 0 0 5 0 0 ∷ raw 3 10 0 1 1 10 ∷ raw 4 0 0 6 0 0 ∷ raw 8 0 0 0 0 0 ∷ [];
    }
    -- two paths on one instance
    ∷ record {
      input = raw 7 0 0 0 0 0 ∷ raw 1 8 0 0 0 0 ∷ raw 2 10 0 1 0 0 ∷ raw 1 8 0 0 0 0 ∷ raw 2 10 0 2 0 0 ∷ raw 3 10 1 1 1 9 ∷ raw 4 0 0 5 0 0 ∷ raw 3 10 1 1 1 9 ∷ raw 4 0 0 6 0 0 ∷ raw 8 0 0 0 0 0 ∷ [];
      back = raw 7 0 0 0 0 0 ∷ raw 1 8 0 0 0 0 ∷ raw 2 10 0 1 0 0 ∷ raw 1 8 0 0 0 0 ∷ raw 2 10 0 2 0 0 ∷ raw 3 10 0 0 1 9 ∷ raw 4 0 0 5 0 0 ∷ raw 3 10 0 0 1 9 ∷ raw 4 0 0 6 0 0 ∷ raw 8 0 0 0 0 0 ∷ [];
    }
    -- three scopes: type 1 again in component 2, whose component 3 names it and a type of the root
    ∷ record {
      input = raw 7 0 0 0 0 0 ∷ raw 1 12 0 0 0 0 ∷ raw 2 9 0 1 0 0 ∷ raw 1 12 0 0 0 0 ∷ raw 2 9 0 5 0 0 ∷ raw 1 6 0 0 0 0 ∷ raw 2 11 0 2 0 0 ∷ raw 7 0 0 2 0 0 ∷ raw 1 13 0 0 0 0 ∷ raw 2 9 0 1 0 0 ∷ raw 3 9 1 5 0 60 ∷ raw 1 6 0 0 0 0 ∷ raw 2 11 0 3 0 0 ∷ raw 7 0 0 3 0 0 ∷ raw 1 12 0 0 0 0 ∷ raw 2 9 0 4 0 0 ∷ raw 3 9 1 1 0 70 ∷ raw 3 9 1 5 0 71 ∷ raw 8 0 0 0 0 0 ∷ raw 8 0 0 0 0 0 ∷ raw 8 0 0 0 0 0 ∷ [];
      back = raw 7 0 0 0 0 0 ∷ raw 1 12 0 0 0 0 ∷ raw 2 9 0 1 0 0 ∷ raw 1 12 0 0 0 0 ∷ raw 2 9 0 5 0 0 ∷ raw 1 6 0 0 0 0 ∷ raw 2 11 0 2 0 0 ∷ raw 7 0 0 2 0 0 ∷ raw 1 13 0 0 0 0 ∷ raw 2 9 0 1 0 0 ∷ raw 3 9 1 5 0 60 ∷ raw 1 6 0 0 0 0 ∷ raw 2 11 0 3 0 0 ∷ raw 7 0 0 3 0 0 ∷ raw 1 12 0 0 0 0 ∷ raw 2 9 0 4 0 0 ∷ raw 3 9 1 1 0 70 ∷ raw 3 9 1 5 0 71 ∷ raw 8 0 0 0 0 0 ∷ raw 8 0 0 0 0 0 ∷ raw 8 0 0 0 0 0 ∷ [];
    }
    -- an export of a type with an ascribed one: both references count to the alias of the second's path, which is no place for it in the first
    ∷ record {
      input = raw 7 0 0 0 0 0 ∷ raw 1 8 0 0 0 0 ∷ raw 2 10 0 1 0 0 ∷ raw 1 12 0 0 0 0 ∷ raw 2 9 0 2 0 0 ∷ raw 1 22 1 0 0 0 ∷ raw 2 9 0 3 0 0 ∷ raw 3 9 0 1 0 9 ∷ raw 3 9 1 1 1 9 ∷ raw 4 0 0 5 0 0 ∷ raw 8 0 0 0 0 0 ∷ [];
      back = raw 7 0 0 0 0 0 ∷ raw 1 8 0 0 0 0 ∷ raw 2 10 0 1 0 0 ∷ raw 1 12 0 0 0 0 ∷ raw 2 9 0 2 0 0 ∷ raw 1 22 1 0 0 0 ∷ raw 2 9 0 3 0 0 ∷ raw 3 9 0 1 0 9 ∷ raw 3 9 0 0 1 9 ∷ raw 4 0 0 5 0 0 ∷ raw 8 0 0 0 0 0 ∷ [];
    }
    -- the same without the ascribed type
    ∷ record {
      input = raw 7 0 0 0 0 0 ∷ raw 1 8 0 0 0 0 ∷ raw 2 10 0 1 0 0 ∷ raw 1 22 1 0 0 0 ∷ raw 2 9 0 3 0 0 ∷ raw 3 9 1 1 1 9 ∷ raw 4 0 0 5 0 0 ∷ raw 8 0 0 0 0 0 ∷ [];
      back = raw 7 0 0 0 0 0 ∷ raw 1 8 0 0 0 0 ∷ raw 2 10 0 1 0 0 ∷ raw 1 22 1 0 0 0 ∷ raw 2 9 0 3 0 0 ∷ raw 3 9 0 0 1 9 ∷ raw 4 0 0 5 0 0 ∷ raw 8 0 0 0 0 0 ∷ [];
    }
    ∷ []

-- they come out right
pub all_right : all today runs ≡ true
unfolding runs all right right_reading right_after is are rows_from raws_bytes is_fresh any_fresh is_inserted Tools.computes Rows.computes Tree.computes Shapes.computes Reader.computes Rules.computes Answer.computes Back.computes
all_right = refl

-- the rules of the newer tools: a name and the instance of a path that earlier fields declare
unfoldable pub newer_runs : List Run
newer_runs =
    record {
      input = raw 7 0 0 0 0 0 ∷ raw 1 12 0 0 0 0 ∷ raw 2 9 0 1 0 0 ∷ raw 1 6 0 0 0 0 ∷ raw 2 11 0 2 0 0 ∷ raw 7 0 0 2 0 0 ∷ raw 1 12 0 0 0 0 ∷ raw 2 9 0 3 0 0 ∷ raw 3 9 1 1 0 70 ∷ raw 8 0 0 0 0 0 ∷ raw 8 0 0 0 0 0 ∷ [];
      back = raw 7 0 0 0 0 0 ∷ raw 1 12 0 0 0 0 ∷ raw 2 9 0 1 0 0 ∷ raw 1 6 0 0 0 0 ∷ raw 2 11 0 2 0 0 ∷ raw 7 0 0 2 0 0 ∷ raw 1 12 0 0 0 0 ∷ raw 2 9 0 3 0 0 ∷ raw 3 9 1 1 0 70 ∷ raw 8 0 0 0 0 0 ∷ raw 8 0 0 0 0 0 ∷ [];
    }
    ∷ record {
      input = raw 7 0 0 0 0 0 ∷ raw 1 8 0 0 0 0 ∷ raw 2 10 0 1 0 0 ∷ raw 1 22 0 0 0 0 ∷ raw 2 8 0 0 0 0 ∷ raw 3 8 1 1 2 70 ∷ raw 4 0 0 5 0 0 ∷ raw 4 0 0 6 0 0 ∷ raw 8 0 0 0 0 0 ∷ [];
      back = raw 7 0 0 0 0 0 ∷ raw 1 8 0 0 0 0 ∷ raw 2 10 0 1 0 0 ∷ raw 1 22 0 0 0 0 ∷ raw 2 8 0 0 0 0 ∷ raw 3 8 0 0 2 70 ∷ raw 4 0 0 5 0 0 ∷ raw 4 0 0 6 0 0 ∷ raw 8 0 0 0 0 0 ∷ [];
    }
    ∷ []

-- the runs under rule set 1 come out right
pub newer_right : all newer newer_runs ≡ true
unfolding newer_runs all right right_reading right_after is are rows_from raws_bytes is_fresh any_fresh is_inserted Tools.computes Rows.computes Tree.computes Shapes.computes Reader.computes Rules.computes Answer.computes Back.computes
newer_right = refl

-- ---- bytes: what is given, and what no input has as its output

-- a form of version 1 with these rows
unfoldable pub form_of : List Raw → List ℕ
form_of rs = input_bytes (record { version = version1; rules = today }) rs

-- the same with version 2, and these rules
unfoldable pub second_form : RuleSet → List Raw → List ℕ
second_form rules rs = input_bytes (record { version = version2; rules = rules }) rs

-- are these the bytes that are given?
unfoldable pub is_given : Option (List ℕ) → List ℕ → Bool
is_given none expected = false
is_given (some bs) expected = same_numbers bs expected

-- type 1 of the root and a component whose type has these rows, which names it once or twice
unfoldable pub inside : List Raw → List Raw
inside rs = raw 7 0 0 0 0 0 ∷ raw 1 12 0 0 0 0 ∷ raw 2 9 0 1 0 0 ∷ raw 1 6 0 0 0 0 ∷ raw 2 11 0 2 0 0 ∷ raw 7 0 0 2 0 0 ∷ (rs ++ (raw 8 0 0 0 0 0 ∷ raw 8 0 0 0 0 0 ∷ []))

-- an input comes back as bytes
pub given :
    (is_given (back base (form_of (inside (raw 1 11 0 0 0 70 ∷ raw 2 9 0 2147483648 0 70 ∷ raw 5 9 0 1 0 70 ∷ raw 1 12 0 0 0 0 ∷ raw 2 9 0 3 0 0 ∷ raw 3 9 0 0 0 70 ∷ []))))
    (form_of (inside (raw 1 12 0 0 0 0 ∷ raw 2 9 0 3 0 0 ∷ raw 3 9 1 1 0 70 ∷ [])))) ≡ true
unfolding inside is_given form_of input_bytes raws_bytes is_fresh any_fresh is_inserted Tools.computes Rows.computes Tree.computes Shapes.computes Reader.computes Rules.computes Answer.computes Back.computes BackAnswer.computes
given = refl

-- a name where an output has numbers
pub named_none : back base (form_of (inside (raw 1 12 0 0 0 0 ∷ raw 2 9 0 3 0 0 ∷ raw 3 9 1 1 0 70 ∷ []))) ≡ none
unfolding inside form_of input_bytes raws_bytes is_fresh any_fresh is_inserted Tools.computes Rows.computes Tree.computes Shapes.computes Reader.computes Rules.computes Answer.computes Back.computes BackAnswer.computes
named_none = refl

-- another fresh name than the first
pub fresh_none : back base (form_of (inside (raw 1 11 0 0 0 70 ∷ raw 2 9 0 2147483649 0 70 ∷ raw 5 9 0 1 0 70 ∷ raw 1 12 0 0 0 0 ∷ raw 2 9 0 3 0 0 ∷ raw 3 9 0 0 0 70 ∷ []))) ≡ none
unfolding inside form_of input_bytes raws_bytes is_fresh any_fresh is_inserted Tools.computes Rows.computes Tree.computes Shapes.computes Reader.computes Rules.computes Answer.computes Back.computes BackAnswer.computes
fresh_none = refl

-- an alias that no reference at its place counts to
pub unused_none : back base (form_of (inside (raw 1 11 0 0 0 70 ∷ raw 2 9 0 2147483648 0 70 ∷ raw 5 9 0 1 0 70 ∷ raw 1 12 0 0 0 0 ∷ raw 2 9 0 3 0 0 ∷ raw 3 9 0 0 0 71 ∷ []))) ≡ none
unfolding inside form_of input_bytes raws_bytes is_fresh any_fresh is_inserted Tools.computes Rows.computes Tree.computes Shapes.computes Reader.computes Rules.computes Answer.computes Back.computes BackAnswer.computes
unused_none = refl

-- ---- version 2, and the rules of the newer tools

-- a component whose type has these rows, and behind it type 1
unfoldable pub ahead : List Raw → List Raw
ahead rs = raw 7 0 0 0 0 0 ∷ raw 1 6 0 0 0 0 ∷ raw 2 11 0 2 0 0 ∷ raw 7 0 0 2 0 0 ∷ (rs ++ (raw 8 0 0 0 0 0 ∷ raw 1 12 0 0 0 0 ∷ raw 2 9 0 1 0 0 ∷ raw 8 0 0 0 0 0 ∷ []))

-- an outer alias of type 1, and a type that refers to it
unfoldable pub resolved_type : List Raw
resolved_type = raw 1 11 0 0 0 70 ∷ raw 2 9 0 2147483648 0 70 ∷ raw 5 9 0 1 0 70 ∷ raw 1 12 0 0 0 0 ∷ raw 2 9 0 3 0 0 ∷ raw 3 9 0 0 0 70 ∷ []

-- the type as it was, with a name
unfoldable pub named_type : List Raw
named_type = raw 1 12 0 0 0 0 ∷ raw 2 9 0 3 0 0 ∷ raw 3 9 1 1 0 70 ∷ []

-- the same under rule set 1
pub newer_given : is_given (back Versions.all (second_form newer (inside resolved_type))) (second_form newer (inside named_type)) ≡ true
unfolding inside resolved_type named_type is_given second_form input_bytes raws_bytes is_fresh any_fresh is_inserted Tools.computes Rows.computes Tree.computes Shapes.computes Reader.computes Rules.computes Answer.computes Back.computes BackAnswer.computes
newer_given = refl

-- an alias of what a later field declares: rule set 0 makes one, rule set 1 does not
pub ahead_given : is_given (back Versions.all (second_form today (ahead resolved_type))) (second_form today (ahead named_type)) ≡ true
unfolding ahead resolved_type named_type is_given second_form input_bytes raws_bytes is_fresh any_fresh is_inserted Tools.computes Rows.computes Tree.computes Shapes.computes Reader.computes Rules.computes Answer.computes Back.computes BackAnswer.computes
ahead_given = refl

-- under rule set 1 no input has that output
pub ahead_none : back Versions.all (second_form newer (ahead resolved_type)) ≡ none
unfolding ahead resolved_type second_form input_bytes raws_bytes is_fresh any_fresh is_inserted Tools.computes Rows.computes Tree.computes Shapes.computes Reader.computes Rules.computes Answer.computes Back.computes BackAnswer.computes
ahead_none = refl
