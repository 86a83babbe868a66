-- Runs of a form with other names, and of one whose names become 1, 2, 3, …
use Rattle.std.specs.Prelude.{◌≡◌, refl, Bool, true, false, ◌&&◌, List, [], ◌∷◌, ◌++◌, ℕ, ◌+◌, ◌-◌, ◌*◌, eqb, length, take, replicate}
use Rattle.rules.specs.Tools
use Rattle.rules.specs.Versions.{Setting, version1, version2, today, newer, all}
use Rattle.rules.specs.Rows
use Rattle.rules.specs.Rows.{Raw, raw}
use Rattle.rules.specs.Tree
use Rattle.rules.specs.Shapes
use Rattle.rules.specs.Reader
use Rattle.rules.specs.Rules
use Rattle.rules.specs.Answer
use Rattle.rules.specs.Answer.{AnswerOf, refused, accepted, same_numbers, answer, rows_in}
use Rattle.renaming.specs.Renaming
use Rattle.renaming.specs.Renaming.{renamed_bytes, by_first}
use Rattle.renaming.specs.Anonymous
use Rattle.renaming.specs.Anonymous.{anonymous, anonymous_output, key_after}
use Rattle.rules.specs.Examples
use Rattle.rules.specs.Examples.{input_bytes, agrees, rows, refusal}

abbrev first : Setting
first = record { version = version1; rules = today }

abbrev under_newer : Setting
under_newer = record { version = version2; rules = newer }

-- every name 100 higher, and back to front
abbrev higher : ℕ → ℕ
higher n = n + 100

abbrev turned : ℕ → ℕ
turned n = 2147483648 - n

-- a scope with its name, a case, a reference with a path, an OUTER with two names; numbers and export names like names
form : (a b c d : ℕ) → List Raw
form a b c d =
    raw 7 0 0 a 0 0
    ∷ raw 1 8 0 0 0 0 ∷ raw 2 10 0 b 0 0
    ∷ raw 1 22 0 0 0 0 ∷ raw 2 8 0 c 0 0 ∷ raw 3 8 1 b 1 70 ∷ raw 4 0 0 5 0 0
    ∷ raw 1 12 0 0 0 0 ∷ raw 2 9 0 d 0 0 ∷ raw 6 0 0 c 0 0 ∷ raw 6 0 0 0 0 0 ∷ raw 3 9 0 5 0 5
    ∷ raw 1 11 0 0 0 0 ∷ raw 2 9 0 0 0 0 ∷ raw 5 9 3 a d 5
    ∷ raw 8 0 0 0 0 0
    ∷ []

form_out : (a b c d : ℕ) → List Raw
form_out a b c d =
    raw 7 0 0 a 0 0
    ∷ raw 1 8 0 0 0 0 ∷ raw 2 10 0 b 0 0
    ∷ raw 1 9 0 0 0 70 ∷ raw 2 8 0 2147483648 0 70 ∷ raw 3 10 0 0 0 70 ∷ raw 9 0 0 5 0 0
    ∷ raw 1 22 0 0 0 0 ∷ raw 2 8 0 c 0 0 ∷ raw 3 8 0 0 0 70
    ∷ raw 1 12 0 0 0 0 ∷ raw 2 9 0 d 0 0 ∷ raw 6 0 0 c 0 0 ∷ raw 6 0 0 0 0 0 ∷ raw 3 9 0 5 0 5
    ∷ raw 1 11 0 0 0 0 ∷ raw 2 9 0 0 0 0 ∷ raw 5 9 0 0 0 5
    ∷ raw 8 0 0 0 0 0
    ∷ []

-- a name twice, and a name that is not declared
twice : ℕ → List Raw
twice n = raw 7 0 0 0 0 0 ∷ raw 1 12 0 0 0 0 ∷ raw 2 9 0 n 0 3 ∷ raw 1 12 0 0 0 0 ∷ raw 2 9 0 n 0 9 ∷ raw 8 0 0 0 0 0 ∷ []

-- under a setting: the renamed bytes, and their answer
renames : Setting → (f : ℕ → ℕ) (before after : List Raw) → Bool
renames s f before after = same_numbers (renamed_bytes f all (input_bytes s before)) (input_bytes s after)

answers : Setting → (f : ℕ → ℕ) (before : List Raw) → Examples.Expected → Bool
answers s f before expected = agrees (answer all (renamed_bytes f all (input_bytes s before)) (s.version.header + 64 * length before)) expected

runs_right :
    (renames first higher (form 1 2 3 4) (form 101 102 103 104)
    && renames under_newer turned (form 1 2 3 2147483647) (form 2147483647 2147483646 2147483645 1)
    && answers first higher (form 1 2 3 4) (rows (form_out 101 102 103 104))
    && answers under_newer turned (form 1 2 3 2147483647) (rows (form_out 2147483647 2147483646 2147483645 1))
    && answers first higher (twice 7) (refusal 6 9)) ≡ true
unfolding form form_out twice renames answers Examples.agrees Examples.input_bytes Examples.raws_bytes Tools.computes Rows.computes Tree.computes Shapes.computes Reader.computes Rules.computes Answer.computes Renaming.computes
runs_right = refl

-- by first appearance
first_right :
    (renames first (by_first (rows_in first (input_bytes first (form 9 7 2147483647 8)))) (form 9 7 2147483647 8) (form 1 2 3 4)
    && answers first (by_first (rows_in first (input_bytes first (form 9 7 2147483647 8)))) (form 9 7 2147483647 8) (rows (form_out 1 2 3 4))) ≡ true
unfolding form form_out renames answers Examples.agrees Examples.input_bytes Examples.raws_bytes Tools.computes Rows.computes Tree.computes Shapes.computes Reader.computes Rules.computes Answer.computes Renaming.computes
first_right = refl

-- a mapping that makes two names one is no renaming: this form is accepted, and then a name stands twice
merged_right :
    (answers first higher (raw 7 0 0 0 0 0 ∷ raw 1 12 0 0 0 0 ∷ raw 2 9 0 1 0 3 ∷ raw 1 12 0 0 0 0 ∷ raw 2 9 0 2 0 9 ∷ raw 8 0 0 0 0 0 ∷ [])
    (rows (raw 7 0 0 0 0 0 ∷ raw 1 12 0 0 0 0 ∷ raw 2 9 0 101 0 3 ∷ raw 1 12 0 0 0 0 ∷ raw 2 9 0 102 0 9 ∷ raw 8 0 0 0 0 0 ∷ []))
    && answers first (λ n. 5) (raw 7 0 0 0 0 0 ∷ raw 1 12 0 0 0 0 ∷ raw 2 9 0 1 0 3 ∷ raw 1 12 0 0 0 0 ∷ raw 2 9 0 2 0 9 ∷ raw 8 0 0 0 0 0 ∷ []) (refusal 6 9)) ≡ true
unfolding answers Examples.agrees Examples.input_bytes Examples.raws_bytes Tools.computes Rows.computes Tree.computes Shapes.computes Reader.computes Rules.computes Answer.computes Renaming.computes
merged_right = refl

-- ---- anonymous: the answer, the output and the key

says : AnswerOf (List ℕ) → AnswerOf (List ℕ) → Bool
says (refused n p c) (refused n' p' c') = eqb n n' && eqb p p'
says (refused n p c) (accepted key) = false
says (accepted key) (refused n p c) = false
says (accepted key) (accepted key') = same_numbers key key'

-- into `room` bytes of 7
becomes : (input : List ℕ) (room : ℕ) → AnswerOf (List ℕ) → (out : List ℕ) → Bool
becomes input room expected out = says (anonymous all input room) expected && same_numbers (anonymous_output all input (replicate room 7)) out

anonymous_right :
    (becomes (input_bytes first (form 9 7 2147483647 8)) 280 (accepted (9 ∷ 7 ∷ 2147483647 ∷ 8 ∷ [])) (input_bytes first (form 1 2 3 4) ++ replicate 16 7)
    && becomes (input_bytes under_newer (form 9 7 5 7)) 272 (accepted (9 ∷ 7 ∷ 5 ∷ [])) (input_bytes under_newer (form 1 2 3 2))
    && becomes (input_bytes first (twice 7)) 104 (accepted (7 ∷ [])) (input_bytes first (twice 1))
    && becomes (87 ∷ []) 300 (refused 1 0 []) (replicate 300 7)
    && becomes (take 263 (input_bytes first (form 9 7 8 6))) 280 (refused 2 0 []) (replicate 280 7)
    && becomes (input_bytes first (form 9 7 8 6)) 263 (refused 3 0 []) (replicate 263 7)
    && becomes (input_bytes first (raw 7 0 0 3 0 0 ∷ raw 8 0 0 1 0 0 ∷ [])) 39 (refused 3 0 []) (replicate 39 7)
    && becomes (input_bytes first (raw 7 0 0 3 0 0 ∷ raw 8 0 0 1 0 0 ∷ [])) 40 (refused 4 1 []) (replicate 40 7)
    && same_numbers (key_after (accepted (9 ∷ 7 ∷ 8 ∷ [])) (0 ∷ 0 ∷ [])) (9 ∷ 7 ∷ [])
    && same_numbers (key_after (accepted (9 ∷ 7 ∷ [])) (0 ∷ 0 ∷ 5 ∷ [])) (9 ∷ 7 ∷ 5 ∷ [])) ≡ true
unfolding form twice says becomes Examples.input_bytes Examples.raws_bytes Tools.computes Rows.computes Tree.computes Shapes.computes Reader.computes Rules.computes Answer.computes Renaming.computes Anonymous.computes
anonymous_right = refl
