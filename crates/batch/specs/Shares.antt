-- What is promised of members inside whatever root the rows are that the code is given.
use Rattle.std.specs.Prelude.{◌≡◌, List, [], ◌++◌, ℕ, ◌*◌, ◌/◌, length, get_or, take, drop}
use Rattle.std.proofs.lemmas.List.Edits.{sets}
use Rattle.rules.specs.Versions.{Setting}
use Rattle.rules.specs.Rows.{bytes}
use Rattle.rules.specs.Tree.{Scope}
use Rattle.batching.specs.Batch.{root_of, inside_answer, inside_output, member_answers, member_outputs}
use Rattle.batching.specs.BatchBytes.{cut, packed, answers_bytes}
use Rattle.inside.specs.Run.{RootIn}

-- One member in the front of a buffer, whose rest stays.
abbrev pub InFront : Setting → (root form : List ℕ) (share : ℕ) (old new : List ℕ) (answer : ℕ) → Type 0
InFront s root form share old new answer =
    (t : Scope) → RootIn s.version t root → (answer ≡ packed (inside_answer s (root_of t) form share)) × (new ≡ inside_output s (root_of t) form (take share old) ++ drop share old)

-- The i-th member in its share, and its answer.
abbrev pub InShare : Setting → (root members lengths : List ℕ) (i : ℕ) (outs outs' answers answers' : List ℕ) → Type 0
InShare s root members lengths i outs outs' answers answers' =
    let share = length outs / length lengths in
    let form = get_or (cut lengths members) i [] in
    (t : Scope) → RootIn s.version t root
    → (outs' ≡ take (i * share) outs ++ (inside_output s (root_of t) form (take share (drop (i * share) outs)) ++ drop share (drop (i * share) outs)))
    × (answers' ≡ sets answers (8 * i) (bytes 8 (packed (inside_answer s (root_of t) form share))))

-- All members, each in its share, and the answers of all.
abbrev pub InShares : Setting → (root members lengths outs outs' answers answers' : List ℕ) → Type 0
InShares s root members lengths outs outs' answers answers' =
    (t : Scope) → RootIn s.version t root
    → (outs' ≡ member_outputs s (root_of t) (length outs / length lengths) (cut lengths members) outs)
    × (answers' ≡ sets answers 0 (answers_bytes (member_answers s (root_of t) (length outs / length lengths) (cut lengths members))))
