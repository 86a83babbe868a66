-- The numbers of declarations: how many of each space stand before them in their scope.
use Rattle.std.specs.Prelude.{List, [], ◌∷◌, ℕ, zero, suc, ◌+◌, ◌-◌, ◌%◌, eqb, leb, ltb, length, get_or, set, replicate}
use Rattle.kit.specs.Pick.{pick}
use Rattle.kit.specs.Out.{Out, ◌&◌}
use Rattle.parts.specs.declared.Parts.{Parts}

-- how many of each space a scope has: none
abbrev pub no_counts : List ℕ
no_counts = replicate 13 0

abbrev pub counts_at : List (List ℕ) → ℕ → List ℕ
counts_at counts k = get_or counts k no_counts

-- one more of a space
unfoldable pub more_count_t : (c : List ℕ) (space : ℕ) → List ℕ
more_count_t c space = set c space (get_or c space 0 % 65536 + 1)

-- ---- as the code has them: those of the first `depth` scopes, the outermost first

-- the next number of a space in the scope at `level`, the outermost at 0
unfoldable pub bump_count_t : (counts : List (List ℕ)) (level space : ℕ) → Out ℕ (List (List ℕ))
bump_count_t counts level space =
    pick (leb (length counts) level) (0 & counts)
    (pick (leb 13 space) (0 & counts)
    (get_or (counts_at counts level) space 0 & set counts level (more_count_t (counts_at counts level) space)))

-- counts a row where this many scopes are open: an OPEN begins to count, a DECL is counted, and its number is the answer
unfoldable pub count_before_t : (counts : List (List ℕ)) (depth : ℕ) → Parts → Out ℕ (List (List ℕ))
count_before_t counts depth p =
    pick (eqb p.code 7) (pick (ltb depth (length counts)) (0 & set counts depth no_counts) (0 & counts))
    (pick (eqb p.code 2) (pick (eqb depth 0) (0 & counts) (bump_count_t counts (depth - 1) p.b))
    (0 & counts))

-- ---- as a list, the innermost first

unfoldable pub counts_in : (counts : List (List ℕ)) (depth : ℕ) → List (List ℕ)
counts_in counts zero = []
counts_in counts (suc k) = counts_at counts k ∷ counts_in counts k

-- the next number of a space in the innermost scope
unfoldable pub number_in : List (List ℕ) → (space : ℕ) → ℕ
number_in [] space = 0
number_in (c ∷ cs) space = pick (leb 13 space) 0 (get_or c space 0)

unfoldable pub more_in : List (List ℕ) → (space : ℕ) → List (List ℕ)
more_in [] space = []
more_in (c ∷ cs) space = pick (leb 13 space) (c ∷ cs) (more_count_t c space ∷ cs)

unfoldable pub less_in : List (List ℕ) → List (List ℕ)
less_in [] = []
less_in (c ∷ cs) = cs

-- the number of a row that is a DECL
unfoldable pub number_before_t : List (List ℕ) → Parts → ℕ
number_before_t cs p = pick (eqb p.code 2) (number_in cs p.b) 0

-- behind a row: at most `room` scopes are open
unfoldable pub counts_t : (room : ℕ) → List (List ℕ) → Parts → List (List ℕ)
counts_t room cs p =
    pick (eqb p.code 7) (pick (ltb (length cs) room) (no_counts ∷ cs) cs)
    (pick (eqb p.code 8) (less_in cs)
    (pick (eqb p.code 2) (more_in cs p.b)
    cs))
