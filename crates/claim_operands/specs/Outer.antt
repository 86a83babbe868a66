-- OUTERs, as the code tries them: `ss` are the slots that were entered for the claim, `st` the scopes that are open, `q` is the input's OUTER.
use Rattle.std.specs.Prelude.{Bool, false, ◌&&◌, List, [], ◌∷◌, ℕ, ◌+◌, ◌%◌, eqb, leb, ltb, length, get_or, Option, Some, None}
use Rattle.kit.specs.Pick.{pick}
use Rattle.parts.specs.declared.Parts.{Parts}
use Rattle.names.specs.Table.{Slot, no_scope}
use Rattle.claim_scopes.specs.Open.{name_in, row_in}
use Rattle.claim_scopes.specs.Entries.{look_t}
use Rattle.claim_operands.specs.Paths.{is_number}

-- the first of these scopes, which is `out` scopes out, that has the name
unfoldable pub named_in : (st : List (List ℕ)) (out name : ℕ) → Option ℕ
named_in [] out name = None
named_in (s ∷ st) out name = pick (eqb (name_in s) name) (Some out) (named_in st (out + 1) name)

-- how far out it leads
unfoldable pub up_t : (st : List (List ℕ)) → Parts → Option ℕ
up_t st q = pick (eqb (q.e % 2) 0) (Some q.x) (named_in st 0 q.x)

-- to the scope so far out
unfoldable pub at_right_t : List Slot → (st : List (List ℕ)) (up : ℕ) → (q p : Parts) → Bool
at_right_t ss st up q p =
    pick (leb (length st) up) false
    (pick (eqb p.x up)
    (pick (ltb q.e 2) (eqb p.y q.y) (is_number (look_t ss (row_in (get_or st up no_scope)) q.b q.y) p.y))
    false)

unfoldable pub up_right_t : List Slot → (st : List (List ℕ)) → Option ℕ → (q p : Parts) → Bool
up_right_t ss st (Some up) q p = at_right_t ss st up q p
up_right_t ss st None q p = false

-- whether a claimed OUTER is right: two written numbers stay
unfoldable pub outer_right_t : List Slot → (st : List (List ℕ)) → (q p : Parts) → Bool
outer_right_t ss st q p =
    pick (ltb 0 p.e) false
    (pick (eqb q.e 0) (eqb p.x q.x && eqb p.y q.y)
    (up_right_t ss st (up_t st q) q p))
