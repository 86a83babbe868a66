-- What a search along a chain has still to do.
use Rattle.std.specs.Prelude.{◌≡◌, List, ℕ, zero, suc, ◌≤◌, ◌<◌, ltb}
use Rattle.kit.specs.Pick.{pick}
use Rattle.names.specs.Table.{Slot, between, first_slot, counted_slot}
use Rattle.index.specs.Chain.{heads_in, chain_of, is_meant_t}
use Rattle.index.specs.Indexed.{last_on, last_named, Indexed, end_of}

-- the first of the first k slots, from `from` to `to`, that has the name, counted from 1; `found` where none has
unfoldable pub first_below : List Slot → (from to space name k found : ℕ) → ℕ
first_below table from to space name zero found = found
first_below table from to space name (suc k) found =
    pick (ltb from (suc k)) (first_below table from to space name k (pick (is_meant_t table to space name k) (suc k) found)) found

-- the last of the first k slots that lies below `to` and has the name, counted from 1; 0 where none has
unfoldable pub last_below : List Slot → (to space name k : ℕ) → ℕ
last_below table to space name zero = 0
last_below table to space name (suc k) = pick (is_meant_t table to space name k) (suc k) (last_below table to space name k)

-- p is 0 or a slot, counted from 1, of the name's chain, in a table that the index serves
pub record Chained (table : List Slot) (index : List ℕ) (space name p : ℕ) : Type 0 where
  pub used : ℕ
  pub indexed : Indexed (heads_in table index) table index used
  pub below : p ≤ used
  pub chain : chain_of (heads_in table index) space name < heads_in table index
  pub on : p ≡ last_on (heads_in table index) table (chain_of (heads_in table index) space name) p

-- slots behind p were gone through, `found` is the first of them that has the name, and what is left to do gives the answer
pub record Follows (table : List Slot) (index : List ℕ) (from to space name p found : ℕ) : Type 0 where
  pub chained : Chained table index space name p
  pub right : counted_slot table (first_below table from to space name p found) ≡ first_slot (between from to table) space name

-- slots behind p were gone through, and none of them has the name, of all that lie below the end of the first `depth` scopes
pub record Climbs (table : List Slot) (index : List ℕ) (scopes : List (List ℕ)) (depth space name p : ℕ) : Type 0 where
  pub chained : Chained table index space name p
  pub right : last_below table (end_of scopes depth) space name p ≡ last_named table space name (end_of scopes depth)

-- p is the last slot that has the name, of all that lie below the end of the first `depth` scopes
pub record LastIn (table : List Slot) (index : List ℕ) (scopes : List (List ℕ)) (depth space name p : ℕ) : Type 0 where
  pub chained : Chained table index space name p
  pub some : 0 < p
  pub last : p ≡ last_named table space name (end_of scopes depth)
