-- Whether a declaration stands before a field, by the slots of its scope.
use Rattle.std.specs.Prelude.{Bool, List, ℕ, ◌-◌, leb, is_none}
use Rattle.kit.specs.Pick.{pick}
use Rattle.names.specs.Table.{Slot, between, find_in, scope_at, before_of}

-- none of the slots from `from` up to `before`, of those up to `to`, has the name
unfoldable pub late_in : List Slot → (from before to space name : ℕ) → Bool
late_in table from before to space name = is_none (find_in (between from (before - (before - to)) table) space name)

-- how many slots stand before the field that holds us in the scope `out` scopes out, the innermost as one scope out: `before` in the
-- innermost, and further out what stands with the scope inside
unfoldable pub before_around : (scopes : List (List ℕ)) (depth before out : ℕ) → ℕ
before_around scopes depth before out = pick (leb out 1) before (before_of (scope_at scopes (depth - (out - 1))))
