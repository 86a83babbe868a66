-- What can be told of a path without the system.
use Rattle.std.specs.Prelude.{Bool, false, List, ℕ, zero, suc, eqb, length, get_or}
use Rattle.kit.specs.Pick.{pick}

-- is it `-`?
unfoldable pub is_dash : (path : List ℕ) → Bool
is_dash path = pick (eqb (length path) 1) (eqb (get_or path 0 0) 45) false

-- the end of the last slash among the first `count` bytes, or 0
unfoldable pub slash_in : (path : List ℕ) (count : ℕ) → ℕ
slash_in path zero = zero
slash_in path (suc count) = pick (eqb (get_or path count 0) 47) (suc count) (slash_in path count)

-- how many bytes name its folder, with the last slash
unfoldable pub folder_of : List ℕ → ℕ
folder_of path = slash_in path (length path)

-- where a link's text goes in the link's own path: from the link's folder on, or from the root if it begins there
unfoldable pub start_of : (path text : List ℕ) → ℕ
start_of path text = pick (eqb (length text) 0) (folder_of path) (pick (eqb (get_or text 0 0) 47) 0 (folder_of path))
