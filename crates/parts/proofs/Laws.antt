-- What `parts_in` finds.
use mathlib.Core.Path.{◌≡◌}
use mathlib.Core.List.{List}
use Prim.Native.Nat.{ℕ, ◌+◌, ◌*◌}
use lib.ListN.{get_or}
use Rattle.parts.specs.PartsAt.{two, four, parts, parts_in}

pub parts_found : (l : List ℕ) (i e x y z : ℕ) → e ≡ two l (16 * i + 2) → x ≡ four l (16 * i + 4) → y ≡ four l (16 * i + 8) → z ≡ four l (16 * i + 12) → parts (get_or l (16 * i) 0) (get_or l (16 * i + 1) 0) e x y z ≡ parts_in l i
unfolding parts_in
parts_found l i e x y z he hx hy hz = rw (he, hx, hy, hz)
