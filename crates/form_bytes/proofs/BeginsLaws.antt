-- How a form begins, with the bytes as the code gives them.
use mathlib.Core.Path.{◌≡◌}
use mathlib.Core.Bool.{◌&&◌}
use mathlib.Core.List.{List}
use Prim.Native.Nat.{ℕ}
use lib.Dec.{eqb}
use lib.ListN.{get_or}
use Rattle.form_bytes.specs.Begins.{begins_as}

pub begins_is : (form : List ℕ) (version w n t v : ℕ) → w ≡ get_or form 0 0 → n ≡ get_or form 1 0 → t ≡ get_or form 2 0 → v ≡ get_or form 3 0 → (eqb w 87 && eqb n 78 && eqb t 84 && eqb v version) ≡ begins_as form version
begins_is form version w n t v hw hn ht hv = rw (hw, hn, ht, hv)
