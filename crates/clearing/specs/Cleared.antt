-- What is left of a working area that is handed back.
use Rattle.std.specs.Prelude.{List, ◌++◌, ℕ, length, take, drop, replicate}

-- "After every return its bytes up to that size (all of them, where it is shorter) are zero, and later ones unchanged." Elements of other
-- kinds likewise.
unfoldable pub cleared : {A : Type 0} → (zero : A) (size : ℕ) (old : List A) → List A
cleared zero size old = replicate (length (take size old)) zero ++ drop size old
