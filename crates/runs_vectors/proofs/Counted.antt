-- A number that is no more than a list's length counts elements at its start.
use Rattle.std.proofs.Common.{◌≡◌, ℕ, ◌≤◌, List, length, take, sym, length-take-le}

pub counted : {A : Type 0} (n : ℕ) (xs : List A) → n ≤ length xs → n ≡ length (take n xs)
counted n xs h = sym (length-take-le n xs h)
