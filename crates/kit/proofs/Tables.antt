-- Functions of numbers that antt computes to have the same values: they are the same on a whole range, by one computed test.
use mathlib.Core.Path.{◌≡◌, ◌∙◌}
use mathlib.Core.List.{List, [], ◌∷◌}
use native.Mathlib.Omega.{arith}
use native.Mathlib.Nat.{add-zero}
use Prim.Native.Nat.{ℕ, zero, suc, ◌+◌, ◌-◌, ◌<◌, ◌≤◌}

-- the values of f at lo and the n - 1 numbers after it
abbrev pub values : {A : Type 0} → (ℕ → A) → (lo n : ℕ) → List A
values f lo zero = []
values f lo (suc n) = f lo ∷ values f (suc lo) n

at_place : {A : Type 0} (f g : ℕ → A) (lo n k : ℕ) → values f lo n ≡ values g lo n → k < n → f (lo + k) ≡ g (lo + k)
at_place f g lo zero k e h = absurd (omega arith)
at_place f g lo (suc n) zero e h = let here : f lo ≡ g lo = cc in rw add-zero here
at_place f g lo (suc n) (suc k) e h =
    let rest : values f (suc lo) n ≡ values g (suc lo) n = cc in
    let next_one : lo + suc k ≡ suc lo + k = omega arith in
    rw next_one (at_place f g (suc lo) n k rest (omega arith))

-- two functions that antt computes to the same values on a range are the same there
pub same_at : {A : Type 0} (f g : ℕ → A) (lo n x : ℕ) → values f lo n ≡ values g lo n → lo ≤ x → x < lo + n → f x ≡ g x
same_at f g lo n x e h l =
    let k : lo + (x - lo) ≡ x = omega arith in
    rw k at (at_place f g lo n (x - lo) e (omega arith))

-- a value that antt computes f to have on a range
pub at_range : {A : Type 0} (f : ℕ → A) (lo n x : ℕ) {u v : A} → u ≡ v → values (λ k. v) lo n ≡ values f lo n → lo ≤ x → x < lo + n → u ≡ f x
at_range f lo n x {u} {v} q e h l = q ∙ same_at (λ k. v) f lo n x e h l

-- a bound that a test against one number moves
pub up : (k n : ℕ) → k ≤ n → (n ≡ k → ⊥) → suc k ≤ n
up k n h ne = omega arith

-- two tables that antt computes to have the same entries
pub same_table : {A : Type 0} (f g : ℕ → ℕ → A) (m n k x : ℕ) → values (λ i. values (f i) 0 n) 0 m ≡ values (λ i. values (g i) 0 n) 0 m → k < m → x < n → f k x ≡ g k x
same_table f g m n k x e h l =
    let row : values (f k) 0 n ≡ values (g k) 0 n = same_at (λ i. values (f i) 0 n) (λ i. values (g i) 0 n) 0 m k e (omega arith) (omega arith) in
    same_at (f k) (g k) 0 n x row (omega arith) (omega arith)
