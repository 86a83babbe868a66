-- Each step of the writing keeps what is to be written.
use mathlib.Core.Path.{◌≡◌, refl, sym, ap, ◌∙◌}
use mathlib.Core.Bool.{Bool, true, false, not}
use mathlib.Core.Logic.{⊎_elim}
use mathlib.Core.List.{List, [], ◌++◌}
use Prim.Native.Nat.{ℕ, zero, suc, ◌+◌, ◌-◌, ◌*◌, ◌/◌, ◌<◌, ◌≤◌}
use native.Mathlib.Omega.{arith}
use lib.Dec.{eqb, leb, ltb}
use lib.ListN.{length, take, drop, length-append, length-drop}
use lib.Seq.{sets, length-sets, length-take-le}
use borrow.Author.Tests.{lt-ltb, le-ltb, le-leb, lt-leb, leb-false}
use Rattle.kit.specs.Pick.{pick}
use Rattle.kit.proofs.Laws.{sets_append, pick_has, lt_or_le}
use Rattle.rules.specs.Rows.{bytes}
use Rattle.parts.specs.PartsAt.{parts_at}
use Rattle.parts.specs.declared.Parts.{Parts}
use Rattle.matched.specs.Alike.{code_of, is_behind, depth_behind, end_t, end_behind, field_end}
use Rattle.diff.specs.Written.{entry_size, size_t, two_t, entry_t, fields_t, left_entry, rows_held, right_entry, lone_t, code_t, pair_t}

-- ---- numbers

length_number : (v : ℕ) → length (bytes 4 v) ≡ 4
unfolding bytes
length_number v = refl

length_two : (v w : ℕ) → length (two_t v w) ≡ 8
unfolding two_t bytes
length_two v w = refl

pub length_entry : (k i m j n : ℕ) → length (entry_t k i m j n) ≡ 20
unfolding entry_t two_t bytes
length_entry k i m j n = refl

-- what `put_two` leaves
pub two_put : (l l₁ l₂ : List ℕ) (a v w : ℕ) → l₁ ≡ sets l a (bytes 4 v) → l₂ ≡ sets l₁ (a + 4) (bytes 4 w) → l₂ ≡ sets l a (two_t v w)
unfolding two_t
two_put l l₁ l₂ a v w e f = f ∙ rw e (sym (sets_append l a (bytes 4 v) (bytes 4 w) ∙ rw (length_number v)))

-- what `put_entry` leaves
pub entry_put : (l l₁ l₂ l₃ : List ℕ) (a k i m j n : ℕ) → l₁ ≡ sets l a (bytes 4 k) → l₂ ≡ sets l₁ (a + 4) (two_t i m) → l₃ ≡ sets l₂ (a + 12) (two_t j n) → l₃ ≡ sets l a (entry_t k i m j n)
unfolding entry_t
entry_put l l₁ l₂ l₃ a k i m j n e₁ e₂ e₃ =
    let s : a + 4 + 8 ≡ a + 12 = omega arith in
    sym (sets_append l a (bytes 4 k) (two_t i m ++ two_t j n) ∙ rw (length_number k, ← e₁) (sets_append l₁ (a + 4) (two_t i m) (two_t j n) ∙ rw (length_two i m, ← e₂, s, ← e₃)))

-- ---- where a field ends

end_low : (l : List ℕ) (left j d : ℕ) → end_t l j d left ≤ j + left
unfolding end_t
end_low l zero j d = omega arith
end_low l (suc left) j d = pick_has (λ (n : ℕ). n ≤ j + suc left) (is_behind d (code_of l j)) (omega arith) (let h = end_low l left (j + 1) (depth_behind d (code_of l j)) in omega arith)

end_none : (l : List ℕ) (i : ℕ) → length l / 16 ≤ i → field_end l i ≡ i
unfolding field_end pick
end_none l i h = rw (le-leb _ _ h)

-- a field that has rows ends within the form
pub end_within : (l : List ℕ) (i : ℕ) → i < field_end l i → field_end l i ≤ length l / 16
unfolding field_end pick
end_within l i h = ⊎_elim there past (lt_or_le i (length l / 16))
  where
    there : i < length l / 16 → field_end l i ≤ length l / 16
    there g =
        let w = end_low l (length l / 16 - (i + 1)) (i + 1) 0 in
        let low : end_behind l i ≤ length l / 16 = omega arith in
        rw (lt-leb _ _ g) low

    past : length l / 16 ≤ i → field_end l i ≤ length l / 16
    past g = absurd (let e = end_none l i g in omega arith)

-- ---- field by field

-- the turns that are left suffice, and what they write
pub record Goes (F : ℕ → ℕ → List ℕ) (l : List ℕ) (to i at : ℕ) (s T : List ℕ) (A : ℕ) : Type 0 where
  pub most : ℕ
  pub enough : length l / 16 ≤ i + most
  pub goes : sets s at (fields_t F l to i most) ≡ T
  pub ends : at + length (fields_t F l to i most) ≡ A
  pub room : at + length (fields_t F l to i most) ≤ length s

module _ (F : ℕ → ℕ → List ℕ) (l : List ℕ) (to : ℕ) where
  pub goes_starts : (i at : ℕ) (s : List ℕ) → at + length (fields_t F l to i (length l / 16)) ≤ length s
      → Goes F l to i at s (sets s at (fields_t F l to i (length l / 16))) (at + length (fields_t F l to i (length l / 16)))
  goes_starts i at s h = record { most = length l / 16; enough = omega arith; goes = refl; ends = refl; room = h }

  pub none_left : (i most : ℕ) → to ≤ i → fields_t F l to i most ≡ []
  unfolding fields_t pick
  none_left i zero h = refl
  none_left i (suc most) h = rw (le-ltb _ _ h)

  none_begins : (i most e : ℕ) → i < to → e ≡ field_end l i → e ≤ i → fields_t F l to i most ≡ []
  unfolding fields_t pick
  none_begins i zero e h q g = refl
  none_begins i (suc most) e h q g = let t : leb (field_end l i) i ≡ true = rw (← q) (le-leb _ _ g) in rw (lt-ltb _ _ h, t)

  -- one field, and the others
  pub one_field : (i most e : ℕ) → i < to → e ≡ field_end l i → i < e → fields_t F l to i (suc most) ≡ F i e ++ fields_t F l to e most
  unfolding fields_t pick
  one_field i most e h q g = let t : leb (field_end l i) i ≡ false = rw (← q) (lt-leb _ _ g) in rw (lt-ltb _ _ h, t, ← q)

  module _ (i at A : ℕ) (s T : List ℕ) (g : Goes F l to i at s T A) where
    pub goes_done : to ≤ i → s ≡ T
    goes_done h = let w = g.goes in rw (none_left i g.most h) at w

    pub ends_done : to ≤ i → at ≡ A
    ends_done h = let w : at + length {A = ℕ} [] ≡ A = rw (none_left i g.most h) at g.ends in omega arith

    module _ (e : ℕ) (h : i < to) (q : e ≡ field_end l i) where
      pub goes_stops : e ≤ i → s ≡ T
      goes_stops k = let w = g.goes in rw (none_begins i g.most e h q k) at w

      pub ends_stops : e ≤ i → at ≡ A
      ends_stops k = let w : at + length {A = ℕ} [] ≡ A = rw (none_begins i g.most e h q k) at g.ends in omega arith

      module _ (k : i < e) where
        more : g.most ≡ suc (g.most - 1)
        more = go g.most g.enough
          where
            go : (most : ℕ) → length l / 16 ≤ i + most → most ≡ suc (most - 1)
            go zero n = absurd (let z = end_none l i (omega arith) in omega arith)
            go (suc m) n = omega arith

        split : fields_t F l to i g.most ≡ F i e ++ fields_t F l to e (g.most - 1)
        split = ap (fields_t F l to i) more ∙ one_field i (g.most - 1) e h q k

        pub goes_room : at + length (F i e) ≤ length s
        goes_room = let w = g.room in omega (arith, ap length split, length-append (F i e) (fields_t F l to e (g.most - 1)))

        pub goes_again : (s' : List ℕ) (at' : ℕ) → s' ≡ sets s at (F i e) → at' ≡ at + length (F i e) → Goes F l to e at' s' T A
        goes_again s' at' p r =
            let n = g.enough in
            let w = g.room in
            let sum = length-append (F i e) (fields_t F l to e (g.most - 1)) in
            record {
              most = g.most - 1;
              enough = omega (arith, more);
              goes = rw (p, r) (sym (sets_append s at (F i e) (fields_t F l to e (g.most - 1))) ∙ ap (sets s at) (sym split) ∙ g.goes);
              ends = omega (arith, ap length split, sum, g.ends);
              room = omega (arith, ap length split, sum, ap length p, length-sets s at (F i e));
            }

-- ---- put_left

pub left_room : (l : List ℕ) (to j i at A e : ℕ) (s T : List ℕ) → Goes (left_entry j) l to i at s T A → i < to → e ≡ field_end l i → i < e → at + 20 ≤ length s
unfolding left_entry
left_room l to j i at A e s T g h q k = let w = goes_room (left_entry j) l to i at A s T g e h q k in omega (arith, length_entry 2 i (e - i) j 0)

pub left_again : (l : List ℕ) (to j i at A e : ℕ) (s T s' : List ℕ) → Goes (left_entry j) l to i at s T A → i < to → e ≡ field_end l i → i < e → s' ≡ sets s at (entry_t 2 i (e - i) j 0) → Goes (left_entry j) l to e (at + 20) s' T A
unfolding left_entry
left_again l to j i at A e s T s' g h q k p = goes_again (left_entry j) l to i at A s T g e h q k s' (at + 20) p (omega (arith, length_entry 2 i (e - i) j 0))

-- ---- put_field, put_right

pub length_held : (r : List ℕ) (j e : ℕ) → j ≤ e → e ≤ length r / 16 → length (rows_held r j e) ≡ 16 * e - 16 * j
unfolding rows_held
length_held r j e h g = length-take-le (16 * e - 16 * j) (drop (16 * j) r) (omega (arith, length-drop (16 * j) r))

pub length_right : (r : List ℕ) (i j e : ℕ) → j ≤ e → e ≤ length r / 16 → length (right_entry r i j e) ≡ 20 + (16 * e - 16 * j)
unfolding right_entry
length_right r i j e h g = omega (arith, length-append (entry_t 3 i 0 j (e - j)) (rows_held r j e), length_entry 3 i 0 j (e - j), length_held r j e h g)

pub field_put : (r l l₁ l₂ : List ℕ) (i j e at : ℕ) → l₁ ≡ sets l at (entry_t 3 i 0 j (e - j)) → l₂ ≡ sets l₁ (at + 20) (take (16 * e - 16 * j) (drop (16 * j) r)) → l₂ ≡ sets l at (right_entry r i j e)
unfolding right_entry rows_held
field_put r l l₁ l₂ i j e at p q =
    q ∙ rw p (sym (sets_append l at (entry_t 3 i 0 j (e - j)) (take (16 * e - 16 * j) (drop (16 * j) r)) ∙ rw (length_entry 3 i 0 j (e - j))))

pub field_long : (r : List ℕ) (i j e at : ℕ) → j ≤ e → e ≤ length r / 16 → at + 20 + (16 * e - 16 * j) ≡ at + length (right_entry r i j e)
field_long r i j e at h g = omega (arith, length_right r i j e h g)

pub right_room : (r : List ℕ) (to i j at A e : ℕ) (s T : List ℕ) → Goes (right_entry r i) r to j at s T A → j < to → e ≡ field_end r j → j < e → at + 20 + (16 * e - 16 * j) ≤ length s
right_room r to i j at A e s T g h q k =
    let w = goes_room (right_entry r i) r to j at A s T g e h q k in
    let b : e ≤ length r / 16 = rw q (end_within r j (rw (← q) k)) in
    omega (arith, length_right r i j e (omega arith) b)

pub right_within : (r : List ℕ) (j e : ℕ) → e ≡ field_end r j → j < e → e ≤ length r / 16
right_within r j e q k = rw q (end_within r j (rw (← q) k))

pub right_again : (r : List ℕ) (to i j at at' A e : ℕ) (s T s' : List ℕ) → Goes (right_entry r i) r to j at s T A → j < to → e ≡ field_end r j → j < e → s' ≡ sets s at (right_entry r i j e) → at' ≡ at + length (right_entry r i j e) → Goes (right_entry r i) r to e at' s' T A
right_again r to i j at at' A e s T s' g h q k p u = goes_again (right_entry r i) r to j at A s T g e h q k s' at' p u

-- ---- entry_size, fields_size

pub size_carried : (n : ℕ) (b : Bool) → b ≡ true → 20 + 16 * n ≡ 20 + pick b (16 * n) 0
unfolding pick
size_carried n b h = rw h

pub size_alone : (n : ℕ) (b : Bool) → b ≡ false → 20 ≡ 20 + pick b (16 * n) 0
unfolding pick
size_alone n b h = rw h

pub record SizeGoes (l : List ℕ) (carried : Bool) (to i size T : ℕ) : Type 0 where
  pub most : ℕ
  pub enough : length l / 16 ≤ i + most
  pub goes : size + size_t l carried to i most ≡ T

module _ (l : List ℕ) (carried : Bool) (to : ℕ) where
  pub size_starts : (i : ℕ) → SizeGoes l carried to i 0 (size_t l carried to i (length l / 16))
  size_starts i = record { most = length l / 16; enough = omega arith; goes = omega arith }

  module _ (i size T : ℕ) (g : SizeGoes l carried to i size T) where
    pub size_done : to ≤ i → size ≡ T
    unfolding size_t pick
    size_done h = go g.most g.goes
      where
        go : (most : ℕ) → size + size_t l carried to i most ≡ T → size ≡ T
        go zero w = omega arith
        go (suc m) w = let v : size + 0 ≡ T = rw (le-ltb _ _ h) at w in omega arith

    module _ (e : ℕ) (h : i < to) (q : e ≡ field_end l i) where
      pub size_stops : e ≤ i → size ≡ T
      unfolding size_t pick
      size_stops k = go g.most g.goes
        where
          go : (most : ℕ) → size + size_t l carried to i most ≡ T → size ≡ T
          go zero w = omega arith
          go (suc m) w =
              let t : leb (field_end l i) i ≡ true = rw (← q) (le-leb _ _ k) in
              let v : size + 0 ≡ T = rw (lt-ltb _ _ h, t) at w in omega arith

      pub size_again : (n : ℕ) → i < e → n ≡ entry_size (e - i) carried → SizeGoes l carried to e (size + n) T
      unfolding size_t pick
      size_again n k r = go g.most g.enough g.goes
        where
          go : (most : ℕ) → length l / 16 ≤ i + most → size + size_t l carried to i most ≡ T → SizeGoes l carried to e (size + n) T
          go zero m w = absurd (let z = end_none l i (omega arith) in omega arith)
          go (suc m) x w =
              let t : leb (field_end l i) i ≡ false = rw (← q) (lt-leb _ _ k) in
              let v : size + (entry_size (e - i) carried + size_t l carried to e m) ≡ T = rw (lt-ltb _ _ h, t, ← q) at w in
              record { most = m; enough = omega arith; goes = omega arith }

-- this many bytes `F` says
pub fields_long_lem : (F : ℕ → ℕ → List ℕ) (l : List ℕ) (carried : Bool) (to : ℕ) → ((i e : ℕ) → i < e → e ≤ length l / 16 → length (F i e) ≡ entry_size (e - i) carried)
    → (most i : ℕ) → length (fields_t F l to i most) ≡ size_t l carried to i most
unfolding fields_t size_t pick
fields_long_lem F l carried to f zero i = refl
fields_long_lem F l carried to f (suc most) i = go (ltb i to) (leb (field_end l i) i) refl (fields_long_lem F l carried to f most (field_end l i))
  where
    go : (b t : Bool) → leb (field_end l i) i ≡ t → length (fields_t F l to (field_end l i) most) ≡ size_t l carried to (field_end l i) most
        → length (pick b (pick t [] (F i (field_end l i) ++ fields_t F l to (field_end l i) most)) []) ≡ pick b (pick t 0 (entry_size (field_end l i - i) carried + size_t l carried to (field_end l i) most)) 0
    go false t h rec = refl
    go true true h rec = refl
    go true false h rec =
        let k : i < field_end l i = leb-false (field_end l i) i h in
        omega (arith, length-append (F i (field_end l i)) (fields_t F l to (field_end l i) most), f i (field_end l i) k (end_within l i k))

-- ---- a lone field

module _ (l : List ℕ) (from to : ℕ) where
  pub lone_none : to ≤ from → false ≡ lone_t l from to
  unfolding lone_t pick
  lone_none h = rw (le-leb _ _ h)

  pub lone_there : (e : ℕ) → from < to → e ≡ field_end l from → eqb e to ≡ lone_t l from to
  unfolding lone_t pick
  lone_there e h q = rw (lt-leb _ _ h, q)

pub code_is : (l : List ℕ) (i : ℕ) (p : Parts) → p ≡ parts_at l i → p.b ≡ code_t l i
code_is l i p e = rw e

is_false : (b : Bool) → not b ≡ true → b ≡ false
is_false true h = sym h
is_false false h = refl

is_true : (b : Bool) → not b ≡ false → b ≡ true
is_true true h = refl
is_true false h = sym h

module _ (l r : List ℕ) (from end other : ℕ) (b : Bool) (p : b ≡ lone_t l from end) where
  pub pair_left : not b ≡ true → false ≡ pair_t l r from end other
  unfolding pair_t pick
  pair_left h = let t : lone_t l from end ≡ false = sym p ∙ is_false b h in rw t

  module _ (h : not b ≡ false) (b' : Bool) (p' : b' ≡ lone_t r from other) where
    lone : lone_t l from end ≡ true
    lone = sym p ∙ is_true b h

    pub pair_right : not b' ≡ true → false ≡ pair_t l r from end other
    unfolding pair_t pick
    pair_right h' = let t : lone_t r from other ≡ false = sym p' ∙ is_false b' h' in rw (lone, t)

    pub pair_both : (x y : ℕ) → not b' ≡ false → x ≡ code_t l from → y ≡ code_t r from → eqb x y ≡ pair_t l r from end other
    unfolding pair_t pick
    pair_both x y h' e f = let t : lone_t r from other ≡ true = sym p' ∙ is_true b' h' in rw (lone, t, e, f)
