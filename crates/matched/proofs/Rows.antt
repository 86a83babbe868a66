-- A row as the code counts it is the rules' row as it counts.
use mathlib.Core.Path.{◌≡◌, refl, ◌∙◌}
use mathlib.Core.Bool.{Bool, true, false, ◌&&◌, ◌||◌, and-true}
use mathlib.Core.List.{List, [], ◌∷◌, ◌++◌}
use Prim.Native.Nat.{ℕ, zero, suc, ◌/◌, ◌%◌, ◌<◌, ◌≤◌}
use native.Mathlib.Omega.{arith}
use lib.Dec.{eqb}
use borrow.Author.Rules.{rules}
use borrow.Author.Tests.{lt-ltb, le-ltb, eq-eqb, ne_eqb}
use Rattle.kit.specs.Pick.{pick}
use Rattle.rules.specs.Tools.{when◌then◌else◌}
use Rattle.rules.specs.Rows.{Row, encode}
use Rattle.rules.specs.Answer.{same_numbers}
use Rattle.comparing.specs.Compare.{Choice, blur_place, blur_name, six_parts, rows_parts, same}
use Rattle.comparing.specs.Laws.Parts.{is_name_x, is_name_y, blur_parts, blur_parts_lem}
use Rattle.parts.specs.PartsAt.{parts, parts_at}
use Rattle.parts.specs.declared.Parts.{Parts}
use Rattle.matched.specs.Counted.{choice_of, raw_of, number_t, counted_t, all_same, same_t}

-- ---- place_counted, name_counted

module _ (choice n : ℕ) where
  pub place_ignored : choice % 2 ≡ 1 → 0 ≡ blur_place (choice_of choice) n
  unfolding blur_place choice_of when◌then◌else◌
  place_ignored h = rw (eq-eqb _ _ h)

  pub place_kept : (choice % 2 ≡ 1 → ⊥) → n ≡ blur_place (choice_of choice) n
  unfolding blur_place choice_of when◌then◌else◌
  place_kept h = rw (ne_eqb _ _ h)

  pub fresh_ignored : choice / 2 % 2 ≡ 1 → 2147483647 < n → 2147483648 ≡ blur_name (choice_of choice) n
  unfolding blur_name choice_of when◌then◌else◌
  fresh_ignored h g = rw (eq-eqb _ _ h, lt-ltb _ _ g)

  pub original_kept : choice / 2 % 2 ≡ 1 → n ≤ 2147483647 → n ≡ blur_name (choice_of choice) n
  unfolding blur_name choice_of when◌then◌else◌
  original_kept h g = rw (eq-eqb _ _ h, le-ltb _ _ g)

  pub name_kept : (choice / 2 % 2 ≡ 1 → ⊥) → n ≡ blur_name (choice_of choice) n
  unfolding blur_name choice_of when◌then◌else◌
  name_kept h = rw (ne_eqb _ _ h)

pub ruleset counts = (place_ignored, place_kept, fresh_ignored, original_kept, name_kept, rules)

-- ---- is_name_x

pub name_x : (code e : ℕ) → (eqb code 2 || (eqb code 6 || (eqb code 7 || (eqb code 3 || eqb code 5) && eqb (e % 2) 1))) ≡ is_name_x code e
unfolding is_name_x
name_x zero e = refl
name_x (suc zero) e = refl
name_x (suc (suc zero)) e = refl
name_x (suc (suc (suc zero))) e = refl
name_x (suc (suc (suc (suc zero)))) e = refl
name_x (suc (suc (suc (suc (suc zero))))) e = refl
name_x (suc (suc (suc (suc (suc (suc zero)))))) e = refl
name_x (suc (suc (suc (suc (suc (suc (suc zero))))))) e = refl
name_x (suc (suc (suc (suc (suc (suc (suc (suc k)))))))) e =
    let n : ℕ = suc (suc (suc (suc (suc (suc (suc (suc k))))))) in
    rw (ne_eqb n 2 (omega arith), ne_eqb n 6 (omega arith), ne_eqb n 7 (omega arith), ne_eqb n 3 (omega arith), ne_eqb n 5 (omega arith))

-- ---- number_counted, counted

module _ (c : Choice) (named : Bool) (n : ℕ) where
  pub number_name : (r : ℕ) → named ≡ true → r ≡ blur_name c n → r ≡ number_t c named n
  unfolding number_t pick
  number_name r h e = rw h e

  pub number_itself : named ≡ false → n ≡ number_t c named n
  unfolding number_t pick
  number_itself h = rw h

pub parts_counted : (c : Choice) (p : Parts) (x y z : ℕ) (f g : Bool) → f ≡ is_name_x p.code p.e → x ≡ number_t c f p.x → g ≡ is_name_y p.code p.e → y ≡ number_t c g p.y → z ≡ blur_place c p.z → parts p.code p.b p.e x y z ≡ counted_t c p
unfolding counted_t
parts_counted c p x y z f g hf hx hg hy hz = rw (hx, hy, hz, hf, hg)

-- ---- same_row

pub row_found : (c : Choice) (l r : List ℕ) (i j : ℕ) (p q p' q' : Parts) (b : Bool) → p ≡ parts_at l i → p' ≡ counted_t c p → q ≡ parts_at r j → q' ≡ counted_t c q → b ≡ all_same p' q' → b ≡ same_t c (parts_at l i) (parts_at r j)
unfolding same_t
row_found c l r i j p q p' q' b h e k f g = g ∙ rw (e, f, h, k)

-- ---- the rules' row as it counts

number_is : (c : Choice) (b : Bool) (n : ℕ) → number_t c b n ≡ (when b then blur_name c n else n)
unfolding number_t pick when◌then◌else◌
number_is c true n = refl
number_is c false n = refl

counted_is : (c : Choice) (p : Parts) → raw_of (counted_t c p) ≡ blur_parts c (raw_of p)
unfolding counted_t blur_parts
counted_is c p = rw (number_is c (is_name_x p.code p.e) p.x, number_is c (is_name_y p.code p.e) p.y)

all_same_lem : (p q : Parts) → all_same p q ≡ same_numbers (six_parts (raw_of p) ++ []) (six_parts (raw_of q) ++ [])
unfolding all_same six_parts same_numbers
all_same_lem p q = simp and-true

-- Rows are found the same by their parts as by the rules.
pub same_row : (c : Choice) (p q : Parts) (x y : Row) → raw_of p ≡ encode x → raw_of q ≡ encode y → same_t c p q ≡ same c (x ∷ []) (y ∷ [])
unfolding same_t same rows_parts
same_row c p q x y e f =
    all_same_lem (counted_t c p) (counted_t c q) ∙ rw (counted_is c p, counted_is c q, e, f, blur_parts_lem c x, blur_parts_lem c y)
