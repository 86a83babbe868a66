-- The bytes of a header, one by one.
use mathlib.Core.Path.{◌≡◌, refl, sym, ap, ◌∙◌}
use mathlib.Core.Bool.{Bool, true, false}
use mathlib.Core.List.{List, [], ◌∷◌, ◌++◌}
use native.Mathlib.Omega.{arith}
use Prim.Native.Nat.{ℕ, ◌+◌, ◌-◌, ◌/◌, ◌%◌, ◌<◌, ◌≤◌}
use lib.ListN.{length, get_or, set, drop, replicate, length-append, length-replicate, get_or-append}
use lib.Seq.{sets, get_or-append-add}
use borrow.Author.Rules.{rules}
use Rattle.kit.specs.Pick.{pick}
use Rattle.kit.proofs.Laws.{copies_at}
use Rattle.copy.proofs.Laws.{copy_turn, copy_end}
use Rattle.rules.specs.Rows.{bytes}
use Rattle.rules.specs.Answer.{mark, header_bytes}
use Rattle.rules.proofs.Laws.Output.OutBytes.{bytes_length}
use Rattle.limits.specs.declared.Limits.{Limits}
use Rattle.limits.specs.Held.{setting_in}

pub upper_long : (long : Bool) (n : ℕ) → long ≡ true → n % 256 ≡ pick long (n % 256) 0
unfolding pick
upper_long long n h = rw h

pub upper_short : (long : Bool) (n : ℕ) → long ≡ false → 0 ≡ pick long (n % 256) 0
unfolding pick
upper_short long n h = rw h

module _ (l : Limits) (n : ℕ) where
  abbrev H : List ℕ
  H = header_bytes (setting_in l) n

  -- what stands before the zeros
  abbrev front : Bool → List ℕ
  front long = 87 ∷ 78 ∷ 84 ∷ l.version % 256 ∷ l.version / 256 % 256 ∷ l.rules % 256 ∷ bytes (pick long 4 2) n

  in_bytes_lem : H ≡ front l.wide ++ replicate (l.header - (6 + pick l.wide 4 2)) 0
  unfolding header_bytes setting_in mark bytes
  in_bytes_lem = refl

  front_long : length (front l.wide) ≡ 6 + pick l.wide 4 2
  front_long = let e = bytes_length (pick l.wide 4 2) n in omega arith

  pub size_is : length H ≡ 6 + pick l.wide 4 2 + (l.header - (6 + pick l.wide 4 2))
  size_is = ap length in_bytes_lem ∙ length-append (front l.wide) _ ∙ (let e = length-replicate {A = ℕ} (l.header - (6 + pick l.wide 4 2)) 0 in omega (arith, front_long))

  -- a byte before the zeros, and one among them
  in_front : (i : ℕ) → i < 6 + pick l.wide 4 2 → get_or H i 0 ≡ get_or (front l.wide) i 0
  in_front i h = ap (λ b. get_or b i 0) in_bytes_lem ∙ get_or-append (front l.wide) _ 0 i (omega (arith, front_long))

  in_zeros : (i : ℕ) → 6 + pick l.wide 4 2 ≤ i → 0 ≡ get_or H i 0
  in_zeros i h =
      let f = front l.wide in
      let z : List ℕ = replicate (l.header - (6 + pick l.wide 4 2)) 0 in
      let e : length f + (i - length f) ≡ i = omega (arith, front_long) in
      sym (ap (λ b. get_or b i 0) in_bytes_lem ∙ ap (λ k. get_or (f ++ z) k 0) (sym e) ∙ get_or-append-add f z (i - length f) 0 ∙ copies_at (l.header - (6 + pick l.wide 4 2)) (i - length f) 0)

  module _ (i : ℕ) where
    pub byte_0 : i ≡ 0 → 87 ≡ get_or H i 0
    byte_0 h = rw h (sym (in_front 0 (omega arith)))

    pub byte_1 : i ≡ 1 → 78 ≡ get_or H i 0
    byte_1 h = rw h (sym (in_front 1 (omega arith)))

    pub byte_2 : i ≡ 2 → 84 ≡ get_or H i 0
    byte_2 h = rw h (sym (in_front 2 (omega arith)))

    pub byte_3 : i ≡ 3 → l.version < 256 → l.version ≡ get_or H i 0
    byte_3 h f = rw (h, in_front 3 (omega arith)) (omega arith)

    pub byte_5 : i ≡ 5 → l.rules < 256 → l.rules ≡ get_or H i 0
    byte_5 h f = rw (h, in_front 5 (omega arith)) (omega arith)

    two : (long : Bool) → 2 ≤ pick long 4 2
    unfolding pick
    two true = omega arith
    two false = omega arith

    pub byte_6 : i ≡ 6 → n % 256 ≡ get_or H i 0
    byte_6 h = let t = two l.wide in rw h (go l.wide ∙ sym (in_front 6 (omega arith)))
      where
        go : (long : Bool) → n % 256 ≡ get_or (front long) 6 0
        go true = unfold bytes pick in refl
        go false = unfold bytes pick in refl

    pub byte_7 : i ≡ 7 → n / 256 % 256 ≡ get_or H i 0
    byte_7 h = let t = two l.wide in rw h (go l.wide ∙ sym (in_front 7 (omega arith)))
      where
        go : (long : Bool) → n / 256 % 256 ≡ get_or (front long) 7 0
        go true = unfold bytes pick in refl
        go false = unfold bytes pick in refl

    -- the bytes that only a long header has
    upper_byte : (k x b : ℕ) → x ≡ pick l.wide b 0 → i ≡ k → 8 ≤ k → k < 10 → b ≡ get_or (front true) k 0 → x ≡ get_or H i 0
    upper_byte k x b e h g f m = go l.wide refl e
      where
        go : (long : Bool) → l.wide ≡ long → x ≡ pick l.wide b 0 → x ≡ get_or H i 0
        go true w e =
            let low : i < 6 + pick l.wide 4 2 = rw w (unfold pick in omega arith) in
            let is : x ≡ b = e ∙ rw w (unfold pick in refl) in
            is ∙ m ∙ sym (in_front i low ∙ ap (λ b. get_or (front b) i 0) w ∙ ap (λ j. get_or (front true) j 0) h)
        go false w e =
            let high : 6 + pick l.wide 4 2 ≤ i = rw w (unfold pick in omega arith) in
            let is : x ≡ 0 = e ∙ rw w (unfold pick in refl) in
            is ∙ in_zeros i high

    pub byte_8 : {x : ℕ} → x ≡ pick l.wide (n / 65536 % 256) 0 → i ≡ 8 → x ≡ get_or H i 0
    byte_8 {x} e h = upper_byte 8 x (n / 65536 % 256) e h (omega arith) (omega arith) (unfold bytes pick in omega arith)

    pub byte_9 : {x : ℕ} → x ≡ pick l.wide (n / 16777216 % 256) 0 → i ≡ 9 → x ≡ get_or H i 0
    byte_9 {x} e h = upper_byte 9 x (n / 16777216 % 256) e h (omega arith) (omega arith) (unfold bytes pick in omega arith)

    four : (long : Bool) → pick long 4 2 ≤ 4
    unfolding pick
    four true = omega arith
    four false = omega arith

    pub byte_4 : l.version < 256 → i < 6 → (i ≡ 0 → ⊥) → (i ≡ 1 → ⊥) → (i ≡ 2 → ⊥) → (i ≡ 3 → ⊥) → (i ≡ 5 → ⊥) → 0 ≡ get_or H i 0
    byte_4 v h n0 n1 n2 n3 n5 = let e : i ≡ 4 = omega arith in rw e (rw (in_front 4 (omega arith)) (omega arith))

    pub byte_else : 6 ≤ i → (i ≡ 6 → ⊥) → (i ≡ 7 → ⊥) → (i ≡ 8 → ⊥) → (i ≡ 9 → ⊥) → 0 ≡ get_or H i 0
    byte_else h n6 n7 n8 n9 = let t = four l.wide in in_zeros i (omega arith)

pub ruleset byte_ways = (byte_0, byte_1, byte_2, byte_3, byte_4, byte_5, byte_6, byte_7, byte_8, byte_9, byte_else, rules)

-- ---- all of them

module _ (l : Limits) (n h b : ℕ) (hs : h ≡ l.header) (bs : b ≡ 6 + pick l.wide 4 2) where
  pub size_behind : h < b → b ≡ length (header_bytes (setting_in l) n)
  size_behind g = omega (arith, size_is l n)

  pub size_header : b ≤ h → h ≡ length (header_bytes (setting_in l) n)
  size_header g = omega (arith, size_is l n)

module _ (out T H : List ℕ) (i : ℕ) (inv : sets out i (drop i H) ≡ T) (size : ℕ) (is : size ≡ length H) where
  pub header_end : size ≤ i → out ≡ T
  header_end h = copy_end out H T i i inv (omega arith)

  pub header_turn : i < size → (b : ℕ) → b ≡ get_or H i 0 → sets (set out i b) (i + 1) (drop (i + 1) H) ≡ T
  header_turn h b e = copy_turn out H T i i inv (omega arith) b e

pub ruleset size_ways = (size_behind, size_header, rules)
