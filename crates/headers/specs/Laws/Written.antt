-- A header that is written is one of its setting, and a header that is read is the one that is written.
use Rattle.std.specs.Prelude.{◌≡◌, refl, Bool, true, false, ◌&&◌, eqb, leb}
use Rattle.std.proofs.Math.Path.{ap, sym}
use Rattle.std.proofs.Common.{ap₂, ◌∙◌, arith, take-add, take-take}
use mathlib.Core.List.{List, [], ◌∷◌, ◌++◌, append_assoc}
use Prim.Native.Nat.{ℕ, zero, suc, ◌+◌, ◌*◌, ◌-◌, ◌/◌, ◌%◌, ◌≤◌}
use Rattle.std.proofs.Math.ListN.{length, take, drop, replicate, length-append, length-drop, take-append-drop}
use Rattle.std.proofs.Math.Seq.{take_at, drop_at, length-take-le}
use Rattle.rules.specs.Tools.{zeros}
use Rattle.rules.specs.Versions.{Setting}
use Rattle.rules.specs.Rows.{value, bytes}
use Rattle.rules.specs.Answer.{mark, same_numbers, has_header, row_count, header_bytes}
use Rattle.rules.specs.Laws.ToolLaws.{false_not, and_left, and_right, eqb-true, eqb_same, leb-true, leb_le, ◌&◌}
use Rattle.rules.specs.Laws.RowLaws.{Bytes, bytes_drop}
use Rattle.rules.proofs.Laws.Output.OutBytes.{bytes_length, header_length, mark_length}

-- ---- numbers and zeros

pub numbers_same : (a : List ℕ) → same_numbers a a ≡ true
unfolding same_numbers
numbers_same [] = refl
numbers_same (x ∷ a) = rw (eqb_same x) (numbers_same a)

pub numbers_equal : (a b : List ℕ) → same_numbers a b ≡ true → a ≡ b
unfolding same_numbers
numbers_equal [] [] e = refl
numbers_equal [] (y ∷ b) e = false_not e
numbers_equal (x ∷ a) [] e = false_not e
numbers_equal (x ∷ a) (y ∷ b) e =
    ap₂ (λ (n : ℕ) (l : List ℕ). n ∷ l) (eqb-true x y (and_left (eqb x y) (same_numbers a b) e)) (numbers_equal a b (and_right (eqb x y) (same_numbers a b) e))

zeros_zero : (n : ℕ) → zeros (replicate n 0) ≡ true
zeros_zero zero = refl
zeros_zero (suc n) = zeros_zero n

zeros_bytes : (ns : List ℕ) → zeros ns ≡ true → replicate (length ns) 0 ≡ ns
zeros_bytes [] e = refl
zeros_bytes (n ∷ ns) e =
    ap₂ (λ (m : ℕ) (l : List ℕ). m ∷ l) (sym (eqb-true n 0 (and_left (eqb n 0) (zeros ns) e))) (zeros_bytes ns (and_right (eqb n 0) (zeros ns) e))

pub bytes_value : (n : ℕ) (bs : List ℕ) → Bytes bs → n ≤ length bs → bytes n (value (take n bs)) ≡ take n bs
unfolding value bytes
bytes_value zero bs p h = refl
bytes_value (suc n) [] p h = absurd (omega arith)
bytes_value (suc n) (b ∷ bs) (s & p) h =
    let v = value (take n bs) in
    let low : (b + 256 * v) % 256 ≡ b = omega arith in
    let high : (b + 256 * v) / 256 ≡ v = omega arith in
    rw (low, high) (ap (λ (l : List ℕ). b ∷ l) (bytes_value n bs p (omega arith)))

-- ---- written

and_both : (a b : Bool) → a ≡ true → b ≡ true → a && b ≡ true
and_both true b p q = q
and_both false b p q = p

module _ (s : Setting) (n : ℕ) (rest : List ℕ) (fits : 6 + s.version.counting ≤ s.version.header) where
  abbrev bs : List ℕ
  bs = header_bytes s n ++ rest

  header_read : take s.version.header bs ≡ header_bytes s n
  header_read = take_at (header_bytes s n) rest s.version.header (header_length s n rest fits)

  -- What is written has the header of its setting.
  pub written_header : has_header s bs ≡ true
  unfolding has_header header_bytes
  written_header =
      let c = s.version.counting in
      let pad : List ℕ = replicate (s.version.header - (6 + c)) 0 in
      let long : s.version.header ≤ length bs = omega (arith, length-append (header_bytes s n) rest, header_length s n rest fits) in
      let marked : take 6 bs ≡ mark s = ap (take 6) (append_assoc (mark s) (bytes c n ++ pad) rest) ∙ take_at (mark s) _ 6 (mark_length s n rest) in
      let size : length (mark s ++ bytes c n) ≡ 6 + c = omega (arith, length-append (mark s) (bytes c n), mark_length s n rest, bytes_length c n) in
      let padded : drop (6 + c) (take s.version.header bs) ≡ pad =
      ap (drop (6 + c)) (header_read ∙ sym (append_assoc (mark s) (bytes c n) pad)) ∙ drop_at (mark s ++ bytes c n) pad (6 + c) size in
      and_both _ _ (and_both _ _ (leb-true long) (rw marked (numbers_same (mark s)))) (rw padded (zeros_zero (s.version.header - (6 + c))))

-- ---- read

module _ (s : Setting) (input : List ℕ) (p : Bytes input) (fits : 6 + s.version.counting ≤ s.version.header) (h : has_header s input ≡ true) where
  -- The header that is read is the one that is written.
  pub header_bytes_lem : header_bytes s (row_count s.version input) ≡ take s.version.header input
  unfolding has_header header_bytes row_count
  header_bytes_lem =
      let c = s.version.counting in
      let n = s.version.header in
      let behind = drop (6 + c) (take n input) in
      let first = and_left (leb n (length input) && same_numbers (take 6 input) (mark s)) (zeros behind) h in
      let long : n ≤ length input = leb_le n (length input) (and_left (leb n (length input)) (same_numbers (take 6 input) (mark s)) first) in
      let marked : take 6 input ≡ mark s = numbers_equal (take 6 input) (mark s) (and_right (leb n (length input)) (same_numbers (take 6 input) (mark s)) first) in
      let pad : replicate (length behind) 0 ≡ behind = zeros_bytes behind (and_right (leb n (length input) && same_numbers (take 6 input) (mark s)) (zeros behind) h) in
      let size : length behind ≡ n - (6 + c) = omega (arith, length-drop (6 + c) (take n input), length-take-le n input long) in
      let counted : bytes c (value (take c (drop 6 input))) ≡ take c (drop 6 input) = bytes_value c (drop 6 input) (bytes_drop 6 input p) (omega (arith, length-drop 6 input)) in
      rw (counted, ← marked, ← size, pad) (
      sym (append_assoc (take 6 input) (take c (drop 6 input)) behind)
      ∙ ap (λ (l : List ℕ). l ++ behind) (sym (take-add 6 c input) ∙ sym (take-take (6 + c) n input fits))
      ∙ take-append-drop (6 + c) (take n input))
