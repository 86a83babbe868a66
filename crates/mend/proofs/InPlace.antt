-- The mended form put in place, a row at a time.
use mathlib.Core.Path.{◌≡◌, refl, sym, ap, ap₂, ◌∙◌}
use mathlib.Core.List.{List, [], ◌∷◌, ◌++◌, append-nil, append_assoc}
use native.Mathlib.Omega.{arith}
use native.Mathlib.Nat.{zero-add}
use Prim.Native.Nat.{ℕ, zero, suc, ◌+◌, ◌-◌, ◌*◌, ◌≤◌, ◌<◌}
use lib.ListN.{length, take, drop, replicate, length-append, length-drop, length-replicate}
use lib.Seq.{sets, sets-eq, length-sets, take_all, take_at, drop_at, drop-drop, drop-length, length-take-le}
use borrow.Rule.Slice.PartMut.{put_mid}
use borrow.Author.Rules.{rules}
use Rattle.kit.specs.Pick.{pick}
use Rattle.kit.proofs.Laws.{left_suc, sets_append}
use Rattle.rules.specs.Answer.{header_bytes}
use Rattle.rules.proofs.Laws.Output.OutBytes
use Rattle.limits.specs.declared.Limits.{Limits}
use Rattle.limits.specs.Held.{setting_in}
use Rattle.mending.proofs.Laws.SoundRows.{take_within}
use Rattle.mend_form.specs.Filled.{mended_row_t, mended_rows_t, mended_body_t, row_in, from_t}
use Rattle.mend_form.specs.declared.Kept.{Kept}
use Rattle.mend_form.proofs.Laws.{body_size}
use Rattle.mend_form.proofs.Right.{alone}
use Rattle.mend_form.proofs.Rows.{in_size, from_body}
use Rattle.mend.specs.Run.{new_t, in_place}

-- zeros from one byte up to another
pub zero_put : (buffer zeros : List ℕ) (from end : ℕ) → from < end → end ≤ length buffer → zeros ≡ replicate (end - from) 0 → put_mid from (end - from) buffer zeros ≡ sets buffer from (replicate (end - from) 0)
zero_put buffer zeros from end h room e =
    let size : length (replicate {A = ℕ} (end - from) 0) ≡ end - from = length-replicate {A = ℕ} (end - from) 0 in
    let stored : sets buffer from (replicate (end - from) 0) ≡ (take from buffer ++ replicate (end - from) 0) ++ drop (from + (end - from)) buffer =
    sets-eq (replicate (end - from) 0) buffer from (omega arith) ∙ ap (λ (m : ℕ). (take from buffer ++ replicate (end - from) 0) ++ drop (from + m) buffer) size in
    rw (e, drop-drop) (sym (stored ∙ append_assoc (take from buffer) (replicate (end - from) 0) (drop (from + (end - from)) buffer)))

-- ---- rows

-- a row is made of the old row alone
same_row : (k : Kept) (rows old : List ℕ) (i : ℕ) → length rows ≡ length old → drop (16 * i) rows ≡ drop (16 * i) old → row_in rows k i ≡ row_in old k i
unfolding row_in
same_row k rows old i size e =
    let row : mended_row_t rows (16 * i) 0 16 ≡ mended_row_t old (16 * i) 0 16 = alone rows (16 * i) 0 16 (omega arith) ∙ (ap (λ (l : List ℕ). mended_row_t (take 16 l) 0 0 16) e ∙ sym (alone old (16 * i) 0 16 (omega arith))) in
    rw (size, row)

pub row_put : (k : Kept) (rows row rows' : List ℕ) (i : ℕ) → row ≡ row_in rows k i → rows' ≡ sets rows (16 * i) row → rows' ≡ sets rows (16 * i) (row_in rows k i)
row_put k rows row rows' i e f = f ∙ ap (sets rows (16 * i)) e

module _ (k : Kept) (old rows rows' : List ℕ) (i : ℕ) (put : rows' ≡ sets rows (16 * i) (row_in rows k i)) (size : length rows ≡ length old) (behind : drop (16 * i) rows ≡ drop (16 * i) old) where
  put_is : rows' ≡ sets rows (16 * i) (row_in old k i)
  put_is = put ∙ ap (sets rows (16 * i)) (same_row k rows old i size behind)

  pub put_size : length rows' ≡ length old
  put_size = ap length put_is ∙ (length-sets rows (16 * i) (row_in old k i) ∙ size)

  pub put_turn : {T : List ℕ} {n : ℕ} → sets rows (16 * i) (from_t old k i (n - i)) ≡ T → i < n → sets rows' (16 * (i + 1)) (from_t old k (i + 1) (n - (i + 1))) ≡ T
  unfolding from_t
  put_turn {n = n} inv h =
      let next : 16 * (i + 1) ≡ 16 * i + length (row_in old k i) = omega (arith, in_size old k i) in
      rw (put_is, next, ← sets_append) (rw (left_suc i n h) at inv)

  pub put_behind : (n : ℕ) → i < n → 16 * n ≤ length old → drop (16 * (i + 1)) rows' ≡ drop (16 * (i + 1)) old
  put_behind n h room =
      let row = row_in old k i in
      let wide : length row ≡ 16 = in_size old k i in
      let front = take (16 * i) rows ++ row in
      let long : length front ≡ 16 * (i + 1) = omega (arith, length-append (take (16 * i) rows) row, length-take-le (16 * i) rows (omega arith), wide) in
      let at : 16 * i + length row ≡ 16 * i + 16 = ap (λ (m : ℕ). 16 * i + m) wide in
      let next : 16 * i + 16 ≡ 16 * (i + 1) = omega arith in
      ap (drop (16 * (i + 1))) (put_is ∙ sets-eq row rows (16 * i) (omega arith))
      ∙ (drop_at front _ (16 * (i + 1)) long
      ∙ (ap (λ (m : ℕ). drop m rows) at ∙ (sym (drop-drop 16 (16 * i) rows) ∙ (ap (drop 16) behind ∙ (drop-drop 16 (16 * i) old ∙ ap (λ (m : ℕ). drop m old) next)))))

pub put_end : (k : Kept) (old rows T : List ℕ) (i n : ℕ) → sets rows (16 * i) (from_t old k i (n - i)) ≡ T → n ≤ i → rows ≡ T
unfolding from_t
put_end k old rows T i n inv h = let z : n - i ≡ 0 = omega arith in (rw z at inv)

pub put_start : (k : Kept) (old : List ℕ) → 16 * (k.rows + k.scopes) ≤ length old → sets old (16 * 0) (from_t old k 0 (k.rows + k.scopes - 0)) ≡ sets old 0 (mended_body_t old k)
put_start k old room =
    let z : k.rows + k.scopes - 0 ≡ k.rows + k.scopes = omega arith in
    ap (λ (n : ℕ). sets old 0 (from_t old k 0 n)) z ∙ ap (sets old 0) (from_body old k (omega arith))

pub ruleset put_ways = (put_size, put_turn, put_behind, put_end, put_start, rules)

-- ---- the whole form

-- what lies behind the rows that stay does not matter
rows_within : (rows : List ℕ) (n i left : ℕ) → 16 * (i + left) ≤ n → mended_rows_t (take n rows) i left ≡ mended_rows_t rows i left
unfolding mended_rows_t
rows_within rows n i zero h = refl
rows_within rows n i (suc left) h =
    let row : mended_row_t (take n rows) (16 * i) 0 16 ≡ mended_row_t rows (16 * i) 0 16 =
    alone (take n rows) (16 * i) 0 16 (omega arith) ∙ (ap (λ (l : List ℕ). mended_row_t l 0 0 16) (take_within rows (16 * i) 16 n (omega arith)) ∙ sym (alone rows (16 * i) 0 16 (omega arith))) in
    ap₂ (λ (p q : List ℕ). p ++ q) row (rows_within rows n (i + 1) left (omega arith))

drop_take : (h n : ℕ) (l : List ℕ) → h ≤ n → drop h (take n l) ≡ take (n - h) (drop h l)
drop_take zero n l e = let z : n ≡ n - 0 = omega arith in ap (λ (m : ℕ). take m l) z
drop_take (suc h) zero l e = absurd (omega arith)
drop_take (suc h) (suc n) [] e = none (suc n - suc h)
  where
    none : (m : ℕ) → [] ≡ take {A = ℕ} m []
    none zero = refl
    none (suc m) = refl
drop_take (suc h) (suc n) (x ∷ l) e = let z : n - h ≡ suc n - suc h = omega arith in drop_take h n l (omega arith) ∙ ap (λ (m : ℕ). take m (drop h l)) z

pub body_within : (b : List ℕ) (long header : ℕ) (k : Kept) → header + 16 * k.rows ≤ long → mended_body_t (drop header (take long b)) k ≡ mended_body_t (drop header b) k
unfolding mended_body_t
body_within b long header k h =
    rw (drop_take header long b (omega arith), rows_within (drop header b) (long - header) 0 k.rows (omega arith))

module _ (b b₁ body b₂ b₃ : List ℕ) (l : Limits) (k : Kept) (long header : ℕ) (is : header ≡ l.header) (fits : 6 + pick l.wide 4 2 ≤ l.header) (near : long ≤ length b) (stay : l.header + 16 * k.rows ≤ long) (room : l.header + 16 * (k.rows + k.scopes) ≤ length b) where
  abbrev H : List ℕ
  H = header_bytes (setting_in l) (k.rows + k.scopes)

  head_size : length H ≡ header
  unfolding setting_in
  head_size = OutBytes.header_length (setting_in l) (k.rows + k.scopes) [] fits ∙ sym is

  abbrev rest : List ℕ
  rest = mended_body_t (drop header b) k

  rest_size : length rest ≡ 16 * (k.rows + k.scopes)
  rest_size = body_size (drop header b) k

  new_is : new_t l (take long b) k ≡ H ++ rest
  unfolding new_t
  new_is = rw (← is, body_within b long header k (omega arith))

  pub new_size : length (new_t l (take long b) k) ≡ header + 16 * (k.rows + k.scopes)
  new_size = ap length new_is ∙ omega (arith, length-append H rest, head_size, rest_size)

  module _ (e : b₁ ≡ sets b 0 H) where
    headed : b₁ ≡ H ++ drop header b
    headed = e ∙ (sets-eq H b 0 (omega (arith, head_size)) ∙ ap (λ (m : ℕ). H ++ drop m b) (zero-add (length H) ∙ head_size))

    size_kept : length b₁ ≡ length b
    size_kept = ap length e ∙ length-sets b 0 H

    behind_head : take (length b₁ - header) (drop header b₁) ≡ drop header b
    behind_head = take_all (length b₁ - header) (drop header b₁) (simp length-drop (omega arith)) ∙ (ap (drop header) headed ∙ drop_at H (drop header b) header head_size)

    none_behind : drop (length b₁ - header) (drop header b₁) ≡ []
    none_behind = rw (← length-drop header b₁) (drop-length (drop header b₁))

    module _ (f : body ≡ sets (take (length b₁ - header) (drop header b₁)) 0 (mended_body_t (take (length b₁ - header) (drop header b₁)) k)) (g : b₂ ≡ take header b₁ ++ (body ++ drop (length b₁ - header) (drop header b₁))) where
      all_put : b₂ ≡ sets b 0 (H ++ rest)
      all_put =
          let body_is : body ≡ rest ++ drop (16 * (k.rows + k.scopes)) (drop header b) =
          f ∙ (ap (λ (x : List ℕ). sets x 0 (mended_body_t x k)) behind_head ∙ (sets-eq rest (drop header b) 0 (omega (arith, rest_size, length-drop header b)) ∙ ap (λ (m : ℕ). rest ++ drop m (drop header b)) (zero-add (length rest) ∙ rest_size))) in
          let both : length (H ++ rest) ≡ header + 16 * (k.rows + k.scopes) = omega (arith, length-append H rest, head_size, rest_size) in
          let front : take header b₁ ≡ H = ap (take header) headed ∙ take_at H (drop header b) header head_size in
          let tail : drop (16 * (k.rows + k.scopes)) (drop header b) ≡ drop (0 + length (H ++ rest)) b = drop-drop (16 * (k.rows + k.scopes)) header b ∙ ap (λ (m : ℕ). drop m b) (sym (zero-add (length (H ++ rest)) ∙ both)) in
          g
          ∙ (ap₂ (λ (x y : List ℕ). x ++ (body ++ y)) front none_behind
          ∙ (ap (λ (x : List ℕ). H ++ x) (append-nil body ∙ (body_is ∙ ap (λ (x : List ℕ). rest ++ x) tail))
          ∙ (sym (append_assoc H rest _) ∙ sym (sets-eq (H ++ rest) b 0 (omega (arith, both))))))

      pub form_put : b₃ ≡ sets b₂ (header + 16 * (k.rows + k.scopes)) (replicate (long - (header + 16 * (k.rows + k.scopes))) 0) → b₃ ≡ in_place b long (new_t l (take long b) k)
      unfolding in_place
      form_put z = z ∙ rw (new_size, all_put, new_is)
