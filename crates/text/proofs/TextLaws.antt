-- The lines of a text, and the form that they make.
use Rattle.std.specs.Prelude.{Some, None, Result, Ok, Err, ℕ, Option}
use mathlib.Core.Path.{◌≡◌, refl, sym, ap, ◌∙◌}
use mathlib.Core.Bool.{Bool, true, false}
use mathlib.Core.List.{List, [], ◌∷◌, ◌++◌}
use native.Mathlib.Omega.{arith}
use Prim.Native.Nat.{ℕ, zero, suc, ◌+◌, ◌*◌, ◌-◌, ◌/◌, ◌%◌, ◌≤◌, ◌<◌}
use borrow.Author.Rules.{rules}
use borrow.Author.Tests.{ltb-false}
use lib.Dec.{eqb, ltb}
use lib.ListN.{length, get_or, take, drop, set, drop_of_length-le, length-drop}
use lib.Seq.{sets, drop-drop}
use Rattle.kit.specs.Pick.{pick}
use Rattle.kit.specs.Out.{Out, ◌&◌}
use Rattle.kit.proofs.Laws.{yes!, no!, tests, drop_next, left_suc, sets_append}
use Rattle.rules.specs.Rows.{bytes, raw, raw_bytes}
use Rattle.parts.specs.declared.Parts.{Parts}
use Rattle.text.specs.Lines.{on_first, lines_of, line_length, line_of}
use Rattle.text.specs.declared.lines.Why.{Why}
use Rattle.text.specs.declared.lines.Why.TheVariants.{Many, Empty}
use Rattle.parts.specs.declared.Parts.{Parts}
use Rattle.text.specs.Text.{start_bytes, row_bytes, header, most_rows, ended, line_then, lines_then, parsed}
use Rattle.text.specs.declared.Wrong.{Wrong}

-- ---- how many rows there can be

pub rows_none : (n : ℕ) → n < 8 → 0 ≡ most_rows n
unfolding most_rows
rows_none n h = let e : (n - 8) / 16 ≡ 0 = omega arith in rw e (yes! _ (omega tests) refl)

pub rows_some : (n : ℕ) → (n - 8) / 16 < 4092 → (n - 8) / 16 ≡ most_rows n
unfolding most_rows
rows_some n h = yes! _ (omega tests) refl

pub rows_most : (n : ℕ) → 4092 ≤ (n - 8) / 16 → 4092 ≡ most_rows n
unfolding most_rows
rows_most n h = no! _ (omega tests) refl

rows_fit : (n : ℕ) → most_rows n ≤ (n - 8) / 16
unfolding most_rows pick
rows_fit n = go (ltb ((n - 8) / 16) 4092) refl
  where
    go : (t : Bool) → ltb ((n - 8) / 16) 4092 ≡ t → pick t ((n - 8) / 16) 4092 ≤ (n - 8) / 16
    go true e = omega arith
    go false e = let f = ltb-false ((n - 8) / 16) 4092 e in omega (arith, f)

pub ruleset most_ways = (rows_none, rows_some, rows_most, rules)

-- ---- the first line

module _ (text : List ℕ) (end T : ℕ) (inv : end + line_length (drop end text) ≡ T) where
  pub length_end : length text ≤ end → end ≡ T
  unfolding line_length
  length_end h = let e = drop_of_length-le text {i = end} h in let f = rw e at inv in omega (arith, f)

  module _ (h : end < length text) where
    length_turn : end + pick (eqb (get_or text end 0) 10) 1 (suc (line_length (drop (end + 1) text))) ≡ T
    unfolding line_length
    length_turn = rw (drop_next text end 0 h) at inv

    pub length_hit : get_or text end 0 ≡ 10 → end + 1 ≡ T
    length_hit q = ap (end +◌) (yes! _ (omega tests) refl) ∙ length_turn

    pub length_on : (get_or text end 0 ≡ 10 → ⊥) → end + 1 + line_length (drop (end + 1) text) ≡ T
    length_on q =
        let e : suc (line_length (drop (end + 1) text)) ≡ pick (eqb (get_or text end 0) 10) 1 (suc (line_length (drop (end + 1) text))) = no! _ (omega tests) refl in
        let f = length_turn in
        let g = ap (end +◌) e ∙ f in
        omega (arith, g)

pub ruleset length_ways = (length_end, length_hit, length_on, rules)

-- ---- the bytes of a number, one by one

pub bytes_start : (out : List ℕ) (at count number : ℕ) → sets out (at + 0) (bytes (count - 0) number) ≡ sets out at (bytes count number)
bytes_start out at count number =
    let a : at + 0 ≡ at = omega arith in
    let b : count - 0 ≡ count = omega arith in
    rw (a, b)

module _ (out : List ℕ) (at count i left : ℕ) (T : List ℕ) (inv : sets out (at + i) (bytes (count - i) left) ≡ T) where
  pub bytes_end : count ≤ i → out ≡ T
  unfolding bytes
  bytes_end h = let e : count - i ≡ 0 = omega arith in rw e at inv

  pub bytes_on : i < count → sets (set out (at + i) (left % 256)) (at + (i + 1)) (bytes (count - (i + 1)) (left / 256)) ≡ T
  unfolding bytes
  bytes_on h =
      let e : at + (i + 1) ≡ suc (at + i) = omega arith in
      rw e (rw (left_suc i count h) at inv)

pub ruleset bytes_ways = (bytes_start, bytes_end, bytes_on, rules)

-- ---- stores behind each other

module _ (l l₁ l₂ l₃ u v w : List ℕ) (a b c : ℕ) (hb : b ≡ a + length u) (hc : c ≡ b + length v) where
  three_stores : l₁ ≡ sets l a u → l₂ ≡ sets l₁ b v → l₃ ≡ sets l₂ c w → l₃ ≡ sets l a (u ++ (v ++ w))
  three_stores e₁ e₂ e₃ = rw (e₃, e₂, e₁, hc, hb) (sym (sets_append l a u (v ++ w) ∙ sets_append (sets l a u) (a + length u) v w))

length_bytes : (count n : ℕ) → length (bytes count n) ≡ count
unfolding bytes
length_bytes zero n = refl
length_bytes (suc count) n = ap suc (length_bytes count (n / 256))

-- where what stands behind a number of this many bytes begins
behind : (a b count n : ℕ) → b ≡ a + count → b ≡ a + length (bytes count n)
behind a b count n e = rw (length_bytes count n) e

-- what `put_start` leaves
pub put_three : (l l₁ l₂ l₃ : List ℕ) (a code b e : ℕ) → l₁ ≡ sets l a (bytes 1 code) → l₂ ≡ sets l₁ (a + 1) (bytes 1 b) → l₃ ≡ sets l₂ (a + 2) (bytes 2 e) → l₃ ≡ sets l a (start_bytes code b e)
unfolding start_bytes
put_three l l₁ l₂ l₃ a code b e =
    three_stores l l₁ l₂ l₃ (bytes 1 code) (bytes 1 b) (bytes 2 e) a (a + 1) (a + 2) (behind a (a + 1) 1 code refl) (behind (a + 1) (a + 2) 1 b (omega arith))

row_bytes_lem : (code b e x y z : ℕ) → start_bytes code b e ++ (bytes 4 x ++ (bytes 4 y ++ bytes 4 z)) ≡ raw_bytes (raw code b e x y z)
unfolding start_bytes raw_bytes bytes
row_bytes_lem code b e x y z = refl

length_start : (code b e : ℕ) → length (start_bytes code b e) ≡ 4
unfolding start_bytes bytes
length_start code b e = refl

-- what `put_parts` leaves
pub put_all : (l l₁ l₂ l₃ l₄ : List ℕ) (a : ℕ) (p : Parts) → l₁ ≡ sets l a (start_bytes p.code p.b p.e) → l₂ ≡ sets l₁ (a + 4) (bytes 4 p.x) → l₃ ≡ sets l₂ (a + 8) (bytes 4 p.y) → l₄ ≡ sets l₃ (a + 12) (bytes 4 p.z) → l₄ ≡ sets l a (row_bytes p)
unfolding row_bytes
put_all l l₁ l₂ l₃ l₄ a p e₁ e₂ e₃ e₄ =
    let t = start_bytes p.code p.b p.e in
    let e : a + 4 ≡ a + length t = rw (length_start p.code p.b p.e) refl in
    three_stores l₁ l₂ l₃ l₄ (bytes 4 p.x) (bytes 4 p.y) (bytes 4 p.z) (a + 4) (a + 8) (a + 12) (behind (a + 4) (a + 8) 4 p.x (omega arith)) (behind (a + 8) (a + 12) 4 p.y (omega arith)) e₂ e₃ e₄
    ∙ rw (e₁, e) (sym (sets_append l a t (bytes 4 p.x ++ (bytes 4 p.y ++ bytes 4 p.z))))
    ∙ ap (sets l a) (row_bytes_lem p.code p.b p.e p.x p.y p.z)

header_bytes_lem : (rows : ℕ) → bytes 4 22302295 ++ (bytes 2 0 ++ bytes 2 rows) ≡ header rows
unfolding header bytes
header_bytes_lem rows = refl

-- what `put_header` leaves
pub put_header_lem : (l l₁ l₂ l₃ : List ℕ) (rows : ℕ) → l₁ ≡ sets l 0 (bytes 4 22302295) → l₂ ≡ sets l₁ 4 (bytes 2 0) → l₃ ≡ sets l₂ 6 (bytes 2 rows) → l₃ ≡ sets l 0 (header rows)
put_header_lem l l₁ l₂ l₃ rows e₁ e₂ e₃ =
    three_stores l l₁ l₂ l₃ (bytes 4 22302295) (bytes 2 0) (bytes 2 rows) 0 4 6 (behind 0 4 4 22302295 refl) (behind 4 6 2 0 refl) e₁ e₂ e₃
    ∙ ap (sets l 0) (header_bytes_lem rows)

pub ruleset store_ways = (put_three, put_all, put_header_lem, rules)

-- ---- the end of a text

pub header_room : (rows n : ℕ) → rows ≤ most_rows n → (rows ≡ 0 → ⊥) → 8 ≤ n
header_room rows n h z = let f = rows_fit n in omega (arith, f)

module _ (line rows : ℕ) (out : List ℕ) where
  pub end_empty : rows ≡ 0 → (Err (record { line = line; why = Empty }) & out) ≡ ended line rows out
  unfolding ended
  end_empty h = yes! _ (omega tests) refl

  pub end_rows : (out₁ : List ℕ) → (rows ≡ 0 → ⊥) → out₁ ≡ sets out 0 (header rows) → (Ok rows & out₁) ≡ ended line rows out
  unfolding ended
  end_rows out₁ h e = no! _ (omega tests) (rw e)

pub ruleset end_ways = (header_room, end_empty, end_rows, rules)

-- ---- the lines of a text

lines_step : (b : ℕ) (bs : List ℕ) → lines_of (b ∷ bs) ≡ pick (eqb b 10) ((b ∷ []) ∷ lines_of bs) (on_first b (lines_of bs))
unfolding lines_of
lines_step b bs = refl

length_step : (b : ℕ) (bs : List ℕ) → line_length (b ∷ bs) ≡ pick (eqb b 10) 1 (suc (line_length bs))
unfolding line_length
length_step b bs = refl

abbrev First : List ℕ → Type 0
First l = lines_of l ≡ take (line_length l) l ∷ lines_of (drop (line_length l) l)

one : (b : ℕ) → on_first b (lines_of []) ≡ take (suc (line_length [])) (b ∷ []) ∷ lines_of (drop (suc (line_length [])) (b ∷ []))
unfolding on_first lines_of line_length
one b = refl

more : (b : ℕ) (l : List ℕ) → First l → on_first b (lines_of l) ≡ take (suc (line_length l)) (b ∷ l) ∷ lines_of (drop (suc (line_length l)) (b ∷ l))
unfolding on_first
more b l h = ap (on_first b) h

first_case : (b : ℕ) (bs : List ℕ) (t : Bool) → eqb b 10 ≡ t → (0 < length bs → First bs) → First (b ∷ bs)
unfolding pick
first_case b bs true e rest = rw (lines_step b bs, length_step b bs, e) refl
first_case b [] false e rest = rw (lines_step b [], length_step b [], e) (one b)
first_case b (c ∷ cs) false e rest = rw (lines_step b (c ∷ cs), length_step b (c ∷ cs), e) (more b (c ∷ cs) (rest (omega arith)))

first_line : (l : List ℕ) → 0 < length l → First l
first_line [] h = absurd (omega arith)
first_line (b ∷ bs) h = first_case b bs (eqb b 10) refl (first_line bs)

module _ (text out : List ℕ) (most from number rows : ℕ) (T : Out (Result ℕ Wrong) (List ℕ)) (inv : lines_then (lines_of (drop from text)) most number rows out ≡ T) where
  pub text_end : (r : Out (Result ℕ Wrong) (List ℕ)) → length text ≤ from → r ≡ ended number rows out → r ≡ T
  unfolding lines_then lines_of
  text_end r h e = e ∙ (rw (drop_of_length-le text {i = from} h) at inv)

  module _ (h : from < length text) (end : ℕ) (is : end ≡ from + line_length (drop from text)) (l : Result (Option Parts) Why) (read : l ≡ line_of (take (end - from) (drop from text))) where
    first : lines_of (drop from text) ≡ take (end - from) (drop from text) ∷ lines_of (drop end text)
    first =
        let n : line_length (drop from text) ≡ end - from = omega (arith, is) in
        let some : 0 < length (drop from text) = simp length-drop (omega (arith, h)) in
        let e : from + (end - from) ≡ end = omega (arith, is) in
        let d : drop (end - from) (drop from text) ≡ drop end text = drop-drop (end - from) from text ∙ ap (λ k. drop k text) e in
        first_line (drop from text) some
        ∙ ap (λ k. take k (drop from text) ∷ lines_of (drop k (drop from text))) n
        ∙ ap (λ k. take (end - from) (drop from text) ∷ lines_of k) d

    text_turn : line_then l most (number + 1) rows out (lines_then (lines_of (drop end text)) most (number + 1)) ≡ T
    unfolding lines_then
    text_turn = rw read (rw first at inv)

    pub text_nothing : l ≡ Ok None → lines_then (lines_of (drop end text)) most (number + 1) rows out ≡ T
    unfolding line_then
    text_nothing q = rw q at text_turn

    pub text_wrong : (why : Why) → l ≡ Err why → (Err (record { line = number + 1; why = why }) & out) ≡ T
    unfolding line_then
    text_wrong why q = rw q at text_turn

    module _ (p : Parts) (q : l ≡ Ok (Some p)) where
      row_turn : pick (ltb rows most) (lines_then (lines_of (drop end text)) most (number + 1) (rows + 1) (sets out (8 + 16 * rows) (row_bytes p))) (Err (record { line = number + 1; why = Many }) & out) ≡ T
      unfolding line_then
      row_turn = rw q at text_turn

      pub text_many : most ≤ rows → (Err (record { line = number + 1; why = Many }) & out) ≡ T
      text_many m = no! _ (omega tests) refl ∙ row_turn

      pub text_row : (a : ℕ) (out₁ : List ℕ) → rows < most → a ≡ 8 + 16 * rows → out₁ ≡ sets out a (row_bytes p) → lines_then (lines_of (drop end text)) most (number + 1) (rows + 1) out₁ ≡ T
      text_row a out₁ m e f = yes! _ (omega tests) (rw (f, e)) ∙ row_turn

pub text_start : (text out : List ℕ) (most : ℕ) → most ≡ most_rows (length out) → lines_then (lines_of (drop 0 text)) most 0 0 out ≡ parsed text out
unfolding parsed
text_start text out most e = rw e

-- room for a row, and for the header
pub row_room : (rows most n m a : ℕ) → rows < most → most ≡ most_rows n → m ≡ n → a ≡ 8 + 16 * rows → a + 16 ≤ m
row_room rows most n m a h e q f = let g = rows_fit n in omega (arith, g)

pub rows_room : (rows most n m : ℕ) → rows ≤ most → most ≡ most_rows n → m ≡ n → rows ≤ most_rows m
rows_room rows most n m h e q = rw (q, ← e) h

pub ruleset text_ways = (text_start, text_end, text_nothing, text_wrong, text_many, text_row, row_room, rows_room, rules)
