-- "A sound form stays, with an empty list"; and so a mended form is mended to itself.
use Rattle.std.specs.Prelude.{◌≡◌, Bool, true, false, ◌&&◌, ◌||◌, not, List, [], ◌∷◌, ℕ, zero, suc, ◌+◌, ◌*◌, ◌-◌, ◌/◌, ◌%◌, ◌≤◌, ◌<◌, eqb, leb, ltb, take, drop, replicate}
use Rattle.std.proofs.Math.Path.{refl, ap, sym, subst}
use Rattle.std.proofs.Common.{ap₂, ◌∙◌, arith}
use Rattle.std.proofs.Math.ListN.{length, length-drop}
use Rattle.rules.specs.Tools.{when◌then◌else◌, between, zeros}
use Rattle.rules.specs.Versions.{Setting}
use Rattle.rules.specs.Rows.{value, bytes, Close, encode_row}
use Rattle.rules.specs.Rows
use Rattle.rules.specs.Tree.{Scope, flatten, form}
use Rattle.rules.specs.Reader.{read}
use Rattle.rules.specs.Answer
use Rattle.rules.specs.Answer.{accepted, has_header, row_count, rows_in, same_numbers}
use Rattle.read_form.specs.ReadForm.{read_form}
use Rattle.mending.specs.Mend
use Rattle.mending.specs.Mend.{Piece, piece, afters, Change, list_bytes, Fate, stays, zeroed, two_bits, fated, parts, row_pieces, closes_root, depth_after, close_rows, all_rows, behind_header, header_pieces, form_pieces, mended, sized, mend_in}
use Rattle.rules.specs.Laws.ToolLaws.{false_not, and_left, and_right, eqb-true, leb_le, leb-false, All, done, ◌&◌, all_append}
use Rattle.rules.specs.Laws.RowLaws.{Bytes, bytes_drop}
use Rattle.rules.proofs.Laws.Read.ReadRight.{read_right}
use Rattle.read_form.proofs.Laws.ReadFormLaws.{read_exactly, read_read}
use Rattle.mending.proofs.Laws.Pieces.{Stays, same_lists, stays_afters, stays_changes}
use Rattle.mending.proofs.Laws.Undone.{mended_is, drop-drop, length_first, behind_bytes, form_bytes_lem}
use Rattle.mending.proofs.Laws.SoundRows.{bytes_again, bytes_take, scope_field, form_ends, rows_stay}

-- ---- what 01 says of a form that it reads

pub record Sound (s : Setting) (input : List ℕ) (t : Scope) : Type 0 where
  pub headed : has_header s input ≡ true
  pub fits : not (between 1 s.version.rows (row_count s.version input)) || not (eqb (length input) (s.version.header + 16 * row_count s.version input)) ≡ false
  pub reads : read s.rules s.version.scopes (rows_in s input) ≡ form t

or_not : (a b : Bool) → a ≡ true → b ≡ true → not a || not b ≡ false
or_not a b p q = rw (p, q)

pub sound : (s : Setting) (input : List ℕ) (t : Scope) → read_form s input ≡ accepted t → Sound s input t
sound s input t e =
    let T = (read_exactly s input t).0 e in
    record { headed = T.headed; fits = or_not (between 1 s.version.rows (row_count s.version input)) (eqb (length input) (s.version.header + 16 * row_count s.version input)) T.counted T.long; reads = read_read s input t e }

or_left_false : (a b : Bool) → not a || not b ≡ false → a && b ≡ true
or_left_false true true e = refl
or_left_false true false e = sym e
or_left_false false b e = sym e

-- ---- its header

drop_take : (xs : List ℕ) (a n k : ℕ) → n ≡ a + k → drop a (take n xs) ≡ take k (drop a xs)
drop_take xs zero n k e = let q : n ≡ k = omega arith in rw q
drop_take xs (suc a) zero k e = absurd (omega arith)
drop_take [] (suc a) (suc n) zero e = refl
drop_take [] (suc a) (suc n) (suc k) e = refl
drop_take (x ∷ xs) (suc a) (suc n) k e = drop_take xs a n k (omega arith)

zero_list : (xs : List ℕ) → zeros xs ≡ true → xs ≡ replicate (length xs) 0
zero_list [] e = refl
zero_list (x ∷ xs) e = ap₂ (λ (y : ℕ) (l : List ℕ). y ∷ l) (eqb-true x 0 (and_left (eqb x 0) (zeros xs) e)) (zero_list xs (and_right (eqb x 0) (zeros xs) e))

mark_end : (s : Setting) → drop 5 (Answer.mark s) ≡ bytes 1 s.rules.number
unfolding Answer.mark bytes
mark_end s = refl

pub three : (a b c : Bool) → a && b && c ≡ true → (a ≡ true) × (b ≡ true) × (c ≡ true)
three true true true e = (refl, refl, refl)
three true true false e = false_not e
three true false true e = false_not e
three true false false e = false_not e
three false true true e = false_not e
three false true false e = false_not e
three false false true e = false_not e
three false false false e = false_not e

not_less : (m n : ℕ) → n ≤ m → ltb m n ≡ false
not_less m n h = leb-false (suc m) n (omega arith)

module _ (s : Setting) (input : List ℕ) (h : 6 + s.version.counting ≤ s.version.header) (a : Bytes input) (e : has_header s input ≡ true) where
  abbrev pub c : ℕ
  c = s.version.counting

  abbrev rest : ℕ
  rest = s.version.header - (6 + c)

  pub parted : (leb s.version.header (length input) ≡ true) × (same_numbers (take 6 input) (Answer.mark s) ≡ true) × (zeros (drop (6 + c) (take s.version.header input)) ≡ true)
  parted = three (leb s.version.header (length input)) (same_numbers (take 6 input) (Answer.mark s)) (zeros (drop (6 + c) (take s.version.header input))) (unfold has_header in e)

  pub long : s.version.header ≤ length input
  long = leb_le s.version.header (length input) parted.0

  pub byte_5 : take 1 (drop 5 input) ≡ bytes 1 s.rules.number
  byte_5 = sym (drop_take input 5 6 1 refl) ∙ (ap (λ (l : List ℕ). drop 5 l) (same_lists (take 6 input) (Answer.mark s) parted.1) ∙ mark_end s)

  ends_zero : take rest (drop c (drop 6 input)) ≡ replicate rest 0
  ends_zero =
      let cut : drop (6 + c) (take s.version.header input) ≡ take rest (drop c (drop 6 input)) = drop_take input (6 + c) s.version.header rest (omega arith) ∙ ap (λ (l : List ℕ). take rest l) (sym (drop-drop input 6 c (6 + c) refl)) in
      let room : rest ≤ length (drop c (drop 6 input)) = omega (arith, long, length-drop 6 input, length-drop c (drop 6 input)) in
      zero_list (take rest (drop c (drop 6 input))) (subst (λ (l : List ℕ). zeros l ≡ true) cut parted.2) ∙ ap (λ (n : ℕ). replicate n 0) (length_first rest (drop c (drop 6 input)) room)

  counted : (n : ℕ) → n ≡ row_count s.version input → take c (drop 6 input) ≡ bytes c n
  unfolding row_count
  counted n q =
      let room : c ≤ length (drop 6 input) = omega (arith, long, length-drop 6 input) in
      sym (ap₂ (λ (x y : ℕ). bytes x y) (sym (length_first c (drop 6 input) room)) q ∙ bytes_again (take c (drop 6 input)) (bytes_take c _ (bytes_drop 6 input a)))

  header_stays : (n : ℕ) → n ≡ row_count s.version input → All Stays (header_pieces s n input)
  unfolding header_pieces
  header_stays n q = refl & (byte_5 & (counted n q & (ends_zero & done)))

-- ---- its rows

module _ (s : Setting) (input : List ℕ) (t : Scope) (h : 6 + s.version.counting ≤ s.version.header) (a : Bytes input) (e : read_form s input ≡ accepted t) where
  abbrev S : Sound s input t
  S = sound s input t e

  abbrev rows : ℕ
  rows = row_count s.version input

  sizes : between 1 s.version.rows rows && eqb (length input) (s.version.header + 16 * rows) ≡ true
  sizes = or_left_false (between 1 s.version.rows rows) (eqb (length input) (s.version.header + 16 * rows)) S.fits

  size : length input ≡ s.version.header + 16 * rows
  size = eqb-true _ _ (and_right (between 1 s.version.rows rows) _ sizes)

  behind : length (drop s.version.header input) ≡ 16 * rows
  behind = omega (arith, length-drop s.version.header input, size)

  behind_stays : All Stays (behind_header s.version input)
  unfolding behind_header
  behind_stays =
      let F = ((read_right s.rules s.version.scopes (rows_in s input) (form t)).0 S.reads).0 in
      let whole : length (drop s.version.header input) / 16 ≡ rows = omega (arith, behind) in
      subst (λ (n : ℕ). All Stays (all_rows 0 n (drop s.version.header input))) (sym whole)
      (rows_stay s.version.names 0 rows (drop s.version.header input) (flatten t) (bytes_drop s.version.header input a) behind (sym F.of_tree) (scope_field s.rules t F.good) (form_ends t))

  form_stays : All Stays (form_pieces s input)
  unfolding form_pieces
  form_stays =
      let new : length (afters (behind_header s.version input)) ≡ 16 * rows = ap length (stays_afters (behind_header s.version input) behind_stays ∙ behind_bytes s.version input) ∙ behind in
      let count : length (afters (behind_header s.version input)) / 16 ≡ rows = omega (arith, new) in
      all_append (header_pieces s _ input) _ (header_stays s input h a S.headed _ count) behind_stays

  same : afters (form_pieces s input) ≡ input
  same = stays_afters (form_pieces s input) form_stays ∙ form_bytes_lem s input h

  -- A form that 01 reads, with room for it: it stays, with an empty list.
  pub sound_stays : (room space : ℕ) → length input ≤ room → mend_in s input room space ≡ mended input []
  unfolding mend_in Mend.read Mend.sized when◌then◌else◌ list_bytes
  sound_stays room space fits = rw (same, stays_changes 0 (form_pieces s input) form_stays, sizes, e, not_less room (length input) fits, not_less space 0 (omega arith))

-- ---- mended bytes are bytes

zero_few : (n : ℕ) → Bytes (replicate n 0)
zero_few zero = done
zero_few (suc n) = let h : 0 < 256 = omega arith in h & zero_few n

bytes_few : (c n : ℕ) → Bytes (bytes c n)
unfolding bytes
bytes_few zero n = done
bytes_few (suc c) n = let h : n % 256 < 256 = omega arith in h & bytes_few c (n / 256)

abbrev Few : Piece → Type 0
Few p = Bytes p.after

fated_few : (f : Fate) (bs : List ℕ) → Bytes bs → Bytes (fated f bs)
unfolding fated
fated_few stays bs a = a
fated_few zeroed bs a = zero_few (length bs)
fated_few two_bits bs a = bytes_few (length bs) _

parts_few : (ws : List ℕ) (fs : List Fate) (bs : List ℕ) → Bytes bs → All Few (parts ws fs bs)
unfolding parts
parts_few [] fs bs a = a & done
parts_few (w ∷ ws) [] bs a = a & done
parts_few (w ∷ ws) (f ∷ fs) bs a = fated_few f (take w bs) (bytes_take w bs a) & parts_few ws fs (drop w bs) (bytes_drop w bs a)

close_few : (n : ℕ) → Bytes (close_rows n)
unfolding close_rows
close_few zero = done
close_few (suc n) = all_append (encode_row Close) (close_rows n) one (close_few n)
  where
    one : Bytes (encode_row Close)
    one = unfold encode_row Rows.encode Rows.raw_bytes in all_append (bytes 1 8) _ (bytes_few 1 8) (all_append (bytes 1 0) _ (bytes_few 1 0) (all_append (bytes 2 0) _ (bytes_few 2 0) (all_append (bytes 4 0) _ (bytes_few 4 0) (all_append (bytes 4 0) _ (bytes_few 4 0) (bytes_few 4 0)))))

rows_few : (depth count : ℕ) (bs : List ℕ) → Bytes bs → All Few (all_rows depth count bs)
unfolding all_rows row_pieces when◌then◌else◌
rows_few depth zero bs a = close_few depth & done
rows_few depth (suc count) bs a =
    all_append (row_pieces (take 16 bs)) _ (parts_few _ _ (take 16 bs) (bytes_take 16 bs a)) (go (closes_root (value (take 1 bs)) depth) (rows_few (depth_after (value (take 1 bs)) depth) count (drop 16 bs) (bytes_drop 16 bs a)))
  where
    go : (b : Bool) → All Few (all_rows (depth_after (value (take 1 bs)) depth) count (drop 16 bs)) → All Few (when b then piece (drop 16 bs) [] ∷ [] else all_rows (depth_after (value (take 1 bs)) depth) count (drop 16 bs))
    go true p = done & done
    go false p = p

few_afters : (ps : List Piece) → All Few ps → Bytes (afters ps)
unfolding afters
few_afters [] done = done
few_afters (p ∷ ps) (h & a) = all_append p.after (afters ps) h (few_afters ps a)

pub form_few : (s : Setting) (input : List ℕ) → Bytes input → Bytes (afters (form_pieces s input))
unfolding form_pieces header_pieces behind_header
form_few s input a =
    few_afters (form_pieces s input)
    (bytes_take 5 input a & (bytes_few 1 _ & (bytes_few s.version.counting _ & (zero_few (s.version.header - (6 + s.version.counting)) & rows_few 0 (length (drop s.version.header input) / 16) (drop s.version.header input) (bytes_drop s.version.header input a)))))

-- A mended form is mended to itself, with an empty list.
pub mended_stays : (s : Setting) (input : List ℕ) (room space : ℕ) (new : List ℕ) (list : List Change) → 6 + s.version.counting ≤ s.version.header → Bytes input
    → mend_in s input room space ≡ mended new list → (room' space' : ℕ) → length new ≤ room' → mend_in s new room' space' ≡ mended new []
mended_stays s input room space new list h a e room' space' fits =
    let M = mended_is s input room space new list e in
    sound_stays s new M.tree h (subst Bytes M.is_form (form_few s input a)) M.reads room' space' fits
