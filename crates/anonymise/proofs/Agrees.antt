-- What the code answers and leaves is what crate `renaming` says.
use Rattle.std.specs.Prelude.{Result, Ok, Err, IsErrAnd}
use Rattle.std.proofs.lemmas.Result.{err_from_is_err_and}
use mathlib.Core.Path.{◌≡◌, refl, sym, ap, ap₂, ◌∙◌, subst}
use mathlib.Core.Bool.{Bool, true, false, ◌&&◌, ◌||◌, not}
use mathlib.Core.Option.{Option, none, some}
use mathlib.Core.List.{List, [], ◌∷◌, ◌++◌, append_assoc, append-nil, map}
use native.Mathlib.Omega.{arith}
use Prim.Native.Nat.{ℕ, suc, ◌+◌, ◌*◌, ◌/◌, ◌%◌, ◌≤◌, ◌<◌}
use lib.Dec.{eqb, leb, ltb}
use lib.ListN.{length, take, drop, length-append, length-drop, length-map}
use lib.Seq.{length-take-le, take-length, take_at, drop-drop, drop-length, sets, length-sets, sets-eq}
use borrow.Author.Tests.{eqb-true, leb-true, ltb-false}
use Rattle.kit.specs.Out.{◌&◌}
use Rattle.kit.specs.Pick.{pick}
use Rattle.kit.proofs.Laws.{tests}
use Rattle.rules.specs.Tools.{when◌then◌else◌, between, only, ◌or_else◌}
use Rattle.rules.specs.Versions.{Setting, version1, today, top_name, base}
use Rattle.rules.specs.Rows as rules
use Rattle.rules.specs.Rows.{Raw, raw, raw_bytes, bytes, encode, decode_row, encode_row}
use Rattle.rules.specs.Tree.{Scope, flatten, RowsRead, bad, deep, form}
use Rattle.rules.specs.Begins.{IsForm, Right}
use Rattle.rules.specs.Reader.{read}
use Rattle.rules.specs.Answer.{AnswerOf, refused, accepted, map_answer, has_header, setting_of, row_count, rows_of, rows_in}
use Rattle.rules.proofs.Laws.Read.ReadRight.{read_right}
use Rattle.rules.proofs.Laws.Read.BeginsWritten.{rows_length}
use Rattle.renaming.specs.Renaming.{renamed_row, renamed_part, renamed_rows, renamed, renamed_in, renamed_for, renamed_bytes, place_of}
use Rattle.renaming.specs.Anonymous.{key_in, after_reading, anonymous_in, anonymous_for, anonymous, anonymous_after, anonymous_output, over, key_after}
use Rattle.form.specs.Header.{header_in, header_for, header_of}
use Rattle.reader.specs.ReadTo.{answer_of, read_of}
use Rattle.rows.specs.RowAt.{as_index, taken}
use Rattle.put.specs.Put.{rule_index, rule_row, bytes_of, row_bytes, put_row}
use Rattle.anonymise.specs.Meaning.{meaning}
use Rattle.anonymise.specs.Renamed.{input_row, key_of, renamed_row_t, left_by, row_written, rows_written}
use Rattle.anonymise.specs.Run.{fault_of_header, Ran, all_written, fill_names_t, before, read_then, run_t}
use Rattle.anonymise.specs.declared.run.Fault.TheVariants.{Header, RowCount, Room}
use Rattle.form.specs.declared.header.BadHeader.TheVariants.{Wrong, Count}
use Rattle.anonymise.specs.declared.run.Fault.{Fault}
use Rattle.form.specs.declared.header.BadHeader.{BadHeader}

-- ---- the rows that are written

row_bytes_lem : (g : ℕ → ℕ) (row : rules.Row) → row_bytes (renamed_row_t g (taken (some row))) ≡ encode_row (renamed_row g row)
unfolding row_bytes bytes_of rule_row rule_index taken as_index renamed_row_t renamed_row
row_bytes_lem g (rules.Field code builtin z) = refl
row_bytes_lem g (rules.Decl space name z) = refl
row_bytes_lem g (rules.Ref space (rules.Num n) paths z) = refl
row_bytes_lem g (rules.Ref space (rules.Id n) paths z) = refl
row_bytes_lem g (rules.Path name) = refl
row_bytes_lem g (rules.Outer space (rules.Num n) (rules.Num m) z) = refl
row_bytes_lem g (rules.Outer space (rules.Num n) (rules.Id m) z) = refl
row_bytes_lem g (rules.Outer space (rules.Id n) (rules.Num m) z) = refl
row_bytes_lem g (rules.Outer space (rules.Id n) (rules.Id m) z) = refl
row_bytes_lem g (rules.Case name z) = refl
row_bytes_lem g (rules.Open kind name) = refl
row_bytes_lem g rules.Close = refl
row_bytes_lem g (rules.Export name) = refl

row_size : (row : rules.Row) → length (encode_row row) ≡ 16
unfolding encode_row
row_size row = go (encode row)
  where
    go : (parts : Raw) → length (raw_bytes parts) ≡ 16
    go (raw code b e x y z) = unfold raw_bytes bytes in refl

module _ (key rows : List ℕ) where
  abbrev g : ℕ → ℕ
  g = renamed (place_of key)

  -- one row, which can be taken apart
  one_written : (i : ℕ) (out : List ℕ) (row : rules.Row) → decode_row top_name (drop (16 * i) rows) ≡ some row → i < length rows / 16 → i < length out / 16
      → row_written key rows i out ≡ sets out (16 * i) (encode_row (renamed_row g row))
  unfolding row_written put_row input_row left_by pick
  one_written i out row e h o =
      let a : ltb i (length rows / 16) ≡ true = omega tests in
      let b : ltb i (length out / 16) ≡ true = omega tests in
      rw (a, b, e, row_bytes_lem g row)

  next_written : (i left : ℕ) (out : List ℕ) → rows_written key rows i (suc left) out ≡ rows_written key rows (i + 1) left (row_written key rows i out)
  unfolding rows_written
  next_written i left out = refl

  next_renamed : (left : ℕ) (bs : List ℕ) (row : rules.Row) → decode_row top_name bs ≡ some row → renamed_rows g (suc left) bs ≡ encode_row (renamed_row g row) ++ renamed_rows g left (drop 16 bs)
  unfolding renamed_rows renamed_part
  next_renamed left bs row e =
      let part : renamed_part g (decode_row top_name bs) bs ≡ encode_row (renamed_row g row) = ap (λ (o : Option rules.Row). renamed_part g o bs) e in
      ap (λ (l : List ℕ). l ++ renamed_rows g left (drop 16 bs)) part

  -- the rows from i on, all of which can be
  all_written_lem : (rs : List rules.Row) (i : ℕ) (out : List ℕ) → rows_of top_name (length rs) (drop (16 * i) rows) ≡ map some rs → length rows ≡ 16 * (i + length rs) → length out ≡ length rows
      → rows_written key rows i (length rs) out ≡ take (16 * i) out ++ renamed_rows g (length rs) (drop (16 * i) rows)
  unfolding rows_written renamed_rows rows_of
  all_written_lem [] i out e h o =
      let all : 16 * i ≡ length out = omega arith in
      let none_left : drop (16 * i) rows ≡ [] = ap (λ (n : ℕ). drop n rows) (all ∙ o) ∙ drop-length rows in
      sym (rw none_left (append-nil (take (16 * i) out) ∙ (ap (λ (n : ℕ). take n out) all ∙ take-length out)))
  all_written_lem (r ∷ rs) i out e h o =
      let d : decode_row top_name (drop (16 * i) rows) ≡ some r = cc in
      let rest : rows_of top_name (length rs) (drop 16 (drop (16 * i) rows)) ≡ map some rs = cc in
      let next : 16 * i + 16 ≡ 16 * (i + 1) = omega arith in
      let on : drop 16 (drop (16 * i) rows) ≡ drop (16 * (i + 1)) rows = drop-drop 16 (16 * i) rows ∙ ap (λ (k : ℕ). drop k rows) next in
      let new = encode_row (renamed_row g r) in
      let size : length new ≡ 16 = row_size (renamed_row g r) in
      let w : row_written key rows i out ≡ sets out (16 * i) new = one_written i out r d (omega arith) (omega arith) in
      let long : length (sets out (16 * i) new) ≡ length out = length-sets out (16 * i) new in
      let split : sets out (16 * i) new ≡ (take (16 * i) out ++ new) ++ drop (16 * i + length new) out =
      sets-eq new out (16 * i) (omega arith) in
      let front : take (16 * (i + 1)) (sets out (16 * i) new) ≡ take (16 * i) out ++ new =
      ap (take (16 * (i + 1))) split ∙ take_at (take (16 * i) out ++ new) (drop (16 * i + length new) out) (16 * (i + 1)) (omega (arith, length-append (take (16 * i) out) new, length-take-le (16 * i) out (omega arith))) in
      let i-h = all_written_lem rs (i + 1) (sets out (16 * i) new) (subst (λ (l : List ℕ). rows_of top_name (length rs) l ≡ map some rs) on rest) (omega arith) (long ∙ o) in
      next_written i (length rs) out
      ∙ (ap (rows_written key rows (i + 1) (length rs)) w
      ∙ (i-h
      ∙ (ap₂ (λ (x y : List ℕ). x ++ renamed_rows g (length rs) y) front (sym on)
      ∙ (append_assoc (take (16 * i) out) new (renamed_rows g (length rs) (drop 16 (drop (16 * i) rows)))
      ∙ ap (λ (l : List ℕ). take (16 * i) out ++ l) (sym (next_renamed (length rs) (drop (16 * i) rows) r d))))))

-- ---- what the header says

-- the setting in force
abbrev one : Setting
one = record { version = version1; rules = today }

-- refusal 2
abbrev miscounted : List ℕ → Bool
miscounted l = not (between 1 1023 (row_count version1 l)) || not (eqb (length l) (8 + 16 * row_count version1 l))

data Told (l : List ℕ) : Result ℕ BadHeader → Type 0 where
  wrong : setting_of base l ≡ none → Told l (Err Wrong)
  count : setting_of base l ≡ some one → miscounted l ≡ true → Told l (Err Count)
  rows : setting_of base l ≡ some one → miscounted l ≡ false → Told l (Ok (row_count version1 l))

told : (l : List ℕ) → Told l (header_of l)
unfolding header_of header_for header_in when◌then◌else◌ setting_of only ◌or_else◌
told l = by_header (has_header one l) refl
  where
    by_count : (b : Bool) → miscounted l ≡ b → setting_of base l ≡ some one → Told l (when b then Err Count else Ok (row_count version1 l))
    by_count true e s = count s e
    by_count false e s = rows s e

    by_header : (b : Bool) → has_header one l ≡ b → Told l (header_for (only b one or_else none) l)
    by_header true e = by_count (miscounted l) refl (rw e)
    by_header false e = wrong (rw e)

neither_not : (a b : Bool) → not a || not b ≡ false → (a ≡ true) × (b ≡ true)
neither_not true true e = (refl, refl)
neither_not true false e = (refl, sym e)
neither_not false b e = (sym e, absurd (let z : ◌≡◌ {A = ℕ} 0 1 = cc in omega arith))

both_true : (a b : Bool) → (a && b) ≡ true → (a ≡ true) × (b ≡ true)
both_true true b e = (refl, e)
both_true false b e = (e, absurd (let z : ◌≡◌ {A = ℕ} 0 1 = cc in omega arith))

sizes : (l : List ℕ) → miscounted l ≡ false → (row_count version1 l ≤ 1023) × (length l ≡ 8 + 16 * row_count version1 l)
sizes l e =
    let m = row_count version1 l in
    let t = neither_not (between 1 1023 m) (eqb (length l) (8 + 16 * m)) e in
    (leb-true m 1023 (both_true (leb 1 m) (leb m 1023) t.0).1, eqb-true (length l) (8 + 16 * m) t.1)

-- ---- what the run leaves

-- an answer of the code, the output and the key are those of an answer of the rules
abbrev Says : (l out key : List ℕ) → AnswerOf (List ℕ) → Ran → Type 0
Says l out key x (a & o & k) = (meaning a ≡ map_answer length x) × (o ≡ anonymous_after base l x out) × (k ≡ key_after x key)

module _ (l out key : List ℕ) (asks : setting_of base l ≡ some one) (right : miscounted l ≡ false) where
  body_rows : length (drop 8 l) / 16 ≡ row_count version1 l
  body_rows = let long = (sizes l right).1 in rw length-drop (omega arith)

  same_key_lem : key_of (drop 8 l) ≡ key_in one l
  unfolding key_of key_in
  same_key_lem = rw body_rows

  rows_in_lem : length (rows_in one l) ≡ row_count version1 l
  rows_in_lem = rows_length top_name (row_count version1 l) (drop 8 l)

  reads : read_of (drop 8 l) ≡ answer_of (read today 32 (rows_in one l))
  unfolding read_of
  reads = rw body_rows

  form_is : (f : ℕ → ℕ) → renamed_bytes f base l ≡ take 8 l ++ renamed_rows (renamed f) (row_count version1 l) (drop 8 l)
  unfolding renamed_bytes renamed_for renamed_in when◌then◌else◌
  form_is f =
      let t : eqb (length l) (8 + 16 * row_count version1 l) ≡ true = (neither_not (between 1 1023 (row_count version1 l)) (eqb (length l) (8 + 16 * row_count version1 l)) right).1 in
      rw (asks, t)

  -- all rows of a form can be taken apart
  rows_are : (t : Scope) → IsForm today (rows_in one l) t → length l ≤ length out
      → all_written (drop 8 l) (drop 8 (take (length l) out)) ≡ renamed_rows (renamed (place_of (key_in one l))) (row_count version1 l) (drop 8 l)
  unfolding all_written
  rows_are t f roomy =
      let long = (sizes l right).1 in
      let count_is : length (flatten t) ≡ row_count version1 l = sym (length-map (flatten t) some) ∙ (ap length f.of_tree ∙ rows_in_lem) in
      let body = length-drop 8 l in
      let part : length (drop 8 (take (length l) out)) ≡ length (drop 8 l) = omega (arith, length-drop 8 (take (length l) out), length-take-le (length l) out roomy) in
      rw (body_rows, same_key_lem, ← count_is)
      (all_written_lem (key_in one l) (drop 8 l) (flatten t) 0 (drop 8 (take (length l) out)) (rw count_is (sym f.of_tree)) (omega arith) part)

  whole_says : (t : Scope) → IsForm today (rows_in one l) t → length l ≤ length out
      → Says l out key (accepted (key_in one l)) (before (fill_names_t l (take (length l) out) key) (drop (length l) out))
  unfolding before fill_names_t map_answer anonymous_after key_after
  whole_says t f roomy =
      let w = rows_are t f roomy in
      let form-out : (take 8 l ++ all_written (drop 8 l) (drop 8 (take (length l) out))) ++ drop (length l) out ≡ renamed_bytes (place_of (key_in one l)) base l ++ drop (length l) out =
      rw (form_is (place_of (key_in one l)), w) in
      (ap (λ (k : List ℕ). accepted (length k)) same_key_lem, form-out, ap (λ (k : List ℕ). over k key) same_key_lem)

  read_says : (r : RowsRead) → Right today 32 (rows_in one l) r → length l ≤ length out → Says l out key (after_reading r (key_in one l)) (read_then (answer_of r) l out key)
  unfolding after_reading map_answer anonymous_after key_after answer_of read_then
  read_says (bad p) h roomy =
      let k : p % 4294967296 ≡ p = omega (arith, h.in_range, rows_in_lem, (sizes l right).0) in
      (rw k, refl, refl)
  read_says (deep p) h roomy =
      let k : p % 4294967296 ≡ p = omega (arith, h.in_range, rows_in_lem, (sizes l right).0) in
      (rw k, refl, refl)
  read_says (form t) h roomy = whole_says t h.0 roomy

  run_says : Says l out key (anonymous_in one l (length out)) (run_t l out key)
  unfolding run_t pick when◌then◌else◌ anonymous_in map_answer anonymous_after key_after
  run_says = rw right (go (ltb (length out) (length l)) refl)
    where
      go : (b : Bool) → ltb (length out) (length l) ≡ b
          → Says l out key (when b then refused 3 0 [] else after_reading (read today 32 (rows_in one l)) (key_in one l)) (pick b (Err Room & out & key) (read_then (read_of (drop 8 l)) l out key))
      go true e = (refl, refl, refl)
      go false e =
          let roomy = ltb-false (length out) (length l) e in
          rw reads (read_says (read today 32 (rows_in one l)) ((read_right today 32 (rows_in one l) _).0 refl) roomy)

  answer_is : anonymous base l (length out) ≡ anonymous_in one l (length out)
  unfolding anonymous anonymous_for
  answer_is = rw asks

-- ---- the contract

abbrev Promised : (l out key : List ℕ) (a : Result ℕ Fault) (o k : List ℕ) → Type 0
Promised l out key a o k = (meaning a ≡ map_answer length (anonymous base l (length out))) × (o ≡ anonymous_output base l out) × (k ≡ key_after (anonymous base l (length out)) key)

promised : (l out key : List ℕ) (x : AnswerOf (List ℕ)) → anonymous base l (length out) ≡ x → (a : Result ℕ Fault) (o k : List ℕ) → Says l out key x (a & o & k) → Promised l out key a o k
unfolding anonymous_output
promised l out key x e a o k s = rw e s

-- `h` is what the header says
module _ (l out key : List ℕ) (h : Result ℕ BadHeader) (w : h ≡ header_of l) where
  as_told : (x : Result ℕ BadHeader) → h ≡ x → Told l x
  as_told x e = subst (Told l) (sym w ∙ e) (told l)

  promised_wrong : h ≡ Err Wrong → Promised l out key (Err Header) out key
  promised_wrong e = go (as_told (Err Wrong) e)
    where
      go : Told l (Err Wrong) → Promised l out key (Err Header) out key
      go (wrong s) =
          promised l out key (refused 1 0 []) (unfold anonymous anonymous_for in rw s) (Err Header) out key
          (unfold map_answer in refl, unfold anonymous_after in refl, unfold key_after in refl)

  promised_count : h ≡ Err Count → Promised l out key (Err RowCount) out key
  promised_count e = go (as_told (Err Count) e)
    where
      go : Told l (Err Count) → Promised l out key (Err RowCount) out key
      go (count s m) =
          promised l out key (refused 2 0 []) (unfold anonymous anonymous_for anonymous_in when◌then◌else◌ in rw (s, m)) (Err RowCount) out key
          (unfold map_answer in refl, unfold anonymous_after in refl, unfold key_after in refl)

  pub long_enough : (m : ℕ) → h ≡ Ok m → 8 ≤ length l
  long_enough m e = go m (as_told (Ok m) e)
    where
      go : (m : ℕ) → Told l (Ok m) → 8 ≤ length l
      go m (rows s r) = omega (arith, (sizes l r).1)

  pub short_enough : (m : ℕ) → h ≡ Ok m → length l ≤ 16376
  short_enough m e = go m (as_told (Ok m) e)
    where
      go : (m : ℕ) → Told l (Ok m) → length l ≤ 16376
      go m (rows s r) = omega (arith, (sizes l r).0, (sizes l r).1)

  pub promised_bad : (why : BadHeader) → h ≡ Err why → (a : Result ℕ Fault) → IsErrAnd a (λ fault. fault ≡ fault_of_header why) → Promised l out key a out key
  promised_bad why e a s = let p = err_from_is_err_and a s in rw (p.1, p.2) (go why e)
    where
      go : (bad : BadHeader) → h ≡ Err bad → Promised l out key (Err (fault_of_header bad)) out key
      go Wrong q = promised_wrong q
      go Count q = promised_count q

  pub promised_run : (m : ℕ) → h ≡ Ok m → (a : Result ℕ Fault) (o k : List ℕ) → (a & o & k) ≡ run_t l out key → Promised l out key a o k
  promised_run m e a o k q = go m (as_told (Ok m) e)
    where
      go : (m : ℕ) → Told l (Ok m) → Promised l out key a o k
      go m (rows s r) =
          promised l out key (anonymous_in one l (length out)) (answer_is l out key s r) a o k
          (subst (Says l out key (anonymous_in one l (length out))) (sym q) (run_says l out key s r))
