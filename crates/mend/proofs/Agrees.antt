-- What the code answers and leaves is what the rules say, for every setting.
use Rattle.std.specs.Prelude.{Result, ℕ}
use mathlib.Core.Path.{◌≡◌, refl, sym, ap, ap₂, ◌∙◌, subst}
use mathlib.Core.Bool.{Bool, true, false, ◌&&◌, ◌||◌, and-true, and_assoc}
use mathlib.Core.Logic.{◌⊎◌, inl, inr}
use mathlib.Core.Option.{Option, none, some}
use mathlib.Core.List.{List, [], ◌∷◌, ◌++◌, append_assoc, append-nil}
use native.Mathlib.Omega.{arith}
use native.Mathlib.Nat.{zero-add}
use Prim.Native.Nat.{ℕ, zero, suc, ◌+◌, ◌-◌, ◌*◌, ◌/◌, ◌%◌, ◌^◌, ◌≤◌, ◌<◌}
use lib.Dec.{eqb, leb, ltb}
use lib.ListN.{length, take, drop, replicate, length-append, length-replicate}
use lib.Seq.{sets, sets-eq, length-take-le}
use borrow.Author.Tests.{ltb-false, eqb-true}
use Rattle.kit.specs.Out.{◌&◌}
use Rattle.kit.specs.Pick.{pick}
use Rattle.kit.proofs.Laws.{tests, lt_or_le, sets_append}
use Rattle.rules.specs.Tools.{when◌then◌else◌, only, ◌or_else◌, between}
use Rattle.rules.specs.Versions.{RuleSet, Version, Setting, all}
use Rattle.rules.specs.Rows.{Row, bytes}
use Rattle.rules.specs.Tree.{RowsRead, bad, deep, form}
use Rattle.rules.specs.Begins.{Right}
use Rattle.rules.specs.Reader.{read}
use Rattle.rules.specs.Answer.{mark, same_numbers, has_header, row_count, rows_of, rows_in, header_bytes}
use Rattle.rules.specs.Laws.ToolLaws.{leb_le}
use Rattle.rules.proofs.Laws.Read.ReadRight.{read_right}
use Rattle.rules.proofs.Laws.Output.OutBytes
use Rattle.headers.specs.Laws.Written.{written_header}
use Rattle.read_form.specs.ReadForm.{as_answer, read_form}
use Rattle.limits.specs.declared.Limits.{Limits}
use Rattle.limits.specs.Held.{setting_in, limits_of, setting}
use Rattle.limits.proofs.Laws.{stand_for}
use Rattle.reader.specs.ReadTo.{answer_of, read_to}
use Rattle.mending.specs.Mend
use Rattle.mending.specs.Mend.{Change, Mending, refused, mended, afters, changes, list_bytes, all_rows, behind_header, header_pieces, form_pieces, sized, mend_in, asks_for, setting_for, mend_for, mend, mend_buffer, buffer_after, list_after}
use Rattle.mending.proofs.Laws.Pieces.{afters_append, same_lists}
use Rattle.mending.proofs.Laws.SoundStays.{three}
use Rattle.mend_form.specs.Kept.{kept_in}
use Rattle.mend_form.specs.Filled.{mended_body_t}
use Rattle.mend_form.specs.declared.Kept.{Kept}
use Rattle.mend_form.proofs.Laws.{body_size}
use Rattle.mend_form.proofs.Right.{body_right}
use Rattle.mend_list.specs.Listed.{changes_in}
use Rattle.mend_list.proofs.Changes.{header_size, list_right, form_counted}
use Rattle.mend.specs.Meaning.{meaning, ruled}
use Rattle.mend.specs.Run.{Ran, refused_t, letters_t, asks_t, place_t, new_t, in_place, write_t, read_then, room_t, to_t, made_t}
use Rattle.refusal.specs.declared.Refusal.{Refusal}

-- ---- which setting

-- the first five bytes and the rule set, by a version of one byte and a rule set of one byte
module _ (a b c d e f g h : ℕ) (rest : List ℕ) where
  abbrev whole : List ℕ
  whole = a ∷ b ∷ c ∷ d ∷ e ∷ f ∷ g ∷ h ∷ rest

  asks_one : asks_for (setting 0) whole ≡ asks_t (limits_of (setting 0)) whole
  unfolding asks_for asks_t letters_t mark same_numbers bytes pick
  asks_one =
      let n = suc (suc (suc (suc (suc (suc (suc (suc (length rest)))))))) in
      let t : leb 8 n ≡ true = omega tests in
      let u : ltb n 8 ≡ false = omega tests in
      rw (t, u) (simp (and-true, and_assoc))

  abbrev letters : (version : ℕ) → Bool
  letters version = eqb a 87 && eqb b 78 && eqb c 84 && eqb d version && eqb e 0

  abbrev said : (version : ℕ) → Bool
  said version = eqb a 87 && (eqb b 78 && (eqb c 84 && (eqb d version && (eqb e 0 && true))))

  -- a header of sixteen bytes
  long_header : (rules : ℕ) → (leb 16 (length whole) && said 2 && (false || (eqb f rules && true))) ≡ pick (ltb (length whole) 16) false (letters 2 && (false || eqb f rules))
  unfolding pick
  long_header rules = go (lt_or_le (length whole) 16)
    where
      go : (length whole < 16) ⊎ (16 ≤ length whole) → (leb 16 (length whole) && said 2 && (false || (eqb f rules && true))) ≡ pick (ltb (length whole) 16) false (letters 2 && (false || eqb f rules))
      go (inl s) =
          let t : leb 16 (length whole) ≡ false = omega tests in
          let v : ltb (length whole) 16 ≡ true = omega tests in
          rw (t, v)
      go (inr s) =
          let t : leb 16 (length whole) ≡ true = omega tests in
          let v : ltb (length whole) 16 ≡ false = omega tests in
          rw (t, v) (simp (and-true, and_assoc))

  asks_two : asks_for (setting 1) whole ≡ asks_t (limits_of (setting 1)) whole
  unfolding asks_for asks_t letters_t mark same_numbers bytes pick
  asks_two = let u : ltb (length whole) 8 ≡ false = omega tests in rw u (long_header 0)

  asks_newer : asks_for (setting 2) whole ≡ asks_t (limits_of (setting 2)) whole
  unfolding asks_for asks_t letters_t mark same_numbers bytes pick
  asks_newer = let u : ltb (length whole) 8 ≡ false = omega tests in rw u (long_header 1)

asks : (i : ℕ) → i < 3 → (l : List ℕ) → asks_for (setting i) l ≡ asks_t (limits_of (setting i)) l
unfolding asks_for asks_t mark same_numbers bytes pick
asks zero h [] = refl
asks zero h (a ∷ []) = refl
asks zero h (a ∷ b ∷ []) = refl
asks zero h (a ∷ b ∷ c ∷ []) = refl
asks zero h (a ∷ b ∷ c ∷ d ∷ []) = refl
asks zero h (a ∷ b ∷ c ∷ d ∷ e ∷ []) = refl
asks zero h (a ∷ b ∷ c ∷ d ∷ e ∷ f ∷ []) = refl
asks zero h (a ∷ b ∷ c ∷ d ∷ e ∷ f ∷ g ∷ []) = refl
asks zero h (a ∷ b ∷ c ∷ d ∷ e ∷ f ∷ g ∷ i ∷ l) = asks_one a b c d e f g i l
asks (suc zero) h [] = refl
asks (suc zero) h (a ∷ []) = refl
asks (suc zero) h (a ∷ b ∷ []) = refl
asks (suc zero) h (a ∷ b ∷ c ∷ []) = refl
asks (suc zero) h (a ∷ b ∷ c ∷ d ∷ []) = refl
asks (suc zero) h (a ∷ b ∷ c ∷ d ∷ e ∷ []) = refl
asks (suc zero) h (a ∷ b ∷ c ∷ d ∷ e ∷ f ∷ []) = refl
asks (suc zero) h (a ∷ b ∷ c ∷ d ∷ e ∷ f ∷ g ∷ []) = refl
asks (suc zero) h (a ∷ b ∷ c ∷ d ∷ e ∷ f ∷ g ∷ i ∷ l) = asks_two a b c d e f g i l
asks (suc (suc zero)) h [] = refl
asks (suc (suc zero)) h (a ∷ []) = refl
asks (suc (suc zero)) h (a ∷ b ∷ []) = refl
asks (suc (suc zero)) h (a ∷ b ∷ c ∷ []) = refl
asks (suc (suc zero)) h (a ∷ b ∷ c ∷ d ∷ []) = refl
asks (suc (suc zero)) h (a ∷ b ∷ c ∷ d ∷ e ∷ []) = refl
asks (suc (suc zero)) h (a ∷ b ∷ c ∷ d ∷ e ∷ f ∷ []) = refl
asks (suc (suc zero)) h (a ∷ b ∷ c ∷ d ∷ e ∷ f ∷ g ∷ []) = refl
asks (suc (suc zero)) h (a ∷ b ∷ c ∷ d ∷ e ∷ f ∷ g ∷ i ∷ l) = asks_newer a b c d e f g i l
asks (suc (suc (suc i))) h l = absurd (omega arith)

-- the setting that the rules take, by its place
abbrev setting_at : ℕ → Option Setting
setting_at zero = some (setting 0)
setting_at (suc zero) = some (setting 1)
setting_at (suc (suc zero)) = some (setting 2)
setting_at (suc (suc (suc i))) = none

found : (bs : List ℕ) → setting_for all bs ≡ setting_at (place_t bs)
unfolding setting_for place_t only ◌or_else◌ pick
found bs = rw (asks 0 (omega arith) bs, asks 1 (omega arith) bs, asks 2 (omega arith) bs) (go (asks_t (limits_of (setting 0)) bs) (asks_t (limits_of (setting 1)) bs) (asks_t (limits_of (setting 2)) bs))
  where
    go : (a b c : Bool) → (only a (setting 0) or_else (only b (setting 1) or_else (only c (setting 2) or_else none))) ≡ setting_at (pick a 0 (pick b 1 (pick c 2 3)))
    go true b c = refl
    go false true c = refl
    go false false true = refl
    go false false false = refl

-- and it is asked for
asked : (bs : List ℕ) (i : ℕ) → i ≡ place_t bs → i < 3 → asks_t (limits_of (setting i)) bs ≡ true
unfolding place_t pick
asked bs i e h = go (asks_t (limits_of (setting 0)) bs) (asks_t (limits_of (setting 1)) bs) (asks_t (limits_of (setting 2)) bs) refl refl refl i e h
  where
    go : (a b c : Bool) → asks_t (limits_of (setting 0)) bs ≡ a → asks_t (limits_of (setting 1)) bs ≡ b → asks_t (limits_of (setting 2)) bs ≡ c → (i : ℕ) → i ≡ pick a 0 (pick b 1 (pick c 2 3)) → i < 3 → asks_t (limits_of (setting i)) bs ≡ true
    go true b c p q r i e h = rw e p
    go false true c p q r i e h = rw e q
    go false false true p q r i e h = rw e r
    go false false false p q r i e h = absurd (omega arith)

-- ---- the mended form

-- what is known of limits
pub record Held (l : Limits) : Type 0 where
  fits : 6 + pick l.wide 4 2 ≤ l.header
  short : l.header ≤ 16
  few : l.rows ≤ 16383
  countable : 4 * l.rows < 256 ^ pick l.wide 4 2

held : (i : ℕ) → Held (limits_of (setting i))
unfolding pick
held zero = record { fits = omega arith; short = omega arith; few = omega arith; countable = omega arith }
held (suc zero) = record { fits = omega arith; short = omega arith; few = omega arith; countable = omega arith }
held (suc (suc zero)) = record { fits = omega arith; short = omega arith; few = omega arith; countable = omega arith }
held (suc (suc (suc i))) = record { fits = omega arith; short = omega arith; few = omega arith; countable = omega arith }

last_false : (a b : Bool) → b ≡ false → (a && b) ≡ false
last_false true b e = e
last_false false b e = refl

module _ (l : Limits) (L : Held l) (old : List ℕ) (asks_it : asks_for (setting_in l) old ≡ true) where
  abbrev s : Setting
  s = setting_in l

  abbrev k : Kept
  k = kept_in (drop l.header old)

  abbrev total : ℕ
  total = k.rows + k.scopes

  abbrev body : List ℕ
  body = mended_body_t (drop l.header old) k

  abbrev new : List ℕ
  new = new_t l old k

  parted : (leb l.header (length old) ≡ true) × (same_numbers (take 5 old) (take 5 (mark s)) ≡ true) × (eqb l.version 1 || same_numbers (take 1 (drop 5 old)) (bytes 1 l.rules) ≡ true)
  unfolding asks_for setting_in
  parted = three _ _ _ asks_it

  pub long : l.header ≤ length old
  long = leb_le l.header (length old) parted.0

  head_right : (count : ℕ) → afters (header_pieces s count old) ≡ header_bytes s count
  unfolding header_pieces header_bytes afters mark bytes setting_in
  head_right count = rw (same_lists (take 5 old) (take 5 (mark s)) parted.1, append-nil)

  form_right : afters (form_pieces s old) ≡ new
  unfolding form_pieces behind_header new_t
  form_right =
      let rows = all_rows 0 (length (drop s.version.header old) / 16) (drop s.version.header old) in
      afters_append (header_pieces s (length (afters rows) / 16) old) rows
      ∙ ap₂ (λ (p q : List ℕ). p ++ q) (ap (λ (n : ℕ). afters (header_pieces s n old)) (form_counted l old L.fits L.short long) ∙ head_right total) (unfold setting_in in body_right (drop l.header old))

  abbrev v : Version
  v = s.version

  new_size : length new ≡ l.header + 16 * total
  unfolding new_t
  new_size = omega (arith, length-append (header_bytes s total) body, header_size l total L.fits L.short, body_size (drop l.header old) k)

  -- where it is as long as its count says, that is how many rows it has
  counted : eqb (length new) (l.header + 16 * row_count v new) ≡ true → row_count v new ≡ total
  counted e = omega (arith, eqb-true (length new) (l.header + 16 * row_count v new) e, new_size)

  unsized : (total ≡ 0) ⊎ (l.rows < total) → sized v new ≡ false
  unfolding sized setting_in
  unsized h = go (eqb (length new) (l.header + 16 * row_count v new)) refl
    where
      outside : (total ≡ 0) ⊎ (l.rows < total) → row_count v new ≡ total → between 1 l.rows (row_count v new) ≡ false
      outside (inl z) e = let t : leb 1 (row_count v new) ≡ false = omega (tests, e) in rw t
      outside (inr z) e = let t : leb (row_count v new) l.rows ≡ false = omega (tests, e) in last_false (leb 1 (row_count v new)) _ t

      go : (b : Bool) → eqb (length new) (l.header + 16 * row_count v new) ≡ b → (between 1 l.rows (row_count v new) && eqb (length new) (l.header + 16 * row_count v new)) ≡ false
      go true e = rw (outside h (counted e))
      go false e = last_false (between 1 l.rows (row_count v new)) _ e

  module _ (some_rows : total ≡ 0 → ⊥) (few_rows : total ≤ l.rows) where
    rows_counted : row_count v new ≡ total
    unfolding new_t setting_in row_count
    rows_counted = OutBytes.header_count s total body (omega (arith, L.countable))

    between_right : between 1 l.rows (row_count v new) ≡ true
    between_right =
        let c = rows_counted in
        let t : leb 1 (row_count v new) ≡ true = omega (tests, c) in
        let u : leb (row_count v new) l.rows ≡ true = omega (tests, c) in
        rw (t, u)

    length_right : eqb (length new) (l.header + 16 * row_count v new) ≡ true
    length_right = let c = rows_counted in let d = new_size in omega (tests, c, d)

    sized_right : sized v new ≡ true
    unfolding sized setting_in
    sized_right = rw (between_right, length_right)

    headed : has_header s new ≡ true
    unfolding new_t setting_in
    headed = written_header s total body L.fits

    read_at : read_form s new ≡ as_answer (read s.rules v.scopes (rows_in s new))
    unfolding read_form when◌then◌else◌ setting_in
    read_at = rw (headed, between_right, length_right)

    behind_head : drop l.header new ≡ body
    unfolding new_t setting_in
    behind_head = OutBytes.header_drop s total body L.fits

    code_reads : read_to l body ≡ answer_of (read s.rules v.scopes (rows_in s new))
    unfolding read_to setting_in
    code_reads =
        let c : length body / 16 ≡ row_count v new = omega (arith, body_size (drop l.header old) k, rows_counted) in
        rw (behind_head, ← c)

    rows_in_lem : length (rows_in s new) ≡ total
    unfolding rows_of setting_in
    rows_in_lem = rows_long (row_count v new) (drop l.header new) ∙ rows_counted
      where
        rows_long : (n : ℕ) (bs : List ℕ) → length (rows_of l.names n bs) ≡ n
        rows_long zero bs = refl
        rows_long (suc n) bs = ap suc (rows_long n (drop 16 bs))

    list_is : changes_in l old ≡ changes 0 (form_pieces s old)
    list_is = list_right l old L.fits L.short long (omega (arith, L.few))

-- ---- the answer and the buffers

module _ (buffer list : List ℕ) (long-is : ℕ) where
  abbrev Says : Mending → Ran → Type 0
  Says m (a & b & l) = (meaning a ≡ ruled m) × (b ≡ buffer_after m long-is buffer) × (l ≡ list_after m list)

  says_refused : (n p : ℕ) → Says (refused n p) (refused_t n p & buffer & list)
  unfolding buffer_after list_after
  says_refused n p = (refl, refl, refl)

  module _ (l : Limits) (kept : Kept) (near : long-is ≤ length buffer) where
    abbrev made : List ℕ
    made = new_t l (take long-is buffer) kept

    abbrev cs : List Change
    cs = changes_in l (take long-is buffer)

    placed_right : length made ≤ length buffer → in_place buffer long-is made ≡ made ++ (replicate (long-is - length made) 0 ++ drop (length made + (long-is - length made)) buffer)
    unfolding in_place
    placed_right h =
        let zeros = replicate {A = ℕ} (long-is - length made) 0 in
        let size : length (made ++ zeros) ≡ length made + (long-is - length made) = omega (arith, length-append made zeros, length-replicate {A = ℕ} (long-is - length made) 0) in
        let join : sets (sets buffer 0 made) (length made) zeros ≡ sets buffer 0 (made ++ zeros) = sym (sets_append buffer 0 made zeros ∙ rw zero-add) in
        join ∙ (sets-eq (made ++ zeros) buffer 0 (omega (arith, size)) ∙ (rw (size, zero-add) (append_assoc made zeros _)))

    listed_right : length (list_bytes cs) ≤ length list → sets list 0 (list_bytes cs) ≡ list_bytes cs ++ drop (length (list_bytes cs)) list
    listed_right h = sets-eq (list_bytes cs) list 0 (omega arith) ∙ rw zero-add

    says_written : length made ≤ length buffer → length (list_bytes cs) ≤ length list → Says (mended made cs) (write_t l buffer long-is list kept)
    unfolding write_t buffer_after list_after
    says_written h g = (refl, placed_right h, listed_right g)

    says_read : (rules : RuleSet) (scopes : ℕ) (r : RowsRead) (rs : List (Option Row)) → Right rules scopes rs r → length rs ≤ 16383 → length made ≤ length buffer → length (list_bytes cs) ≤ length list
        → Says (Mend.read (as_answer r) made cs) (read_then (answer_of r) l buffer long-is list kept)
    unfolding as_answer answer_of read_then Mend.read
    says_read rules scopes (bad p) rs h few f g = let e : p % 4294967296 ≡ p = omega (arith, h.in_range) in rw e (says_refused 4 p)
    says_read rules scopes (deep p) rs h few f g = let e : p % 4294967296 ≡ p = omega (arith, h.in_range) in rw e (says_refused 5 p)
    says_read rules scopes (form t) rs h few f g = says_written f g

    says_to : (rules : RuleSet) (scopes : ℕ) (r : RowsRead) (rs : List (Option Row)) → Right rules scopes rs r → length rs ≤ 16383 → read_to l (mended_body_t (drop l.header (take long-is buffer)) kept) ≡ answer_of r → length made ≡ l.header + 16 * (kept.rows + kept.scopes)
        → Says (when ltb (length buffer) (length made) || ltb (length list) (length (list_bytes cs)) then refused 3 0 else Mend.read (as_answer r) made cs) (to_t l buffer long-is list kept)
    unfolding to_t room_t when◌then◌else◌ pick
    says_to rules scopes r rs h few e size = rw (e, ← size) (go (ltb (length buffer) (length made)) (lt_or_le (length list) (length (list_bytes cs))) refl)
      where
        go : (b : Bool) → (length list < length (list_bytes cs)) ⊎ (length (list_bytes cs) ≤ length list) → ltb (length buffer) (length made) ≡ b
            → Says (when b || ltb (length list) (length (list_bytes cs)) then refused 3 0 else Mend.read (as_answer r) made cs)
            (pick (pick b false (leb (length (list_bytes cs)) (length list))) (read_then (answer_of r) l buffer long-is list kept) (refused_t 3 0 & buffer & list))
        go true c p = says_refused 3 0
        go false (inl c) p =
            let t : ltb (length list) (length (list_bytes cs)) ≡ true = omega tests in
            let u : leb (length (list_bytes cs)) (length list) ≡ false = omega tests in
            rw (t, u) (says_refused 3 0)
        go false (inr c) p =
            let t : ltb (length list) (length (list_bytes cs)) ≡ false = omega tests in
            let u : leb (length (list_bytes cs)) (length list) ≡ true = omega tests in
            rw (t, u) (says_read rules scopes r rs h few (ltb-false (length buffer) (length made) p) c)

  -- ---- the whole run

  abbrev old : List ℕ
  old = take long-is buffer

  module _ (l : Limits) (L : Held l) (near : long-is ≤ length buffer) (asks_it : asks_for (setting_in l) old ≡ true) where
    abbrev kept : Kept
    kept = kept_in (drop l.header old)

    abbrev rows_left : ℕ
    rows_left = kept.rows + kept.scopes

    -- refusal 2
    too_few : (rows_left ≡ 0) ⊎ (l.rows < rows_left) → mend_in (setting_in l) old (length buffer) (length list) ≡ refused 2 0
    unfolding mend_in when◌then◌else◌
    too_few h = rw (form_right l L old asks_it, unsized l L old asks_it h)

    mend_at : (some_rows : rows_left ≡ 0 → ⊥) (few_rows : rows_left ≤ l.rows)
        → mend_in (setting_in l) old (length buffer) (length list)
        ≡ (when ltb (length buffer) (length (new_t l old kept)) || ltb (length list) (length (list_bytes (changes_in l old))) then refused 3 0
        else Mend.read (as_answer (read (setting_in l).rules (setting_in l).version.scopes (rows_in (setting_in l) (new_t l old kept)))) (new_t l old kept) (changes_in l old))
    unfolding mend_in when◌then◌else◌
    mend_at some_rows few_rows = rw (form_right l L old asks_it, ← list_is l L old asks_it some_rows few_rows, sized_right l L old asks_it some_rows few_rows, read_at l L old asks_it some_rows few_rows)

    says_made : Says (mend_in (setting_in l) old (length buffer) (length list)) (made_t l buffer long-is list)
    unfolding made_t pick
    says_made = go (lt_or_le 0 rows_left) (lt_or_le l.rows rows_left)
      where
        go : (0 < rows_left) ⊎ (rows_left ≤ 0) → (l.rows < rows_left) ⊎ (rows_left ≤ l.rows)
            → Says (mend_in (setting_in l) old (length buffer) (length list)) (pick (eqb rows_left 0) (refused_t 2 0 & buffer & list) (pick (ltb l.rows rows_left) (refused_t 2 0 & buffer & list) (to_t l buffer long-is list kept)))
        go (inr z) c =
            let t : eqb rows_left 0 ≡ true = omega tests in
            rw (t, too_few (inl (omega arith))) (says_refused 2 0)
        go (inl z) (inl c) =
            let t : eqb rows_left 0 ≡ false = omega tests in
            let u : ltb l.rows rows_left ≡ true = omega tests in
            rw (t, u, too_few (inr c)) (says_refused 2 0)
        go (inl z) (inr c) =
            let t : eqb rows_left 0 ≡ false = omega tests in
            let u : ltb l.rows rows_left ≡ false = omega tests in
            let some_rows : rows_left ≡ 0 → ⊥ = λ q. omega arith in
            let r = read (setting_in l).rules (setting_in l).version.scopes (rows_in (setting_in l) (new_t l old kept)) in
            rw (t, u, mend_at some_rows c)
            (says_to l kept near (setting_in l).rules (setting_in l).version.scopes r (rows_in (setting_in l) (new_t l old kept)) ((read_right (setting_in l).rules (setting_in l).version.scopes (rows_in (setting_in l) (new_t l old kept)) r).0 refl)
            (omega (arith, rows_in_lem l L old asks_it some_rows c, L.few)) (code_reads l L old asks_it some_rows c) (new_size l L old asks_it))

-- ---- the ways through `mend`

module _ (buffer list : List ℕ) (n : ℕ) where
  abbrev R : Mending
  R = mend_buffer all buffer n (length list)

  far : length buffer < n → R ≡ refused 2 0
  unfolding mend_buffer when◌then◌else◌
  far h = let t : ltb (length buffer) n ≡ true = omega tests in rw t

  other : n ≤ length buffer → (i : ℕ) → i ≡ place_t (take n buffer) → 3 ≤ i → R ≡ refused 1 0
  unfolding mend_buffer mend mend_for when◌then◌else◌
  other h zero e g = absurd (omega arith)
  other h (suc zero) e g = absurd (omega arith)
  other h (suc (suc zero)) e g = absurd (omega arith)
  other h (suc (suc (suc i))) e g = let t : ltb (length buffer) n ≡ false = omega tests in rw (t, found (take n buffer), ← e)

  chosen : n ≤ length buffer → (i : ℕ) → i ≡ place_t (take n buffer) → i < 3 → R ≡ mend_in (setting_in (limits_of (setting i))) (take n buffer) (length buffer) (length list)
  unfolding mend_buffer mend mend_for when◌then◌else◌
  chosen h zero e g = let t : ltb (length buffer) n ≡ false = omega tests in rw (t, found (take n buffer), ← e, stand_for 0)
  chosen h (suc zero) e g = let t : ltb (length buffer) n ≡ false = omega tests in rw (t, found (take n buffer), ← e, stand_for 1)
  chosen h (suc (suc zero)) e g = let t : ltb (length buffer) n ≡ false = omega tests in rw (t, found (take n buffer), ← e, stand_for 2)
  chosen h (suc (suc (suc i))) e g = absurd (omega arith)

  three_told : (number place : ℕ) → R ≡ refused number place → Says buffer list n R (refused_t number place & buffer & list)
  three_told number place e = rw e (says_refused buffer list n number place)

  module _ (h : length buffer < n) where
    pub far_answers : {a : Result ℕ Refusal} → a ≡ refused_t 2 0 → meaning a ≡ ruled R
    far_answers e = rw e (three_told 2 0 (far h)).0

    pub far_leaves : buffer ≡ buffer_after R n buffer
    far_leaves = (three_told 2 0 (far h)).1

    pub far_lists : list ≡ list_after R list
    far_lists = (three_told 2 0 (far h)).2

  module _ (near : n ≤ length buffer) (i : ℕ) (w : i ≡ place_t (take n buffer)) where
    module _ (e : 3 ≤ i) where
      pub other_answers : {a : Result ℕ Refusal} → a ≡ refused_t 1 0 → meaning a ≡ ruled R
      other_answers f = rw f (three_told 1 0 (other near i w e)).0

      pub other_leaves : buffer ≡ buffer_after R n buffer
      other_leaves = (three_told 1 0 (other near i w e)).1

      pub other_lists : list ≡ list_after R list
      other_lists = (three_told 1 0 (other near i w e)).2

    module _ (e : i < 3) (l : Limits) (is : l ≡ limits_of (setting i)) where
      asks_it : asks_for (setting_in (limits_of (setting i))) (take n buffer) ≡ true
      asks_it = ap (λ (s : Setting). asks_for s (take n buffer)) (stand_for i) ∙ (asks i e (take n buffer) ∙ asked (take n buffer) i w e)

      pub held_fits : 6 + pick l.wide 4 2 ≤ l.header
      held_fits = rw is (held i).fits

      pub held_few : l.rows ≤ 16383
      held_few = rw is (held i).few

      pub held_long : l.header ≤ n
      held_long = rw is (omega (arith, long (limits_of (setting i)) (held i) (take n buffer) asks_it, length-take-le n buffer near))

      made_told : Says buffer list n R (made_t l buffer n list)
      made_told = rw (chosen near i w e, is) (says_made buffer list n (limits_of (setting i)) (held i) near asks_it)

      module _ {a : Result ℕ Refusal} {b m : List ℕ} (f : a & b & m ≡ made_t l buffer n list) where
        made_is : Says buffer list n R (a & b & m)
        made_is = subst (Says buffer list n R) (sym f) made_told

        pub made_answers : meaning a ≡ ruled R
        made_answers = made_is.0

        pub made_leaves : b ≡ buffer_after R n buffer
        made_leaves = made_is.1

        pub made_lists : m ≡ list_after R list
        made_lists = made_is.2
