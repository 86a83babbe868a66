-- The list as the code makes it is that of the rules: it cuts every row at the same bytes, and a piece that stays makes no change.
use mathlib.Core.Path.{◌≡◌, refl, sym, ap, ap₂, ◌∙◌, subst}
use mathlib.Core.Bool.{Bool, true, false, ◌&&◌}
use mathlib.Core.Logic.{◌⊎◌, inl, inr}
use mathlib.Core.List.{List, [], ◌∷◌, ◌++◌, append_assoc, append-nil}
use native.Mathlib.Omega.{arith}
use native.Mathlib.Nat.{add-zero, zero-add, add_assoc}
use Prim.Native.Nat.{ℕ, zero, suc, ◌+◌, ◌-◌, ◌*◌, ◌/◌, ◌≤◌}
use lib.Dec.{eqb}
use lib.ListN.{length, get_or, take, drop, replicate, length-append, length-drop, length-replicate}
use lib.Seq.{sets-eq, take_all, take_at, drop_at, take-add, drop-drop, length-take-le}
use borrow.Author.Tests.{eqb-true, eqb-false}
use Rattle.kit.specs.Pick.{pick}
use Rattle.kit.proofs.Laws.{tests, no! }
use Rattle.rules.specs.Tools.{when◌then◌else◌}
use Rattle.rules.specs.Rows.{bytes}
use Rattle.rules.specs.Answer.{mark, same_numbers, header_bytes}
use Rattle.rules.specs.Laws.ToolLaws.{All, done, ◌&◌}
use Rattle.limits.specs.declared.Limits.{Limits}
use Rattle.limits.specs.Held.{setting_in}
use Rattle.mending.specs.Mend.{Piece, piece, afters, Change, changes, Fate, stays, zeroed, two_bits, fated, parts, row_pieces, closes_root, depth_after, close_rows, all_rows, behind_header, header_pieces, form_pieces}
use Rattle.mending.proofs.Laws.Pieces.{Stays, lists_same, stays_changes}
use Rattle.mending.proofs.Laws.Undone.{bytes_length}
use Rattle.mend_form.specs.Kept.{kept, kept_t, kept_in}
use Rattle.mend_form.specs.Filled.{mended_row_t, row_in}
use Rattle.mend_form.specs.declared.Kept.{Kept}
use Rattle.mend_form.proofs.Laws.{row_size, row_stays, body_size, close_rows_size}
use Rattle.mend_form.proofs.Right.{kept_pieces, row_at, rows_split, body_right}
use Rattle.mend_list.specs.Listed.{change, piece_changes, width_t, row_changes, rows_changes, header_of_t, head_changes, rest_changes, all_changes, changes_in}

-- ---- pieces one behind the other

append_if : (b : Bool) (c : Change) (cs ds : List Change) → (when b then cs else c ∷ cs) ++ ds ≡ (when b then cs ++ ds else c ∷ (cs ++ ds))
unfolding when◌then◌else◌
append_if true c cs ds = refl
append_if false c cs ds = refl

changes_append : (at : ℕ) (ps qs : List Piece) → changes at (ps ++ qs) ≡ changes at ps ++ changes (at + length (afters ps)) qs
unfolding changes afters
changes_append at [] qs = rw add-zero
changes_append at (p ∷ ps) qs =
    rw (changes_append (at + length p.after) ps qs, length-append, ← add_assoc) (sym (append_if (same_numbers p.before p.after) _ (changes (at + length p.after) ps) _))

-- a piece, and what follows
one_more_lem : (b : Bool) (c : Change) (cs : List Change) → (when b then cs else c ∷ cs) ≡ pick b [] (c ∷ []) ++ cs
unfolding when◌then◌else◌ pick
one_more_lem true c cs = refl
one_more_lem false c cs = refl

-- ---- rows cut at the same bytes

abbrev widths : List ℕ
widths = 1 ∷ 1 ∷ 2 ∷ 4 ∷ 4 ∷ 4 ∷ []

abbrev sum : List ℕ → ℕ
sum [] = 0
sum (w ∷ ws) = w + sum ws

unfoldable cuts : (widths before after : List ℕ) → List Piece
cuts [] before after = piece before after ∷ []
cuts (w ∷ ws) before after = piece (take w before) (take w after) ∷ cuts ws (drop w before) (drop w after)

same_cuts : (ws bs : List ℕ) → All Stays (cuts ws bs bs)
unfolding cuts
same_cuts [] bs = refl & done
same_cuts (w ∷ ws) bs = refl & same_cuts ws (drop w bs)

fated_size : (f : Fate) (bs : List ℕ) → length (fated f bs) ≡ length bs
unfolding fated
fated_size stays bs = refl
fated_size zeroed bs = length-replicate (length bs) 0
fated_size two_bits bs = bytes_length (length bs) _

parts_cut : (ws : List ℕ) (fs : List Fate) (bs : List ℕ) (at : ℕ) → sum ws ≤ length bs → changes at (parts ws fs bs) ≡ changes at (cuts ws bs (afters (parts ws fs bs)))
unfolding parts cuts afters changes
parts_cut [] fs bs at h = rw (append-nil bs)
parts_cut (w ∷ ws) [] bs at h = rw (append-nil bs) (stays_changes at (piece bs bs ∷ []) (refl & done) ∙ sym (stays_changes at (cuts (w ∷ ws) bs bs) (same_cuts (w ∷ ws) bs)))
parts_cut (w ∷ ws) (f ∷ fs) bs at h =
    let new = fated f (take w bs) in
    let rest = afters (parts ws fs (drop w bs)) in
    let size : length new ≡ w = fated_size f (take w bs) ∙ length-take-le w bs (omega arith) in
    rw (take_at new rest w size, drop_at new rest w size) (rw (parts_cut ws fs (drop w bs) (at + length new) (omega (arith, length-drop w bs))))

-- the changes of pieces of these widths from byte `at` on, which become those of `new` from byte `to` on
abbrev cut_changes : (old new : List ℕ) (at to : ℕ) (ws : List ℕ) → List Change
cut_changes old new at to [] = []
cut_changes old new at to (w ∷ ws) = piece_changes old new at to w ++ cut_changes old new (at + w) (to + w) ws

first_cut : (l : List ℕ) (at w s : ℕ) → at + (w + s) ≤ length l → (take w (take (w + s) (drop at l)) ≡ take w (drop at l)) × (drop w (take (w + s) (drop at l)) ≡ take s (drop (at + w) l))
first_cut l at w s h =
    let size : length (take w (drop at l)) ≡ w = length-take-le w (drop at l) (omega (arith, length-drop at l)) in
    let two : take (w + s) (drop at l) ≡ take w (drop at l) ++ take s (drop w (drop at l)) = take-add w s (drop at l) in
    (ap (take w) two ∙ take_at (take w (drop at l)) _ w size, ap (drop w) two ∙ (drop_at (take w (drop at l)) _ w size ∙ ap (take s) (drop-drop w at l)))

cut_at : (ws old new : List ℕ) (at to : ℕ) → at + sum ws ≤ length old → to + sum ws ≤ length new → changes at (cuts ws (take (sum ws) (drop at old)) (take (sum ws) (drop to new))) ≡ cut_changes old new at to ws
unfolding cuts changes
cut_at [] old new at to h g = unfold same_numbers when◌then◌else◌ in refl
cut_at (w ∷ ws) old new at to h g =
    let p = first_cut old at w (sum ws) h in
    let q = first_cut new to w (sum ws) g in
    let size : length (take w (drop to new)) ≡ w = length-take-le w (drop to new) (omega (arith, length-drop to new)) in
    rw (p.0, p.1, q.0, q.1, size, cut_at ws old new (at + w) (to + w) (omega arith) (omega arith)) (unfold piece_changes in one_more_lem _ _ _)

row_cuts : (old new : List ℕ) (a : ℕ) → cut_changes old new a 0 widths ≡ row_changes old new a 0 16
unfolding row_changes width_t pick piece_changes same_numbers
row_cuts old new a =
    let two : a + 1 + 1 ≡ a + 2 = omega arith in
    let four : a + 2 + 2 ≡ a + 4 = omega arith in
    let eight : a + 4 + 4 ≡ a + 8 = omega arith in
    let twelve : a + 8 + 4 ≡ a + 12 = omega arith in
    rw (two, four, eight, twelve, add-zero)

row_changes_lem : (old new : List ℕ) (a : ℕ) → a + 16 ≤ length old → length new ≡ 16 → new ≡ afters (row_pieces (take 16 (drop a old))) → changes a (row_pieces (take 16 (drop a old))) ≡ row_changes old new a 0 16
unfolding row_pieces
row_changes_lem old new a h g e =
    let whole : take 16 (drop 0 new) ≡ new = take_all 16 new (omega arith) in
    parts_cut widths _ (take 16 (drop a old)) a (omega (arith, length-take-le 16 (drop a old) (omega (arith, length-drop a old))))
    ∙ (ap (λ (l : List ℕ). changes a (cuts widths (take 16 (drop a old)) l)) (sym e ∙ sym whole) ∙ (cut_at widths old new a 0 h (omega arith) ∙ row_cuts old new a))

-- ---- all rows

module _ (header : ℕ) (old : List ℕ) (k : Kept) (there : header + 16 * k.rows ≤ length old) where
  abbrev rows : List ℕ
  rows = drop header old

  -- from row i on, `left` rows stay
  rows_changes_lem : (i left : ℕ) (ps : List Piece) → i + left ≡ k.rows → changes (header + 16 * i) (kept_pieces rows i left ++ ps) ≡ rows_changes header old k i left ++ changes (header + 16 * (i + left)) ps
  unfolding kept_pieces rows_changes
  rows_changes_lem i zero ps e = rw add-zero
  rows_changes_lem i (suc left) ps e =
      let a = header + 16 * i in
      let row = take 16 (drop (16 * i) rows) in
      let here : drop (16 * i) rows ≡ drop a old = drop-drop (16 * i) header old in
      let made : row_in rows k i ≡ mended_row_t rows (16 * i) 0 16 = sym (row_stays rows k i (omega arith) refl (omega (arith, length-drop header old))) in
      let is : mended_row_t rows (16 * i) 0 16 ≡ afters (row_pieces row) = row_at rows (16 * i) (omega (arith, length-drop header old)) in
      let wide : length (row_in rows k i) ≡ 16 = ap length made ∙ row_size rows (16 * i) 0 16 in
      let size : a + length (afters (row_pieces row)) ≡ header + 16 * (i + 1) = omega (arith, sym (ap length is), row_size rows (16 * i) 0 16) in
      let last : i + 1 + left ≡ i + suc left = omega arith in
      let one : changes a (row_pieces row) ≡ row_changes old (row_in rows k i) a 0 16 = ap (λ (l : List ℕ). changes a (row_pieces (take 16 l))) here ∙ row_changes_lem old (row_in rows k i) a (omega arith) wide (made ∙ (is ∙ ap (λ (l : List ℕ). afters (row_pieces (take 16 l))) here)) in
      let first = row_changes old (row_in rows k i) a 0 16 in
      ap (changes a) (append_assoc (row_pieces row) (kept_pieces rows (i + 1) left) ps)
      ∙ (changes_append a (row_pieces row) (kept_pieces rows (i + 1) left ++ ps)
      ∙ (ap₂ (λ (x : List Change) (n : ℕ). x ++ changes n (kept_pieces rows (i + 1) left ++ ps)) one size
      ∙ (ap (λ (x : List Change). first ++ x) (rows_changes_lem (i + 1) left ps (omega arith))
      ∙ (sym (append_assoc first (rows_changes header old k (i + 1) left) _) ∙ ap (λ (n : ℕ). (first ++ rows_changes header old k (i + 1) left) ++ changes (header + 16 * n) ps) last))))

-- ---- what is cut off, or added

-- CLOSE rows are added only where all rows stay
all_stay : (rows : List ℕ) (i left depth : ℕ) → ((kept_t rows i left depth).scopes ≡ 0) ⊎ ((kept_t rows i left depth).rows ≡ i + left)
unfolding kept_t pick
all_stay rows i zero depth = inr (sym (add-zero i))
all_stay rows i (suc left) depth = go (closes_root (get_or rows (16 * i) 0) depth) (all_stay rows (i + 1) left (depth_after (get_or rows (16 * i) 0) depth))
  where
    go : (b : Bool) → ((kept_t rows (i + 1) left (depth_after (get_or rows (16 * i) 0) depth)).scopes ≡ 0) ⊎ ((kept_t rows (i + 1) left (depth_after (get_or rows (16 * i) 0) depth)).rows ≡ i + 1 + left)
        → ((pick b (kept (i + 1) 0) (kept_t rows (i + 1) left (depth_after (get_or rows (16 * i) 0) depth))).scopes ≡ 0) ⊎ ((pick b (kept (i + 1) 0) (kept_t rows (i + 1) left (depth_after (get_or rows (16 * i) 0) depth))).rows ≡ i + suc left)
    go true h = inl refl
    go false (inl h) = inl h
    go false (inr h) = inr (omega arith)

kept_stay : (rows : List ℕ) → ((kept_in rows).scopes ≡ 0) ⊎ ((kept_in rows).rows ≡ length rows / 16)
unfolding kept_in
kept_stay rows = go (all_stay rows 0 (length rows / 16) 0)
  where
    go : ((kept_t rows 0 (length rows / 16) 0).scopes ≡ 0) ⊎ ((kept_t rows 0 (length rows / 16) 0).rows ≡ 0 + length rows / 16) → ((kept_t rows 0 (length rows / 16) 0).scopes ≡ 0) ⊎ ((kept_t rows 0 (length rows / 16) 0).rows ≡ length rows / 16)
    go (inl z) = inl z
    go (inr z) = inr (z ∙ zero-add (length rows / 16))

empty : (l : List ℕ) → length l ≡ 0 → l ≡ []
empty [] e = refl
empty (x ∷ l) e = absurd (omega arith)

-- lists of two lengths differ
other_length : (a b : List ℕ) → (length a ≡ length b → ⊥) → false ≡ same_numbers a b
unfolding same_numbers
other_length [] [] h = absurd (h refl)
other_length [] (y ∷ b) h = refl
other_length (x ∷ a) [] h = refl
other_length (x ∷ a) (y ∷ b) h = go (eqb x y) (other_length a b (λ e. h (ap suc e)))
  where
    go : (t : Bool) → false ≡ same_numbers a b → false ≡ (t && same_numbers a b)
    go true e = e
    go false e = refl

both_empty : (rest : List ℕ) (scopes : ℕ) → rest ≡ [] → scopes ≡ 0 → (c : Change) → (when same_numbers rest (close_rows scopes) then [] else c ∷ []) ≡ []
unfolding same_numbers close_rows when◌then◌else◌
both_empty rest scopes e z c = rw (e, z)

-- as many bytes as before are none
rest_changes_lem : (header : ℕ) (old : List ℕ) → header ≤ length old → (k : Kept) → k ≡ kept_in (drop header old) → header + 16 * k.rows ≤ length old
    → changes (header + 16 * k.rows) (piece (drop (header + 16 * k.rows) old) (close_rows k.scopes) ∷ []) ≡ rest_changes old (header + 16 * k.rows) (16 * k.scopes)
unfolding changes rest_changes when◌then◌else◌ pick
rest_changes_lem header old h k is there = go (eqb n (16 * k.scopes)) refl
  where
    a : ℕ
    a = header + 16 * k.rows

    n : ℕ
    n = length old - a

    rest : List ℕ
    rest = drop a old

    all : take n rest ≡ rest
    all = take_all n rest (omega (arith, length-drop a old))

    stay : (k.scopes ≡ 0) ⊎ (k.rows ≡ length (drop header old) / 16)
    stay = subst (λ (x : Kept). (x.scopes ≡ 0) ⊎ (x.rows ≡ length (drop header old) / 16)) (sym is) (kept_stay (drop header old))

    no_such_scope : n ≡ 16 * k.scopes → k.scopes ≡ 0
    no_such_scope e = from stay
      where
        from : (k.scopes ≡ 0) ⊎ (k.rows ≡ length (drop header old) / 16) → k.scopes ≡ 0
        from (inl z) = z
        from (inr z) = omega (arith, length-drop header old)

    go : (b : Bool) → eqb n (16 * k.scopes) ≡ b
        → (when same_numbers rest (close_rows k.scopes) then [] else record { at = a; before = rest; now = length (close_rows k.scopes) } ∷ []) ≡ pick b [] (change old a n (16 * k.scopes) ∷ [])
    go true e =
        let z = no_such_scope (eqb-true n (16 * k.scopes) e) in
        let none : rest ≡ [] = empty rest (omega (arith, length-drop a old, eqb-true n (16 * k.scopes) e)) in
        both_empty rest k.scopes none z _
    go false e =
        let differ : false ≡ same_numbers rest (close_rows k.scopes) = other_length rest (close_rows k.scopes) (λ q. eqb-false n (16 * k.scopes) e (omega (arith, q, length-drop a old, close_rows_size k.scopes))) in
        rw (← differ, close_rows_size k.scopes, all)

-- ---- the header

-- what comes of one piece of n bytes
abbrev cut : (at : ℕ) (before after : List ℕ) (n : ℕ) → List Change
cut at before after n = pick (same_numbers before after) [] (record { at = at; before = before; now = n } ∷ [])

cut_one : (at : ℕ) (before after : List ℕ) (n next : ℕ) → length after ≡ n → at + n ≡ next → (ps : List Piece) → changes at (piece before after ∷ ps) ≡ cut at before after n ++ changes next ps
unfolding changes
cut_one at before after n next e f ps = rw (e, f) (one_more_lem (same_numbers before after) _ (changes next ps))

first_stays : (l : List ℕ) (n : ℕ) → length l ≡ n → (ps : List Piece) → changes 0 (piece l l ∷ ps) ≡ changes n ps
unfolding changes when◌then◌else◌
first_stays l n e ps = rw (lists_same l, e, zero-add)

no_piece : (at : ℕ) → changes at [] ≡ []
unfolding changes
no_piece at = refl

cut_is : (old new : List ℕ) (at to n : ℕ) (before after : List ℕ) → before ≡ take n (drop at old) → take n (drop to new) ≡ after → cut at before after n ≡ piece_changes old new at to n
unfolding piece_changes
cut_is old new at to n before after e f = rw (e, ← f)

module _ (l : Limits) (count : ℕ) (room : 6 + pick l.wide 4 2 ≤ l.header) (short : l.header ≤ 16) where
  abbrev c : ℕ
  c = pick l.wide 4 2

  abbrev w : ℕ
  w = l.header - (6 + c)

  abbrev Bc : List ℕ
  Bc = bytes c count

  abbrev zeros : List ℕ
  zeros = replicate w 0

  pub header_size : length (header_bytes (setting_in l) count) ≡ l.header
  unfolding header_bytes setting_in mark bytes
  header_size = omega (arith, length-append Bc zeros, bytes_length c count, length-replicate {A = ℕ} w 0)

  head_is : header_of_t l count ≡ header_bytes (setting_in l) count ++ drop l.header (replicate 16 0)
  unfolding header_of_t
  head_is = sets-eq (header_bytes (setting_in l) count) (replicate 16 0) 0 (omega (arith, header_size, length-replicate {A = ℕ} 16 0)) ∙ rw (header_size, zero-add)

  byte_five : take 1 (drop 5 (header_of_t l count)) ≡ bytes 1 l.rules
  unfolding header_bytes setting_in mark bytes
  byte_five = rw head_is

  behind_mark : drop 6 (header_of_t l count) ≡ Bc ++ (zeros ++ drop l.header (replicate 16 0))
  unfolding header_bytes setting_in mark bytes
  behind_mark = ap (drop 6) head_is ∙ append_assoc Bc zeros _

  the_count : take c (drop 6 (header_of_t l count)) ≡ Bc
  the_count = ap (take c) behind_mark ∙ take_at Bc _ c (bytes_length c count)

  the_zeros : take w (drop (6 + c) (header_of_t l count)) ≡ zeros
  the_zeros =
      ap (take w) (sym (drop-drop c 6 (header_of_t l count)) ∙ (ap (drop c) behind_mark ∙ drop_at Bc _ c (bytes_length c count)))
      ∙ take_at zeros _ w (length-replicate {A = ℕ} w 0)

  pub header_afters : (old : List ℕ) → 5 ≤ length old → length (afters (header_pieces (setting_in l) count old)) ≡ l.header
  unfolding header_pieces afters setting_in
  header_afters old long =
      omega (
        arith,
        length-append (take 5 old) (bytes 1 l.rules ++ (Bc ++ (zeros ++ []))),
        length-append (bytes 1 l.rules) (Bc ++ (zeros ++ [])),
        length-append Bc (zeros ++ []),
        length-append zeros [],
        length-take-le 5 old long,
        bytes_length 1 l.rules,
        bytes_length c count,
        length-replicate {A = ℕ} w 0,
      )

  head_changes_lem : (old : List ℕ) → 5 ≤ length old → changes 0 (header_pieces (setting_in l) count old) ≡ head_changes l old (header_of_t l count)
  unfolding header_pieces setting_in head_changes
  head_changes_lem old long =
      let new = header_of_t l count in
      let five = take 1 (drop 5 old) in
      let counted = take c (drop 6 old) in
      let last = take w (drop c (drop 6 old)) in
      let six : c ≡ 6 + c - 6 = omega arith in
      let one : cut 5 five (bytes 1 l.rules) 1 ≡ piece_changes old new 5 5 1 = cut_is old new 5 5 1 five (bytes 1 l.rules) refl byte_five in
      let two : cut 6 counted Bc c ≡ piece_changes old new 6 6 (6 + c - 6) = cut_is old new 6 6 c counted Bc refl the_count ∙ ap (piece_changes old new 6 6) six in
      let three : cut (6 + c) last zeros w ≡ piece_changes old new (6 + c) (6 + c) w = cut_is old new (6 + c) (6 + c) w last zeros (ap (take w) (drop-drop c 6 old)) the_zeros in
      first_stays (take 5 old) 5 (length-take-le 5 old long) _
      ∙ (cut_one 5 five (bytes 1 l.rules) 1 6 (bytes_length 1 l.rules) refl _
      ∙ ap₂ (λ (x y : List Change). x ++ y) one
      (cut_one 6 counted Bc c (6 + c) (bytes_length c count) refl _ ∙ ap₂ (λ (x y : List Change). x ++ y) two (cut_one (6 + c) last zeros w (6 + c + w) (length-replicate {A = ℕ} w 0) refl [] ∙ (ap (λ (y : List Change). cut (6 + c) last zeros w ++ y) (no_piece (6 + c + w)) ∙ (append-nil _ ∙ three)))))

-- ---- the whole form

module _ (l : Limits) (old : List ℕ) (room : 6 + pick l.wide 4 2 ≤ l.header) (short : l.header ≤ 16) (long : l.header ≤ length old) where
  abbrev k : Kept
  k = kept_in (drop l.header old)

  abbrev total : ℕ
  total = k.rows + k.scopes

  pub kept_there : l.header + 16 * k.rows ≤ length old
  kept_there = omega (arith, (rows_split (drop l.header old)).1, length-drop l.header old)

  pub form_counted : length (afters (behind_header (setting_in l).version old)) / 16 ≡ total
  unfolding behind_header setting_in
  form_counted = omega (arith, ap length (body_right (drop l.header old)), body_size (drop l.header old) k)

  form_changes : changes 0 (form_pieces (setting_in l) old) ≡ all_changes l old k
  unfolding form_pieces behind_header setting_in all_changes
  form_changes =
      let rows = all_rows 0 (length (drop l.header old) / 16) (drop l.header old) in
      let s = rows_split (drop l.header old) in
      let count = length (afters rows) / 16 in
      let a = l.header + 16 * k.rows in
      let tail = piece (drop (16 * k.rows) (drop l.header old)) (close_rows k.scopes) ∷ [] in
      let tail_is : drop (16 * k.rows) (drop l.header old) ≡ drop a old = drop-drop (16 * k.rows) l.header old in
      let head : changes 0 (header_pieces (setting_in l) count old) ≡ head_changes l old (header_of_t l total) = ap (λ (n : ℕ). changes 0 (header_pieces (setting_in l) n old)) form_counted ∙ head_changes_lem l total room short old (omega arith) in
      let size : 0 + length (afters (header_pieces (setting_in l) count old)) ≡ l.header = zero-add _ ∙ header_afters l count room short old (omega arith) in
      let start : l.header + 16 * 0 ≡ l.header = omega arith in
      let behind : changes l.header rows ≡ rows_changes l.header old k 0 k.rows ++ changes a tail =
      ap₂ (λ (n : ℕ) (ps : List Piece). changes n ps) (sym start) s.0 ∙ (rows_changes_lem l.header old k kept_there 0 k.rows tail (zero-add k.rows) ∙ ap (λ (n : ℕ). rows_changes l.header old k 0 k.rows ++ changes (l.header + 16 * n) tail) (zero-add k.rows)) in
      let last : changes a tail ≡ rest_changes old a (16 * k.scopes) = ap (λ (b : List ℕ). changes a (piece b (close_rows k.scopes) ∷ [])) tail_is ∙ rest_changes_lem l.header old long k refl kept_there in
      changes_append 0 (header_pieces (setting_in l) count old) rows
      ∙ (ap₂ (λ (x : List Change) (n : ℕ). x ++ changes n rows) head size
      ∙ (ap (λ (x : List Change). head_changes l old (header_of_t l total) ++ x) (behind ∙ ap (λ (x : List Change). rows_changes l.header old k 0 k.rows ++ x) last)
      ∙ sym (append_assoc (head_changes l old (header_of_t l total)) (rows_changes l.header old k 0 k.rows) _)))

  -- THE LIST: what the code lists of a form of which no more rows stay than a form may have
  pub list_right : k.rows ≤ 16383 → changes_in l old ≡ changes 0 (form_pieces (setting_in l) old)
  unfolding changes_in
  list_right few = sym (no! _ (omega tests) (no! _ (omega tests) (no! _ (omega tests) (no! _ (omega tests) form_changes))))
