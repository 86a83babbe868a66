-- The pieces of a form are its bytes. So undoing the list of changes gives them back, and bytes that no change names are as they were;
-- and a mended form is one that 01 reads.
use Rattle.std.specs.Prelude.{◌≡◌, refl, Bool, true, false, ◌||◌, not, List, [], ◌∷◌, ◌++◌, ℕ, zero, suc, ◌+◌, ◌-◌, ◌/◌, ◌≤◌, ◌<◌, ltb, length, take, drop, replicate, get_or}
use Rattle.std.proofs.Common.{ap, ap₂, sym, ◌∙◌, subst, append_assoc, append-nil, arith, length-take, length-drop, take-append-drop}
use Rattle.std.proofs.lemmas.List.{length-replicate}
use Rattle.rules.specs.Tools.{when◌then◌else◌}
use Rattle.rules.specs.Versions.{Version, Setting}
use Rattle.rules.specs.Rows.{value, bytes}
use Rattle.rules.specs.Tree.{Scope}
use Rattle.rules.specs.Answer.{AnswerOf, accepted}
use Rattle.read_form.specs.ReadForm.{read_form}
use Rattle.mending.specs.Mend
use Rattle.mending.specs.Mend.{Piece, piece, befores, afters, Change, changes, undo, list_bytes, Fate, stays, zeroed, two_bits, fated, parts, row_pieces, closes_root, depth_after, all_rows, behind_header, header_pieces, form_pieces, Mending, mended, sized, mend_in}
use Rattle.rules.specs.Laws.ToolLaws.{All, done, ◌&◌}
use Rattle.mending.proofs.Laws.Pieces.{befores_append, undo_changes, Even, last, even, Outside, untouched}

-- ---- lists

pub drop-drop : (xs : List ℕ) (a b n : ℕ) → n ≡ a + b → drop b (drop a xs) ≡ drop n xs
drop-drop xs zero b n e = let q : b ≡ n = omega arith in rw q
drop-drop xs (suc a) b zero e = absurd (omega arith)
drop-drop [] (suc a) zero (suc n) e = refl
drop-drop [] (suc a) (suc b) (suc n) e = refl
drop-drop (x ∷ xs) (suc a) b (suc n) e = drop-drop xs a b n (omega arith)

pub bytes_length : (c n : ℕ) → length (bytes c n) ≡ c
unfolding bytes
bytes_length zero n = refl
bytes_length (suc c) n = ap suc (bytes_length c _)

-- the first n of enough
pub length_first : (n : ℕ) (xs : List ℕ) → n ≤ length xs → length (take n xs) ≡ n
length_first n xs h = omega (arith, length-take n xs)

-- ---- the pieces are the bytes

parts_bytes : (ws : List ℕ) (fs : List Fate) (bs : List ℕ) → befores (parts ws fs bs) ≡ bs
unfolding parts befores
parts_bytes [] fs bs = append-nil bs
parts_bytes (w ∷ ws) [] bs = append-nil bs
parts_bytes (w ∷ ws) (f ∷ fs) bs = ap (λ (l : List ℕ). take w bs ++ l) (parts_bytes ws fs (drop w bs)) ∙ take-append-drop w bs

row_bytes_lem : (row : List ℕ) → befores (row_pieces row) ≡ row
unfolding row_pieces
row_bytes_lem row = parts_bytes _ _ row

one_bytes : (p : Piece) → befores (p ∷ []) ≡ p.before
unfolding befores
one_bytes p = append-nil p.before

rows_bytes_lem : (depth count : ℕ) (bs : List ℕ) → befores (all_rows depth count bs) ≡ bs
unfolding all_rows when◌then◌else◌
rows_bytes_lem depth zero bs = one_bytes _
rows_bytes_lem depth (suc count) bs =
    befores_append (row_pieces (take 16 bs)) _
    ∙ (ap₂ (λ (xs ys : List ℕ). xs ++ ys) (row_bytes_lem (take 16 bs)) (go (closes_root (value (take 1 bs)) depth) (rows_bytes_lem (depth_after (value (take 1 bs)) depth) count (drop 16 bs))) ∙ take-append-drop 16 bs)
  where
    go : (b : Bool) → befores (all_rows (depth_after (value (take 1 bs)) depth) count (drop 16 bs)) ≡ drop 16 bs
        → befores (when b then piece (drop 16 bs) [] ∷ [] else all_rows (depth_after (value (take 1 bs)) depth) count (drop 16 bs)) ≡ drop 16 bs
    go true e = one_bytes _
    go false e = e

pub behind_bytes : (v : Version) (input : List ℕ) → befores (behind_header v input) ≡ drop v.header input
unfolding behind_header
behind_bytes v input = rows_bytes_lem 0 _ _

join : (a b c d r : List ℕ) → (a ++ (b ++ (c ++ (d ++ [])))) ++ r ≡ a ++ (b ++ (c ++ (d ++ r)))
join a b c d r =
    append_assoc a (b ++ (c ++ (d ++ []))) r
    ∙ ap (λ (l : List ℕ). a ++ l) (append_assoc b (c ++ (d ++ [])) r ∙ ap (λ (l : List ℕ). b ++ l) (append_assoc c (d ++ []) r ∙ ap (λ (l : List ℕ). c ++ l) (append_assoc d [] r)))

header_bytes_lem : (s : Setting) (count : ℕ) (input : List ℕ) → 6 + s.version.counting ≤ s.version.header → befores (header_pieces s count input) ++ drop s.version.header input ≡ input
unfolding header_pieces befores
header_bytes_lem s count input h =
    let c = s.version.counting in
    let e = s.version.header - (6 + c) in
    let tail = drop c (drop 6 input) in
    let last-drop : drop s.version.header input ≡ drop e tail = sym (drop-drop (drop 6 input) c e (c + e) (omega arith) ∙ drop-drop input 6 (c + e) s.version.header (omega arith)) in
    let four : take e tail ++ drop s.version.header input ≡ tail = ap (λ (l : List ℕ). take e tail ++ l) last-drop ∙ take-append-drop e tail in
    let three : take c (drop 6 input) ++ (take e tail ++ drop s.version.header input) ≡ drop 6 input = ap (λ (l : List ℕ). take c (drop 6 input) ++ l) four ∙ take-append-drop c (drop 6 input) in
    let two : take 1 (drop 5 input) ++ (take c (drop 6 input) ++ (take e tail ++ drop s.version.header input)) ≡ drop 5 input =
    ap (λ (l : List ℕ). take 1 (drop 5 input) ++ l) (three ∙ sym (drop-drop input 5 1 6 (omega arith))) ∙ take-append-drop 1 (drop 5 input) in
    join (take 5 input) (take 1 (drop 5 input)) (take c (drop 6 input)) (take e tail) (drop s.version.header input) ∙ (ap (λ (l : List ℕ). take 5 input ++ l) two ∙ take-append-drop 5 input)

pub form_bytes_lem : (s : Setting) (input : List ℕ) → 6 + s.version.counting ≤ s.version.header → befores (form_pieces s input) ≡ input
unfolding form_pieces
form_bytes_lem s input h =
    befores_append (header_pieces s _ input) (behind_header s.version input)
    ∙ (ap (λ (l : List ℕ). befores (header_pieces s (length (afters (behind_header s.version input)) / 16) input) ++ l) (behind_bytes s.version input) ∙ header_bytes_lem s _ input h)

-- ---- what a mended form is

pub record Mended (s : Setting) (input : List ℕ) (form : List ℕ) (list : List Change) : Type 0 where
  pub is_form : afters (form_pieces s input) ≡ form
  pub is_list : changes 0 (form_pieces s input) ≡ list
  pub tree : Scope
  -- "If 01 still refuses .. it says so"
  pub reads : read_form s form ≡ accepted tree

no_mended : {X : Type 0} (number place : ℕ) (form : List ℕ) (list : List Change) → Mending.refused number place ≡ mended form list → X
no_mended number place form list e = let z : ◌≡◌ {A = ℕ} 0 1 = cc in absurd (omega arith)

same_form : (a b : List ℕ) (l m : List Change) → mended a l ≡ mended b m → a ≡ b
same_form a b l m e = cc

same_list : (a b : List ℕ) (l m : List Change) → mended a l ≡ mended b m → l ≡ m
same_list a b l m e = cc

pub mended_is : (s : Setting) (input : List ℕ) (room space : ℕ) (form : List ℕ) (list : List Change) → mend_in s input room space ≡ mended form list → Mended s input form list
unfolding mend_in Mend.read when◌then◌else◌
mended_is s input room space form list e = sizes (not (sized s.version (afters (form_pieces s input)))) e
  where
    read_as_lem : (r : AnswerOf Scope) → read_form s (afters (form_pieces s input)) ≡ r → Mend.read r (afters (form_pieces s input)) (changes 0 (form_pieces s input)) ≡ mended form list → Mended s input form list
    read_as_lem (AnswerOf.refused number place carried) q p = no_mended number place form list p
    read_as_lem (accepted t) q p =
        let f = same_form _ form _ list p in
        record { is_form = f; is_list = same_list _ form _ list p; tree = t; reads = subst (λ (x : List ℕ). read_form s x ≡ accepted t) f q }

    rooms : (b : Bool) → (when b then Mending.refused 3 0 else Mend.read (read_form s (afters (form_pieces s input))) (afters (form_pieces s input)) (changes 0 (form_pieces s input))) ≡ mended form list → Mended s input form list
    rooms true p = no_mended 3 0 form list p
    rooms false p = read_as_lem (read_form s (afters (form_pieces s input))) refl p

    sizes : (b : Bool) → (when b then Mending.refused 2 0 else when ltb room (length (afters (form_pieces s input))) || ltb space (length (list_bytes (changes 0 (form_pieces s input)))) then Mending.refused 3 0
        else Mend.read (read_form s (afters (form_pieces s input))) (afters (form_pieces s input)) (changes 0 (form_pieces s input))) ≡ mended form list → Mended s input form list
    sizes true p = no_mended 2 0 form list p
    sizes false p = rooms (ltb room (length (afters (form_pieces s input))) || ltb space (length (list_bytes (changes 0 (form_pieces s input))))) p

-- Undoing the list gives the bytes back.
pub undone : (s : Setting) (input : List ℕ) (room space : ℕ) (form : List ℕ) (list : List Change) → 6 + s.version.counting ≤ s.version.header
    → mend_in s input room space ≡ mended form list → undo 0 list form ≡ input
undone s input room space form list h e =
    let M = mended_is s input room space form list e in
    ap₂ (λ (l : List Change) (f : List ℕ). undo 0 l f) (sym M.is_list) (sym M.is_form) ∙ (undo_changes 0 (form_pieces s input) ∙ form_bytes_lem s input h)

-- ---- bytes that no change names

abbrev Long : Piece → Type 0
Long p = length p.after ≡ length p.before

even_append : (ps qs : List Piece) → All Long ps → Even qs → Even (ps ++ qs)
even_append [] qs done e = e
even_append (p ∷ ps) qs (h & a) e = even h (even_append ps qs a e)

fated_length : (f : Fate) (bs : List ℕ) → length (fated f bs) ≡ length bs
unfolding fated
fated_length stays bs = refl
fated_length zeroed bs = length-replicate (length bs) 0
fated_length two_bits bs = bytes_length (length bs) _

parts_long : (ws : List ℕ) (fs : List Fate) (bs : List ℕ) → All Long (parts ws fs bs)
unfolding parts
parts_long [] fs bs = refl & done
parts_long (w ∷ ws) [] bs = refl & done
parts_long (w ∷ ws) (f ∷ fs) bs = fated_length f (take w bs) & parts_long ws fs (drop w bs)

rows_even : (depth count : ℕ) (bs : List ℕ) → Even (all_rows depth count bs)
unfolding all_rows row_pieces when◌then◌else◌
rows_even depth zero bs = last
rows_even depth (suc count) bs =
    even_append (row_pieces (take 16 bs)) _ (parts_long _ _ (take 16 bs)) (go (closes_root (value (take 1 bs)) depth) (rows_even (depth_after (value (take 1 bs)) depth) count (drop 16 bs)))
  where
    go : (b : Bool) → Even (all_rows (depth_after (value (take 1 bs)) depth) count (drop 16 bs)) → Even (when b then piece (drop 16 bs) [] ∷ [] else all_rows (depth_after (value (take 1 bs)) depth) count (drop 16 bs))
    go true e = last
    go false e = e

header_long : (s : Setting) (count : ℕ) (input : List ℕ) → 6 + s.version.counting ≤ s.version.header → s.version.header ≤ length input → All Long (header_pieces s count input)
unfolding header_pieces
header_long s count input h l =
    let c = s.version.counting in
    let e = s.version.header - (6 + c) in
    let two : length (bytes 1 s.rules.number) ≡ length (take 1 (drop 5 input)) = bytes_length 1 s.rules.number ∙ sym (length_first 1 (drop 5 input) (omega (arith, length-drop 5 input))) in
    let three : length (bytes c count) ≡ length (take c (drop 6 input)) = bytes_length c count ∙ sym (length_first c (drop 6 input) (omega (arith, length-drop 6 input))) in
    let room : e ≤ length (drop c (drop 6 input)) = omega (arith, length-drop 6 input, length-drop c (drop 6 input)) in
    let four : length (replicate {A = ℕ} e 0) ≡ length (take e (drop c (drop 6 input))) = length-replicate {A = ℕ} e 0 ∙ sym (length_first e (drop c (drop 6 input)) room) in
    refl & (two & (three & (four & done)))

pub form_even : (s : Setting) (input : List ℕ) → 6 + s.version.counting ≤ s.version.header → s.version.header ≤ length input → Even (form_pieces s input)
unfolding form_pieces behind_header
form_even s input h l = even_append (header_pieces s _ input) _ (header_long s _ input h l) (rows_even 0 _ _)

-- A byte of the mended form that no change names is the byte that stood there.
pub as_it_was : (s : Setting) (input : List ℕ) (room space : ℕ) (form : List ℕ) (list : List Change) → 6 + s.version.counting ≤ s.version.header → s.version.header ≤ length input
    → mend_in s input room space ≡ mended form list → (q : ℕ) → q < length form → Outside q list → get_or form q 0 ≡ get_or input q 0
as_it_was s input room space form list h l e q short out =
    let M = mended_is s input room space form list e in
    let from-0 : q ≡ 0 + q = omega arith in
    ap (λ (f : List ℕ). get_or f q 0) (sym M.is_form)
    ∙ (untouched 0 (form_pieces s input) (form_even s input h l) q (subst (λ (f : List ℕ). q < length f) (sym M.is_form) short) (subst (λ (c : List Change). Outside (0 + q) c) (sym M.is_list) (subst (λ (x : ℕ). Outside x list) from-0 out))
    ∙ ap (λ (f : List ℕ). get_or f q 0) (form_bytes_lem s input h))
