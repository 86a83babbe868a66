-- The ways through the list of changes.
use mathlib.Core.Path.{◌≡◌, refl, sym, ap, ◌∙◌}
use mathlib.Core.Bool.{Bool, true, false, ◌&&◌}
use mathlib.Core.List.{List, [], ◌∷◌, ◌++◌, append_assoc, append-nil}
use native.Mathlib.Omega.{arith}
use native.Mathlib.Nat.{add-zero, add_assoc}
use Prim.Native.Nat.{ℕ, suc, ◌+◌, ◌-◌, ◌*◌, ◌%◌, ◌≤◌, ◌<◌}
use lib.Dec.{eqb}
use lib.ListN.{length, get_or, set, take, drop, replicate, length-append, length-drop, length-replicate}
use lib.Seq.{sets, length-sets, length-take-le, take_all}
use borrow.Author.Rules.{rules}
use borrow.Author.Tests.{ne_eqb}
use Rattle.std.specs.Cmp.Lexicographic.{pointwise}
use Rattle.kit.specs.Out.{Out, ◌&◌}
use Rattle.kit.specs.Pick.{pick}
use Rattle.kit.proofs.Laws.{tests, left_suc, sets_append, drop_next, yes!, no! }
use Rattle.rules.specs.Rows.{bytes}
use Rattle.stores.proofs.Laws.{set_past, length_word}
use Rattle.rules.specs.Answer.{same_numbers, header_bytes}
use Rattle.limits.specs.declared.Limits.{Limits}
use Rattle.limits.specs.Held.{setting_in}
use Rattle.mending.specs.Mend.{Change, change_bytes, list_bytes}
use Rattle.mend_list.specs.Listed.{listed, none, noted, change, piece_changes, width_t, row_changes, rows_changes, header_of_t, head_changes, rest_changes, all_changes, changes_in}
use Rattle.mend_form.specs.Kept.{kept_in}
use Rattle.mend_form.specs.Filled.{row_in}
use Rattle.mend_form.specs.declared.Kept.{Kept}
use Rattle.mend_form.proofs.Rows.{in_size}
use Rattle.mend_list.specs.declared.Listed.{Listed}

-- ---- stores

module _ (list T : List ℕ) (to k n : ℕ) where
  pub bytes_turn : (old l : List ℕ) (from : ℕ) → sets list (to + k) (take (n - k) (drop (from + k) old)) ≡ T → k < n → from + n ≤ length old → l ≡ set list (to + k) (get_or old (from + k) 0)
      → sets l (to + (k + 1)) (take (n - (k + 1)) (drop (from + (k + 1)) old)) ≡ T
  bytes_turn old l from inv h room e =
      let t : to + (k + 1) ≡ suc (to + k) = omega arith in
      let f : from + (k + 1) ≡ from + k + 1 = omega arith in
      rw (t, f, e) (rw (left_suc k n h, drop_next old (from + k) 0 (omega arith)) at inv)

  pub bytes_end : (old : List ℕ) (from : ℕ) → sets list (to + k) (take (n - k) (drop (from + k) old)) ≡ T → n ≤ k → list ≡ T
  bytes_end old from inv h = let z : n - k ≡ 0 = omega arith in (rw z at inv)

  pub zeros_turn : (l : List ℕ) → sets list (to + k) (replicate (n - k) 0) ≡ T → k < n → l ≡ set list (to + k) 0 → sets l (to + (k + 1)) (replicate (n - (k + 1)) 0) ≡ T
  zeros_turn l inv h e =
      let t : to + (k + 1) ≡ suc (to + k) = omega arith in
      rw (t, e) (rw (left_suc k n h) at inv)

  pub zeros_end : sets list (to + k) (replicate (n - k) 0) ≡ T → n ≤ k → list ≡ T
  zeros_end inv h = let z : n - k ≡ 0 = omega arith in (rw z at inv)

pub bytes_start : (list old : List ℕ) (to from n : ℕ) → sets list (to + 0) (take (n - 0) (drop (from + 0) old)) ≡ sets list to (take n (drop from old))
bytes_start list old to from n = let z : n - 0 ≡ n = omega arith in rw (z, add-zero, add-zero)

pub zeros_start : (list : List ℕ) (to n : ℕ) → sets list (to + 0) (replicate (n - 0) 0) ≡ sets list to (replicate n 0)
zeros_start list to n = let z : n - 0 ≡ n = omega arith in rw (z, add-zero)

pub ruleset put_ways = (set_past, bytes_turn, bytes_end, zeros_turn, zeros_end, bytes_start, zeros_start, rules)

-- ---- a change

pub words_put : (l l₁ l₂ l₃ : List ℕ) (i u v w : ℕ) → l₁ ≡ sets l i (bytes 4 u) → l₂ ≡ sets l₁ (i + 4) (bytes 4 v) → l₃ ≡ sets l₂ (i + 8) (bytes 4 w) → l₃ ≡ sets l i (bytes 4 u ++ (bytes 4 v ++ bytes 4 w))
words_put l l₁ l₂ l₃ i u v w e₁ e₂ e₃ =
    let p : i + 4 ≡ i + length (bytes 4 u) = omega (arith, length_word u) in
    let q : i + 8 ≡ i + length (bytes 4 u) + length (bytes 4 v) = omega (arith, length_word u, length_word v) in
    rw (e₃, e₂, e₁, q, p, sets_append, sets_append)

module _ (l l₁ l₂ l₃ old : List ℕ) (i at n m : ℕ) (room : at + n ≤ length old) where
  before_size : length (take n (drop at old)) ≡ n
  before_size = length-take-le n (drop at old) (omega (arith, length-drop at old))

  change_is : change_bytes (change old at n m) ≡ (bytes 4 at ++ (bytes 4 n ++ bytes 4 m)) ++ (take n (drop at old) ++ replicate ((4 - n % 4) % 4) 0)
  unfolding change_bytes
  change_is = rw (before_size, append_assoc, append_assoc)

  pub change_size : length (change_bytes (change old at n m)) ≡ 12 + n + (4 - n % 4) % 4
  change_size =
      let front = bytes 4 at ++ (bytes 4 n ++ bytes 4 m) in
      let pad = replicate {A = ℕ} ((4 - n % 4) % 4) 0 in
      ap length change_is
      ∙ omega (
        arith,
        length-append front (take n (drop at old) ++ pad),
        length-append (bytes 4 at) (bytes 4 n ++ bytes 4 m),
        length-append (bytes 4 n) (bytes 4 m),
        length_word at,
        length_word n,
        length_word m,
        length-append (take n (drop at old)) pad,
        before_size,
        length-replicate {A = ℕ} ((4 - n % 4) % 4) 0,
      )

  pub change_put : l₁ ≡ sets l i (bytes 4 at ++ (bytes 4 n ++ bytes 4 m)) → l₂ ≡ sets l₁ (i + 12) (take n (drop at old)) → l₃ ≡ sets l₂ (i + 12 + n) (replicate ((4 - n % 4) % 4) 0)
      → l₃ ≡ sets l i (change_bytes (change old at n m))
  change_put e₁ e₂ e₃ =
      let front = bytes 4 at ++ (bytes 4 n ++ bytes 4 m) in
      let p : i + 12 ≡ i + length front = omega (arith, length-append (bytes 4 at) (bytes 4 n ++ bytes 4 m), length-append (bytes 4 n) (bytes 4 m), length_word at, length_word n, length_word m) in
      let q : i + 12 + n ≡ i + length front + length (take n (drop at old)) = omega (arith, p, before_size) in
      rw (change_is, sets_append l i front, sets_append (sets l i front)) (rw (e₃, e₂, e₁, q, p))

  pub change_end : i + 12 + n + (4 - n % 4) % 4 ≡ i + length (change_bytes (change old at n m))
  change_end = omega (arith, change_size)

pub ruleset change_ways = (words_put, change_put, change_end, rules)

-- ---- pieces

-- what `==` says of two slices
equal_numbers : (a b : List ℕ) → pointwise eqb a b ≡ same_numbers a b
unfolding same_numbers
equal_numbers [] [] = refl
equal_numbers [] (y ∷ b) = refl
equal_numbers (x ∷ a) [] = refl
equal_numbers (x ∷ a) (y ∷ b) = ap (λ (t : Bool). eqb x y && t) (equal_numbers a b)

pub same_slices : (a b : List ℕ) (t : Bool) → t ≡ pointwise eqb a b → t ≡ same_numbers a b
same_slices a b t e = e ∙ equal_numbers a b

-- ---- changes one behind the other

bytes_append : (cs ds : List Change) → list_bytes (cs ++ ds) ≡ list_bytes cs ++ list_bytes ds
unfolding list_bytes
bytes_append [] ds = refl
bytes_append (c ∷ cs) ds = ap (λ (l : List ℕ). change_bytes c ++ l) (bytes_append cs ds) ∙ sym (append_assoc (change_bytes c) (list_bytes cs) (list_bytes ds))

pub noted_more : (s r : Listed) (l l₁ : List ℕ) (cs ds : List Change) → r & l₁ ≡ noted s l cs → noted r l₁ ds ≡ noted s l (cs ++ ds)
unfolding noted
noted_more s r l l₁ cs ds e =
    let f : r ≡ listed (s.size + length (list_bytes cs)) (s.count + length cs) = cc in
    let g : l₁ ≡ sets l s.size (list_bytes cs) = cc in
    rw (f, g, bytes_append, length-append, length-append, sets_append, add_assoc, add_assoc)

pub noted_none : (s : Listed) (l : List ℕ) → s & l ≡ noted s l []
unfolding noted list_bytes
noted_none s l = rw (add-zero, add-zero)

pub change_listed : (old l l₁ : List ℕ) (at n m r : ℕ) (s : Listed) → l₁ ≡ sets l s.size (change_bytes (change old at n m)) → r ≡ s.size + length (change_bytes (change old at n m))
    → listed r (s.count + 1) & l₁ ≡ noted s l (change old at n m ∷ [])
unfolding noted list_bytes
change_listed old l l₁ at n m r s f g = rw (f, g, append-nil)

module _ (old new l : List ℕ) (at to n : ℕ) (s : Listed) {t : Bool} (w : t ≡ same_numbers (take n (drop at old)) (take n (drop to new))) where
  pub piece_kept : t ≡ true → s & l ≡ noted s l (piece_changes old new at to n)
  unfolding piece_changes pick
  piece_kept e = rw (← w, e) (noted_none s l)

  pub piece_listed : t ≡ false → {x : Out Listed (List ℕ)} → x ≡ noted s l (change old at n n ∷ []) → x ≡ noted s l (piece_changes old new at to n)
  unfolding piece_changes pick
  piece_listed e f = rw (← w, e) f

pub ruleset piece_ways = (piece_kept, piece_listed, rules)

-- ---- rows

module _ (j : ℕ) where
  pub width_none : (j ≡ 0 → ⊥) → (j ≡ 1 → ⊥) → (j ≡ 2 → ⊥) → (j ≡ 4 → ⊥) → (j ≡ 8 → ⊥) → (j ≡ 12 → ⊥) → 0 ≡ width_t j
  unfolding width_t pick
  width_none h₀ h₁ h₂ h₄ h₈ h = rw (ne_eqb j 0 h₀, ne_eqb j 1 h₁, ne_eqb j 2 h₂, ne_eqb j 4 h₄, ne_eqb j 8 h₈, ne_eqb j 12 h)

  pub width_0 : j ≡ 0 → 1 ≡ width_t j
  unfolding width_t pick
  width_0 h = rw h

  pub width_1 : j ≡ 1 → 1 ≡ width_t j
  unfolding width_t pick
  width_1 h = rw h

  pub width_2 : j ≡ 2 → 2 ≡ width_t j
  unfolding width_t pick
  width_2 h = rw h

  pub width_4 : j ≡ 4 → 4 ≡ width_t j
  unfolding width_t pick
  width_4 h = rw h

  pub width_8 : j ≡ 8 → 4 ≡ width_t j
  unfolding width_t pick
  width_8 h = rw h

  pub width_12 : j ≡ 12 → 4 ≡ width_t j
  unfolding width_t pick
  width_12 h = rw h

pub ruleset width_ways = (width_none, width_0, width_1, width_2, width_4, width_8, width_12, rules)

module _ (old new l₁ l : List ℕ) (a j : ℕ) (s r : Listed) where
  pub row_turn : {T : Out Listed (List ℕ)} {w : ℕ} → noted s l (row_changes old new a j (16 - j)) ≡ T → j < 16 → w ≡ width_t j → r & l₁ ≡ noted s l (piece_changes old new (a + j) j w)
      → noted r l₁ (row_changes old new a (j + 1) (16 - (j + 1))) ≡ T
  unfolding row_changes
  row_turn inv h e f =
      let g : r & l₁ ≡ noted s l (piece_changes old new (a + j) j (width_t j)) = f ∙ rw e in
      noted_more s r l l₁ (piece_changes old new (a + j) j (width_t j)) (row_changes old new a (j + 1) (16 - (j + 1))) g ∙ (rw (left_suc j 16 h) at inv)

pub row_end : (old new l : List ℕ) (a j : ℕ) (s : Listed) {T : Out Listed (List ℕ)} → noted s l (row_changes old new a j (16 - j)) ≡ T → 16 ≤ j → s & l ≡ T
unfolding row_changes
row_end old new l a j s inv h = let z : 16 - j ≡ 0 = omega arith in noted_none s l ∙ (rw z at inv)

pub ruleset row_ways = (row_turn, row_end, rules)

-- the row that was made
pub mended_listed : (old row l : List ℕ) (header i : ℕ) (k : Kept) (s : Listed) {x : Out Listed (List ℕ)} → row ≡ row_in (take (length old - header) (drop header old)) k i → x ≡ noted s l (row_changes old row (header + 16 * i) 0 16)
    → x ≡ noted s l (row_changes old (row_in (drop header old) k i) (header + 16 * i) 0 16)
mended_listed old row l header i k s e f =
    f ∙ ap (λ (r : List ℕ). noted s l (row_changes old r (header + 16 * i) 0 16)) (e ∙ ap (λ (b : List ℕ). row_in b k i) (take_all (length old - header) (drop header old) (simp length-drop (omega arith))))

pub mended_wide : (old row : List ℕ) (k : Kept) (i : ℕ) → row ≡ row_in old k i → 16 ≤ length row
mended_wide old row k i e = omega (arith, ap length e, in_size old k i)

module _ (old l₁ l : List ℕ) (header i : ℕ) (k : Kept) (s r : Listed) where
  pub rows_turn : {T : Out Listed (List ℕ)} {n : ℕ} → noted s l (rows_changes header old k i (n - i)) ≡ T → i < n → r & l₁ ≡ noted s l (row_changes old (row_in (drop header old) k i) (header + 16 * i) 0 16)
      → noted r l₁ (rows_changes header old k (i + 1) (n - (i + 1))) ≡ T
  unfolding rows_changes
  rows_turn {n = n} inv h f =
      noted_more s r l l₁ (row_changes old (row_in (drop header old) k i) (header + 16 * i) 0 16) (rows_changes header old k (i + 1) (n - (i + 1))) f ∙ (rw (left_suc i n h) at inv)

module _ (old l : List ℕ) (header i n : ℕ) (k : Kept) (s : Listed) where
  pub rows_end : {T : Out Listed (List ℕ)} → noted s l (rows_changes header old k i (n - i)) ≡ T → n ≤ i → s & l ≡ T
  unfolding rows_changes
  rows_end inv h = let z : n - i ≡ 0 = omega arith in noted_none s l ∙ (rw z at inv)

pub rows_start : (old l : List ℕ) (header n : ℕ) (k : Kept) (s : Listed) → noted s l (rows_changes header old k 0 (n - 0)) ≡ noted s l (rows_changes header old k 0 n)
rows_start old l header n k s = let z : n - 0 ≡ n = omega arith in rw z

pub ruleset rows_ways = (rows_turn, rows_end, rows_start, rules)

-- ---- the whole form

pub head_made : (l : Limits) (count : ℕ) (head : List ℕ) → head ≡ sets (replicate 16 0) 0 (header_bytes (setting_in l) count) → head ≡ header_of_t l count
unfolding header_of_t
head_made l count head e = e

pub head_wide : (l : Limits) (count : ℕ) (head : List ℕ) → head ≡ header_of_t l count → 16 ≤ length head
unfolding header_of_t
head_wide l count head e = omega (arith, ap length e, length-sets (replicate {A = ℕ} 16 0) 0 (header_bytes (setting_in l) count), length-replicate {A = ℕ} 16 0)

pub head_listed : (lim : Limits) (old new l l₁ l₂ l₃ : List ℕ) (behind header : ℕ) (r₁ r₂ r₃ : Listed) → behind ≡ 6 + pick lim.wide 4 2 → header ≡ lim.header → r₁ & l₁ ≡ noted none l (piece_changes old new 5 5 1)
    → r₂ & l₂ ≡ noted r₁ l₁ (piece_changes old new 6 6 (behind - 6)) → r₃ & l₃ ≡ noted r₂ l₂ (piece_changes old new behind behind (header - behind)) → r₃ & l₃ ≡ noted none l (head_changes lim old new)
unfolding head_changes
head_listed lim old new l l₁ l₂ l₃ behind header r₁ r₂ r₃ b h e f g =
    rw (← b, ← h)
    (g ∙ (noted_more r₁ r₂ l₁ l₂ (piece_changes old new 6 6 (behind - 6)) (piece_changes old new behind behind (header - behind)) f
    ∙ noted_more none r₁ l l₁ (piece_changes old new 5 5 1) (piece_changes old new 6 6 (behind - 6) ++ piece_changes old new behind behind (header - behind)) e))

module _ (old l : List ℕ) (a m : ℕ) (s : Listed) where
  pub rest_kept : length old - a ≡ m → s & l ≡ noted s l (rest_changes old a m)
  unfolding rest_changes pick
  rest_kept h = let t : eqb (length old - a) m ≡ true = omega tests in rw t (noted_none s l)

  pub rest_listed : (length old - a ≡ m → ⊥) → {x : Out Listed (List ℕ)} → x ≡ noted s l (change old a (length old - a) m ∷ []) → x ≡ noted s l (rest_changes old a m)
  unfolding rest_changes pick
  rest_listed h f = let t : eqb (length old - a) m ≡ false = omega tests in rw t f

pub ruleset rest_ways = (rest_kept, rest_listed, rules)

pub all_listed : (lim : Limits) (old head l l₁ l₂ l₃ : List ℕ) (k : Kept) (header : ℕ) (r₁ r₂ r₃ : Listed) → head ≡ header_of_t lim (k.rows + k.scopes) → r₁ & l₁ ≡ noted none l (head_changes lim old head) → header ≡ lim.header
    → r₂ & l₂ ≡ noted r₁ l₁ (rows_changes header old k 0 k.rows) → r₃ & l₃ ≡ noted r₂ l₂ (rest_changes old (header + 16 * k.rows) (16 * k.scopes)) → r₃ & l₃ ≡ noted none l (all_changes lim old k)
unfolding all_changes
all_listed lim old head l l₁ l₂ l₃ k header r₁ r₂ r₃ q e h f g =
    let front = head_changes lim old (header_of_t lim (k.rows + k.scopes)) in
    let rows = rows_changes lim.header old k 0 k.rows in
    let e' : r₁ & l₁ ≡ noted none l front = e ∙ ap (λ (x : List ℕ). noted none l (head_changes lim old x)) q in
    let f' : r₂ & l₂ ≡ noted r₁ l₁ rows = f ∙ ap (λ (n : ℕ). noted r₁ l₁ (rows_changes n old k 0 k.rows)) h in
    let g' : r₃ & l₃ ≡ noted r₂ l₂ (rest_changes old (lim.header + 16 * k.rows) (16 * k.scopes)) = g ∙ ap (λ (n : ℕ). noted r₂ l₂ (rest_changes old (n + 16 * k.rows) (16 * k.scopes))) h in
    g' ∙ noted_more none r₂ l l₂ (front ++ rows) _ (f' ∙ noted_more none r₁ l l₁ front rows e')

module _ (lim : Limits) (old l : List ℕ) (header behind : ℕ) (is-header : header ≡ lim.header) (is-behind : behind ≡ 6 + pick lim.wide 4 2) where
  pub in_short : header < behind → none & l ≡ noted none l (changes_in lim old)
  unfolding changes_in
  in_short h = noted_none none l ∙ ap (noted none l) (yes! _ (omega tests) refl)

  module _ (a : behind ≤ header) where
    pub in_long : 16 < header → none & l ≡ noted none l (changes_in lim old)
    unfolding changes_in
    in_long h = noted_none none l ∙ ap (noted none l) (no! _ (omega tests) (yes! _ (omega tests) refl))

    module _ (b : header ≤ 16) where
      pub in_none : length old < header → none & l ≡ noted none l (changes_in lim old)
      unfolding changes_in
      in_none h = noted_none none l ∙ ap (noted none l) (no! _ (omega tests) (no! _ (omega tests) (yes! _ (omega tests) refl)))

      module _ (c : header ≤ length old) (k : Kept) (is : k ≡ kept_in (take (length old - header) (drop header old))) where
        kept_is : k ≡ kept_in (drop lim.header old)
        kept_is = is ∙ (ap kept_in (take_all (length old - header) (drop header old) (simp length-drop (omega arith))) ∙ ap (λ (n : ℕ). kept_in (drop n old)) is-header)

        pub in_many : 16383 < k.rows → none & l ≡ noted none l (changes_in lim old)
        unfolding changes_in
        in_many h = noted_none none l ∙ ap (noted none l) (rw (← kept_is) (no! _ (omega tests) (no! _ (omega tests) (no! _ (omega tests) (yes! _ (omega tests) refl)))))

        pub in_whole : k.rows ≤ 16383 → {x : Out Listed (List ℕ)} → x ≡ noted none l (all_changes lim old k) → x ≡ noted none l (changes_in lim old)
        unfolding changes_in
        in_whole h e = e ∙ ap (noted none l) (rw (← kept_is) (no! _ (omega tests) (no! _ (omega tests) (no! _ (omega tests) (no! _ (omega tests) refl)))))

pub ruleset in_ways = (in_short, in_long, in_none, in_many, in_whole, rules)
