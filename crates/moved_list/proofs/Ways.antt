-- The ways through the code.
use Rattle.std.specs.Prelude.{Option, Some, None}
use mathlib.Core.Path.{◌≡◌, refl, sym, ap, ◌∙◌}
use mathlib.Core.Bool.{Bool, true, false, ◌||◌}
use mathlib.Core.Logic.{◌⊎◌, inl, inr}
use mathlib.Core.List.{List, [], ◌∷◌, ◌++◌, append-nil, append_assoc}
use native.Mathlib.Omega.{arith}
use native.Mathlib.Nat.{add-zero}
use Prim.Native.Nat.{ℕ, max, ◌+◌, ◌*◌, ◌-◌, ◌≤◌, ◌<◌}
use borrow.Author.Rules.{rules}
use lib.Dec.{eqb}
use lib.ListN.{length, length-append}
use lib.Seq.{sets}
use Rattle.kit.specs.Pick.{pick}
use Rattle.kit.specs.Out.{Out, ◌&◌}
use Rattle.kit.proofs.Laws.{yes!, no!, left_suc, lt_or_le, sets_append}
use Rattle.rules.specs.Rows.{bytes}
use Rattle.stores.proofs.Laws.{length_word}
use Rattle.row_parts.specs.Parts.{code_at, rows_in}
use Rattle.moving.specs.Moved.{MovedNumber, NoItem}
use Rattle.moving.specs.MovedAnswer.{moved_bytes, apart_bytes}
use Rattle.numbers.specs.Entries.{entry_at}
use Rattle.moved_list.specs.declared.Listed.{Listed}
use Rattle.moved_list.specs.Listing.{behind_from, behind_next, follow, entries_from, entries_in, moved_number, no_item, moved_of, apart_of, listed, none, noted}
use Rattle.numbers.specs.declared.Entry.TheVariants.{Moved, Apart}
use Rattle.numbers.specs.declared.Entry.{Entry}

-- ---- a row of the output in the same scope

pub behind_start : (out : List ℕ) (row rows : ℕ) → rows ≡ rows_in out → behind_from out row (rows - row) ≡ behind_next out row
unfolding behind_next
behind_start out row rows h = rw h

module _ (out : List ℕ) (row rows T : ℕ) (inv : behind_from out row (rows - row) ≡ T) where
  behind_end : rows ≤ row → row ≡ T
  unfolding behind_from
  behind_end h = let e : rows - row ≡ 0 = omega arith in rw e at inv

  module _ (h : row < rows) (c : ℕ) (code : c ≡ code_at out row) (b : Bool) (bound : b ≡ (eqb c 7 || eqb c 8)) where
    step : pick b (row + 1) (behind_from out (row + 1) (rows - (row + 1))) ≡ T
    unfolding behind_from
    step = rw (bound, code) (rw (left_suc row rows h) at inv)

    pub behind_hit : b ≡ true → row + 1 ≡ T
    behind_hit e = yes! _ e refl ∙ step

    pub behind_on : b ≡ false → behind_from out (row + 1) (rows - (row + 1)) ≡ T
    behind_on e = no! _ e refl ∙ step

-- past the last row, which may be above where the search began
module _ (out : List ℕ) (from row rows : ℕ) (h : rows ≡ rows_in out) (inv : behind_from out row (rows - row) ≡ behind_next out from) where
  pub behind_last : rows ≤ row → (from ≤ rows → row ≤ rows) → (m : ℕ) → m ≡ max from rows → m ≡ behind_next out from
  unfolding behind_next behind_from
  behind_last past up m e = by (lt_or_le rows from)
    where
      by : (rows < from) ⊎ (from ≤ rows) → m ≡ behind_next out from
      by (inl lt) = let none : rows_in out - from ≡ 0 = omega (arith, h) in let q : m ≡ from = omega (arith, e) in rw (none, q)
      by (inr le) = let u = up le in let q : m ≡ row = omega (arith, e) in q ∙ behind_end out row rows (behind_next out from) inv past

module _ (out : List ℕ) (at code : ℕ) (b : Bool) (bound : b ≡ (eqb code 7 || eqb code 8)) where
  pub follow_on : b ≡ true → (r : ℕ) → r ≡ behind_next out at → r ≡ follow out at code
  unfolding follow
  follow_on h r e = yes! _ (rw (← bound) h) e

  pub follow_stays : b ≡ false → at ≡ follow out at code
  unfolding follow
  follow_stays h = no! _ (rw (← bound) h) refl

pub ruleset behind_ways = (behind_start, behind_last, behind_hit, behind_on, follow_on, follow_stays, rules)

-- ---- an entry

pub moved_put : (l l₁ l₂ l₃ l₄ : List ℕ) (at z space meant gets : ℕ) → l₁ ≡ sets l at (bytes 4 z) → l₂ ≡ sets l₁ (at + 4) (bytes 4 space) → l₃ ≡ sets l₂ (at + 8) (bytes 4 meant) → l₄ ≡ sets l₃ (at + 12) (bytes 4 gets)
    → l₄ ≡ sets l at (moved_bytes (moved_number z space meant gets ∷ []))
unfolding moved_bytes
moved_put l l₁ l₂ l₃ l₄ at z space meant gets e₁ e₂ e₃ e₄ =
    let p : at + 4 ≡ at + length (bytes 4 z) = omega (arith, length_word z) in
    let q : at + 8 ≡ at + length (bytes 4 z) + length (bytes 4 space) = omega (arith, length_word z, length_word space) in
    let r : at + 12 ≡ at + length (bytes 4 z) + length (bytes 4 space) + length (bytes 4 meant) = omega (arith, length_word z, length_word space, length_word meant) in
    rw (append-nil, e₄, e₃, e₂, e₁, r, q, p, sets_append, sets_append, sets_append)

pub apart_put : (l l₁ l₂ l₃ : List ℕ) (at z space number : ℕ) → l₁ ≡ sets l at (bytes 4 z) → l₂ ≡ sets l₁ (at + 4) (bytes 4 space) → l₃ ≡ sets l₂ (at + 8) (bytes 4 number)
    → l₃ ≡ sets l at (apart_bytes (no_item z space number ∷ []))
unfolding apart_bytes
apart_put l l₁ l₂ l₃ at z space number e₁ e₂ e₃ =
    let p : at + 4 ≡ at + length (bytes 4 z) = omega (arith, length_word z) in
    let q : at + 8 ≡ at + length (bytes 4 z) + length (bytes 4 space) = omega (arith, length_word z, length_word space) in
    rw (append-nil, e₃, e₂, e₁, q, p, sets_append, sets_append)

module _ (s : Listed) (moved apart l : List ℕ) (e : Option Entry) where
  pub noted_moved : (x : Entry) → e ≡ Some x → (z space meant gets : ℕ) → x ≡ Moved z space meant gets → l ≡ sets moved (16 * s.moved) (moved_bytes (moved_number z space meant gets ∷ []))
      → (listed (s.moved + 1) s.apart & l & apart) ≡ noted s moved apart (e ∷ [])
  unfolding noted moved_of apart_of apart_bytes
  noted_moved x q z space meant gets r h = rw (h, q, r, add-zero)

  pub noted_apart : (x : Entry) → e ≡ Some x → (z space number : ℕ) → x ≡ Apart z space number → l ≡ sets apart (12 * s.apart) (apart_bytes (no_item z space number ∷ []))
      → (listed s.moved (s.apart + 1) & moved & l) ≡ noted s moved apart (e ∷ [])
  unfolding noted moved_of apart_of moved_bytes
  noted_apart x q z space number r h = rw (h, q, r, add-zero)

pub noted_nothing : (s : Listed) (moved apart : List ℕ) (e : Option Entry) → e ≡ None → (s & moved & apart) ≡ noted s moved apart (e ∷ [])
unfolding noted moved_of apart_of moved_bytes apart_bytes
noted_nothing s moved apart e q = rw (q, add-zero, add-zero)

pub ruleset put_ways = (moved_put, apart_put, noted_moved, noted_apart, noted_nothing, rules)

-- ---- the rows

pub moved_append : (es fs : List (Option Entry)) → moved_of (es ++ fs) ≡ moved_of es ++ moved_of fs
unfolding moved_of
moved_append [] fs = refl
moved_append (Some (Moved z space meant gets) ∷ es) fs = ap (λ (l : List MovedNumber). moved_number z space meant gets ∷ l) (moved_append es fs)
moved_append (Some (Apart z space number) ∷ es) fs = moved_append es fs
moved_append (None ∷ es) fs = moved_append es fs

pub apart_append : (es fs : List (Option Entry)) → apart_of (es ++ fs) ≡ apart_of es ++ apart_of fs
unfolding apart_of
apart_append [] fs = refl
apart_append (Some (Moved z space meant gets) ∷ es) fs = apart_append es fs
apart_append (Some (Apart z space number) ∷ es) fs = ap (λ (l : List NoItem). no_item z space number ∷ l) (apart_append es fs)
apart_append (None ∷ es) fs = apart_append es fs

moved_bytes_lem : (ms ns : List MovedNumber) → moved_bytes (ms ++ ns) ≡ moved_bytes ms ++ moved_bytes ns
unfolding moved_bytes
moved_bytes_lem [] ns = refl
moved_bytes_lem (m ∷ ms) ns = let own = bytes 4 m.z ++ (bytes 4 m.space ++ (bytes 4 m.meant ++ bytes 4 m.gets)) in ap (λ (l : List ℕ). own ++ l) (moved_bytes_lem ms ns) ∙ sym (append_assoc own (moved_bytes ms) (moved_bytes ns))

apart_bytes_lem : (ms ns : List NoItem) → apart_bytes (ms ++ ns) ≡ apart_bytes ms ++ apart_bytes ns
unfolding apart_bytes
apart_bytes_lem [] ns = refl
apart_bytes_lem (m ∷ ms) ns = let own = bytes 4 m.z ++ (bytes 4 m.space ++ bytes 4 m.number) in ap (λ (l : List ℕ). own ++ l) (apart_bytes_lem ms ns) ∙ sym (append_assoc own (apart_bytes ms) (apart_bytes ns))

-- entries of 16 and of 12 bytes
pub moved_size : (ms : List MovedNumber) → length (moved_bytes ms) ≡ 16 * length ms
unfolding moved_bytes
moved_size [] = refl
moved_size (m ∷ ms) =
    let z = bytes 4 m.z in
    let space = bytes 4 m.space in
    let meant = bytes 4 m.meant in
    let gets = bytes 4 m.gets in
    omega (
      arith,
      length-append (z ++ (space ++ (meant ++ gets))) (moved_bytes ms),
      length-append z (space ++ (meant ++ gets)),
      length-append space (meant ++ gets),
      length-append meant gets,
      length_word m.z,
      length_word m.space,
      length_word m.meant,
      length_word m.gets,
      moved_size ms,
    )

pub apart_size : (ms : List NoItem) → length (apart_bytes ms) ≡ 12 * length ms
unfolding apart_bytes
apart_size [] = refl
apart_size (m ∷ ms) =
    let z = bytes 4 m.z in
    let space = bytes 4 m.space in
    let number = bytes 4 m.number in
    omega (
      arith,
      length-append (z ++ (space ++ number)) (apart_bytes ms),
      length-append z (space ++ number),
      length-append space number,
      length_word m.z,
      length_word m.space,
      length_word m.number,
      apart_size ms,
    )

-- entries behind others
module _ (s r : Listed) (moved apart m a : List ℕ) (es fs : List (Option Entry)) (so_far : (r & m & a) ≡ noted s moved apart es) where
  noted_more : noted r m a fs ≡ noted s moved apart (es ++ fs)
  unfolding noted
  noted_more =
      let counts : r ≡ listed (s.moved + length (moved_of es)) (s.apart + length (apart_of es)) = cc in
      let first : m ≡ sets moved (16 * s.moved) (moved_bytes (moved_of es)) = cc in
      let second : a ≡ sets apart (12 * s.apart) (apart_bytes (apart_of es)) = cc in
      let n = length (moved_of es) in
      let k = length (apart_of es) in
      let at : 16 * (s.moved + n) ≡ 16 * s.moved + length (moved_bytes (moved_of es)) = omega (arith, moved_size (moved_of es)) in
      let to : 12 * (s.apart + k) ≡ 12 * s.apart + length (apart_bytes (apart_of es)) = omega (arith, apart_size (apart_of es)) in
      let more : s.moved + length (moved_of es ++ moved_of fs) ≡ s.moved + n + length (moved_of fs) = omega (arith, length-append (moved_of es) (moved_of fs)) in
      let further : s.apart + length (apart_of es ++ apart_of fs) ≡ s.apart + k + length (apart_of fs) = omega (arith, length-append (apart_of es) (apart_of fs)) in
      rw (counts, first, second, moved_append, apart_append, moved_bytes_lem, apart_bytes_lem, more, further, at, to, sets_append, sets_append)

pub list_start : (form out moved apart : List ℕ) (rows : ℕ) → rows ≡ rows_in form
    → noted none moved apart (entries_from form out 0 (rows - 0) 0) ≡ noted none moved apart (entries_in form out)
unfolding entries_in
list_start form out moved apart rows h = let z : rows - 0 ≡ rows = omega arith in rw (z, h)

module _ (form out moved apart : List ℕ) (s : Listed) (row rows at : ℕ) (T : Out Listed (Out (List ℕ) (List ℕ))) (inv : noted s moved apart (entries_from form out row (rows - row) at) ≡ T) where
  pub list_end : rows ≤ row → (s & moved & apart) ≡ T
  unfolding entries_from noted moved_of apart_of moved_bytes apart_bytes
  list_end h = let e : rows - row ≡ 0 = omega arith in (rw (e, add-zero, add-zero) at inv)

  pub list_turn : row < rows → (c here : ℕ) → c ≡ code_at form row → here ≡ follow out at c → (e : Option Entry) → e ≡ entry_at form row out here → (r : Listed) (m a : List ℕ)
      → (r & m & a) ≡ noted s moved apart (e ∷ []) → noted r m a (entries_from form out (row + 1) (rows - (row + 1)) here) ≡ T
  unfolding entries_from
  list_turn h c here hc hh e he r m a w =
      noted_more s r moved apart m a (e ∷ []) (entries_from form out (row + 1) (rows - (row + 1)) here) w
      ∙ rw (he, hh, hc) (rw (left_suc row rows h) at inv)

pub ruleset list_ways = (list_start, list_end, rules)
