-- Each way through the code finds what its twin finds.
use Rattle.std.proofs.Common.{◌≡◌, ℕ, zero, suc, ◌+◌, ◌-◌, ◌*◌, ◌/◌, ◌%◌, ◌<◌, ◌≤◌, Bool, true, false, not, ◌&&◌, eqb, ltb, List, [], ◌∷◌, length, get_or, take, drop, sym, refl, ap, ◌∙◌, add-zero, arith, rules, ltb-false, le-ltb, lt-ltb, eq-eqb, ne_eqb}
use lib.Seq.{sets}
use borrow.Author.Tests.{not-true, not-false}
use Rattle.kit.specs.Pick.{pick}
use Rattle.kit.specs.Out.{Out, ◌&◌}
use Rattle.kit.proofs.Laws.{down, left_suc}
use Rattle.parts.specs.PartsAt.{parts_at}
use Rattle.parts.specs.declared.Parts.{Parts}
use Rattle.rows.specs.declared.row.Index.TheVariants.{Name}
use Rattle.rows.specs.declared.row.Row.{Row}
use Rattle.rows.specs.declared.row.Row.TheVariants.{Ref, Path}
use Rattle.put.specs.Put.{put_row, copy_row, row_bytes}
use Rattle.back_notes.specs.Note.{Note, no_note, Noted, row_at}
use Rattle.back_rows.specs.Below.{below, nth}
use Rattle.back_rows.specs.Alias.{no_parts, no_alias_t, note_of, alias_of_t, alias_before_t, for_t, is_linked_t}
use Rattle.back_rows.specs.Restore.{Wrote, put_bytes, put_back_t, wrote_then, Rest, rest, rested_at, leaves, begin_t, path_t, restore_ref_t}
use Rattle.back_rows.specs.Write.{field_before_t, before_field, left_out_t, Going, going, cursor_at, start_t, goes, goes_on, served_t, back_ref_t, back_row_t, goes_then, write_back_t}
use Rattle.back_rows.specs.declared.alias.Alias.{Alias}
use Rattle.back_rows.specs.declared.restore.Restored.{Restored}
use Rattle.back_rows.specs.declared.write.Cursor.{Cursor}

abbrev left_of : {A B : Type 0} → Out A B → B
left_of (a & b) = b

-- ---- the rows before a row

pub below_there : (rows : List ℕ) (noted : List Note) (end : ℕ) → 0 < end → below rows noted end ≡ row_at rows noted (end - 1) ∷ below rows noted (end - 1)
unfolding below
below_there rows noted zero h = absurd (omega arith)
below_there rows noted (suc k) h = let e : suc k - 1 ≡ k = omega arith in rw e

pub below_length : (rows : List ℕ) (noted : List Note) (end : ℕ) → length (below rows noted end) ≡ end
unfolding below
below_length rows noted zero = refl
below_length rows noted (suc k) = ap suc (below_length rows noted k)

pub below_drop : (rows : List ℕ) (noted : List Note) (end k : ℕ) → k ≤ end → drop k (below rows noted end) ≡ below rows noted (end - k)
unfolding below
below_drop rows noted end zero h = let e : end - 0 ≡ end = omega arith in rw e
below_drop rows noted zero (suc k) h = absurd (omega arith)
below_drop rows noted (suc end) (suc k) h = let e : suc end - suc k ≡ end - k = omega arith in rw e (below_drop rows noted end k (omega arith))

pub nth_below : (rows : List ℕ) (noted : List Note) (end k : ℕ) → k < end → nth (below rows noted end) k ≡ row_at rows noted (end - 1 - k)
unfolding below
nth_below rows noted zero k h = absurd (omega arith)
nth_below rows noted (suc end) zero h = let e : suc end - 1 - 0 ≡ end = omega arith in rw e
nth_below rows noted (suc end) (suc k) h = let e : suc end - 1 - suc k ≡ end - 1 - k = omega arith in rw e (nth_below rows noted end k (omega arith))

-- ---- no_alias, alias_of, alias_before

pub none_is : (end : ℕ) (p : Parts) → p ≡ no_parts → record { size = 0; start = end; field = p; decl = p; number = 0; operand = p; value = 0 } ≡ no_alias_t end
none_is end p e = rw e

from_end : (end size start k j : ℕ) → k ≡ suc j → k ≤ size → size ≤ end → start ≡ end - size → end - 1 - (size - k) ≡ start + j
from_end end size start k j e t l s = let a : start + (size - k + suc j) ≡ end = omega arith in go (size - k) a
  where
    go : (m : ℕ) → start + (m + suc j) ≡ end → end - 1 - m ≡ start + j
    go m a = omega arith

within : (size k end : ℕ) → 1 ≤ k → k ≤ size → size ≤ end → size - k < end
within size k end a b c = omega arith

module _ (rows : List ℕ) (noted : List Note) (end size value start : ℕ) (t : 3 ≤ size) (l : size ≤ end) (s : start ≡ end - size) (d : Parts) (e : d ≡ parts_at rows (start + 1)) where
  decl_below : (nth (below rows noted end) (size - 2)).parts ≡ d
  unfolding row_at
  decl_below = let i = from_end end size start 2 1 refl (omega arith) l s in rw (nth_below rows noted end (size - 2) (within size 2 end (omega arith) (omega arith) l), i, e)

  pub made_other : (d.code ≡ 2 → ⊥) → (a : Alias) → a ≡ no_alias_t end → a ≡ alias_of_t size value (below rows noted end)
  unfolding alias_of_t pick
  made_other h a q = rw (decl_below, ne_eqb _ _ h, below_length) q

  module _ (h : d.code ≡ 2) where
    pub made_low : d.x < 2147483648 → (a : Alias) → a ≡ no_alias_t end → a ≡ alias_of_t size value (below rows noted end)
    unfolding alias_of_t pick
    made_low g a q = rw (decl_below, eq-eqb _ _ h, lt-ltb _ _ g, below_length) q

    pub made_is : 2147483648 ≤ d.x → (f : Parts) → f ≡ parts_at rows start → (n : Note) → n ≡ get_or noted (start + 1) no_note → (o : Parts) → o ≡ parts_at rows (start + 2)
        → record { size = size; start = start; field = f; decl = d; number = get_or n 0 0; operand = o; value = value } ≡ alias_of_t size value (below rows noted end)
    unfolding alias_of_t row_at pick
    made_is g f u n v o w =
        let i = from_end end size start 2 1 refl (omega arith) l s in
        let j = from_end end size start 1 0 refl (omega arith) l s ∙ add-zero start in
        let k = from_end end size start 3 2 refl t l s in
        let b1 = within size 1 end (omega arith) (omega arith) l in
        let b2 = within size 2 end (omega arith) (omega arith) l in
        let b3 = within size 3 end (omega arith) t l in
        rw (
          decl_below,
          eq-eqb _ _ h,
          le-ltb _ _ g,
          below_length,
          nth_below rows noted end (size - 1) b1,
          nth_below rows noted end (size - 2) b2,
          nth_below rows noted end (size - 3) b3,
          i,
          j,
          k,
          ← s,
          ← u,
          ← v,
          ← w,
        )

pub ruleset making = (made_other, made_low, made_is, rules)

module _ (rows : List ℕ) (noted : List Note) (end : ℕ) (a : Alias) where
  pub before_short : end < 4 → a ≡ no_alias_t end → a ≡ alias_before_t (below rows noted end)
  unfolding alias_before_t pick
  before_short h q = rw (below_length rows noted end, lt-ltb _ _ h) q

  module _ (h : 4 ≤ end) (p : Parts) (e : p ≡ parts_at rows (end - 1)) where
    last_below_lem : nth (below rows noted end) 0 ≡ row_at rows noted (end - 1)
    last_below_lem = let i : end - 1 - 0 ≡ end - 1 = omega arith in rw (nth_below rows noted end 0 (omega arith), i)

    pub before_export : p.code ≡ 9 → a ≡ alias_of_t 4 p.x (below rows noted end) → a ≡ alias_before_t (below rows noted end)
    unfolding alias_before_t row_at pick
    before_export g q = rw (below_length rows noted end, le-ltb _ _ h, last_below_lem, ← e, eq-eqb _ _ g) q

    module _ (g : p.code ≡ 9 → ⊥) where
      pub before_outer : p.code ≡ 5 → (n : Note) → n ≡ get_or noted (end - 1) no_note → a ≡ alias_of_t 3 (get_or n 0 0) (below rows noted end) → a ≡ alias_before_t (below rows noted end)
      unfolding alias_before_t row_at pick
      before_outer k n m q = rw (below_length rows noted end, le-ltb _ _ h, last_below_lem, ← e, ne_eqb _ _ g, eq-eqb _ _ k, ← m) q

      pub before_other : (p.code ≡ 5 → ⊥) → a ≡ no_alias_t end → a ≡ alias_before_t (below rows noted end)
      unfolding alias_before_t row_at pick
      before_other k q = rw (below_length rows noted end, le-ltb _ _ h, last_below_lem, ← e, ne_eqb _ _ g, ne_eqb _ _ k) q

pub ruleset seeing = (before_short, before_export, before_outer, before_other, rules)

-- it ends where the rows that were looked at end

abbrev Ends : ℕ → Alias → Type 0
Ends end a = a.start ≡ end - a.size

ends_pick : (end : ℕ) (t : Bool) (a b : Alias) → Ends end a → Ends end b → Ends end (pick t a b)
unfolding pick
ends_pick end true a b p q = p
ends_pick end false a b p q = q

none_ends : (end : ℕ) → Ends end (no_alias_t end)
none_ends end = omega arith

made_ends : (size value : ℕ) (l : List Noted) → Ends (length l) (alias_of_t size value l)
unfolding alias_of_t
made_ends size value l = ends_pick (length l) _ _ _ (ends_pick (length l) _ _ _ (none_ends (length l)) refl) (none_ends (length l))

alias_ends : (l : List Noted) → Ends (length l) (alias_before_t l)
unfolding alias_before_t
alias_ends l =
    ends_pick (length l) _ _ _ (none_ends (length l))
    (ends_pick (length l) _ _ _ (made_ends 4 _ l) (ends_pick (length l) _ _ _ (made_ends 3 _ l) (none_ends (length l))))

abbrev Small : ℕ → Alias → Type 0
Small end a = a.size ≤ end

small_pick : (end : ℕ) (t : Bool) (a b : Alias) → Small end a → Small end b → Small end (pick t a b)
unfolding pick
small_pick end true a b p q = p
small_pick end false a b p q = q

none_small : (end : ℕ) → Small end (no_alias_t end)
none_small end = omega arith

made_small : (size value : ℕ) (l : List Noted) → size ≤ length l → Small (length l) (alias_of_t size value l)
unfolding alias_of_t
made_small size value l h = small_pick (length l) _ _ _ (small_pick (length l) _ _ _ (none_small (length l)) h) (none_small (length l))

alias_small : (l : List Noted) → Small (length l) (alias_before_t l)
unfolding alias_before_t pick
alias_small l = go (ltb (length l) 4) refl
  where
    go : (t : Bool) → ltb (length l) 4 ≡ t
        → Small (length l) (pick t (no_alias_t (length l)) (pick (eqb (nth l 0).parts.code 9) (alias_of_t 4 (nth l 0).parts.x l) (pick (eqb (nth l 0).parts.code 5) (alias_of_t 3 (note_of (nth l 0)) l) (no_alias_t (length l)))))
    go true e = none_small (length l)
    go false e =
        let h : 4 ≤ length l = ltb-false (length l) 4 e in
        let three : 3 ≤ length l = omega arith in
        small_pick (length l) (eqb (nth l 0).parts.code 9) _ _ (made_small 4 (nth l 0).parts.x l h)
        (small_pick (length l) (eqb (nth l 0).parts.code 5) _ _ (made_small 3 (note_of (nth l 0)) l three) (none_small (length l)))

pub rest_below : (rows : List ℕ) (noted : List Note) (end : ℕ) (a : Alias) → a ≡ alias_before_t (below rows noted end) → below rows noted a.start ≡ drop a.size (below rows noted end)
rest_below rows noted end a e =
    let n = below_length rows noted end in
    let s = alias_ends (below rows noted end) in
    let t = alias_small (below rows noted end) in
    let i : a.start ≡ end - a.size = rw e (s ∙ rw n) in
    let z : a.size ≡ (alias_before_t (below rows noted end)).size = ap (λ (x : Alias). x.size) e in
    let j : a.size ≤ end = omega (arith, t, n, z) in
    rw i (sym (below_drop rows noted end a.size j))

-- ---- put_back, copy_back

module _ (to : ℕ) (out : List ℕ) where
  pub back_full : (bs : List ℕ) → to ≡ 0 → (0 & out) ≡ put_bytes bs to out
  unfolding put_bytes pick
  back_full bs h = rw (eq-eqb _ _ h)

  pub back_put : (row : Row) (r : ℕ) (out' : List ℕ) → (to ≡ 0 → ⊥) → (r & out') ≡ put_row out (to - 1) row → (to - 1 & out') ≡ put_back_t row to out
  unfolding put_bytes put_row pick
  back_put row r out' h e = go (ltb (to - 1) (length out / 16)) e
    where
      go : (t : Bool) → (r & out') ≡ pick t (to - 1 + 1 & sets out (16 * (to - 1)) (row_bytes row)) (to - 1 & out) → (to - 1 & out') ≡ pick (eqb to 0) (0 & out) (to - 1 & pick t (sets out (16 * (to - 1)) (row_bytes row)) out)
      go true e = rw (ne_eqb _ _ h, ← ap left_of e)
      go false e = rw (ne_eqb _ _ h, ← ap left_of e)

  pub back_copy : (rows : List ℕ) (i r : ℕ) (out' : List ℕ) → (to ≡ 0 → ⊥) → i < length rows / 16 → (r & out') ≡ copy_row rows i out (to - 1) → (to - 1 & out') ≡ put_bytes (take 16 (drop (16 * i) rows)) to out
  unfolding put_bytes copy_row pick
  back_copy rows i r out' h g e = go (ltb (to - 1) (length out / 16)) (rw (lt-ltb _ _ g) at e)
    where
      go : (t : Bool) → (r & out') ≡ pick t (to - 1 + 1 & sets out (16 * (to - 1)) (take 16 (drop (16 * i) rows))) (to - 1 & out) → (to - 1 & out') ≡ pick (eqb to 0) (0 & out) (to - 1 & pick t (sets out (16 * (to - 1)) (take 16 (drop (16 * i) rows))) out)
      go true e = rw (ne_eqb _ _ h, ← ap left_of e)
      go false e = rw (ne_eqb _ _ h, ← ap left_of e)

pub ruleset putting = (back_full, back_put, back_copy, rules)

-- ---- restore_path, restore

module _ (rows : List ℕ) (noted : List Note) (last first : Alias) (count at : ℕ) (out : List ℕ) (i n : ℕ) (T : Out Rest (List ℕ))
    (inv : path_t (n - i) last first (below rows noted first.start) count at out ≡ T) (r : ℕ) (out' : List ℕ) where
  pub path_ends : n ≤ i → (r & out') ≡ begin_t last first count at out → (rest r (below rows noted first.start) & out') ≡ T
  unfolding path_t leaves
  path_ends h e = let z : n - i ≡ 0 = omega arith in rw (z, ← e) at inv

  module _ (h : i < n) (a : Alias) (q : a ≡ alias_before_t (below rows noted first.start)) (b : Bool) (l : b ≡ is_linked_t a first) where
    pub path_stops : not b ≡ true → (r & out') ≡ begin_t last first count at out → (rest r (below rows noted first.start) & out') ≡ T
    unfolding path_t leaves pick
    path_stops g e =
        let f : is_linked_t (alias_before_t (below rows noted first.start)) first ≡ false = rw (← q) (sym l ∙ not-true b g) in
        rw (left_suc i n h, f, ← e) at inv

    pub path_goes : not b ≡ false → (r & out') ≡ put_back_t (Path a.value) at out → (count' : ℕ) → count' ≡ (count + 1) % 4294967296 → path_t (n - (i + 1)) last a (below rows noted a.start) count' r out' ≡ T
    unfolding path_t wrote_then pick
    path_goes g e count' k =
        let f : is_linked_t (alias_before_t (below rows noted first.start)) first ≡ true = rw (← q) (sym l ∙ not-false b g) in
        rw (rest_below rows noted first.start a q, k) (rw (left_suc i n h, f, ← q, ← e) at inv)

pub path_starts : (rows : List ℕ) (noted : List Note) (last first : Alias) (count at n : ℕ) (out : List ℕ) → path_t (n - 0) last first (below rows noted first.start) count at out ≡ path_t n last first (below rows noted first.start) count at out
path_starts rows noted last first count at n out = let z : n - 0 ≡ n = omega arith in rw z

pub ruleset pathing = (path_starts, path_ends, path_stops, path_goes, rules)

module _ (rows : List ℕ) (noted : List Note) (a : Alias) (to : ℕ) (out : List ℕ) where
  pub restores_name : a.operand.code ≡ 5 → (r : ℕ) (out' : List ℕ) → (r & out') ≡ put_back_t (Ref a.operand.b (Name a.value) 0 a.operand.z) to out
      → (rest r (below rows noted a.start) & out') ≡ restore_ref_t a (below rows noted a.start) to out
  unfolding restore_ref_t leaves pick
  restores_name h r out' e = rw (eq-eqb _ _ h, ← e)

  pub restores_path : (a.operand.code ≡ 5 → ⊥) → (r : ℕ) (out' : List ℕ) → (r & out') ≡ put_back_t (Path a.value) to out → (R : Rest) (out'' : List ℕ)
      → (R & out'') ≡ path_t a.start a a (below rows noted a.start) 1 r out' → (R & out'') ≡ restore_ref_t a (below rows noted a.start) to out
  unfolding restore_ref_t wrote_then pick
  restores_path h r out' e R out'' f = rw (ne_eqb _ _ h, ← e) f

pub ruleset restoring = (restores_name, restores_path, rules)

-- ---- field_before, left_for, left_out

module _ (rows : List ℕ) (k T : ℕ) (inv : field_before_t rows k ≡ T) where
  pub field_none : k ≤ 0 → 0 ≡ T
  unfolding field_before_t
  field_none h = let z : k ≡ 0 = omega arith in rw z at inv

  module _ (h : 0 < k) (p : Parts) (e : p ≡ parts_at rows (k - 1)) where
    pub field_found : p.code ≡ 1 → k - 1 ≡ T
    unfolding field_before_t pick
    field_found g = rw (down k h, ← e, eq-eqb _ _ g) at inv

    pub field_turn : (p.code ≡ 1 → ⊥) → field_before_t rows (k - 1) ≡ T
    unfolding field_before_t pick
    field_turn g = rw (down k h, ← e, ne_eqb _ _ g) at inv

pub ruleset fielding = (field_none, field_found, field_turn, rules)

pub left_inside : (inside : Bool) (next f : ℕ) → inside ≡ true → next ≡ pick inside next f
unfolding pick
left_inside inside next f h = rw h

pub left_first : (inside : Bool) (next f r : ℕ) → inside ≡ false → r ≡ f → r ≡ pick inside next f
unfolding pick
left_first inside next f r h e = rw h e

field_below : (rows : List ℕ) (noted : List Note) (i : ℕ) → below rows noted (field_before_t rows i) ≡ before_field (below rows noted i)
unfolding below field_before_t before_field row_at pick
field_below rows noted zero = refl
field_below rows noted (suc k) = go (eqb (parts_at rows k).code 1) (field_below rows noted k)
  where
    go : (t : Bool) → below rows noted (field_before_t rows k) ≡ before_field (below rows noted k) → below rows noted (pick t k (field_before_t rows k)) ≡ pick t (below rows noted k) (before_field (below rows noted k))
    go true e = refl
    go false e = e

left_below : (rows : List ℕ) (noted : List Note) (i next : ℕ) (inside : Bool) → below rows noted (pick inside next (field_before_t rows i)) ≡ pick inside (below rows noted next) (before_field (below rows noted i))
unfolding pick
left_below rows noted i next true = refl
left_below rows noted i next false = field_below rows noted i

pub out_skip : (skip : ℕ) (l : List Noted) → 0 < skip → skip ≡ left_out_t skip l
unfolding left_out_t pick
out_skip skip l h = rw (lt-ltb _ _ h)

pub out_alias : (skip : ℕ) (l : List Noted) → skip ≤ 0 → (a : Alias) → a ≡ alias_before_t l → a.size ≡ left_out_t skip l
unfolding left_out_t pick
out_alias skip l h a e = rw (le-ltb _ _ h, e)

pub ruleset leaving = (left_inside, left_first, out_skip, out_alias, rules)

-- ---- back_ref, back_row, write_back

parts_are : (rows : List ℕ) (noted : List Note) (i : ℕ) (p : Parts) → p ≡ parts_at rows i → (row_at rows noted i).parts ≡ p
unfolding row_at
parts_are rows noted i p k = sym k

module _ (rows : List ℕ) (noted : List Note) (i : ℕ) (p : Parts) (out : List ℕ) (c : Cursor) (k : p ≡ parts_at rows i)
    (next : ℕ) (n : next ≡ pick c.inside c.next (field_before_t rows i)) (a : Alias) (q : a ≡ alias_before_t (below rows noted next)) (b : Bool) (f : b ≡ for_t a p) where
  same_parts_lem : (row_at rows noted i).parts ≡ p
  same_parts_lem = parts_are rows noted i p k

  list : below rows noted next ≡ pick c.inside (below rows noted c.next) (before_field (below rows noted i))
  list = rw n (left_below rows noted i c.next c.inside)

  pub ref_restored : b ≡ true → (r : Restored) (out' : List ℕ) → (rested_at rows noted r & out') ≡ restore_ref_t a (below rows noted a.start) c.to out
      → (going 0 true (below rows noted r.next) r.to & out') ≡ back_ref_t (row_at rows noted i) (below rows noted i) (cursor_at rows noted c) out
  unfolding back_ref_t served_t goes pick
  ref_restored t r out' e = rw (← list, ← q, same_parts_lem, ← f, t, ← rest_below rows noted next a q, ← e)

  pub ref_stays : b ≡ false → (r : ℕ) (out' : List ℕ) → (r & out') ≡ put_bytes (take 16 (drop (16 * i) rows)) c.to out
      → (going 0 true (below rows noted next) r & out') ≡ back_ref_t (row_at rows noted i) (below rows noted i) (cursor_at rows noted c) out
  unfolding back_ref_t served_t goes_on pick
  ref_stays t r out' e =
      let is : for_t (alias_before_t (below rows noted next)) (row_at rows noted i).parts ≡ false = rw (← q, same_parts_lem, ← f) t in
      let copied : put_bytes (row_at rows noted i).bytes c.to out ≡ (r & out') = unfold row_at in sym e in
      rw (← list, is, copied)

pub ruleset referring = (ref_restored, ref_stays, rules)

module _ (rows : List ℕ) (noted : List Note) (i : ℕ) (out : List ℕ) (c : Cursor) (skip : ℕ) (s : skip ≡ left_out_t c.skip (below rows noted (i + 1))) where
  here : skip ≡ left_out_t c.skip (row_at rows noted i ∷ below rows noted i)
  here = let e : i + 1 - 1 ≡ i = omega arith in rw (below_there rows noted (i + 1) (omega arith), e) at s

  pub row_skipped : 0 < skip → (going (skip - 1) c.inside (below rows noted c.next) c.to & out) ≡ back_row_t (row_at rows noted i) (below rows noted i) (cursor_at rows noted c) out
  unfolding back_row_t pick
  row_skipped h = rw (← here, lt-ltb _ _ h)

  module _ (h : skip ≤ 0) (p : Parts) (k : p ≡ parts_at rows i) where
    pub row_referred : p.code ≡ 3 → (C : Going) (out' : List ℕ) → (C & out') ≡ back_ref_t (row_at rows noted i) (below rows noted i) (cursor_at rows noted c) out
        → (C & out') ≡ back_row_t (row_at rows noted i) (below rows noted i) (cursor_at rows noted c) out
    unfolding back_row_t pick
    row_referred g C out' e =
        let is : eqb (row_at rows noted i).parts.code 3 ≡ true = rw (parts_are rows noted i p k) (eq-eqb _ _ g) in
        rw (← here, le-ltb _ _ h, is) e

    pub row_copied : (p.code ≡ 3 → ⊥) → (r : ℕ) (out' : List ℕ) → (r & out') ≡ put_bytes (take 16 (drop (16 * i) rows)) c.to out
        → (going 0 (c.inside && not (eqb p.code 1)) (below rows noted c.next) r & out') ≡ back_row_t (row_at rows noted i) (below rows noted i) (cursor_at rows noted c) out
    unfolding back_row_t goes_on row_at pick
    row_copied g r out' e = rw (← here, le-ltb _ _ h, ← k, ne_eqb _ _ g, ← e)

pub ruleset rowing = (row_skipped, row_referred, row_copied, rules)

module _ (rows : List ℕ) (noted : List Note) (i : ℕ) (out : List ℕ) (c : Cursor) (T : Wrote) (inv : write_back_t (below rows noted i) (cursor_at rows noted c) out ≡ T) where
  pub back_ends : i ≤ 0 → (c.to & out) ≡ T
  unfolding write_back_t below
  back_ends h = let z : i ≡ 0 = omega arith in rw z at inv

  pub back_goes : 0 < i → (c' : Cursor) (out' : List ℕ) → (cursor_at rows noted c' & out') ≡ back_row_t (row_at rows noted (i - 1)) (below rows noted (i - 1)) (cursor_at rows noted c) out
      → write_back_t (below rows noted (i - 1)) (cursor_at rows noted c') out' ≡ T
  unfolding write_back_t goes_then
  back_goes h c' out' e = rw (below_there rows noted i h, ← e) at inv

pub back_starts : (rows : List ℕ) (noted : List Note) (to i : ℕ) (out : List ℕ) → write_back_t (below rows noted i) (cursor_at rows noted (record { skip = 0; inside = false; next = 0; to = to })) out ≡ write_back_t (below rows noted i) (start_t to) out
unfolding below
back_starts rows noted to i out = refl

pub ruleset backing = (back_starts, back_ends, back_goes, rules)
