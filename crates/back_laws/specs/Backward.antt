-- Rows gone through from the last to the first: what is copied, what is left out, and the operands of a field.
use Rattle.std.specs.Prelude.{◌≡◌, Bool, true, ◌&&◌, ℕ, zero, suc, ◌+◌, ◌-◌, ◌<◌, ◌≤◌, eqb, ltb, length, drop}
use Rattle.std.proofs.Math.Path.{refl}
use Rattle.std.proofs.Common.{sym, ap, ◌∙◌, arith}
use Rattle.std.proofs.Math.Bool.{false, not}
use mathlib.Core.List.{List, [], ◌∷◌, ◌++◌, map, reverse_aux, reverse, reverse-cons, reverse-append}
use borrow.Author.Tests.{lt-ltb, eq-eqb, ne_eqb, eqb-true}
use Rattle.kit.specs.Pick.{pick}
use Rattle.kit.specs.Out.{Out, ◌&◌}
use Rattle.rules.specs.Rows.{Row, encode_row}
use Rattle.rules.specs.Laws.ToolLaws.{and-false, All, done, ◌&◌ as ◌also◌}
use Rattle.claim_laws.specs.RowParts.{as_parts, code_in}
use Rattle.back_notes.specs.Note.{Note, Noted}
use Rattle.back_rows.specs.Below.{nth}
use Rattle.back_rows.specs.Alias.{no_alias_t, note_of, alias_of_t, alias_before_t}
use Rattle.back_rows.specs.Restore.{Wrote, put_bytes, wrote_then, Rest, leaves, restore_ref_t}
use Rattle.back_rows.specs.Write.{before_field, left_out_t, Going, going, goes, goes_on, served_t, back_ref_t, back_row_t, goes_then, write_back_t}
use Rattle.back_rows.specs.declared.alias.Alias.{Alias}
use Rattle.back_laws.specs.Stand.{with, with_notes}
use Rattle.back_laws.specs.Restored.{put_one, put_rows, then_is, then_same}

-- ---- what is done with rows, in the middle of a field and at the end of one

abbrev pub After : List Noted → (Wrote → Wrote) → Type 0
After l k = (inside : Bool) (left : List Noted) (to : ℕ) (out : List ℕ) → write_back_t l (going 0 inside left to) out ≡ k (to & out)

abbrev pub Ends : List Noted → (Wrote → Wrote) → Type 0
Ends l k = (left : List Noted) (to : ℕ) (out : List ℕ) → write_back_t l (going 0 false left to) out ≡ k (to & out)

pub done_all : After [] (λ w. w)
unfolding write_back_t
done_all inside left to out = refl

-- ---- a row that ends no inserted field

abbrev pub Own : List Noted → Type 0
Own l = (alias_before_t l).size ≡ 0

by_code_lem : (l : List Noted) → ((nth l 0).parts.code ≡ 9 → ⊥) → ((nth l 0).parts.code ≡ 5 → ⊥) → Own l
unfolding alias_before_t pick
by_code_lem l a b = rw (ne_eqb _ _ a, ne_eqb _ _ b) (go (ltb (length l) 4))
  where
    go : (t : Bool) → (pick t (no_alias_t (length l)) (no_alias_t (length l))).size ≡ 0
    go true = refl
    go false = refl

pub own_row : (r : Row) (n : Note) (rest : List Noted) → (code_in r ≡ 9 → ⊥) → (code_in r ≡ 5 → ⊥) → Own (with r n ∷ rest)
own_row r n rest a b = by_code_lem (with r n ∷ rest) a b

-- ---- one row

module _ (r : Noted) (rs : List Noted) (own : Own (r ∷ rs)) where
  stays : left_out_t 0 (r ∷ rs) ≡ 0
  unfolding left_out_t pick
  stays = own

  pub copied : (r.parts.code ≡ 3 → ⊥) → (inside : Bool) (left : List Noted) (to : ℕ) (out : List ℕ)
      → write_back_t (r ∷ rs) (going 0 inside left to) out ≡ wrote_then (put_bytes r.bytes to out) (λ to' out'. write_back_t rs (going 0 (inside && not (eqb r.parts.code 1)) left to') out')
  unfolding write_back_t back_row_t pick
  copied c inside left to out = rw (stays, ne_eqb _ _ c) (go (put_bytes r.bytes to out))
    where
      go : (w : Wrote) → goes_then (goes_on (inside && not (eqb r.parts.code 1)) left w) (λ c' out'. write_back_t rs c' out') ≡ wrote_then w (λ to' out'. write_back_t rs (going 0 (inside && not (eqb r.parts.code 1)) left to') out')
      go (to' & out') = unfold goes_on goes_then wrote_then in refl

  pub referred : r.parts.code ≡ 3 → (inside : Bool) (left : List Noted) (to : ℕ) (out : List ℕ)
      → write_back_t (r ∷ rs) (going 0 inside left to) out ≡ goes_then (served_t r (pick inside left (before_field rs)) to out) (λ c' out'. write_back_t rs c' out')
  unfolding write_back_t back_row_t back_ref_t pick
  referred c inside left to out = rw (stays, eq-eqb _ _ c)

-- ---- rows that are copied

-- what is done with the rows before is done with what was written
pub then_after : (l : List Noted) (k : Wrote → Wrote) (inside : Bool) (left : List Noted) (w : Wrote) → After l k → wrote_then w (λ to out. write_back_t l (going 0 inside left to) out) ≡ k w
then_after l k inside left w a = then_same w _ (λ to out. k (to & out)) (λ to out. a inside left to out) ∙ then_is w k

then_ends : (l : List Noted) (k : Wrote → Wrote) (left : List Noted) (w : Wrote) → Ends l k → wrote_then w (λ to out. write_back_t l (going 0 false left to) out) ≡ k w
then_ends l k left w a = then_same w _ (λ to out. k (to & out)) (λ to out. a left to out) ∙ then_is w k

pub put_copied : (r : Row) (to : ℕ) (out : List ℕ) → put_bytes (encode_row r) to out ≡ put_one r (to & out)
unfolding put_one
put_copied r to out = refl

pub copy_after : (r : Row) (n : Note) (rest : List Noted) (k : Wrote → Wrote) → Own (with r n ∷ rest) → (code_in r ≡ 3 → ⊥) → After rest k → After (with r n ∷ rest) (λ w. k (put_one r w))
copy_after r n rest k own c a inside left to out =
    copied (with r n) rest own c inside left to out ∙ then_after rest k (inside && not (eqb (code_in r) 1)) left (put_bytes (encode_row r) to out) a ∙ ap k (put_copied r to out)

pub copy_ends : (r : Row) (n : Note) (rest : List Noted) (k : Wrote → Wrote) → Own (with r n ∷ rest) → (code_in r ≡ 3 → ⊥) → Ends rest k → Ends (with r n ∷ rest) (λ w. k (put_one r w))
copy_ends r n rest k own c a left to out =
    copied (with r n) rest own c false left to out ∙ then_ends rest k left (put_bytes (encode_row r) to out) a ∙ ap k (put_copied r to out)

-- a FIELD ends its field
pub field_after : (r : Row) (n : Note) (rest : List Noted) (k : Wrote → Wrote) → code_in r ≡ 1 → Ends rest k → After (with r n ∷ rest) (λ w. k (put_one r w))
field_after r n rest k c a inside left to out =
    let own = own_row r n rest (omega arith) (omega arith) in
    let over : inside && not (eqb (code_in r) 1) ≡ false = rw (eq-eqb _ _ c) (and-false inside) in
    copied (with r n) rest own (omega arith) inside left to out ∙ rw over (then_ends rest k left (put_bytes (encode_row r) to out) a ∙ ap k (put_copied r to out))

-- rows of DECLs, which stand behind others
pub decls_after : (rs : List Row) (ns : List Note) (rest : List Noted) (k : Wrote → Wrote) → length rs ≡ length ns → All (λ (r : Row). code_in r ≡ 2) rs → After rest k → After (reverse_aux (with_notes rs ns) rest) (λ w. k (put_rows rs w))
decls_after [] ns rest k e done a = unfold with_notes put_rows in a
decls_after (r ∷ rs) [] rest k e (c also cs) a = absurd (omega arith)
decls_after (r ∷ rs) (n ∷ ns) rest k e (c also cs) a = go (decls_after rs ns (with r n ∷ rest) (λ w. k (put_one r w)) (omega arith) cs (copy_after r n rest k (own_row r n rest (omega arith) (omega arith)) (omega arith) a))
  where
    go : After (reverse_aux (with_notes rs ns) (with r n ∷ rest)) (λ w. k (put_one r (put_rows rs w))) → After (reverse_aux (with_notes (r ∷ rs) (n ∷ ns)) rest) (λ w. k (put_rows (r ∷ rs) w))
    go b = unfold with_notes put_rows in b

-- ---- inserted fields that are left out

skip_one : (r : Noted) (rs : List Noted) (skip n : ℕ) (inside : Bool) (left : List Noted) (to : ℕ) (out : List ℕ) → left_out_t skip (r ∷ rs) ≡ suc n → write_back_t (r ∷ rs) (going skip inside left to) out ≡ write_back_t rs (going n inside left to) out
unfolding write_back_t back_row_t goes_then pick
skip_one r rs skip n inside left to out e =
    let z : suc n - 1 ≡ n = omega arith in
    rw (e, lt-ltb 0 (suc n) (omega arith), z)

skip_rows : (xs l : List Noted) (inside : Bool) (left : List Noted) (to : ℕ) (out : List ℕ) → write_back_t (xs ++ l) (going (length xs) inside left to) out ≡ write_back_t l (going 0 inside left to) out
skip_rows [] l inside left to out = refl
skip_rows (x ∷ xs) l inside left to out =
    skip_one x (xs ++ l) (suc (length xs)) (length xs) inside left to out (unfold left_out_t pick in rw (lt-ltb 0 (suc (length xs)) (omega arith))) ∙ skip_rows xs l inside left to out

pub left_out : (x : Noted) (xs l : List Noted) (k : Wrote → Wrote) → (alias_before_t ((x ∷ xs) ++ l)).size ≡ suc (length xs) → Ends l k → Ends ((x ∷ xs) ++ l) k
left_out x xs l k e a left to out = skip_one x (xs ++ l) 0 (length xs) false left to out (unfold left_out_t pick in e) ∙ skip_rows xs l false left to out ∙ a left to out

-- ---- an OUTER behind no DECL of a fresh name ends no inserted field

abbrev pub NotFresh : List Noted → Type 0
NotFresh l = (nth l 0).parts.code ≡ 2 → (nth l 0).parts.x < 2147483648

pub made_none : (size value : ℕ) (l : List Noted) → ((nth l (size - 2)).parts.code ≡ 2 → (nth l (size - 2)).parts.x < 2147483648) → (alias_of_t size value l).size ≡ 0
unfolding alias_of_t
made_none size value l f = go (eqb (nth l (size - 2)).parts.code 2) refl
  where
    go : (t : Bool) → eqb (nth l (size - 2)).parts.code 2 ≡ t
        → (pick t (pick (ltb (nth l (size - 2)).parts.x 2147483648) (no_alias_t (length l)) (record { size = size; start = length l - size; field = (nth l (size - 1)).parts; decl = (nth l (size - 2)).parts; number = note_of (nth l (size - 2)); operand = (nth l (size - 3)).parts; value = value })) (no_alias_t (length l))).size ≡ 0
    go true e = rw (lt-ltb _ _ (f (eqb-true _ _ e))) (unfold pick in refl)
    go false e = unfold pick in refl

pub own_outer : (r : Row) (n : Note) (rest : List Noted) → code_in r ≡ 5 → NotFresh rest → Own (with r n ∷ rest)
unfolding alias_before_t
own_outer r n rest c f =
    rw (ne_eqb (code_in r) 9 (omega arith), eq-eqb (code_in r) 5 c)
    (go (ltb (length (with r n ∷ rest)) 4))
  where
    go : (t : Bool) → (pick t (no_alias_t (length (with r n ∷ rest))) (pick false (alias_of_t 4 (as_parts r).x (with r n ∷ rest)) (pick true (alias_of_t 3 (note_of (with r n)) (with r n ∷ rest)) (no_alias_t (length (with r n ∷ rest)))))).size ≡ 0
    go true = unfold pick in refl
    go false = unfold pick in made_none 3 (note_of (with r n)) (with r n ∷ rest) f
