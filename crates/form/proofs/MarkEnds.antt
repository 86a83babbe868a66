-- Ways through the notes of field ends.
use mathlib.Core.Path.{◌≡◌, refl, ap, ◌∙◌}
use mathlib.Core.List.{List}
use native.Mathlib.Omega.{arith}
use Prim.Native.Nat.{ℕ, ◌+◌, ◌-◌, ◌/◌, ◌%◌, ◌≤◌, ◌<◌}
use lib.ListN.{length, get_or, set, take, drop, replicate}
use borrow.Author.Rules.{rules}
use Rattle.kit.specs.Out.{◌&◌}
use Rattle.kit.proofs.Laws.{yes!, no!, tests, down}
use Rattle.rows.specs.RowAt.{code_at}
use Rattle.limits.specs.declared.Limits.{Limits}
use Rattle.limits.proofs.Laws.{take_replicate}
use Rattle.limits.specs.Held.{limits_of, setting}
use Rattle.form.specs.MarkEnds.{Noted, depth_before, end_at_t, with_noted, ends_back_t, ends_in, ends_to, ends_t}

module _ (code i depth : ℕ) (ends bounds : List ℕ) where
  pub mark_none : length bounds ≤ depth → (ends & bounds) ≡ end_at_t code i depth ends bounds
  unfolding end_at_t
  mark_none h = yes! _ (omega tests) refl

  module _ (h : depth < length bounds) where
    pub mark_close : code ≡ 8 → (ends & set bounds depth i) ≡ end_at_t code i depth ends bounds
    unfolding end_at_t
    mark_close e = no! _ (omega tests) (yes! _ (omega tests) refl)

    module _ (f : code ≡ 8 → ⊥) where
      pub mark_other : (code ≡ 1 → ⊥) → (ends & bounds) ≡ end_at_t code i depth ends bounds
      unfolding end_at_t
      mark_other g = no! _ (omega tests) (no! _ (omega tests) (no! _ (omega tests) refl))

      module _ (g : code ≡ 1) where
        pub mark_past : length ends ≤ i → (ends & bounds) ≡ end_at_t code i depth ends bounds
        unfolding end_at_t
        mark_past e = no! _ (omega tests) (no! _ (omega tests) (yes! _ (omega tests) (yes! _ (omega tests) refl)))

        pub mark_field : i < length ends → (set ends i (get_or bounds depth 0 % 4294967296) & set bounds depth i) ≡ end_at_t code i depth ends bounds
        unfolding end_at_t
        mark_field e = no! _ (omega tests) (no! _ (omega tests) (yes! _ (omega tests) (no! _ (omega tests) refl)))

module _ (most : ℕ) (rows : List ℕ) (i depth : ℕ) (ends bounds : List ℕ) (T : Noted) (inv : ends_back_t most rows i depth ends bounds ≡ T) where
  pub back_end : i ≤ 0 → (ends & bounds) ≡ T
  unfolding ends_back_t
  back_end h = let e : i ≡ 0 = omega arith in rw e at inv

  pub back_turn : 0 < i → (code d : ℕ) → code ≡ code_at rows (i - 1) → d ≡ depth_before most code depth → (ends' bounds' : List ℕ) → (ends' & bounds') ≡ end_at_t code (i - 1) d ends bounds → ends_back_t most rows (i - 1) d ends' bounds' ≡ T
  unfolding ends_back_t with_noted
  back_turn h code d c b ends' bounds' m =
      let turn = rw (down i h) at inv in
      let m' = rw (b, c) at m in
      rw (b, c) (rw (← m') at turn)

pub back_all : (rows ends ends' bounds' : List ℕ) (most n : ℕ) → n ≡ most → n ≤ 255 → (ends' & bounds') ≡ ends_back_t n rows (length rows / 16) 0 ends (take (n + 1 - 0) (drop 0 (replicate 256 0))) → ends' ≡ ends_to most rows ends
unfolding ends_to ends_in
back_all rows ends ends' bounds' most n q h e =
    let d : n + 1 - 0 ≡ n + 1 = omega arith in
    let k : take (n + 1 - 0) (drop 0 (replicate {A = ℕ} 256 0)) ≡ replicate (n + 1) 0 = rw d (take_replicate (n + 1) 256 (omega arith)) in
    ap ends_in (e ∙ ap (ends_back_t n rows (length rows / 16) 0 ends) k) ∙ rw q

pub ends_input : (l : Limits) → l ≡ limits_of (setting 0) → (rows ends ends' : List ℕ) → ends' ≡ ends_to l.scopes rows ends → ends' ≡ ends_t rows ends
unfolding ends_t
ends_input l h rows ends ends' e = rw h at e

-- every way through `mark_row`, `mark_rows`, `mark_ends_to` and `mark_ends`
pub ruleset ways = (mark_none, mark_close, mark_other, mark_past, mark_field, back_end, back_turn, back_all, ends_input, rules)
