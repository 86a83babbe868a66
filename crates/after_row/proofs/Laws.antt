-- What a right table says of each kind of row.
use mathlib.Core.Path.{◌≡◌, refl, sym, ap, ◌∙◌, fun_ext}
use mathlib.Core.Bool.{Bool, true, false, ◌&&◌, ◌||◌, and-false, or-true}
use mathlib.Core.Option.{Option, none}
use mathlib.Core.Logic.{◌⊎◌, inl, inr, ⊎_elim}
use mathlib.Core.List.{List, [], ◌∷◌}
use native.Mathlib.Omega.{arith}
use native.Mathlib.Nat.{add-zero}
use Prim.Native.Nat.{ℕ, zero, suc, ◌+◌, ◌-◌, ◌*◌, ◌/◌, ◌%◌, ◌<◌, ◌≤◌}
use lib.Dec.{eqb, leb, ltb}
use lib.ListN.{get_or}
use borrow.Author.Tests.{ne_eqb, leb-true}
use Rattle.kit.specs.Pick.{pick}
use Rattle.kit.proofs.Laws.{lt_or_le, yes!, no!, tests}
use Rattle.rules.specs.Tools.{when◌then◌else◌, only, ◌then◌, is_in}
use Rattle.rules.specs.Shapes.{Want, r, p, out, cas, Part, one, opt, any, cases, variants, typed, fits_ref, fits_outer, is_case, paths_ok, next, complete}
use Rattle.rules.specs.Laws.ToolLaws.{and_left, and_right}
use Rattle.wants.specs.States.{states, left_of, after, entry, ref_entry, outer_entry, Right}
use Rattle.wants.proofs.Laws.{left_before, left_at}

zero_or_not : (n : ℕ) → (n ≡ 0) ⊎ (n ≡ 0 → ⊥)
zero_or_not zero = inl refl
zero_or_not (suc n) = inr (λ e. absurd (omega arith))

-- the ways to an entry
module _ (table : List (List ℕ)) (left column : ℕ) where
  pub entry_not : left < 48 → 46 ≡ entry table left column
  unfolding entry
  entry_not h = yes! _ (omega tests) refl

  pub entry_past : 48 ≤ left → 41 ≤ column → 46 ≡ entry table left column
  unfolding entry
  entry_past h g = no! _ (omega tests) (yes! _ (omega tests) refl)

  pub entry_found : 48 ≤ left → column < 41 → (row : ℕ) → row ≡ pick (ltb left 115) (left - 48) 0 → (n : ℕ) → n ≡ get_or (get_or table row []) column 0 → n ≡ entry table left column
  unfolding entry
  entry_found h g row q n e = no! _ (omega tests) (no! _ (omega tests) (rw (← q) e))

-- ---- rows that fit no list of wants

abbrev pub lows : List ℕ → Bool
lows [] = true
lows (n ∷ ns) = leb n 12 && lows ns

abbrev low_want : Want → Bool
low_want (r spaces) = lows spaces
low_want (p spaces) = lows spaces
low_want (out s) = leb s 12
low_want cas = true

abbrev low_parts : List Part → Bool
low_parts [] = true
low_parts (one w ∷ ps) = low_want w && low_parts ps
low_parts (opt w ∷ ps) = low_want w && low_parts ps
low_parts (any w ∷ ps) = low_want w && low_parts ps
low_parts (cases ∷ ps) = low_parts ps
low_parts (variants ∷ ps) = low_parts ps
low_parts (typed s ∷ ps) = (leb s 12 && true) && low_parts ps

abbrev low_all : List (List Part) → Bool
low_all [] = true
low_all (ps ∷ pss) = low_parts ps && low_all pss

low_at : (pss : List (List Part)) → low_all pss ≡ true → (k : ℕ) → low_parts (get_or pss k []) ≡ true
low_at [] h k = refl
low_at (ps ∷ pss) h zero = and_left (low_parts ps) (low_all pss) h
low_at (ps ∷ pss) h (suc k) = low_at pss (and_right (low_parts ps) (low_all pss) h) k

-- a row that fits no want of the spaces 0 to 12
module _ (fits : Want → Bool) (miss : (w : Want) → low_want w ≡ true → fits w ≡ false) where
  missed : (ps : List Part) → low_parts ps ≡ true → next fits ps ≡ none
  unfolding next when◌then◌else◌ only
  missed [] h = refl
  missed (one w ∷ ps) h = rw (miss w (and_left _ _ h))
  missed (opt w ∷ ps) h = rw (miss w (and_left _ _ h)) (missed ps (and_right (low_want w) (low_parts ps) h))
  missed (any w ∷ ps) h = rw (miss w (and_left _ _ h)) (missed ps (and_right (low_want w) (low_parts ps) h))
  missed (cases ∷ ps) h = rw (miss cas refl) (missed ps h)
  missed (variants ∷ ps) h = rw (miss cas refl, miss (p (9 ∷ [])) refl) (missed ps h)
  missed (typed s ∷ ps) h = rw (miss (p (9 ∷ [])) refl, miss (r (s ∷ [])) (and_left _ _ h))

  missed_left : (n : ℕ) → none ≡ (left_of n then λ ps. next fits ps)
  missed_left n =
      ⊎_elim (λ h. rw (left_before n h) (unfold ◌then◌ in refl))
      (λ h. rw (left_at n h) (unfold ◌then◌ in sym (missed (get_or states (n - 48) []) (low_at states (unfold states in refl) (n - 48)))))
      (lt_or_le n 48)

pub low_not_in : (space : ℕ) → 12 < space → (l : List ℕ) → lows l ≡ true → is_in space l ≡ false
low_not_in space h [] g = refl
low_not_in space h (n ∷ ns) g =
    let le = leb-true n 12 (and_left (leb n 12) (lows ns) g) in
    rw (ne_eqb space n (omega arith)) (low_not_in space h ns (and_right (leb n 12) (lows ns) g))

far_ref : (space paths : ℕ) → 12 < space → (w : Want) → low_want w ≡ true → fits_ref w space paths ≡ false
unfolding fits_ref
far_ref space paths h (r l) g = rw (low_not_in space h l g)
far_ref space paths h (p l) g = rw (low_not_in space h l g)
far_ref space paths h (out s) g = refl
far_ref space paths h cas g = refl

far_outer : (space : ℕ) → 12 < space → (w : Want) → low_want w ≡ true → fits_outer w space ≡ false
unfolding fits_outer
far_outer space h (r l) g = refl
far_outer space h (p l) g = refl
far_outer space h (out s) g = let le = leb-true s 12 g in ne_eqb s space (omega arith)
far_outer space h cas g = refl

-- a REF with more PATHs than its space may have
long_ref : (space paths : ℕ) → (paths ≡ 0 → ⊥) → (leb 7 space || leb paths 1) ≡ false → (w : Want) → fits_ref w space paths ≡ false
unfolding fits_ref paths_ok
long_ref space paths h g (r l) = rw g (and-false (is_in space l))
long_ref space paths h g (p l) = rw (ne_eqb paths 0 h) (and-false (is_in space l))
long_ref space paths h g (out s) = refl
long_ref space paths h g cas = refl

-- one PATH stands for more
path_ref : (space paths : ℕ) → (paths ≡ 0 → ⊥) → (leb 7 space || leb paths 1) ≡ true → (w : Want) → fits_ref w space 1 ≡ fits_ref w space paths
unfolding fits_ref paths_ok
path_ref space paths h g (r l) = rw (g, or-true (leb 7 space))
path_ref space paths h g (p l) = rw (ne_eqb paths 0 h)
path_ref space paths h g (out s) = refl
path_ref space paths h g cas = refl

-- ---- what a right table says of each kind of row

after_ref_lem : (space flag : ℕ) → space ≤ 12 → flag < 2 → (ps : List Part) → after (space * 2 + flag) ps ≡ next (λ w. fits_ref w space flag) ps
unfolding after
after_ref_lem space flag h g ps =
    let d : (space * 2 + flag) / 2 ≡ space = omega arith in
    let m : (space * 2 + flag) % 2 ≡ flag = omega arith in
    sym (yes! _ (omega tests) refl) ∙ rw (d, m)

after_outer_lem : (space : ℕ) → space ≤ 12 → (ps : List Part) → after (27 + space) ps ≡ next (λ w. fits_outer w space) ps
unfolding after
after_outer_lem space h ps =
    let d : 27 + space - 27 ≡ space = omega arith in
    sym (no! _ (omega tests) (no! _ (omega tests) (yes! _ (omega tests) refl))) ∙ rw d

module _ (table : List (List ℕ)) (right : Right table) (left : ℕ) where
  at_column : (column : ℕ) (f : List Part → Option (List Part)) → ((ps : List Part) → after column ps ≡ f ps) → left_of (entry table left column) ≡ (left_of left then f)
  unfolding Right
  at_column column f h = right left column ∙ ap (λ g. left_of left then g) (fun_ext h)

  none_at : (fits : Want → Bool) → ((w : Want) → low_want w ≡ true → fits w ≡ false) → left_of 46 ≡ (left_of left then λ ps. next fits ps)
  none_at fits miss = left_before 46 (omega arith) ∙ missed_left fits miss left

  pub right_case : left_of (entry table left 26) ≡ (left_of left then λ ps. next is_case ps)
  right_case = at_column 26 _ (λ ps. unfold after pick in refl)

  pub right_end : left_of (entry table left 40) ≡ (left_of left then λ ps. only (complete ps) ps)
  right_end = at_column 40 _ (λ ps. unfold after pick in refl)

  pub right_outer : (space : ℕ) → left_of (outer_entry table left space) ≡ (left_of left then λ ps. next (λ w. fits_outer w space) ps)
  unfolding outer_entry
  right_outer space =
      ⊎_elim (λ h. ap left_of (sym (yes! _ (omega tests) refl)) ∙ none_at (λ w. fits_outer w space) (far_outer space h))
      (λ h. ap left_of (sym (no! _ (omega tests) refl)) ∙ at_column (27 + space) _ (after_outer_lem space h))
      (lt_or_le 12 space)

  near_ref : (space paths : ℕ) → space ≤ 12 → (zero_or : (paths ≡ 0) ⊎ (paths ≡ 0 → ⊥)) → (t : Bool) → (leb 7 space || leb paths 1) ≡ t → left_of (pick (eqb paths 0) (entry table left (space * 2)) (pick (leb 7 space || leb paths 1) (entry table left (space * 2 + 1)) 46)) ≡ (left_of left then λ ps. next (λ w. fits_ref w space paths) ps)
  near_ref space paths h (inl z) t e = ap left_of (sym (yes! _ (omega tests) refl)) ∙ rw z (at_column (space * 2) _ (λ ps. rw add-zero at (after_ref_lem space 0 h (omega arith) ps)))
  near_ref space paths h (inr n) true e =
      ap left_of (sym (no! _ (omega tests) (yes! _ e refl)))
      ∙ at_column (space * 2 + 1) _ (λ ps. after_ref_lem space 1 h (omega arith) ps ∙ ap (λ f. next f ps) (fun_ext (path_ref space paths n e)))
  near_ref space paths h (inr n) false e =
      ap left_of (sym (no! _ (omega tests) (no! _ e refl))) ∙ none_at (λ w. fits_ref w space paths) (λ w g. long_ref space paths n e w)

  pub right_ref : (space paths : ℕ) → left_of (ref_entry table left space paths) ≡ (left_of left then λ ps. next (λ w. fits_ref w space paths) ps)
  unfolding ref_entry
  right_ref space paths =
      ⊎_elim (λ h. ap left_of (sym (yes! _ (omega tests) refl)) ∙ none_at (λ w. fits_ref w space paths) (far_ref space paths h))
      (λ h. ap left_of (sym (no! _ (omega tests) refl)) ∙ near_ref space paths h (zero_or_not paths) _ refl)
      (lt_or_le 12 space)
