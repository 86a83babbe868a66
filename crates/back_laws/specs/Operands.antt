-- The operands of a field, from the last to the first: each group of inserted fields goes to the last reference that it fits.
use Rattle.std.specs.Prelude.{◌≡◌, Bool, false, ◌&&◌, not, ℕ, suc, ◌<◌, eqb, length, drop}
use Rattle.std.proofs.Math.Path.{refl}
use Rattle.std.proofs.Common.{sym, ap, ◌∙◌, arith, ne_eqb}
use Rattle.std.proofs.Math.Bool.{true}
use Rattle.std.proofs.Math.Option.{Option, none, some}
use mathlib.Core.List.{List, [], ◌∷◌, ◌++◌, append_assoc, append-nil, reverse, reverse-cons, reverse-append}
use Rattle.kit.specs.Pick.{pick}
use Rattle.kit.specs.Out.{Out, ◌&◌}
use Rattle.rules.specs.Tools.{when◌then◌else◌}
use Rattle.rules.specs.Rows.{Index, Num, Row, Ref, Outer, Case, encode, encode_row}
use Rattle.rules.specs.Tree.{Declaration, Operand, ref, outer, case, Head, path_rows, operand_row, operand_rows}
use Rattle.unresolving.specs.Back.{Group, is_for, groups, first_fit}
use Rattle.parts.specs.declared.Parts.{Parts}
use Rattle.claim_laws.specs.RowParts.{as_parts, code_in}
use Rattle.back_notes.specs.Note.{Note, Noted}
use Rattle.back_rows.specs.Below.{nth}
use Rattle.back_rows.specs.Alias.{alias_before_t, for_t}
use Rattle.back_rows.specs.Restore.{Wrote, put_bytes, wrote_then, Rest, rest, leaves, restore_ref_t}
use Rattle.back_rows.specs.Write.{before_field, Going, going, goes, goes_on, served_t, goes_then, write_back_t}
use Rattle.back_rows.specs.declared.alias.Alias.{Alias}
use Rattle.back_laws.specs.Stand.{with}
use Rattle.back_laws.specs.Groups.{no_groups, shifted}
use Rattle.back_laws.specs.Restored.{put_one, put_rows, put_append, then_is, then_same, seen_at, Shown, Waits, all, more, is_for_lem, shown_rest, Restores, restored, behind, fewer}
use Rattle.back_laws.specs.Backward.{After, Ends, Own, own_row, own_outer, NotFresh, copied, referred, copy_after, put_copied, then_after}

-- ---- operands of resolved fields, a row each

pub data Bare : Operand → Type 0 where
  a_ref : (space n z : ℕ) → Bare (ref space (Num n) [] z)
  an_outer : (space d n z : ℕ) → Bare (outer space (Num d) (Num n) z)
  a_case : (name z : ℕ) → Bare (case name z)

unfoldable pub op_row : {o : Operand} → Bare o → Row
op_row (a_ref space n z) = Ref space (Num n) 0 z
op_row (an_outer space d n z) = Outer space (Num d) (Num n) z
op_row (a_case name z) = Case name z

pub op_row_lem : {o : Operand} (b : Bare o) → operand_row o ≡ op_row b ∷ []
unfolding op_row operand_row path_rows
op_row_lem (a_ref space n z) = refl
op_row_lem (an_outer space d n z) = refl
op_row_lem (a_case name z) = refl

-- these operands have these rows, whatever was noted of them
pub data Ops : List Operand → List Noted → Type 0 where
  no_ops : Ops [] []
  one_op : {o : Operand} {os : List Operand} {xs : List Noted} (b : Bare o) (n : Note) → Ops os xs → Ops (o ∷ os) (with (op_row b) n ∷ xs)

-- such a row is no FIELD and no DECL
op_code : {o : Operand} (b : Bare o) → (code_in (op_row b) ≡ 1 → ⊥) × (code_in (op_row b) ≡ 2 → ⊥)
unfolding op_row as_parts encode
op_code (a_ref space n z) = (omega arith, omega arith)
op_code (an_outer space d n z) = (omega arith, omega arith)
op_code (a_case name z) = (omega arith, omega arith)

before_ops : {os : List Operand} {xs : List Noted} (rest : List Noted) → Ops os xs → before_field (xs ++ rest) ≡ before_field rest
before_ops rest no_ops = refl
before_ops rest (one_op {xs = xs} b n p) = go (before_ops rest p)
  where
    go : before_field (xs ++ rest) ≡ before_field rest → before_field (with (op_row b) n ∷ (xs ++ rest)) ≡ before_field rest
    go e = unfold before_field pick in rw (ne_eqb (code_in (op_row b)) 1 (op_code b).0) e

pub ops_not_fresh : {os : List Operand} {xs : List Noted} (rest : List Noted) → Ops os xs → NotFresh rest → NotFresh (xs ++ rest)
ops_not_fresh rest no_ops f = f
ops_not_fresh rest (one_op b n p) f = λ e. absurd ((op_code b).1 e)

and-true : (b : Bool) → b && true ≡ b
and-true true = refl
and-true false = refl

one_put : (r : Row) (to : ℕ) (out : List ℕ) → put_bytes (encode_row r) to out ≡ put_rows (r ∷ []) (to & out)
unfolding put_rows put_one
one_put r to out = refl

rows_split : (xs : List Operand) (x : Operand) → operand_rows (xs ++ (x ∷ [])) ≡ operand_rows xs ++ operand_row x
unfolding operand_rows
rows_split [] x = append-nil (operand_row x)
rows_split (y ∷ xs) x = rw (rows_split xs x) (sym (append_assoc (operand_row y) (operand_rows xs) (operand_row x)))

-- ---- the rules' way

module _ (here : List Declaration) (outside : List (List Declaration)) where
  fit_none : (os : List Operand) → first_fit here outside os [] ≡ os
  unfolding first_fit
  fit_none [] = refl
  fit_none (o ∷ os) = refl

  fit_first : (o : Operand) (os : List Operand) (g : Group) (gs : List Group) → is_for here outside g.decl o ≡ true → first_fit here outside (o ∷ os) (g ∷ gs) ≡ g.was ∷ first_fit here outside os gs
  unfolding first_fit when◌then◌else◌
  fit_first o os g gs e = rw e

  fit_later : (o : Operand) (os : List Operand) (g : Group) (gs : List Group) → is_for here outside g.decl o ≡ false → first_fit here outside (o ∷ os) (g ∷ gs) ≡ o ∷ first_fit here outside os (g ∷ gs)
  unfolding first_fit when◌then◌else◌
  fit_later o os g gs e = rw e

  -- an operand that is no reference stays
  fit_stays : (o : Operand) (os : List Operand) (gs : List Group) → ((d : Declaration) → is_for here outside d o ≡ false) → first_fit here outside (o ∷ os) gs ≡ o ∷ first_fit here outside os gs
  fit_stays o os [] e = fit_none (o ∷ os) ∙ ap (λ (l : List Operand). o ∷ l) (sym (fit_none os))
  fit_stays o os (g ∷ gs) e = fit_later o os g gs (e g.decl)

  -- the operands from the first to the last, where the last is known
  rows_last : (o : Operand) (os : List Operand) (w : Wrote) → put_rows (operand_rows (reverse (o ∷ os))) w ≡ put_rows (operand_rows (reverse os)) (put_rows (operand_row o) w)
  rows_last o os w = rw (reverse-cons o os, rows_split (reverse os) o) (put_append (operand_rows (reverse os)) (operand_row o) w)

  -- the groups of the fields that wait, the last first
  unfoldable pub waiting : List Head → List Group
  waiting hs = reverse (groups here outside (reverse hs))

  waiting_none : waiting [] ≡ []
  unfolding waiting
  waiting_none = rw (no_groups here outside)

  waiting_more : (h : Head) (hs hs' : List Head) (g : Group) → groups here outside (reverse hs ++ (h ∷ [])) ≡ groups here outside (reverse hs') ++ (g ∷ []) → waiting (h ∷ hs) ≡ g ∷ waiting hs'
  unfolding waiting
  waiting_more h hs hs' g e = rw (reverse-cons h hs, e) (reverse-append (groups here outside (reverse hs')) (g ∷ []))

  -- ---- the code's way

  no_for : (a : Alias) (p : Parts) → a.size ≡ 0 → for_t a p ≡ false
  no_for a p e = rw e

  module _ (before : List Noted) (nothing : Own before) (some_before : 0 < length before) (l₀ D : List Noted) (k : Wrote → Wrote) (ends : After D k) (field : before_field D ≡ l₀) (low : NotFresh D) where
    -- what is to be shown of operands
    pub record Done (os : List Operand) (xs : List Noted) (hs : List Head) (l : List Noted) : Type 0 where
      pub does : (inside : Bool) (left : List Noted) → pick inside left l₀ ≡ l → (to : ℕ) (out : List ℕ) → write_back_t (xs ++ D) (going 0 inside left to) out ≡ k (put_rows (operand_rows (reverse (first_fit here outside os (waiting hs)))) (to & out))

    none_done : (hs : List Head) (l : List Noted) → Done [] [] hs l
    unfolding first_fit operand_rows put_rows
    none_done hs l = record { does = λ inside left e to out. ends inside left to out }

    -- a row that is copied
    copy_done : {o : Operand} {os : List Operand} {xs : List Noted} {hs : List Head} {l : List Noted} (b : Bare o) (n : Note) → Own (with (op_row b) n ∷ (xs ++ D)) → (code_in (op_row b) ≡ 3 → ⊥)
        → ((d : Declaration) → is_for here outside d o ≡ false) → Done os xs hs l → Done (o ∷ os) (with (op_row b) n ∷ xs) hs l
    copy_done {o} {os} {xs} {hs} {l} b n own c f below = record { does = go }
      where
        go : (inside : Bool) (left : List Noted) → pick inside left l₀ ≡ l → (to : ℕ) (out : List ℕ)
            → write_back_t (with (op_row b) n ∷ (xs ++ D)) (going 0 inside left to) out ≡ k (put_rows (operand_rows (reverse (first_fit here outside (o ∷ os) (waiting hs)))) (to & out))
        go inside left e to out =
            let F = first_fit here outside os (waiting hs) in
            let stays : inside && not (eqb (code_in (op_row b)) 1) ≡ inside = rw (ne_eqb (code_in (op_row b)) 1 (op_code b).0) (and-true inside) in
            copied (with (op_row b) n) (xs ++ D) own c inside left to out
            ∙ rw (stays, fit_stays o os (waiting hs) f, rows_last o F (to & out), op_row_lem b)
            (then_same (put_bytes (encode_row (op_row b)) to out) _ (λ to' out'. k (put_rows (operand_rows (reverse F)) (to' & out'))) (λ to' out'. below.does inside left e to' out')
            ∙ then_is (put_bytes (encode_row (op_row b)) to out) (λ (w : Wrote). k (put_rows (operand_rows (reverse F)) w))
            ∙ ap (λ (w : Wrote). k (put_rows (operand_rows (reverse F)) w)) (one_put (op_row b) to out))

    -- a reference: the rows before it that may serve it are those that wait
    ref_goes : (r : Noted) (rs l : List Noted) → Own (r ∷ rs) → r.parts.code ≡ 3 → before_field rs ≡ l₀ → (inside : Bool) (left : List Noted) → pick inside left l₀ ≡ l → (to : ℕ) (out : List ℕ)
        → write_back_t (r ∷ rs) (going 0 inside left to) out ≡ goes_then (served_t r l to out) (λ c' out'. write_back_t rs c' out')
    ref_goes r rs l own c f inside left e to out = referred r rs own c inside left to out ∙ rw (f, e)

    -- it stays
    ref_stays : (r : Noted) (rs l : List Noted) (to : ℕ) (out : List ℕ) → for_t (alias_before_t l) r.parts ≡ false
        → goes_then (served_t r l to out) (λ c' out'. write_back_t rs c' out') ≡ wrote_then (put_bytes r.bytes to out) (λ to' out'. write_back_t rs (going 0 true l to') out')
    unfolding served_t pick
    ref_stays r rs l to out f = rw f (go (put_bytes r.bytes to out))
      where
        go : (w : Wrote) → goes_then (goes_on true l w) (λ c' out'. write_back_t rs c' out') ≡ wrote_then w (λ to' out'. write_back_t rs (going 0 true l to') out')
        go (to' & out') = unfold goes_on goes_then wrote_then in refl

    -- it is restored
    ref_restored : (r : Noted) (rs l l₁ l' : List Noted) (a : Alias) (to : ℕ) (out : List ℕ) (w : Wrote) → alias_before_t l ≡ a → drop a.size l ≡ l₁ → for_t a r.parts ≡ true → restore_ref_t a l₁ to out ≡ leaves w l'
        → goes_then (served_t r l to out) (λ c' out'. write_back_t rs c' out') ≡ wrote_then w (λ to' out'. write_back_t rs (going 0 true l' to') out')
    unfolding served_t pick
    ref_restored r rs l l₁ l' a to out w s d f e = rw (s, f, d, e) (go w)
      where
        go : (w : Wrote) → goes_then (goes (leaves w l')) (λ c' out'. write_back_t rs c' out') ≡ wrote_then w (λ to' out'. write_back_t rs (going 0 true l' to') out')
        go (to' & out') = unfold goes leaves goes_then wrote_then in refl

    inside_is : (left : List Noted) → pick true left l₀ ≡ left
    unfolding pick
    inside_is left = refl

    module _ (space n z : ℕ) {os : List Operand} {xs : List Noted} (m : Note) (p : Ops os xs) where
      abbrev r : Noted
      r = with (op_row (a_ref space n z)) m

      own : Own (r ∷ (xs ++ D))
      unfolding op_row as_parts encode
      own = own_row (Ref space (Num n) 0 z) m (xs ++ D) (omega arith) (omega arith)

      goes_to : (l : List Noted) (inside : Bool) (left : List Noted) → pick inside left l₀ ≡ l → (to : ℕ) (out : List ℕ) → write_back_t (r ∷ (xs ++ D)) (going 0 inside left to) out ≡ goes_then (served_t r l to out) (λ c' out'. write_back_t (xs ++ D) c' out')
      goes_to l inside left e to out = ref_goes r (xs ++ D) l own (unfold op_row as_parts encode in refl) (before_ops D p ∙ field) inside left e to out

      -- written as it is
      stay_done : {hs : List Head} {l : List Noted} → for_t (alias_before_t l) r.parts ≡ false → first_fit here outside (ref space (Num n) [] z ∷ os) (waiting hs) ≡ ref space (Num n) [] z ∷ first_fit here outside os (waiting hs)
          → Done os xs hs l → Done (ref space (Num n) [] z ∷ os) (r ∷ xs) hs l
      stay_done {hs} {l} f q below = record { does = go }
        where
          go : (inside : Bool) (left : List Noted) → pick inside left l₀ ≡ l → (to : ℕ) (out : List ℕ)
              → write_back_t (r ∷ (xs ++ D)) (going 0 inside left to) out ≡ k (put_rows (operand_rows (reverse (first_fit here outside (ref space (Num n) [] z ∷ os) (waiting hs)))) (to & out))
          go inside left e to out =
              let F = first_fit here outside os (waiting hs) in
              goes_to l inside left e to out ∙ ref_stays r (xs ++ D) l to out f
              ∙ rw (q, rows_last (ref space (Num n) [] z) F (to & out), op_row_lem (a_ref space n z))
              (then_same (put_bytes r.bytes to out) _ (λ to' out'. k (put_rows (operand_rows (reverse F)) (to' & out'))) (λ to' out'. below.does true l (inside_is l) to' out')
              ∙ then_is (put_bytes r.bytes to out) (λ (w : Wrote). k (put_rows (operand_rows (reverse F)) w))
              ∙ ap (λ (w : Wrote). k (put_rows (operand_rows (reverse F)) w)) (one_put (op_row (a_ref space n z)) to out))

      -- written as it was
      serve_done : {hs hs' : List Head} {l l₁ l' : List Noted} (a : Alias) (g : Group) → alias_before_t l ≡ a → drop a.size l ≡ l₁ → for_t a r.parts ≡ true
          → ((to : ℕ) (out : List ℕ) → restore_ref_t a l₁ to out ≡ leaves (put_rows (operand_row g.was) (to & out)) l')
          → first_fit here outside (ref space (Num n) [] z ∷ os) (waiting hs) ≡ g.was ∷ first_fit here outside os (waiting hs') → Done os xs hs' l' → Done (ref space (Num n) [] z ∷ os) (r ∷ xs) hs l
      serve_done {hs} {hs'} {l} {l₁} {l'} a g s d f e q below = record { does = go }
        where
          go : (inside : Bool) (left : List Noted) → pick inside left l₀ ≡ l → (to : ℕ) (out : List ℕ)
              → write_back_t (r ∷ (xs ++ D)) (going 0 inside left to) out ≡ k (put_rows (operand_rows (reverse (first_fit here outside (ref space (Num n) [] z ∷ os) (waiting hs)))) (to & out))
          go inside left i to out =
              let F = first_fit here outside os (waiting hs') in
              let w = put_rows (operand_row g.was) (to & out) in
              goes_to l inside left i to out ∙ ref_restored r (xs ++ D) l l₁ l' a to out w s d f (e to out)
              ∙ rw (q, rows_last g.was F (to & out))
              (then_same w _ (λ to' out'. k (put_rows (operand_rows (reverse F)) (to' & out'))) (λ to' out'. below.does true l' (inside_is l') to' out')
              ∙ then_is w (λ (v : Wrote). k (put_rows (operand_rows (reverse F)) v)))

    outer_stays : (space d n z : ℕ) (e : Declaration) → is_for here outside e (outer space (Num d) (Num n) z) ≡ false
    unfolding is_for
    outer_stays space d n z e = refl

    case_stays : (name z : ℕ) (e : Declaration) → is_for here outside e (case name z) ≡ false
    unfolding is_for
    case_stays name z e = refl

    own_case : (name z : ℕ) (n : Note) (rest : List Noted) → Own (with (op_row (a_case name z)) n ∷ rest) × (code_in (op_row (a_case name z)) ≡ 3 → ⊥)
    unfolding op_row as_parts encode
    own_case name z n rest = (own_row (Case name z) n rest (omega arith) (omega arith), omega arith)

    own_lead : (space d m z : ℕ) (n : Note) (rest : List Noted) → NotFresh rest → Own (with (op_row (an_outer space d m z)) n ∷ rest) × (code_in (op_row (an_outer space d m z)) ≡ 3 → ⊥)
    unfolding op_row
    own_lead space d m z n rest f = (own_outer (Outer space (Num d) (Num m) z) n rest (unfold as_parts encode in refl) f, unfold as_parts encode in omega arith)

    writes_pair : (f : ℕ → List ℕ → Out Rest (List ℕ)) (g : Wrote → Out Rest (List ℕ)) → ((w : Wrote) → wrote_then w f ≡ g w) → (to : ℕ) (out : List ℕ) → f to out ≡ g (to & out)
    unfolding wrote_then
    writes_pair f g e to out = e (to & out)

    ref_parts : (space n z : ℕ) → as_parts (op_row (a_ref space n z)) ≡ as_parts (Ref space (Num n) 0 z)
    unfolding op_row
    ref_parts space n z = refl

    ref_done : (space n z : ℕ) {os : List Operand} {xs : List Noted} (m : Note) (p : Ops os xs) {h : Head} {ys : List Noted} {hs : List Head} {l : List Noted} (A : Shown here outside h ys) (W : Waits here outside before hs l)
        (R : Restores here outside before hs (h ∷ []) A.decl (λ w. wrote_then w (λ to out. restore_ref_t (seen_at here outside A (length l)) l to out))) → (t : Bool) → is_for here outside A.decl (ref space (Num n) [] z) ≡ t
        → Done os xs (h ∷ hs) (ys ++ l) → Done os xs R.hs' R.l' → Done (ref space (Num n) [] z ∷ os) (with (op_row (a_ref space n z)) m ∷ xs) (h ∷ hs) (ys ++ l)
    ref_done space n z {os} {xs} m p {h} {ys} {hs} {l} A W R true e stays serves =
        let o = ref space (Num n) [] z in
        let fits : is_for here outside R.group.decl o ≡ true = rw R.decl_is e in
        serve_done space n z m p (seen_at here outside A (length l)) R.group (A.sees l (behind here outside before nothing some_before W)) (shown_rest here outside A l) (rw (ref_parts space n z) (is_for_lem here outside A (length l) space n z ∙ e))
        (writes_pair (λ to out. restore_ref_t (seen_at here outside A (length l)) l to out) (λ w. leaves (put_rows (operand_row R.group.was) w) R.l') R.writes)
        (rw (waiting_more h hs R.hs' R.group R.is) (fit_first o os R.group (waiting R.hs') fits)) serves
    ref_done space n z {os} {xs} m p {h} {ys} {hs} {l} A W R false e stays serves =
        let o = ref space (Num n) [] z in
        let misses : is_for here outside R.group.decl o ≡ false = rw R.decl_is e in
        stay_done space n z m p (rw (A.sees l (behind here outside before nothing some_before W), ref_parts space n z) (is_for_lem here outside A (length l) space n z ∙ e))
        (rw (waiting_more h hs R.hs' R.group R.is) (fit_later o os R.group (waiting R.hs') misses)) stays

    -- THE OPERANDS of a field are written as the rules restore them.
    pub ops : {os : List Operand} {xs : List Noted} (p : Ops os xs) {hs : List Head} {l : List Noted} → Waits here outside before hs l → length hs < 4294967295 → Done os xs hs l
    ops no_ops {hs} {l} W s = none_done hs l
    ops (one_op {xs = xs} (an_outer space d m z) n p) W s =
        let o = own_lead space d m z n (xs ++ D) (ops_not_fresh D p low) in
        copy_done (an_outer space d m z) n o.0 o.1 (outer_stays space d m z) (ops p W s)
    ops (one_op {xs = xs} (a_case name z) n p) W s =
        let o = own_case name z n (xs ++ D) in
        copy_done (a_case name z) n o.0 o.1 (case_stays name z) (ops p W s)
    ops (one_op {os = os} (a_ref space m z) n p) all s =
        stay_done space m z n p (no_for (alias_before_t before) (as_parts (op_row (a_ref space m z))) nothing) (rw waiting_none (fit_none (ref space (Num m) [] z ∷ os) ∙ ap (λ (x : List Operand). ref space (Num m) [] z ∷ x) (sym (fit_none os)))) (ops p all s)
    ops (one_op (a_ref space m z) n p) (more {hs = hs} A W) s =
        let R = restored here outside before nothing some_before A W (omega arith) in
        let less = R.less in
        ref_done space m z n p A W R (is_for here outside A.decl (ref space (Num m) [] z)) refl (ops p (more A W) s) (ops p R.waits (omega arith))
