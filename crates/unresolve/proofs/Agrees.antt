-- What the code answers and leaves is what the rules say.
use Rattle.std.specs.Prelude.{Option as CodeOption, Some, None, Result, Ok, Err, ℕ}
use mathlib.Core.Path.{◌≡◌, refl, sym, ap, ◌∙◌, subst}
use mathlib.Core.Bool.{Bool, true, false, ◌||◌}
use mathlib.Core.Option.{Option, none, some}
use mathlib.Core.List.{List, [], ◌∷◌, ◌++◌, append-nil}
use native.Mathlib.Omega.{arith}
use Prim.Native.Nat.{ℕ, zero, suc, ◌+◌, ◌-◌, ◌*◌, ◌/◌, ◌≤◌, ◌<◌}
use lib.Dec.{ltb}
use lib.ListN.{length, get_or, set, take, drop, replicate, length-append, length-drop, length-set, length-replicate}
use lib.Seq.{sets, sets-eq, take_all, drop_at, length-take-le}
use borrow.Author.Rules.{rules}
use borrow.Author.Tests.{lt-ltb, le-ltb, ltb-false}
use Rattle.kit.specs.Pick.{pick}
use Rattle.kit.specs.Out.{Out, ◌&◌}
use Rattle.rules.specs.Tools.{when◌then◌else◌}
use Rattle.rules.specs.Versions.{Setting, version1, base, as_claimed}
use Rattle.rules.specs.Tree.{Scope, flatten}
use Rattle.rules.specs.Answer.{same_numbers, row_count, form_bytes, output, accepted}
use Rattle.rules.specs.Laws.ToolLaws.{false_not}
use Rattle.rules.specs.Laws.RowLaws.{Bytes}
use Rattle.rules.specs.Laws.Results.{some_same}
use Rattle.rules.proofs.Laws.InputLaws.{Usual}
use Rattle.read_form.specs.ReadForm.{read_form}
use Rattle.read_form.proofs.Laws.ReadFormLaws.{not_refused}
use Rattle.read_form.proofs.Laws.OutputLength.{form_length}
use Rattle.unresolving.specs.Back.{unresolve}
use Rattle.unresolving.specs.BackAnswer
use Rattle.unresolving.specs.BackAnswer.{outcome, is_outcome, back, in_room, back_answer, over, back_output}
use Rattle.unresolving.proofs.Laws.Answered.{are_same, outcome_is, back_right, back_complete, back_is}
use Rattle.clearing.specs.Cleared.{cleared}
use Rattle.clearing.specs.Laws.{cleared_kept}
use Rattle.refusal.specs.declared.Refusal.{Refusal}
use Rattle.limits.specs.Held.{setting}
use Rattle.back_notes.specs.Note.{Note, no_note}
use Rattle.whole_form.specs.Whole.{form_of}
use Rattle.whole_form.proofs.Laws.{whole_read}
use Rattle.resolver.specs.Meaning.{meaning}
use Rattle.unresolve.specs.With.{back_with, out_with, restored_after, again_after}
use Rattle.unresolve.specs.Meaning.{returned_in, returned}
use Rattle.unresolve.specs.Restored.{no_notes, restore_t}
use Rattle.unresolve.specs.Run.{refused_t, alone, Came, give_t, Kept}
use Rattle.unresolve.proofs.Resolves.{alone_one, count_of, claim_long, resolved_is}
use Rattle.unresolve.proofs.Alone.{Fit, fit_in}
use Rattle.unresolve.proofs.Candidate.{given_read, given_restored}
use Rattle.refusal.specs.declared.Refused.{Refused}

answer_of_lem : Out (Result ℕ Refused) (List ℕ) → Result ℕ Refused
answer_of_lem (r & o) = r

out_of : Out (Result ℕ Refused) (List ℕ) → List ℕ
out_of (r & o) = o

behind : (k : ℕ) (l : List ℕ) → take (length l - k) (drop k l) ≡ drop k l
behind k l = take_all (length l - k) (drop k l) (simp length-drop (omega arith))

-- ---- find_input

same_outcome : (form : List ℕ) (o : Option (List ℕ)) → o ≡ some form → is_outcome o form ≡ true
unfolding is_outcome
same_outcome form o e = rw e (are_same form)

zero_first : (l : List ℕ) → get_or (set l 0 0) 0 0 ≡ 0
zero_first [] = refl
zero_first (b ∷ l) = refl

module _ (i : ℕ) (F : Fit (setting i)) where
  abbrev header : ℕ
  header = (setting i).version.header

  abbrev most : ℕ
  most = (setting i).version.rows

  U : Usual (setting i)
  U = F.settled.usual.0

  unread : (form : List ℕ) (why : Refusal) (t : Scope) → Err why ≡ form_of (read_form (as_claimed (setting i)) form) → read_form (as_claimed (setting i)) form ≡ accepted t → ⊥
  unfolding form_of
  unread form why t e r = let q : Err why ≡ Ok (length (flatten t)) = rw r at e in let z : ◌≡◌ {A = ℕ} 0 1 = cc in absurd (omega arith)

  module _ (form : List ℕ) (f : Result ℕ Refusal) (said : f ≡ form_of (read_form (as_claimed (setting i)) form)) where
    pub found_unread : (area : List ℕ) (why : Refusal) → f ≡ Err why → Came i None form area
    unfolding Came
    found_unread area why e = go (back (alone i) form) refl
      where
        go : (o : Option (List ℕ)) → back (alone i) form ≡ o → o ≡ none
        go none q = refl
        go (some x) q = let G = given_read i F form x q in absurd (unread form why G.0 (sym e ∙ said) G.1)

    module _ (rows : ℕ) (e : f ≡ Ok rows) where
      tree : (t : Scope) × (read_form (as_claimed (setting i)) form ≡ accepted t) × (rows ≡ length (flatten t))
      tree = whole_read (as_claimed (setting i)) form rows (sym e ∙ said)

      pub found_header : header ≤ length form
      found_header = omega (arith, claim_long (setting i) U form tree.0 tree.1)

      -- restored in notes and a table that have room for an output
      module _ (slots : ℕ) (noted : List Note) (slots-fit : most ≤ slots) (notes_fit : 4 * most ≤ length noted) (area a again : List ℕ) (at : ℕ) (long : length area ≡ header + 16 * most) (room : length again ≡ header + 64 * most)
          (w : (at & a) ≡ restore_t i slots noted (take (length form - header) (drop header form)) area) (same : Bool)
          (compared : same ≡ same_numbers (take (length form) (output (alone i) (take (length a - at) (drop at a)) (set again 0 0))) form) (bytes : Bytes (take (length a - at) (drop at a))) where
        w' : (at & a) ≡ restore_t i slots noted (drop header form) area
        w' = w ∙ ap (λ (x : List ℕ). restore_t i slots noted x area) (behind header form)

        tells : same ≡ is_outcome (outcome (alone i) (take (length a - at) (drop at a))) form
        tells = compared ∙ resolved_is (setting i) U form tree.0 tree.1 (take (length a - at) (drop at a)) (set again 0 0) bytes (length-set again 0 0 ∙ room) (zero_first again)

        restored_is : (x : List ℕ) → back (alone i) form ≡ some x → take (length a - at) (drop at a) ≡ x
        restored_is x q = behind at a ∙ given_restored i F slots noted slots-fit notes_fit form x tree.0 tree.1 q area a at long w'

        pub found_from : same ≡ true → at ≤ 16 * most → length a ≡ header + 16 * most → Came i (Some at) form a
        unfolding Came
        found_from t low size =
            let o = outcome_is (outcome (alone i) (take (length a - at) (drop at a))) form (sym tells ∙ t) in
            let G = back_complete (alone i) F.settled form (take (length a - at) (drop at a)) bytes o in
            (G.is_given_lem ∙ ap {B = Option (List ℕ)} some (sym (sym (behind at a) ∙ restored_is G.found G.is_given_lem)), low, size)

        pub found_not : same ≡ false → Came i None form a
        unfolding Came
        found_not t = go (back (alone i) form) refl
          where
            go : (o : Option (List ℕ)) → back (alone i) form ≡ o → o ≡ none
            go none q = refl
            go (some x) q =
                let o : outcome (alone i) (take (length a - at) (drop at a)) ≡ some form = ap (outcome (alone i)) (restored_is x q) ∙ back_right (alone i) form x q in
                false_not (sym t ∙ tells ∙ same_outcome form (outcome (alone i) (take (length a - at) (drop at a))) o)

  -- ---- run_in

  -- an input that is given has as many rows as its length says
  rows_given : (claim x : List ℕ) → back (alone i) claim ≡ some x → length x ≤ header + 16 * most → (length x - header) / 16 ≡ row_count (setting i).version x
  rows_given claim x e few =
      let B = back_is (alone i) claim x e in
      let v-is = alone_one (setting i) claim B.0 B.2 in
      let u = flatten (unresolve B.1) in
      let x_is : x ≡ form_bytes (setting i) u = B.4 ∙ ap (λ (s : Setting). form_bytes s u) (sym v-is) in
      let long : length x ≡ header + 16 * length u = ap length x_is ∙ form_length (setting i) u U in
      let count : row_count (setting i).version (form_bytes (setting i) u ++ []) ≡ length u = count_of (setting i) U u [] (omega arith) in
      let counted : row_count (setting i).version x ≡ length u = ap (row_count (setting i).version) (x_is ∙ sym (append-nil (form_bytes (setting i) u))) ∙ count in
      omega arith

  module _ (form out a : List ℕ) (b : CodeOption ℕ) (k : Came i b form a) (e : b ≡ None) where
    none_given : back (alone i) form ≡ none
    unfolding Came
    none_given = rw e at k

    pub nothing_said : (r : Result ℕ Refused) → r ≡ refused_t 14 → meaning r ≡ returned_in (setting i).version (back_answer (alone i) form (length out))
    unfolding back_answer in_room returned_in
    nothing_said r q = rw (none_given, q)

    pub nothing_left : out ≡ back_output (alone i) form out
    unfolding back_output back_answer in_room over
    nothing_left = rw none_given

  module _ (form out : List ℕ) (x : List ℕ) (e : back (alone i) form ≡ some x) (few : length x ≤ header + 16 * most) (r : Result ℕ Refused) (o : List ℕ) (w : (r & o) ≡ give_t i x out) where
    by_room : (b : Bool) → ltb (length out) (length x) ≡ b → (meaning r ≡ returned_in (setting i).version (back_answer (alone i) form (length out))) × (o ≡ back_output (alone i) form out)
    unfolding give_t back_output back_answer in_room over returned_in answer_of_lem out_of when◌then◌else◌ pick
    by_room true t =
        let w' : (r & o) ≡ (refused_t 3 & out) = w ∙ rw t in
        let p : r ≡ refused_t 3 = ap answer_of_lem w' in
        let q : o ≡ out = ap out_of w' in
        (rw (e, t, p), rw (e, t) q)
    by_room false t =
        let w' : (r & o) ≡ (Ok ((length x - header) / 16) & sets out 0 x) = w ∙ rw t in
        let p : r ≡ Ok ((length x - header) / 16) = ap answer_of_lem w' in
        let q : o ≡ sets out 0 x = ap out_of w' in
        let z : 0 + length x ≡ length x = omega arith in
        let fits = ltb-false (length out) (length x) t in
        let s : sets out 0 x ≡ x ++ drop (length x) out = sets-eq x out 0 (omega arith) ∙ ap (λ (k : ℕ). x ++ drop k out) z in
        (rw (e, t, p, rows_given form x e few), rw (e, t) (q ∙ s))

  -- the part of the area from its first byte on
  module _ (form a : List ℕ) (at : ℕ) (b : CodeOption ℕ) (k : Came i b form a) (e : b ≡ Some at) where
    came : (back (alone i) form ≡ some (drop at a)) × (at ≤ 16 * most) × (length a ≡ header + 16 * most)
    unfolding Came
    came = rw e at k

    pub area_long : at ≤ length a
    area_long = let c = came in omega (arith, c.1, c.2)

    part_long : length (take (length a - at) (drop at a)) ≡ header + 16 * most - at
    part_long = ap length (behind at a) ∙ omega (arith, length-drop at a, came.2)

    pub part_headed : header ≤ length (take (length a - at) (drop at a))
    part_headed = omega (arith, part_long, came.1)

    pub part_few : length (take (length a - at) (drop at a)) ≤ 262144
    part_few = omega (arith, part_long, F.few, F.short)

    module _ (out o : List ℕ) (r : Result ℕ Refused) (w : (r & o) ≡ give_t i (take (length a - at) (drop at a)) out) where
      given_out : (r & o) ≡ give_t i (drop at a) out
      given_out = w ∙ ap (λ (x : List ℕ). give_t i x out) (behind at a)

      few : length (drop at a) ≤ header + 16 * most
      few = omega (arith, length-drop at a, came.2)

      pub area_said : meaning r ≡ returned_in (setting i).version (back_answer (alone i) form (length out))
      area_said = (by_room form out (drop at a) came.0 few r o given_out (ltb (length out) (length (drop at a))) refl).0

      pub area_left : o ≡ back_output (alone i) form out
      area_left = (by_room form out (drop at a) came.0 few r o given_out (ltb (length out) (length (drop at a))) refl).1

-- ---- of version 1

first_fits : Fit (setting 0)
first_fits = fit_in 0

module _ (form : List ℕ) (f : Result ℕ Refusal) (said : f ≡ form_of (read_form (as_claimed (setting 0)) form)) where
  pub first_unread : (area : List ℕ) (why : Refusal) → f ≡ Err why → Came 0 None form area
  first_unread area why e = found_unread 0 first_fits form f said area why e

  module _ (rows : ℕ) (e : f ≡ Ok rows) where
    pub first_header : 8 ≤ length form
    first_header = found_header 0 first_fits form f said rows e

    module _ (area a again : List ℕ) (at : ℕ) (long : length area ≡ 16376) (room : length again ≡ 65480) (w : (at & a) ≡ restore_t 0 1024 no_notes (take (length form - 8) (drop 8 form)) area) (same : Bool)
        (compared : same ≡ same_numbers (take (length form) (output base (take (length a - at) (drop at a)) (set again 0 0))) form) (bytes : Bytes (take (length a - at) (drop at a))) where
      notes_fit : 4092 ≤ length no_notes
      notes_fit = omega (arith, length-replicate 4092 no_note)

      pub first_from : same ≡ true → at ≤ 16368 → length a ≡ 16376 → Came 0 (Some at) form a
      first_from t low size = found_from 0 first_fits form f said rows e 1024 no_notes (omega arith) notes_fit area a again at long room w same compared bytes t low size

      pub first_not : same ≡ false → Came 0 None form a
      first_not t = found_not 0 first_fits form f said rows e 1024 no_notes (omega arith) notes_fit area a again at long room w same compared bytes t

pub ruleset finding = (first_unread, first_header, rules)

module _ (form out a : List ℕ) (b : CodeOption ℕ) (k : Came 0 b form a) where
  pub first_nothing : b ≡ None → (r : Result ℕ Refused) → r ≡ refused_t 14 → meaning r ≡ returned (back_answer base form (length out))
  unfolding returned
  first_nothing e r q = nothing_said 0 first_fits form out a b k e r q

  pub first_kept : b ≡ None → out ≡ back_output base form out
  first_kept e = nothing_left 0 first_fits form out a b k e

  module _ (at : ℕ) (e : b ≡ Some at) where
    pub first_long : at ≤ length a
    first_long = area_long 0 first_fits form a at b k e

    pub first_headed : 8 ≤ length (take (length a - at) (drop at a))
    first_headed = part_headed 0 first_fits form a at b k e

    pub first_few : length (take (length a - at) (drop at a)) ≤ 262144
    first_few = part_few 0 first_fits form a at b k e

    module _ (o : List ℕ) (r : Result ℕ Refused) (w : (r & o) ≡ give_t 0 (take (length a - at) (drop at a)) out) where
      pub first_given : meaning r ≡ returned (back_answer base form (length out))
      unfolding returned
      first_given = area_said 0 first_fits form a at b k e out o r w

      pub first_written : o ≡ back_output base form out
      first_written = area_left 0 first_fits form a at b k e out o r w

pub ruleset running = (first_nothing, first_kept, first_long, first_headed, first_few, first_given, first_written, rules)

-- ---- decide

module _ (form out : List ℕ) (restored again : ℕ) where
  small : (b : Bool) → (ltb restored 16376 || ltb again 65480) ≡ b → b ≡ true → (r : Result ℕ Refused) → r ≡ refused_t 3 → (meaning r ≡ returned (back_with form (length out) restored again)) × (out ≡ out_with form out restored again)
  unfolding back_with out_with over returned returned_in when◌then◌else◌
  small b e t r q = let s : (ltb restored 16376 || ltb again 65480) ≡ true = e ∙ t in (rw (s, q), rw s)

  module _ (r : Result ℕ Refused) (q : r ≡ refused_t 3) where
    pub first_said : restored < 16376 → meaning r ≡ returned (back_with form (length out) restored again)
    first_said h = (small _ refl (rw (lt-ltb restored 16376 h)) r q).0

    pub second_said : 16376 ≤ restored → again < 65480 → meaning r ≡ returned (back_with form (length out) restored again)
    second_said g h = (small _ refl (rw (le-ltb restored 16376 g, lt-ltb again 65480 h)) r q).0

  pub first_left : restored < 16376 → out ≡ out_with form out restored again
  first_left h = (small _ refl (rw (lt-ltb restored 16376 h)) (refused_t 3) refl).1

  pub second_left : 16376 ≤ restored → again < 65480 → out ≡ out_with form out restored again
  second_left g h = (small _ refl (rw (le-ltb restored 16376 g, lt-ltb again 65480 h)) (refused_t 3) refl).1

  module _ (g : 16376 ≤ restored) (h : 65480 ≤ again) where
    pub enough_said : (r : Result ℕ Refused) → meaning r ≡ returned (back_answer base form (length out)) → meaning r ≡ returned (back_with form (length out) restored again)
    unfolding back_with when◌then◌else◌
    enough_said r p = rw (le-ltb restored 16376 g, le-ltb again 65480 h) p

    pub enough_left : (o : List ℕ) → o ≡ back_output base form out → o ≡ out_with form out restored again
    unfolding back_with out_with back_output when◌then◌else◌
    enough_left o q = rw (le-ltb restored 16376 g, le-ltb again 65480 h) q

pub kept_same : (size : ℕ) (l : List ℕ) → Kept size l l
kept_same size l = record { long = refl; rest = refl }

pub kept_front : (size : ℕ) (l front : List ℕ) → size ≤ length l → length front ≡ length (take size l) → Kept size l (front ++ drop size l)
kept_front size l front h k =
    let t = length-take-le size l h in
    let a = length-append front (drop size l) in
    let d = length-drop size l in
    record { long = omega arith; rest = drop_at front (drop size l) size (omega arith) }

pub front_long : (size : ℕ) (l : List ℕ) → size ≤ length l → size ≡ length (take size l)
front_long size l h = sym (length-take-le size l h)

pub ruleset deciding = (first_said, second_said, first_left, second_left, enough_said, enough_left, kept_same, kept_front, front_long, rules)

-- ---- unresolve

pub cleared_twice : (size : ℕ) (old mid new : List ℕ) → Kept size old mid → new ≡ cleared 0 size mid → new ≡ cleared 0 size old
cleared_twice size old mid new K e = e ∙ cleared_kept 0 size old mid K.long K.rest

pub restored_cleared : (old mid new : List ℕ) → Kept 16376 old mid → new ≡ cleared 0 16376 mid → new ≡ restored_after old
unfolding restored_after
restored_cleared old mid new K e = cleared_twice 16376 old mid new K e

pub again_cleared : (old mid new : List ℕ) → Kept 65480 old mid → new ≡ cleared 0 65480 mid → new ≡ again_after old
unfolding again_after
again_cleared old mid new K e = cleared_twice 65480 old mid new K e
