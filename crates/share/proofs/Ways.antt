-- The ways through the code.
use Rattle.std.specs.Prelude.{Result, Ok, Err, ℕ}
use mathlib.Core.Path.{◌≡◌, refl, sym, ap, ◌∙◌}
use mathlib.Core.Bool.{Bool, true, false, ◌||◌}
use mathlib.Core.List.{List, [], ◌∷◌, ◌++◌}
use native.Mathlib.Omega.{arith}
use Prim.Native.Nat.{ℕ, ◌+◌, ◌-◌, ◌*◌, ◌/◌, ◌<◌, ◌≤◌}
use lib.ListN.{length, get_or, take, drop, replicate, length-drop, length-replicate}
use lib.Dec.{ltb}
use lib.Seq.{take_at, take_all, length-take-le}
use borrow.Author.Tests.{ltb-false}
use mir.Syntax.{w8}
use mir.Val.{Fits}
use Rattle.kit.specs.Out.{◌&◌}
use Rattle.kit.proofs.Laws.{tests}
use Rattle.rules.specs.Tools.{when◌then◌else◌}
use Rattle.rules.specs.Versions.{base}
use Rattle.rules.specs.Tree.{flatten}
use Rattle.rules.specs.Answer as rules
use Rattle.rules.specs.Answer.{refused, accepted, answer, rows_bytes, output}
use Rattle.rules.specs.Laws.RowLaws.{Bytes}
use Rattle.rules.proofs.Laws.InputLaws.{base_usual}
use Rattle.read_form.proofs.Laws.OutputLength.{output_length}
use Rattle.clearing.specs.Cleared.{cleared}
use Rattle.checking.specs.CheckAnswer.{slots_of, links_of, check_answer, table_after, index_after}
use Rattle.sharing.specs.Sharing.{mark, shared, shared_output}
use Rattle.sharing.proofs.Laws.SharedAccepted.{shared_refuses}
use Rattle.refusal.specs.declared.Refusal.{Refusal}
use Rattle.limits.specs.Held.{setting}
use Rattle.form.specs.MarkEnds.{ends_t}
use Rattle.names.specs.Table.{Slot, empty_slot}
use Rattle.index.specs.Indexed.{Holds}
use Rattle.mark.specs.MarkedRows.{mark_rows_t}
use Rattle.resolver.specs.Meaning.{meaning, ruled}
use Rattle.resolver.specs.Run.{Ran, no_slots, no_ends, walk_t, fill_t, before}
use Rattle.resolver.proofs.Bytes.{all_bytes}
use Rattle.resolver.proofs.Starts.{served_start}
use Rattle.resolver.proofs.Root.{able_1}
use Rattle.resolver.proofs.Laws.{rooms_1}
use Rattle.claim_check.specs.Meaning as checked
use Rattle.claim_check.proofs.Agrees.{table_cleared, index_cleared}
use Rattle.claim_check.specs.declared.Verdict.TheVariants.{Yes, No}
use Rattle.share.specs.Lent.{too_small, shared_with, output_with}
use Rattle.share.specs.declared.Own.{Own}
use Rattle.share.specs.Run as run
use Rattle.share.specs.Run.{propose_in, mark_t, walked_t, no_rows, propose_t, Roomy, is_yes, said_yes, Large, Resolved}
use Rattle.share.proofs.Agrees.{none_accepted, as_long, tree, roomy, marks, answers_shared, never_refused, own_resolved}
use Rattle.claim_check.specs.declared.Verdict.{Verdict}
use Rattle.refusal.specs.declared.Refused.{Refused}

-- ---- mark_form

pub empty_holds : Holds (replicate 1024 empty_slot) (replicate 2048 0) 0
empty_holds = (served_start 0 refl).free

pub marked_form : (rows ends marked marked' : List ℕ) (table' : List Slot) → ends ≡ ends_t rows no_ends → (table' & marked') ≡ mark_rows_t rows ends no_slots marked → marked' ≡ mark_t rows marked
unfolding mark_t run.rows_of
marked_form rows ends marked marked' table' p q = ap run.rows_of (q ∙ ap (λ (x : List ℕ). mark_rows_t rows x no_slots marked) p)

-- ---- walk_marked

pub marked_walked : (rows marked part front front' : List ℕ) (r : Result ℕ Refused) → length rows ≤ length marked → part ≡ mark_t rows (take (length rows) marked) → length part ≡ length (take (length rows) marked)
    → (r & front') ≡ fill_t (setting 0) (walk_t (take (length rows) (part ++ drop (length rows) marked))) front → (r & front') ≡ walked_t rows marked front
unfolding walked_t
marked_walked rows marked part front front' r h p l q =
    q ∙ ap (λ (x : List ℕ). fill_t (setting 0) (walk_t x) front) (take_at part (drop (length rows) marked) (length rows) (l ∙ length-take-le (length rows) marked h) ∙ p)

-- ---- propose

pub proposed : (form out front : List ℕ) (r : Result ℕ Refused) (size : ℕ) → size ≡ 8 + 64 * ((length form - 8) / 16) → (r & front) ≡ walked_t (take (length form - 8) (drop 8 form)) no_rows (take size out) → (r & front ++ drop size out) ≡ propose_t form out
unfolding propose_t before
proposed form out front r size e q =
    let d : length (drop 8 form) ≡ length form - 8 = length-drop 8 form in
    let all : take (length form - 8) (drop 8 form) ≡ drop 8 form = take_all (length form - 8) (drop 8 form) (omega arith) in
    rw (d, ← e) (ap (λ (y : Ran). before y (drop size out)) (q ∙ ap (λ (b : List ℕ). walked_t b no_rows (take size out)) all))

-- ---- front_of

module _ (out : List ℕ) (i header rows : ℕ) (e : header ≡ (setting i).version.header) where
  pub front_all : length out < header + 16 * rows → out ≡ take ((setting i).version.header + 16 * rows) out
  front_all h = sym (take_all ((setting i).version.header + 16 * rows) out (omega arith))

  pub front_part : (l : List ℕ) → l ≡ take (header + 16 * rows) out → l ≡ take ((setting i).version.header + 16 * rows) out
  front_part l q = q ∙ ap (λ (n : ℕ). take (n + 16 * rows) out) e

-- ---- is_yes

module _ (v : Result Verdict Refusal) where
  pub is_yes_lem : v ≡ Ok Yes → true ≡ said_yes (checked.meaning v)
  is_yes_lem q = rw q

  pub is_no : (condition row : ℕ) → v ≡ Ok (No condition row) → false ≡ said_yes (checked.meaning v)
  is_no condition row q = rw q

  pub is_refusal : (why : Refusal) → v ≡ Err why → false ≡ said_yes (checked.meaning v)
  is_refusal why q = rw q

-- ---- is_small

module _ (slots links : ℕ) where
  pub small_slots : slots < 2046 → true ≡ too_small slots links
  unfolding too_small
  small_slots h = let t : ltb slots 2046 ≡ true = omega tests in rw t

  pub small_links : 2046 ≤ slots → (b : Bool) → b ≡ ltb links 3070 → b ≡ too_small slots links
  unfolding too_small
  small_links h b e = let t : ltb slots 2046 ≡ false = omega tests in rw t e

  large : too_small slots links ≡ false → (2046 ≤ slots) × (3070 ≤ links)
  unfolding too_small
  large e = go (ltb slots 2046) (ltb links 3070) refl refl e
    where
      go : (a b : Bool) → ltb slots 2046 ≡ a → ltb links 3070 ≡ b → (a || b) ≡ false → (2046 ≤ slots) × (3070 ≤ links)
      go true b p q z = let y : ◌≡◌ {A = ℕ} 0 1 = cc in absurd (omega arith)
      go false true p q z = let y : ◌≡◌ {A = ℕ} 0 1 = cc in absurd (omega arith)
      go false false p q z = (ltb-false slots 2046 p, ltb-false links 3070 q)

-- ---- the areas

module _ (form : List ℕ) where
  pub table_empty : (old new : List Slot) → new ≡ cleared empty_slot 2046 old → new ≡ table_after base form old
  table_empty old new e = table_cleared form old old new (record { long = refl; rest = refl }) (unfold slots_of in e)

  pub index_empty : (old new : List ℕ) → new ≡ cleared 0 3070 old → new ≡ index_after base form old
  index_empty old new e = index_cleared form old old new (record { long = refl; rest = refl }) (unfold links_of slots_of in e)

-- ---- share, where an area is too small

none_left : (l : List ℕ) → length l ≡ 0 → l ≡ []
none_left [] e = refl
none_left (x ∷ l) e = absurd (omega arith)

module _ (input old : List ℕ) (slots links : ℕ) (b : Bool) (is : b ≡ too_small slots links) (t : b ≡ true) where
  small : true ≡ too_small slots links
  small = sym t ∙ is

  refuses : ruled (answer base input 0) ≡ ruled (shared base input 0)
  refuses = go (answer base input 0) refl
    where
      go : (a : rules.Answer) → answer base input 0 ≡ a → ruled (answer base input 0) ≡ ruled (shared base input 0)
      go (refused n z c) q = ap ruled (q ∙ sym (shared_refuses base input 0 n z c q))
      go (accepted rs) q = none_accepted (setting 0) able_1 input rs q

  pub small_answers : (r : Result ℕ Refused) → meaning r ≡ ruled (answer base input (length (take 0 old))) → meaning r ≡ ruled (shared_with input (length old) slots links)
  unfolding shared_with when◌then◌else◌
  small_answers r m = rw (← small) (m ∙ refuses)

  pub small_leaves : (new : List ℕ) → new ≡ output base input (take 0 old) → new ++ drop 0 old ≡ output_with input old slots links
  unfolding output_with when◌then◌else◌
  small_leaves new e =
      let n : new ≡ [] = none_left new (ap length e ∙ (unfold output in output_length [] base base_usual input [])) in
      rw (← small, n)

-- ---- settle

-- the proposal of version 1, in tables that start empty
in_version_1 : (form out : List ℕ) → propose_t form out ≡ propose_in (setting 0) (mark_t (drop 8 form) (take (length (drop 8 form)) no_rows)) no_ends no_slots no_slots form out
unfolding propose_t walked_t walk_t propose_in
in_version_1 form out = refl

no_rows_lem : length no_rows ≡ 16368
unfolding no_rows
no_rows_lem = length-replicate {A = ℕ} 16368 0

module _ (input now : List ℕ) (R : Resolved base input now) (all : (i : ℕ) → Fits w8 (get_or input i 0)) where
  bs : Bytes input
  bs = all_bytes input all

  pub left_roomy : Roomy (setting 0) input now
  left_roomy = roomy (setting 0) able_1 input R.old bs R.own R.accepts now (ap length R.left ∙ as_long (setting 0) able_1 input R.old)

  marked_is : mark_t (drop 8 input) (take (length (drop 8 input)) no_rows) ≡ rows_bytes (flatten (mark (tree (setting 0) able_1 input R.old bs R.own R.accepts).0))
  unfolding mark_t run.rows_of ends_t
  marked_is =
      let a = rooms_1.ends in
      let b = rooms_1.entered in
      let d : length (drop 8 input) ≡ length input - 8 = length-drop 8 input in
      let l : length (take (length (drop 8 input)) no_rows) ≡ length (drop 8 input) = length-take-le (length (drop 8 input)) no_rows (omega (arith, no_rows_lem, d, left_roomy.long, left_roomy.few)) in
      rw (marks (setting 0) able_1 input R.old bs R.own R.accepts no_ends (take (length (drop 8 input)) no_rows) no_slots a b l).answer

  module _ (a : Result ℕ Refused) (l : List ℕ) (p : (a & l) ≡ propose_t input now) where
    pub shares : (meaning a ≡ ruled (shared base input (length R.old))) × (l ≡ shared_output base input R.old)
    shares =
        answers_shared (setting 0) able_1 input R.old bs R.own R.accepts no_ends no_slots no_slots rooms_1 a l (mark_t (drop 8 input) (take (length (drop 8 input)) no_rows)) marked_is
        (p ∙ (in_version_1 input now ∙ ap (propose_in (setting 0) (mark_t (drop 8 input) (take (length (drop 8 input)) no_rows)) no_ends no_slots no_slots input) R.left))

    -- it is never refused
    pub refused_never : (slots links : ℕ) → Large slots links → (rows : ℕ) (claim : List ℕ) (y : Bool) → rows ≡ (meaning a).plain.place → claim ≡ take (8 + 16 * rows) l → y ≡ is_yes (check_answer base input claim slots links) → y ≡ false → ⊥
    refused_never slots links z rows claim y r c f e =
        never_refused (setting 0) able_1 input R.old bs R.own R.accepts a l shares.0 shares.1 slots links (unfold slots_of in z.slots_large) (unfold links_of slots_of in z.links_large) rows claim y r c f e

-- ---- share_in

module _ (input old now : List ℕ) (o : Own) (Q : run.Ran base input old now o) (h : o.number ≡ 0) (all : (i : ℕ) → Fits w8 (get_or input i 0)) (a : Result ℕ Refused) (l : List ℕ) (p : (a & l) ≡ propose_t input now) where
  both : (meaning a ≡ ruled (shared base input (length old))) × (l ≡ shared_output base input old)
  unfolding own_resolved
  both = shares input now (own_resolved base input old now o Q h) all a l p

  pub proposal_answers : meaning a ≡ ruled (shared base input (length old))
  proposal_answers = both.0

  pub proposal_leaves : l ≡ shared_output base input old
  proposal_leaves = both.1

-- ---- share, where they are not

module _ (slots links : ℕ) (b : Bool) (is : b ≡ too_small slots links) (t : b ≡ false) where
  pub large_areas : Large slots links
  large_areas = let z = large slots links (sym is ∙ t) in record { slots_large = z.0; links_large = z.1 }

  pub answers_with : (input : List ℕ) (room : ℕ) (r : Result ℕ Refused) → meaning r ≡ ruled (shared base input room) → meaning r ≡ ruled (shared_with input room slots links)
  unfolding shared_with when◌then◌else◌
  answers_with input room r p = let f : too_small slots links ≡ false = sym is ∙ t in rw f p

  pub leaves_with : (input old l : List ℕ) → l ≡ shared_output base input old → l ≡ output_with input old slots links
  unfolding output_with when◌then◌else◌
  leaves_with input old l p = let f : too_small slots links ≡ false = sym is ∙ t in rw f p
