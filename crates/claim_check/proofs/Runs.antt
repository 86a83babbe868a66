-- Each way through the whole check.
use Rattle.std.specs.Prelude.{Result, Ok, Err, ⊤, ℕ, IsErrAnd}
use Rattle.std.proofs.lemmas.Result.{err_from_is_err_and}
use mathlib.Core.Path.{◌≡◌, refl, sym, ap, ap₂, ◌∙◌}
use mathlib.Core.List.{List, [], ◌∷◌, ◌++◌}
use Prim.Native.Nat.{ℕ, zero, suc, ◌+◌, ◌-◌, ◌*◌, ◌<◌, ◌≤◌}
use native.Mathlib.Omega.{arith}
use lib.ListN.{length, take, drop, replicate, length-append, length-drop}
use lib.Seq.{take_all, drop_at, length-take-le}
use borrow.Author.Rules.{rules}
use borrow.Author.Tests.{lt-ltb, le-ltb, eqb-true}
use Rattle.kit.specs.Pick.{pick}
use Rattle.names.specs.Table.{Slot}
use Rattle.rules.specs.Versions.{Setting, as_claimed}
use Rattle.read_form.specs.ReadForm.{read_form}
use Rattle.read_form.proofs.Laws.ReadFormLaws.{read_exactly}
use Rattle.refusal.specs.declared.Refusal.{Refusal}
use Rattle.limits.specs.Held.{limits_of, setting}
use Rattle.limits.specs.declared.Limits.{Limits}
use Rattle.form.specs.Header.{header_to, refusal_of}
use Rattle.whole_form.specs.Whole.{form_of}
use Rattle.whole_form.proofs.Laws.{whole_read}
use Rattle.resolver.specs.Steps.{steps_t}
use Rattle.clearing.specs.Cleared.{cleared}
use Rattle.checking.specs.CheckAnswer.{slots_of, links_of}
use Rattle.claim_check.specs.Run.{Fit, Kept, version_of, body_of, refused_t, conditions_t, claim_by, steps_by, input_by, judge_t, small_by, small_t, decide_t}
use Rattle.claim_check.specs.declared.Verdict.TheVariants.{Yes, No}
use Rattle.claim_check.specs.declared.Verdict.{Verdict}
use Rattle.form.specs.declared.header.BadHeader.{BadHeader}

-- ---- sizes

-- no setting has more rows
pub rows_few : (i : ℕ) → (version_of i).rows ≤ 16383
rows_few zero = omega arith
rows_few (suc zero) = omega arith
rows_few (suc (suc zero)) = omega arith
rows_few (suc (suc (suc i))) = omega arith

module _ (i : ℕ) (l : Limits) (e : l ≡ limits_of (setting i)) where
  pub rows_are : (l.rows ≡ (version_of i).rows) × (l.rows ≤ 16383)
  rows_are = rw e (refl, rows_few i)

  pub header_is : l.header ≡ (version_of i).header
  header_is = rw e

pub slots_are : (i n : ℕ) → n ≡ (version_of i).rows → 2 * n ≡ slots_of (version_of i)
unfolding slots_of
slots_are i n e = rw e

pub links_are : (i n : ℕ) → n ≡ slots_of (version_of i) → 1024 + n ≡ links_of (version_of i)
unfolding links_of
links_are i n e = rw e

-- ---- forms without their headers

behind : (l : List ℕ) (a : ℕ) → a ≤ length l → take (length l - a) (drop a l) ≡ drop a l
behind l a h = take_all (length l - a) (drop a l) (simp length-drop (omega arith))

has_header_lem : (s : Setting) (l : List ℕ) (rows : ℕ) → Ok rows ≡ form_of (read_form s l) → s.version.header ≤ length l
has_header_lem s l rows e =
    let w = whole_read s l rows e in
    let h = eqb-true (length l) _ ((read_exactly s l w.0).0 w.1).long in
    omega arith

module _ (i : ℕ) (l : List ℕ) (r : Result ℕ Refusal) (rows : ℕ) (w : r ≡ Ok rows) where
  pub input_long : r ≡ form_of (read_form (setting i) l) → (version_of i).header ≤ length l
  input_long e = has_header_lem (setting i) l rows (sym w ∙ e)

  pub claim_long : r ≡ form_of (read_form (as_claimed (setting i)) l) → (version_of i).header ≤ length l
  claim_long e = has_header_lem (as_claimed (setting i)) l rows (sym w ∙ e)

-- ---- the rows, the claim, the steps, the input

pub rows_tried : (i : ℕ) (form claim : List ℕ) (room a : ℕ) (v : Result Verdict Refusal) → a ≡ (version_of i).header → (version_of i).header ≤ length form → (version_of i).header ≤ length claim
    → v ≡ conditions_t (take (length form - a) (drop a form)) (take (length claim - a) (drop a claim)) room → v ≡ conditions_t (body_of i form) (body_of i claim) room
rows_tried i form claim room a v h f g q = rw (h, behind form (version_of i).header f, behind claim (version_of i).header g) at q

module _ (i : ℕ) (form claim : List ℕ) (room : ℕ) where
  module _ (r : Result ℕ Refusal) (e : r ≡ form_of (read_form (as_claimed (setting i)) claim)) where
    pub claim_refused : (why : Refusal) → r ≡ Err why → Ok (No 1 why.place) ≡ claim_by i form claim room (form_of (read_form (as_claimed (setting i)) claim))
    unfolding claim_by
    claim_refused why w = rw (← e, w)

    pub claim_whole : (rows : ℕ) (v : Result Verdict Refusal) → r ≡ Ok rows → v ≡ conditions_t (body_of i form) (body_of i claim) room → v ≡ claim_by i form claim room (form_of (read_form (as_claimed (setting i)) claim))
    unfolding claim_by
    claim_whole rows v w q = rw (← e, w) q

  module _ (r : Result ⊤ Refusal) (a : ℕ) (h : a ≡ (version_of i).header) (low : (version_of i).header ≤ length form) (e : r ≡ steps_t (take (length form - a) (drop a form))) where
    steps_are : r ≡ steps_t (drop (version_of i).header form)
    steps_are = rw (h, behind form (version_of i).header low) at e

    pub steps_refused : (why : Refusal) → r ≡ Err why → (v : Result Verdict Refusal) → IsErrAnd v (λ refusal. refusal ≡ why) → v ≡ steps_by i form claim room (steps_t (drop (version_of i).header form))
    unfolding steps_by
    steps_refused why w v q = let p = err_from_is_err_and v q in p.1 ∙ ap Err p.2 ∙ rw (← steps_are, w)

    pub steps_pass : (v : Result Verdict Refusal) → r ≡ Ok tt → v ≡ claim_by i form claim room (form_of (read_form (as_claimed (setting i)) claim)) → v ≡ steps_by i form claim room (steps_t (drop (version_of i).header form))
    unfolding steps_by
    steps_pass v w q = rw (← steps_are, w) q

  module _ (r : Result ℕ Refusal) (e : r ≡ form_of (read_form (setting i) form)) where
    pub input_refused : (why : Refusal) → r ≡ Err why → (v : Result Verdict Refusal) → IsErrAnd v (λ refusal. refusal ≡ why) → v ≡ judge_t i form claim room
    unfolding judge_t input_by
    input_refused why w v q = let p = err_from_is_err_and v q in p.1 ∙ ap Err p.2 ∙ rw (← e, w)

    pub input_whole : (rows : ℕ) (v : Result Verdict Refusal) → r ≡ Ok rows → v ≡ steps_by i form claim room (steps_t (drop (version_of i).header form)) → v ≡ judge_t i form claim room
    unfolding judge_t input_by
    input_whole rows v w q = rw (← e, w) q

pub ruleset judging = (claim_refused, claim_whole, steps_pass, input_whole, rules)

-- ---- areas that are too small

module _ (i : ℕ) (form : List ℕ) (l : Limits) (k : l ≡ limits_of (setting i)) (h : Result ℕ BadHeader) (e : h ≡ header_to l form) where
  pub small_header : (bad : BadHeader) → h ≡ Err bad → (v : Result Verdict Refusal) → IsErrAnd v (λ refusal. refusal ≡ refusal_of bad) → v ≡ small_t i form
  unfolding small_t small_by
  small_header bad w v q = let p = err_from_is_err_and v q in p.1 ∙ ap Err p.2 ∙ rw (← k, ← e, w)

  pub small_rows : (rows : ℕ) (v : Result Verdict Refusal) → h ≡ Ok rows → v ≡ refused_t 3 0 → v ≡ small_t i form
  unfolding small_t small_by
  small_rows rows v w q = rw (← k, ← e, w) q

pub ruleset smalls = (small_rows, rules)

-- ---- decide

module _ (i : ℕ) (form claim : List ℕ) (slots links most : ℕ) (m : most ≡ slots_of (version_of i)) where
  pub decide_slots : (v : Result Verdict Refusal) → slots < most → v ≡ small_t i form → v ≡ decide_t i form claim slots links
  unfolding decide_t pick
  decide_slots v h q = rw (← m, lt-ltb _ _ h) q

  module _ (h : most ≤ slots) (all : ℕ) (n : all ≡ links_of (version_of i)) where
    pub decide_links : (v : Result Verdict Refusal) → links < all → v ≡ small_t i form → v ≡ decide_t i form claim slots links
    unfolding decide_t pick
    decide_links v g q = rw (← m, le-ltb _ _ h, ← n, lt-ltb _ _ g) q

    judged : (v : Result Verdict Refusal) → all ≤ links → v ≡ judge_t i form claim most → v ≡ decide_t i form claim slots links
    unfolding decide_t pick
    judged v g q = rw (← m, le-ltb _ _ h, ← n, le-ltb _ _ g) q

-- in the front of a table
pub decide_judge : (i : ℕ) (form claim : List ℕ) (table : List Slot) (links most all : ℕ) (v : Result Verdict Refusal) → most ≡ slots_of (version_of i) → most ≤ length table → all ≡ links_of (version_of i) → all ≤ links
    → v ≡ judge_t i form claim (length (take most table)) → v ≡ decide_t i form claim (length table) links
decide_judge i form claim table links most all v m h n g q = judged i form claim (length table) links most m h all n v g (rw (length-take-le most table h) at q)

pub cleared_by : {A : Type 0} (n size : ℕ) (z : A) (old new : List A) → n ≡ size → new ≡ cleared z n old → new ≡ cleared z size old
cleared_by n size z old new e q = rw (← e) q

pub kept_same : {A : Type 0} (size : ℕ) (l : List A) → Kept size l l
kept_same size l = record { long = refl; rest = refl }

pub kept_front : {A : Type 0} (size n : ℕ) (l front : List A) → n ≡ size → n ≤ length l → length front ≡ length (take n l) → Kept size l (front ++ drop n l)
kept_front size n l front e h k =
    let t = length-take-le n l h in
    let a = length-append front (drop n l) in
    let d = length-drop n l in
    record { long = omega arith; rest = rw (← e) (drop_at front (drop n l) n (omega arith)) }

pub fits : (i : ℕ) {A : Type 0} (table : List A) (index : List ℕ) (most all : ℕ) → most ≡ slots_of (version_of i) → all ≡ links_of (version_of i) → most ≤ 32766 → most ≤ length table → all ≤ length index → Fit (length (take most table)) (length (take all index))
unfolding links_of
fits i table index most all m n few h k =
    let a = length-take-le most table h in
    let b = length-take-le all index k in
    record { links_are = omega arith; few = omega arith }
