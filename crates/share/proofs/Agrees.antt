-- Of an input that is accepted, under any setting that the walk is able to take: what the code proposes is what the rules propose, and the
-- check accepts it. What is not accepted is answered as the resolver answers it.
use Rattle.std.specs.Prelude.{Result as CodeResult, ℕ}
use mathlib.Core.Path.{◌≡◌, refl, sym, ap, ◌∙◌, subst}
use mathlib.Core.Bool.{Bool, true, false}
use mathlib.Core.Option.{none, some}
use mathlib.Core.List.{List, [], ◌∷◌, ◌++◌, append_assoc}
use native.Mathlib.Omega.{arith}
use Prim.Native.Nat.{ℕ, ◌+◌, ◌-◌, ◌*◌, ◌/◌, ◌≤◌}
use lib.Dec.{ltb}
use lib.ListN.{length, take, drop, replicate, length-append, length-drop, length-replicate}
use lib.Seq.{length-take-le, take_at, drop_at}
use Rattle.kit.specs.Out.{◌&◌}
use Rattle.kit.proofs.Laws.{tests}
use Rattle.rules.specs.Tools.{when◌then◌else◌, only, ◌or_else◌}
use Rattle.rules.specs.Versions.{Version, Setting, top_name}
use Rattle.rules.specs.Rows.{Row}
use Rattle.rules.specs.Tree.{Scope, flatten}
use Rattle.rules.specs.Rules.{Result, ok}
use Rattle.rules.specs.Answer as rules
use Rattle.rules.specs.Answer.{AnswerOf, refused, accepted, map_answer, has_header, setting_of, row_count, rows_of, resolved, answer, rows_bytes, form_bytes, written, output_after, output}
use Rattle.rules.specs.Laws.RowLaws.{Bytes, bytes_drop}
use Rattle.rules.specs.Laws.Results.{some_same}
use Rattle.rules.proofs.Laws.InputLaws.{AllUsual, readings}
use Rattle.rules.specs.Laws.Meaning.Names.{LowScope}
use Rattle.rules.proofs.Laws.Meaning.ReadNames.{read_low}
use Rattle.rules.proofs.Laws.Read.ReadRight.{reads_form}
use Rattle.read_form.specs.ReadForm.{◌and_then◌, read_form}
use Rattle.read_form.proofs.Laws.ReadFormLaws.{no_answer, past, read_exactly, read_written}
use Rattle.read_form.proofs.Laws.OutputLength.{form_length, output_length}
use Rattle.checking.specs.Check as checking
use Rattle.checking.specs.Check.{yes, verdict_for, verdict}
use Rattle.checking.specs.CheckAnswer.{slots_of, links_of, check_for, check_answer}
use Rattle.sharing.specs.Sharing.{mark, propose, proposed, shared_after, shared, shared_output}
use Rattle.sharing.proofs.Laws.SharedAccepted.{shared_four, shared_refuses}
use Rattle.sharing.proofs.Laws.SharedAnswer.{Planned, planned}
use Rattle.sharing.proofs.Laws.SharedBuffer.{refused_buffer, planned_buffer}
use Rattle.form.specs.MarkEnds.{ends_to}
use Rattle.form.proofs.EndsStorey.{ends_to_right}
use Rattle.names.specs.Table.{Slot}
use Rattle.mark.specs.MarkedRows.{mark_rows_t}
use Rattle.mark_laws.specs.Agrees.{AllMarked, mark_agrees}
use Rattle.resolver.specs.Meaning.{Said, meaning, ruled}
use Rattle.resolver.specs.Admit.{is_short, admit}
use Rattle.resolver.specs.Run.{walk_in}
use Rattle.resolver.proofs.Admits.{steps, Admitted, admitted, answer_one, output_one}
use Rattle.resolver.proofs.Root.{Able, Walks, Rooms}
use Rattle.resolver.proofs.Agrees.{Says, fills_accepted, body_rows, body_form}
use Rattle.moved.proofs.Agrees.{Counted, answer_counted}
use Rattle.claim_check.specs.Meaning as checked
use Rattle.share_laws.specs.Relaxed.{relaxed}
use Rattle.share_laws.specs.Walked.{marked_walks}
use Rattle.share.specs.declared.Own.{Own}
use Rattle.share.specs.Run as run
use Rattle.share.specs.Run.{propose_in, Roomy, is_yes, said_yes, Resolved}
use Rattle.claim_check.specs.declared.Verdict.{Verdict}
use Rattle.refusal.specs.declared.Refusal.{Refusal}
use Rattle.refusal.specs.declared.Refused.{Refused}

-- ---- one setting

one_setting : (s v : Setting) (input : List ℕ) → setting_of (s ∷ []) input ≡ some v → v ≡ s
unfolding setting_of
one_setting s v input e = go (has_header s input) e
  where
    go : (b : Bool) → (only b s or_else none) ≡ some v → v ≡ s
    go true p = sym (some_same s v (unfold only ◌or_else◌ in p))
    go false p = let q : none ≡ some v = unfold only ◌or_else◌ in p in let z : ◌≡◌ {A = ℕ} 0 1 = cc in absurd (omega arith)

-- an input that is accepted is admitted
admit_of : (s : Setting) (input : List ℕ) (room : ℕ) (own : List Row) → answer (s ∷ []) input room ≡ accepted own → (t : Scope) × (admit s input room ≡ accepted t)
admit_of s input room own e = go (admit s input room) refl (sym (answer_one s input room) ∙ e)
  where
    go : (a : AnswerOf Scope) → admit s input room ≡ a → map_answer flatten (a and_then steps [] s input) ≡ accepted own → (t : Scope) × (admit s input room ≡ accepted t)
    go (refused n z c) q p = unfold ◌and_then◌ map_answer in no_answer n z c own p
    go (accepted t) q p = (t, q)

-- the verdict, where the setting is known
judged : (settings : List Setting) (input claim : List ℕ) (s : Setting) → setting_of settings input ≡ some s → verdict settings input claim ≡ yes → verdict_for (some s) input claim ≡ yes
unfolding verdict
judged settings input claim s e v = rw e at v

-- ---- a form over what stood there

drop_written : (size : ℕ) (new old : List ℕ) → length new ≤ size → drop size (written size new old) ≡ drop size old
unfolding written
drop_written size new old h =
    let z = length-replicate {A = ℕ} (size - length new) 0 in
    let a = length-append new (replicate (size - length new) 0) in
    rw (← append_assoc new (replicate (size - length new) 0) (drop size old)) (drop_at (new ++ replicate (size - length new) 0) (drop size old) size (omega arith))

take_written : (size n : ℕ) (new old : List ℕ) → length new ≡ n → take n (written size new old) ≡ new
unfolding written
take_written size n new old e = take_at new (replicate (size - length new) 0 ++ drop size old) n e

over_written : (size : ℕ) (new own old : List ℕ) → length own ≤ size → written size new (written size own old) ≡ written size new old
over_written size new own old h = unfold written in ap (λ (l : List ℕ). new ++ (replicate (size - length new) 0 ++ l)) (unfold written in drop_written size own old h)

-- ---- the proposal

module _ (one : Setting) (able : Able one) where
  abbrev v : Version
  v = one.version

  usual : AllUsual (one ∷ [])
  usual = (able.usual, tt)

  -- where there is no room nothing is accepted
  pub none_accepted : {X : Type 0} (input : List ℕ) (own : List Row) → answer (one ∷ []) input 0 ≡ accepted own → X
  none_accepted input own e =
      let t = admit_of one input 0 own e in
      let room = (admitted one input 0 t.0 t.1).enough in
      let header = able.usual.header in
      absurd (omega arith)

  pub as_long : (input old : List ℕ) → length (output (one ∷ []) input old) ≡ length old
  as_long input old = unfold output in output_length [] (one ∷ []) usual input old

  module _ (input old : List ℕ) (bs : Bytes input) (own : List Row) (e : answer (one ∷ []) input (length old) ≡ accepted own) where
    pub tree : (t : Scope) × (admit one input (length old) ≡ accepted t)
    tree = admit_of one input (length old) own e

    fine : Admitted one input (length old) tree.0
    fine = admitted one input (length old) tree.0 tree.1

    reads : read_form one input ≡ accepted tree.0
    reads = (past (is_short one input (length old)) 3 0 [] (read_form one input) tree.0 (unfold admit in tree.1)).1

    plan : Planned (one ∷ []) input (length old) own
    plan = planned (one ∷ []) usual input bs (length old) own e

    is_one_lem : plan.setting ≡ one
    is_one_lem = one_setting one plan.setting input plan.asked_for

    asks : setting_of (one ∷ []) input ≡ some one
    asks = plan.asked_for ∙ ap some is_one_lem

    shared_is : shared (one ∷ []) input (length old) ≡ map_answer flatten (resolved (propose one.rules tree.0))
    unfolding shared shared_after proposed ◌and_then◌
    shared_is = rw (e, asks, reads)

    -- the tree that the rules propose
    made : (q : Scope × ℕ) × (propose one.rules tree.0 ≡ ok q) × (flatten q.0 ≡ plan.out)
    made = go (propose one.rules tree.0) refl (sym shared_is ∙ plan.answers)
      where
        go : (m : Result (Scope × ℕ)) → propose one.rules tree.0 ≡ m → map_answer flatten (resolved m) ≡ accepted plan.out → (q : Scope × ℕ) × (propose one.rules tree.0 ≡ ok q) × (flatten q.0 ≡ plan.out)
        go (Result.refused why z) q a = unfold resolved map_answer in no_answer _ _ _ plan.out a
        go (ok r) q a = let p : accepted (flatten r.0) ≡ accepted plan.out = unfold resolved map_answer in a in (r, q, cc)

    abbrev rs : List Row
    rs = flatten made.0.0

    abbrev body : List ℕ
    body = drop v.header input

    abbrev n : ℕ
    n = row_count v input

    abbrev size : ℕ
    size = v.header + 64 * n

    count : length body / 16 ≡ n
    count = body_rows one able input old tree.0 fine

    long : length body ≡ 16 * n
    long = rw length-drop (omega (arith, fine.long))

    low : LowScope tree.0
    low =
        read_low one.rules v.scopes top_name (length body / 16) body tree.0 (omega arith) (reads_form one.rules v.scopes (rows_of top_name (length body / 16) body) tree.0 (body_form one able input old tree.0 fine) fine.low)

    pub roomy : (now : List ℕ) → length now ≡ length old → Roomy one input now
    roomy now same = record { rows = n; long = fine.long; few = fine.few; room = omega (arith, fine.enough) }

    -- the marked rows
    abbrev marked_rows : List ℕ
    marked_rows = rows_bytes (flatten (mark tree.0))

    -- are written where there is room for them, for the slots of a table and for the ends of fields
    pub marks : (ends marked : List ℕ) (table : List Slot) → v.rows ≤ length ends → v.rows ≤ length table → length marked ≡ length body
        → AllMarked (mark_rows_t body (ends_to v.scopes body ends) table marked) (length table) (flatten (mark tree.0))
    marks ends marked table a b l =
        let c = count in
        let g = long in
        let few = able.few in
        let f = body_form one able input old tree.0 fine in
        let right = ends_to_right v.scopes top_name body ends tree.0 f.of_tree fine.low (omega (arith, fine.few)) (omega (arith, fine.few)) in
        mark_agrees body _ marked table tree.0 (bytes_drop v.header input bs) f.of_tree (omega arith) right l (omega (arith, fine.count, fine.few)) (omega (arith, fine.count, fine.few))

    four : length rs ≤ 4 * n
    four = omega (arith, shared_four one.rules tree.0 made.0 made.1, fine.count)

    -- what the rules answer and leave
    shared_accepts : shared (one ∷ []) input (length old) ≡ accepted rs
    shared_accepts = plan.answers ∙ ap accepted (sym made.2)

    leaves : shared_output (one ∷ []) input old ≡ written size (form_bytes one rs) old
    leaves =
        planned_buffer (one ∷ []) input old own plan
        ∙ (subst (λ (s : Setting). written (plan.setting.version.header + 64 * row_count plan.setting.version input) (form_bytes plan.setting plan.out) old ≡ written (s.version.header + 64 * row_count s.version input) (form_bytes s plan.out) old) is_one_lem refl
        ∙ ap (λ (l : List Row). written size (form_bytes one l) old) (sym made.2))

    own_left : output (one ∷ []) input old ≡ written size (form_bytes one own) old
    own_left = output_one one input old ∙ (unfold output_after in rw e)

    own_short : length (form_bytes one own) ≤ size
    own_short =
        let R = readings (one ∷ []) usual input old bs own e in
        let s : R.setting ≡ one = one_setting one R.setting input R.asked_for in
        let f : length own ≤ 4 * n = subst (λ (x : Setting). length own ≤ 4 * row_count x.version input) s R.four in
        omega (arith, form_length one own able.usual)

    module _ (ends : List ℕ) (entered names : List Slot) (rooms : Rooms v ends entered names) where
      walks : (out : List ℕ) → 64 * n ≤ length out → Walks (ok made.0) out (walk_in (relaxed one) marked_rows ends entered names out)
      walks out room =
          marked_walks one able ends entered names rooms tree.0 (omega (arith, fine.count, fine.few)) fine.is_form.good low fine.low (read_written one input tree.0 able.usual bs reads) made.0 made.1 out (omega (arith, fine.count))

      says : (now : List ℕ) → length now ≡ length old → Says one n now (accepted rs) (propose_in one marked_rows ends entered names input now)
      unfolding propose_in
      says now same =
          let room = fine.enough in
          let front = drop v.header (take size now) in
          let whole : length (take size now) ≡ size = length-take-le size now (omega arith) in
          let W = walks front (simp length-drop (omega arith)) in
          rw count (fills_accepted one able now n fine.few (omega arith) (walk_in (relaxed one) marked_rows ends entered names) rs W.0 four W.1 W.2)

      -- THE PROPOSAL over what the resolver left
      pub answers_shared : (a : CodeResult ℕ Refused) (l marked : List ℕ) → marked ≡ marked_rows → (a & l) ≡ propose_in one marked ends entered names input (output (one ∷ []) input old)
          → (meaning a ≡ ruled (shared (one ∷ []) input (length old))) × (l ≡ shared_output (one ∷ []) input old)
      answers_shared a l marked m p =
          let q : (a & l) ≡ propose_in one marked_rows ends entered names input (output (one ∷ []) input old) = p ∙ ap (λ (x : List ℕ). propose_in one x ends entered names input (output (one ∷ []) input old)) m in
          let S : Says one n (output (one ∷ []) input old) (accepted rs) (a & l) = subst (Says one n (output (one ∷ []) input old) (accepted rs)) (sym q) (says (output (one ∷ []) input old) (as_long input old)) in
          let over : output_after one (accepted rs) size (output (one ∷ []) input old) ≡ written size (form_bytes one rs) (output (one ∷ []) input old) = unfold output_after in refl in (
            S.0 ∙ ap ruled (sym shared_accepts),
            S.1 ∙ (over ∙ (ap (written size (form_bytes one rs)) own_left ∙ (over_written size (form_bytes one rs) (form_bytes one own) old own_short ∙ sym leaves))),
          )

    -- ---- the check

    -- in areas that are large enough
    check_yes : (slots links : ℕ) → slots_of v ≤ slots → links_of v ≤ links → check_answer (one ∷ []) input (form_bytes one rs) slots links ≡ yes
    unfolding check_answer check_for when◌then◌else◌
    check_yes slots links a b =
        let R = (read_exactly one input tree.0).0 reads in
        let w : verdict (one ∷ []) input (form_bytes one rs) ≡ yes =
        subst (λ (l : List Row). verdict (one ∷ []) input (form_bytes one l) ≡ yes) (sym made.2) (subst (λ (s : Setting). verdict (one ∷ []) input (form_bytes s plan.out) ≡ yes) is_one_lem plan.checked) in
        let p : ltb slots (slots_of v) ≡ false = omega tests in
        let q : ltb links (links_of v) ≡ false = omega tests in
        rw (asks, R.counted, R.long, p, q) (judged (one ∷ []) input (form_bytes one rs) one asks w)

    -- what stands at the front
    front_shared : (l : List ℕ) → l ≡ shared_output (one ∷ []) input old → (rows : ℕ) → rows ≡ length rs → take (v.header + 16 * rows) l ≡ form_bytes one rs
    front_shared l q rows c =
        let f : length (form_bytes one rs) ≡ v.header + 16 * length rs = form_length one rs able.usual in
        rw c (ap (take (v.header + 16 * length rs)) (q ∙ leaves) ∙ take_written size (v.header + 16 * length rs) (form_bytes one rs) old f)

    -- IT IS NEVER REFUSED
    pub never_refused : (a : CodeResult ℕ Refused) (l : List ℕ) → meaning a ≡ ruled (shared (one ∷ []) input (length old)) → l ≡ shared_output (one ∷ []) input old → (slots links : ℕ) → slots_of v ≤ slots → links_of v ≤ links
        → (rows : ℕ) (claim : List ℕ) (y : Bool) → rows ≡ (meaning a).plain.place → claim ≡ take (v.header + 16 * rows) l → y ≡ is_yes (check_answer (one ∷ []) input claim slots links) → y ≡ false → ⊥
    unfolding is_yes
    never_refused a l m o slots links h k rows claim y r c f z =
        let answered : (ruled (shared (one ∷ []) input (length old))).plain.place ≡ length rs = rw shared_accepts in
        let counted : rows ≡ length rs = r ∙ (ap (λ (x : Said). x.plain.place) m ∙ answered) in
        let g : is_yes (check_answer (one ∷ []) input claim slots links) ≡ true = rw (c ∙ front_shared l o rows counted, check_yes slots links h k) in
        let d : false ≡ true = sym z ∙ (f ∙ g) in
        let u : ◌≡◌ {A = ℕ} 0 1 = cc in
        omega arith

-- ---- what the resolver answered

module _ (settings : List Setting) (input old now : List ℕ) (o : Own) (Q : run.Ran settings input old now o) where
  -- the number is the rules'
  number_is : (a : rules.Answer) → answer settings input (length old) ≡ a → o.number ≡ (ruled a).plain.number
  number_is a q = Q.numbered ∙ ap (λ (x : Said). x.plain.number) (Q.answers ∙ ap ruled q)

  -- a refusal is the input's
  refused_own : (o.number ≡ 0 → ⊥) → (n : ℕ) × (z : ℕ) × (c : List ℕ) × (answer settings input (length old) ≡ refused n z c)
  refused_own h = go (answer settings input (length old)) refl
    where
      go : (a : rules.Answer) → answer settings input (length old) ≡ a → (n : ℕ) × (z : ℕ) × (c : List ℕ) × (answer settings input (length old) ≡ refused n z c)
      go (refused nr z c) q = (nr, z, c, q)
      go (accepted written-rows) q = absurd (h (number_is (accepted written-rows) q))

  pub own_answers : (o.number ≡ 0 → ⊥) → meaning o.answer ≡ ruled (shared settings input (length old))
  own_answers h = let q = refused_own h in Q.answers ∙ ap ruled (q.3 ∙ sym (shared_refuses settings input (length old) q.0 q.1 q.2 q.3))

  pub own_leaves : (o.number ≡ 0 → ⊥) → now ≡ shared_output settings input old
  own_leaves h = let q = refused_own h in Q.leaves ∙ sym (refused_buffer settings input old q.0 q.1 q.2 q.3)

  -- and what is none has rows
  pub accepted_own : o.number ≡ 0 → (rs : List Row) × (answer settings input (length old) ≡ accepted rs)
  accepted_own h = go (answer settings input (length old)) refl (answer_counted settings input (length old))
    where
      go : (a : rules.Answer) → answer settings input (length old) ≡ a → Counted a → (rs : List Row) × (answer settings input (length old) ≡ accepted rs)
      go (refused nr z c) q one_more_lem = let x = number_is (refused nr z c) q in absurd (omega (arith, x, h, one_more_lem))
      go (accepted written-rows) q one_more_lem = (written-rows, q)

  unfoldable pub own_resolved : o.number ≡ 0 → Resolved settings input now
  own_resolved h = let a = accepted_own h in record { old = old; own = a.0; accepts = a.1; left = Q.leaves }

-- ---- what the check answered

ruled_yes : (w : checking.Verdict) → said_yes (checked.ruled w) ≡ is_yes w
unfolding is_yes
ruled_yes checking.yes = refl
ruled_yes (checking.no condition row) = refl
ruled_yes (checking.refused number place carried) = refl

pub said_yes_lem : (v : CodeResult Verdict Refusal) (w : checking.Verdict) (y : Bool) → checked.meaning v ≡ checked.ruled w → y ≡ said_yes (checked.meaning v) → y ≡ is_yes w
said_yes_lem v w y e q = q ∙ (ap said_yes e ∙ ruled_yes w)
