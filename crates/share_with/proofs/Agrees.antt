-- Of an input that is accepted under one of the settings in force: the proposal is what the rules propose, and the check accepts it.
use Rattle.std.specs.Prelude.{Result, ℕ}
use mathlib.Core.Path.{◌≡◌, refl, sym, ap, ◌∙◌}
use mathlib.Core.Bool.{Bool, true, false}
use mathlib.Core.Option.{Option, none, some}
use mathlib.Core.List.{List, [], ◌∷◌}
use native.Mathlib.Omega.{arith}
use Prim.Native.Nat.{ℕ, zero, suc, ◌+◌, ◌-◌, ◌*◌, ◌/◌, ◌%◌, ◌≤◌}
use lib.Dec.{eqb, leb}
use lib.ListN.{length, get_or, set, take, drop, replicate, length-set, length-drop}
use lib.Seq.{length-take-le}
use Rattle.kit.specs.Out.{◌&◌}
use Rattle.kit.specs.Pick.{pick}
use Rattle.rules.specs.Tools.{when◌then◌else◌}
use Rattle.rules.specs.Versions.{Version, Setting, all}
use Rattle.rules.specs.Rows.{Row}
use Rattle.rules.specs.Tree.{flatten}
use Rattle.rules.specs.Answer as rules
use Rattle.rules.specs.Answer.{refused, accepted, setting_of, row_count, answer, rows_bytes, output_after, output}
use Rattle.rules.specs.Laws.RowLaws.{Bytes}
use Rattle.checking.specs.CheckAnswer.{slots_of, links_of, check_answer}
use Rattle.sharing.specs.Sharing.{mark, proposed, shared_after, shared, shared_for, shared_output}
use Rattle.sharing.proofs.Laws.SharedAccepted.{shared_refuses}
use Rattle.limits.specs.Held.{setting}
use Rattle.form.specs.MarkEnds.{Noted, depth_before, end_at_t, with_noted, ends_back_t, ends_in, ends_to}
use Rattle.names.specs.Table.{Slot}
use Rattle.rows.specs.RowAt.{code_at}
use Rattle.resolver.specs.Meaning.{meaning, ruled}
use Rattle.resolver.proofs.Root.{Able, Rooms}
use Rattle.resolver_with.specs.Areas.{slots_for, Lent, roomy}
use Rattle.resolver_with.specs.Asked.{asked}
use Rattle.resolver_with.proofs.Asked.{setting_asked, answer_asked, output_asked}
use Rattle.resolver_with.proofs.Runs.{able_at}
use Rattle.check_with.specs.With.{check_with}
use Rattle.share.specs.Run.{propose_in, Roomy, is_yes, Resolved}
use Rattle.share.proofs.Agrees as one
use Rattle.share_with.specs.With.{bytes_for}
use Rattle.share_with.specs.Run.{walk_over, walked_in, propose_with}
use Rattle.refusal.specs.declared.Refused.{Refused}

-- ---- as many ends are noted as there is room for

noted_long : (code i depth : ℕ) (ends bounds : List ℕ) → length (ends_in (end_at_t code i depth ends bounds)) ≡ length ends
unfolding end_at_t ends_in pick
noted_long code i depth ends bounds = go (leb (length bounds) depth) (eqb code 8) (eqb code 1) (leb (length ends) i)
  where
    go : (a b c d : Bool)
        → length (ends_in (pick a (ends & bounds) (pick b (ends & set bounds depth i) (pick c (pick d (ends & bounds) (set ends i (get_or bounds depth 0 % 4294967296) & set bounds depth i)) (ends & bounds))))) ≡ length ends
    go true b c d = refl
    go false true c d = refl
    go false false true true = refl
    go false false true false = length-set ends i _
    go false false false d = refl

back_long : (most : ℕ) (rows : List ℕ) (left depth : ℕ) (ends bounds : List ℕ) → length (ends_in (ends_back_t most rows left depth ends bounds)) ≡ length ends
unfolding ends_back_t ends_in
back_long most rows zero depth ends bounds = refl
back_long most rows (suc i) depth ends bounds =
    go (end_at_t (code_at rows i) i (depth_before most (code_at rows i) depth) ends bounds) (noted_long (code_at rows i) i (depth_before most (code_at rows i) depth) ends bounds)
    (λ e b. back_long most rows i (depth_before most (code_at rows i) depth) e b)
  where
    go : (x : Noted) → length (ends_in x) ≡ length ends → ((e b : List ℕ) → length (ends_in (ends_back_t most rows i (depth_before most (code_at rows i) depth) e b)) ≡ length e)
        → length (ends_in (with_noted x (ends_back_t most rows i (depth_before most (code_at rows i) depth)))) ≡ length ends
    go (e & b) q rest = unfold with_noted in (rest e b ∙ q)

ends_as_long : (most : ℕ) (rows ends : List ℕ) → length (ends_to most rows ends) ≡ length ends
unfolding ends_to
ends_as_long most rows ends = back_long most rows (length rows / 16) 0 ends (replicate (most + 1) 0)

-- ---- under one setting

module _ (by : Setting) (able : Able by) (input old : List ℕ) (bs : Bytes input) (own : List Row) (e : answer (by ∷ []) input (length old) ≡ accepted own) where
  abbrev v : Version
  v = by.version

  module _ (marked ends : List ℕ) (entered names : List Slot) (hm : bytes_for v ≤ length marked) (hs : slots_for v ≤ length ends) (he : slots_for v ≤ length entered) (hn : slots_for v ≤ length names) where
    abbrev body : List ℕ
    body = drop v.header input

    abbrev part : List ℕ
    part = take (length body) (take (bytes_for v) marked)

    abbrev noted : List ℕ
    noted = ends_to v.scopes body (take (slots_for v) ends)

    part_long : length part ≡ length body
    part_long =
        let R = one.roomy by able input old bs own e old refl in
        let a = length-take-le (bytes_for v) marked hm in
        let d = length-drop v.header input in
        length-take-le (length body) (take (bytes_for v) marked) (omega (arith, R.long, R.few))

    shares_in : (a : Result ℕ Refused) (l : List ℕ) → (a & l) ≡ propose_with by input (output (by ∷ []) input old) marked ends entered names
        → (meaning a ≡ ruled (shared (by ∷ []) input (length old))) × (l ≡ shared_output (by ∷ []) input old)
    unfolding propose_with walked_in walk_over propose_in
    shares_in a l p =
        let few = able.few in
        let s = length-take-le (slots_for v) ends hs in
        let t = length-take-le (slots_for v) entered he in
        let n = length-take-le (slots_for v) names hn in
        let long = ends_as_long v.scopes body (take (slots_for v) ends) in
        let M = one.marks by able input old bs own e (take (slots_for v) ends) part (take (slots_for v) entered) (omega arith) (omega arith) part_long in
        let size = M.size in
        let rooms : Rooms v noted M.table (take (slots_for v) names) = record { ends = omega arith; entered = omega arith; names = omega arith; entered_narrow = omega arith; names_narrow = omega arith } in
        one.answers_shared by able input old bs own e noted M.table (take (slots_for v) names) rooms a l (rows_bytes (flatten (mark (one.tree by able input old bs own e).0))) refl
        (p ∙ rw M.answer)

-- ---- under each setting in force

-- what is said of an input under the setting that it asks for is said under all in force
module _ (input : List ℕ) where
  shared_asked : (room : ℕ) → shared all input room ≡ shared (asked input ∷ []) input room
  unfolding shared shared_after
  shared_asked room = ap (λ (a : rules.Answer). shared_after a all input) (answer_asked input room) ∙ go (answer (asked input ∷ []) input room)
    where
      go : (a : rules.Answer) → shared_after a all input ≡ shared_after a (asked input ∷ []) input
      go (refused n z c) = refl
      go (accepted rs) = ap (λ (o : Option Setting). proposed o input) (setting_asked input)

  output_shared : (old : List ℕ) → shared_output all input old ≡ shared_output (asked input ∷ []) input old
  unfolding shared_output
  output_shared old = ap (λ (o : Option Setting). shared_for o all input old) (setting_asked input) ∙ go (setting_of (asked input ∷ []) input)
    where
      go : (o : Option Setting) → shared_for o all input old ≡ shared_for o (asked input ∷ []) input old
      go none = unfold shared_for in refl
      go (some s) = unfold shared_for in ap (λ (a : rules.Answer). output_after s a (s.version.header + 64 * row_count s.version input) old) (shared_asked (length old))

-- ---- under all

module _ (i : ℕ) (input : List ℕ) (asks : setting i ≡ asked input) where
  -- where there is no room nothing is accepted
  pub none_shared : ruled (answer all input 0) ≡ ruled (shared all input 0)
  none_shared = go (answer all input 0) refl
    where
      go : (a : rules.Answer) → answer all input 0 ≡ a → ruled (answer all input 0) ≡ ruled (shared all input 0)
      go (refused n z c) q = ap ruled (q ∙ sym (shared_refuses all input 0 n z c q))
      go (accepted rs) q = one.none_accepted (setting i) (able_at i) input rs (ap (λ (s : Setting). answer (s ∷ []) input 0) asks ∙ (sym (answer_asked input 0) ∙ q))

  module _ (now : List ℕ) (R : Resolved all input now) where
    resolved : Resolved (setting i ∷ []) input now
    resolved =
        record {
          old = R.old;
          own = R.own;
          accepts = ap (λ (s : Setting). answer (s ∷ []) input (length R.old)) asks ∙ (sym (answer_asked input (length R.old)) ∙ R.accepts);
          left = R.left ∙ (output_asked input R.old ∙ ap (λ (s : Setting). output (s ∷ []) input R.old) (sym asks));
        }

    module _ (bs : Bytes input) where
      pub left_roomy : Roomy (setting i) input now
      unfolding resolved
      left_roomy = one.roomy (setting i) (able_at i) input R.old bs R.own resolved.accepts now (ap length resolved.left ∙ one.as_long (setting i) (able_at i) input R.old)

      module _ (marked ends : List ℕ) (entered names : List Slot) (hm : bytes_for (setting i).version ≤ length marked) (hs : slots_for (setting i).version ≤ length ends) (he : slots_for (setting i).version ≤ length entered) (hn : slots_for (setting i).version ≤ length names)
          (a : Result ℕ Refused) (l : List ℕ) (p : (a & l) ≡ propose_with (setting i) input now marked ends entered names) where
        shares : (meaning a ≡ ruled (shared (setting i ∷ []) input (length R.old))) × (l ≡ shared_output (setting i ∷ []) input R.old)
        unfolding resolved
        shares =
            shares_in (setting i) (able_at i) input R.old bs R.own resolved.accepts marked ends entered names hm hs he hn a l (p ∙ ap (λ (x : List ℕ). propose_with (setting i) input x marked ends entered names) resolved.left)

        pub shares_served : (meaning a ≡ ruled (shared all input (length R.old))) × (l ≡ shared_output all input R.old)
        shares_served = (
          shares.0 ∙ (ap (λ (s : Setting). ruled (shared (s ∷ []) input (length R.old))) asks ∙ ap ruled (sym (shared_asked input (length R.old)))),
          shares.1 ∙ (ap (λ (s : Setting). shared_output (s ∷ []) input R.old) asks ∙ sym (output_shared input R.old)),
        )

        -- IT IS NEVER REFUSED
        pub refused_never : (slots links : ℕ) (lent : Lent) → slots_of (setting i).version ≤ slots → links_of (setting i).version ≤ links → roomy (asked input).version lent ≡ true
            → (rows : ℕ) (claim : List ℕ) (y : Bool) → rows ≡ (meaning a).plain.place → claim ≡ take ((setting i).version.header + 16 * rows) l → y ≡ is_yes (check_with input claim slots links lent) → y ≡ false → ⊥
        unfolding resolved check_with when◌then◌else◌
        refused_never slots links lent hs hl fits rows claim y r c f e =
            let w : check_answer all input claim slots links ≡ check_answer (setting i ∷ []) input claim slots links = unfold check_answer in rw (setting_asked input, asks) in
            one.never_refused (setting i) (able_at i) input R.old bs R.own resolved.accepts a l shares.0 shares.1 slots links hs hl rows claim y r c (f ∙ (rw (fits, w))) e
