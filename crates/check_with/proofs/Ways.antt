-- The ways through the code below the run: the steps in lent tables, the input, and the fronts of the areas.
use Rattle.std.specs.Prelude.{Result as CodeResult, Ok, Err, IsErrAnd, ⊤}
use Rattle.std.proofs.lemmas.Result.{err_from_is_err_and}
use mathlib.Core.Path.{◌≡◌, refl, ap, sym, ◌∙◌, subst}
use mathlib.Core.Option.{Option, none, some}
use mathlib.Core.List.{List, [], ◌∷◌, ◌++◌}
use native.Mathlib.Omega.{arith}
use Prim.Native.Nat.{ℕ, ◌+◌, ◌*◌, ◌/◌, ◌-◌, ◌≤◌}
use lib.Dec.{leb}
use lib.ListN.{length, get_or, take, drop, length-drop}
use lib.Seq.{take_all, length-take-le}
use borrow.Author.Rules.{rules}
use borrow.Author.Tests.{eqb-true, leb-true}
use mir.Syntax.{w8}
use mir.Val.{Fits}
use Rattle.kit.specs.Out.{◌&◌}
use Rattle.rules.specs.Versions.{Version, RuleSet, Setting, top_name, as_claimed}
use Rattle.rules.specs.Tree.{Scope}
use Rattle.rules.specs.Begins.{IsForm}
use Rattle.rules.specs.Rules.{Result, ok, resolve}
use Rattle.rules.specs.Answer.{AnswerOf, refused, accepted, row_count, rows_of}
use Rattle.rules.specs.Laws.ToolLaws.{and_right}
use Rattle.rules.specs.Laws.RowLaws.{Bytes, bytes_drop}
use Rattle.read_form.specs.ReadForm.{read_form}
use Rattle.read_form.proofs.Laws.ReadFormLaws.{read_exactly}
use Rattle.clearing.specs.Cleared.{cleared}
use Rattle.clearing.specs.Laws.{cleared_kept}
use Rattle.checking.specs.CheckAnswer.{slots_of, links_of}
use Rattle.refusal.specs.declared.Refusal.{Refusal}
use Rattle.refusal.specs.declared.Told.{Told}
use Rattle.limits.specs.Held.{setting}
use Rattle.names.specs.Table.{Slot, empty_slot}
use Rattle.walk.specs.Scopes.{Wrote₃}
use Rattle.write.specs.declared.alias.WriteState.{WriteState}
use Rattle.whole_form.specs.Whole.{form_of}
use Rattle.agree.specs.Walk.RootAgrees.{refusal_of, refused_by}
use Rattle.resolver.specs.Run.{seen_of, walk_in}
use Rattle.resolver.specs.Steps.{steps_in, steps_of}
use Rattle.resolver.proofs.Bytes.{all_bytes}
use Rattle.resolver.proofs.Root.{Able, Rooms, steps_refusal}
use Rattle.resolver_with.specs.Areas.{slots_for, links_for, Cleared}
use Rattle.resolver_with.specs.Exact.{Suits}
use Rattle.resolver_with.proofs.Runs.{able_at, rooms_in}
use Rattle.claim_check.specs.Run.{Fit, Kept, version_of, body_of, claim_by, input_of}
use Rattle.claim_check.proofs.Runs.{kept_front}
use Rattle.claim_check.proofs.Agrees.{table_left}
use Rattle.check_with.specs.Large.{Large}
use Rattle.claim_check.specs.declared.Verdict.{Verdict}
use Rattle.refusal.specs.declared.Refused.{Refused}

-- ---- try_steps

module _ (i a : ℕ) (h : a ≡ (setting i).version.header) (form ends out : List ℕ) (entered names : List Slot) (w : CodeResult WriteState Refused) (q : (w & out) ≡ walk_in (setting i) (take (length form - a) (drop a form)) ends entered names (0 ∷ [])) where
  walks_behind : (w & out) ≡ walk_in (setting i) (body_of i form) ends entered names (0 ∷ [])
  walks_behind = q ∙ ap (λ (l : List ℕ). walk_in (setting i) l ends entered names (0 ∷ [])) (take_all (length form - a) (drop a form) (simp length-drop (omega arith)) ∙ ap (λ (n : ℕ). drop n form) h)

  pub steps_pass : (s : WriteState) → w ≡ Ok s → Ok tt ≡ steps_in (walk_in (setting i) (body_of i form) ends entered names (0 ∷ []))
  unfolding steps_in
  steps_pass s e = rw (← walks_behind, e)

  pub steps_refuse : (why : Refused) → w ≡ Err why → Err why.refusal ≡ steps_in (walk_in (setting i) (body_of i form) ends entered names (0 ∷ []))
  unfolding steps_in
  steps_refuse why e = rw (← walks_behind, e)

pub ruleset steps_ways = (steps_pass, steps_refuse, rules)

-- ---- try_input

-- a refusal, if there is one, as the steps answer it
abbrev as_steps : Option (Refusal × Told) → CodeResult ⊤ Refusal
as_steps none = Ok tt
as_steps (some r) = Err r.0

of_walk : (w : Wrote₃) → steps_in (seen_of w) ≡ as_steps (refusal_of w)
unfolding seen_of steps_in refusal_of
of_walk (Ok s & e & n & o) = refl
of_walk (Err why & e & n & o) = refl

of_rules : (m : Result (Scope × ℕ)) → as_steps (refused_by m) ≡ steps_of m
unfolding refused_by steps_of
of_rules (Result.refused why place) = refl
of_rules (ok r) = refl

-- the steps in lent tables answer what the rules' steps answer, under any setting that they are able to take
module _ (v : Setting) (able : Able v) (ends : List ℕ) (entered names : List Slot) (rooms : Rooms v.version ends entered names) (form : List ℕ) (bytes : Bytes form) (s : Scope) (reads : read_form v form ≡ accepted s) where
  abbrev rows : List ℕ
  rows = drop v.version.header form

  rows_are : (length rows / 16 ≤ v.version.rows) × (length rows / 16 ≡ row_count v.version form)
  rows_are =
      let R = (read_exactly v form s).0 reads in
      let n = row_count v.version form in
      let long = eqb-true (length form) (v.version.header + 16 * n) R.long in
      let few = leb-true n v.version.rows (and_right (leb 1 n) (leb n v.version.rows) R.counted) in
      let d = length-drop v.version.header form in
      (omega arith, omega arith)

  is_form : IsForm v.rules (rows_of top_name (length rows / 16) rows) s
  is_form =
      let R = (read_exactly v form s).0 reads in
      subst (λ (n : ℕ). IsForm v.rules (rows_of top_name n rows) s) (sym rows_are.1)
      (subst (λ (n : ℕ). IsForm v.rules (rows_of n (row_count v.version form) rows) s) able.top R.is_form)

  steps_able : steps_in (walk_in v rows ends entered names (0 ∷ [])) ≡ steps_of (resolve v.rules s)
  unfolding walk_in
  steps_able =
      let R = (read_exactly v form s).0 reads in
      of_walk _ ∙ (ap as_steps (steps_refusal v able ends entered names rooms rows (bytes_drop v.version.header form bytes) rows_are.0 s is_form R.low (0 ∷ [])) ∙ of_rules (resolve v.rules s))

-- the reading's refusal, or else what the steps answer
abbrev tried_by : CodeResult ℕ Refusal → CodeResult ⊤ Refusal → CodeResult ⊤ Refusal
tried_by (Err why) t = Err why
tried_by (Ok rows) t = t

tried_is : (rules : RuleSet) (x : AnswerOf Scope) (t : CodeResult ⊤ Refusal) → ((s : Scope) → x ≡ accepted s → t ≡ steps_of (resolve rules s)) → tried_by (form_of x) t ≡ input_of rules x
unfolding form_of input_of
tried_is rules (refused n p q) t h = refl
tried_is rules (accepted s) t h = h s refl

module _ (form : List ℕ) (all : (j : ℕ) → Fits w8 (get_or form j 0)) (i : ℕ) (entered names : List Slot) (known chains ends : List ℕ) (suits : Suits i entered names known chains ends) (r : CodeResult ℕ Refusal) (e : r ≡ form_of (read_form (setting i) form)) where
  abbrev walks : CodeResult ⊤ Refusal
  walks = steps_in (walk_in (setting i) (body_of i form) ends entered names (0 ∷ []))

  tried : tried_by r walks ≡ input_of (setting i).rules (read_form (setting i) form)
  tried = ap (λ (x : CodeResult ℕ Refusal). tried_by x walks) e ∙ tried_is (setting i).rules (read_form (setting i) form) walks (λ s q. steps_able (setting i) (able_at i) ends entered names (rooms_in i entered names known chains ends suits) form (all_bytes form all) s q)

  pub input_refused : (why : Refusal) → r ≡ Err why → (t : CodeResult ⊤ Refusal) → IsErrAnd t (λ refusal. refusal ≡ why) → t ≡ input_of (setting i).rules (read_form (setting i) form)
  input_refused why w t q =
      let p = err_from_is_err_and t q in
      p.1 ∙ ap Err p.2 ∙ (sym (ap (λ (x : CodeResult ℕ Refusal). tried_by x walks) w) ∙ tried)

  pub input_whole : (rows : ℕ) → r ≡ Ok rows → (t : CodeResult ⊤ Refusal) → t ≡ walks → t ≡ input_of (setting i).rules (read_form (setting i) form)
  input_whole rows w t q = q ∙ (sym (ap (λ (x : CodeResult ℕ Refusal). tried_by x walks) w) ∙ tried)

-- ---- try_fronts

module _ (i : ℕ) (e n : List Slot) (k c m : List ℕ) (large : Large i e n k c m) where
  module _ (slots : ℕ) (p : slots ≡ slots_for (setting i).version) where
    pub entered_long : slots ≤ length e
    entered_long = omega (arith, p, large.entered)

    pub names_long : slots ≤ length n
    names_long = omega (arith, p, large.names)

    pub ends_long : slots ≤ length m
    ends_long = omega (arith, p, large.ends)

    module _ (links : ℕ) (q : links ≡ links_for (setting i).version) where
      pub known_long : links ≤ length k
      known_long = omega (arith, q, large.known)

      pub chains_long : links ≤ length c
      chains_long = omega (arith, q, large.chains)

      pub fronts_suit : Suits i (take slots e) (take slots n) (take links k) (take links c) (take slots m)
      fronts_suit =
          record {
            entered = length-take-le slots e entered_long ∙ p;
            names = length-take-le slots n names_long ∙ p;
            known = length-take-le links k known_long ∙ q;
            chains = length-take-le links c chains_long ∙ q;
            ends = length-take-le slots m ends_long ∙ p;
          }

-- ---- try_lent

area_left : {A : Type 0} (size : ℕ) (z : A) (old mid new : List A) → Kept size old mid → new ≡ cleared z size mid → new ≡ cleared z size old
area_left size z old mid new K e = e ∙ cleared_kept z size old mid K.long K.rest

pub areas_left : (v : Version) (e e₁ e' n n₁ n' : List Slot) (k k₁ k' c c₁ c' m m₁ m' : List ℕ)
    → Kept (slots_for v) e e₁ × Kept (slots_for v) n n₁ × Kept (links_for v) k k₁ × Kept (links_for v) c c₁ × Kept (slots_for v) m m₁
    → Cleared v e₁ e' n₁ n' k₁ k' c₁ c' m₁ m' → Cleared v e e' n n' k k' c c' m m'
areas_left v e e₁ e' n n₁ n' k k₁ k' c c₁ c' m m₁ m' K h =
    record {
      entered = area_left (slots_for v) empty_slot e e₁ e' K.0 h.entered;
      names = area_left (slots_for v) empty_slot n n₁ n' K.1 h.names;
      known = area_left (links_for v) 0 k k₁ k' K.2 h.known;
      chains = area_left (links_for v) 0 c c₁ c' K.3 h.chains;
      ends = area_left (slots_for v) 0 m m₁ m' K.4 h.ends;
    }

-- ---- judge_lent

module _ (i : ℕ) (table : List Slot) (index : List ℕ) (most all : ℕ) (m : most ≡ slots_of (version_of i)) (n : all ≡ links_of (version_of i)) (few : most ≤ 32766) where
  pub claim_fits : slots_of (version_of i) ≤ length table → links_of (version_of i) ≤ length index → Fit (length (take most table)) (length (take all index))
  unfolding links_of
  claim_fits h k =
      let a = length-take-le most table (omega (arith, m, h)) in
      let b = length-take-le all index (omega (arith, n, k)) in
      record { links_are = omega (arith, a, b, m, n); few = omega (arith, a, few) }

module _ (i : ℕ) (form claim : List ℕ) (table : List Slot) (most : ℕ) (m : most ≡ slots_of (version_of i)) (h : slots_of (version_of i) ≤ length table) (d : CodeResult Verdict Refusal) (e : d ≡ claim_by i form claim (length (take most table)) (form_of (read_form (as_claimed (setting i)) claim))) where
  pub claim_judged : d ≡ claim_by i form claim (slots_of (version_of i)) (form_of (read_form (as_claimed (setting i)) claim))
  claim_judged =
      e ∙ ap (λ (room : ℕ). claim_by i form claim room (form_of (read_form (as_claimed (setting i)) claim))) (length-take-le most table (omega (arith, m, h)) ∙ m)

pub front_cleared : {A : Type 0} (size n : ℕ) (z : A) (old front new : List A) → n ≡ size → size ≤ length old → length front ≡ length (take n old) → new ≡ cleared z size (front ++ drop n old) → new ≡ cleared z size old
front_cleared size n z old front new e h k q = table_left [] size z old (front ++ drop n old) new (kept_front size n old front e (omega (arith, e, h)) k) q
