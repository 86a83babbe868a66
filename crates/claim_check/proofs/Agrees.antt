-- What the code answers and leaves is what the rules say: of a claim under every setting, of `check` under the one in force.
use Rattle.std.specs.Prelude.{Result as CodeResult, Ok, Err, ⊤, ℕ}
use mathlib.Core.Path.{◌≡◌, refl, sym, ap, ◌∙◌}
use mathlib.Core.Bool.{Bool, true, false, ◌||◌, not}
use mathlib.Core.Option.{Option, none, some}
use mathlib.Core.List.{List, [], ◌∷◌, ◌++◌}
use Prim.Native.Nat.{ℕ, zero, suc, ◌+◌, ◌*◌, ◌/◌, ◌%◌, ◌<◌, ◌≤◌}
use native.Mathlib.Omega.{arith}
use lib.Dec.{eqb, leb, ltb}
use lib.ListN.{length, get_or, drop, replicate, length-drop}
use lib.Seq.{length-take-le}
use mir.Syntax.{w8}
use mir.Val.{Fits}
use borrow.Author.Tests.{eqb-true, leb-true}
use Rattle.kit.specs.Pick.{pick}
use Rattle.kit.specs.Out.{◌&◌}
use Rattle.rules.specs.Tools.{when◌then◌else◌, between, only, ◌or_else◌}
use Rattle.rules.specs.Versions.{Setting, version1, today, base, as_claimed}
use Rattle.rules.specs.Tree.{Scope, flatten}
use Rattle.rules.specs.Rules.{Result, ok, resolve}
use Rattle.rules.specs.Answer.{AnswerOf, refused, accepted, has_header, setting_of, row_count}
use Rattle.rules.specs.Laws.ToolLaws.{and_right}
use Rattle.rules.specs.Laws.RowLaws.{Bytes, bytes_drop}
use Rattle.rules.proofs.Laws.InputLaws.{Usual, all_usual}
use Rattle.read_form.specs.ReadForm.{read_form}
use Rattle.read_form.proofs.Laws.ReadFormLaws.{ReadAs, read_exactly}
use Rattle.checking.specs.Check
use Rattle.checking.specs.Check.{Verdict as Ruled, unless, conditions, of_claim, of_steps, of_input, verdict_for, condition2, condition3, condition4}
use Rattle.clearing.specs.Cleared.{cleared}
use Rattle.clearing.specs.Laws.{cleared_kept}
use Rattle.checking.specs.CheckAnswer.{slots_of, links_of, check_for, check_answer, sized_by, area_for, table_after, index_after}
use Rattle.refusal.specs.declared.Refusal.{Refusal}
use Rattle.limits.specs.Held.{limits_of, setting}
use Rattle.limits.proofs.Laws.{few_rows, stand_for}
use Rattle.form.specs.Header.{header_in, header_for, header_to}
use Rattle.whole_form.specs.Whole.{form_of}
use Rattle.resolver.specs.Steps.{steps_t, steps_of}
use Rattle.resolver.proofs.Bytes.{all_bytes}
use Rattle.resolver.proofs.Passing.{steps_agree}
use Rattle.names.specs.Table.{Slot, empty_slot}
use Rattle.claim_rows.specs.Left.{rows_at}
use Rattle.claim_aliases.specs.Aliases.{Names, try_aliases_t}
use Rattle.claim_numbers.specs.Enter.{entries_t}
use Rattle.claim_laws.specs.SameRows.{tried}
use Rattle.claim_laws.specs.NewNames.{answer_in}
use Rattle.claim_laws.specs.OnBytes.{rows_count}
use Rattle.claim_laws.specs.Conditions.{second_is, second_row, third_is, third_row, fourth_is, fourth_row}
use Rattle.claim_check.specs.Meaning.{Said, meaning, ruled}
use Rattle.claim_check.specs.Run.{Kept, version_of, body_of, unless_t, tried_in, fourth_t, third_t, conditions_t, claim_by, steps_by, input_by, judge_t, input_of, small_by, small_t, decide_t}
use Rattle.claim_check.specs.declared.Verdict.TheVariants.{Yes, No}
use Rattle.claim_check.specs.declared.Verdict.{Verdict}

-- every setting is usual, and no form is deeper than the code takes
usual_at : (i : ℕ) → Usual (setting i)
usual_at zero = all_usual.0
usual_at (suc zero) = all_usual.1.0
usual_at (suc (suc zero)) = all_usual.1.1.0
usual_at (suc (suc (suc i))) = all_usual.0

shallow_at : (i : ℕ) → (version_of i).scopes ≤ 64
shallow_at zero = omega arith
shallow_at (suc zero) = omega arith
shallow_at (suc (suc zero)) = omega arith
shallow_at (suc (suc (suc i))) = omega arith

-- ---- the conditions

said : (k : ℕ) (o : Option ℕ) (t : CodeResult ⊤ ℕ) (v : CodeResult Verdict Refusal) (w : Ruled) → t ≡ tried o → ((row : ℕ) → o ≡ some row → row < 4294967296) → (o ≡ none → meaning v ≡ ruled w) → meaning (unless_t k t v) ≡ ruled (unless k o w)
unfolding unless_t unless
said k none t v w e l f = rw e (f refl)
said k (some row) t v w e l f = let h = l row refl in let q : row % 4294967296 ≡ row = omega arith in rw (e, q)

in_names : (N : Names) → tried_in N ≡ answer_in N
unfolding tried_in
in_names (a & ss) = refl

module _ (i : ℕ) (form claim : List ℕ) (bytes : Bytes form) (s c : Scope) (r : Scope × ℕ) (reads : read_form (setting i) form ≡ accepted s) (resolves : resolve (setting i).rules s ≡ ok r) (claims : read_form (as_claimed (setting i)) claim ≡ accepted c) where
  conditions_said : meaning (conditions_t (body_of i form) (body_of i claim) (slots_of (version_of i))) ≡ ruled (conditions s c)
  unfolding conditions_t third_t fourth_t conditions slots_of
  conditions_said =
      let u = usual_at i in
      let d = shallow_at i in
      let f = few_rows i in
      said 2 (condition2 s c) _ _ _ (second_is (setting i) u d f form claim bytes s c r reads resolves claims) (second_row (setting i) u d f form claim bytes s c r reads resolves claims)
      (λ p. said 3 (condition3 c) _ _ _ (in_names _ ∙ third_is (setting i) u d f form claim bytes s c r reads resolves claims) (third_row (setting i) u d f form claim bytes s c r reads resolves claims)
      (λ q. said 4 (condition4 s c) _ (Ok Yes) Check.yes (fourth_is (setting i) u d f form claim bytes s c r reads resolves claims p q _) (fourth_row (setting i) u d f form claim bytes s c r reads resolves claims p q) (λ z. refl)))

module _ (i : ℕ) (form claim : List ℕ) (bytes : Bytes form) where
  abbrev room : ℕ
  room = slots_of (version_of i)

  -- ---- the claim, the steps, the reading

  claim_said : (s : Scope) (r : Scope × ℕ) (x : AnswerOf Scope) → read_form (setting i) form ≡ accepted s → resolve (setting i).rules s ≡ ok r → read_form (as_claimed (setting i)) claim ≡ x
      → meaning (claim_by i form claim room (form_of x)) ≡ ruled (of_claim s x)
  unfolding form_of claim_by of_claim
  claim_said s r (refused n p q) reads resolves e = refl
  claim_said s r (accepted c) reads resolves e = conditions_said i form claim bytes s c r reads resolves e

  steps_said : (s : Scope) (m : Result (Scope × ℕ)) → read_form (setting i) form ≡ accepted s → resolve (setting i).rules s ≡ m
      → meaning (steps_by i form claim room (steps_of m)) ≡ ruled (of_steps m s (read_form (as_claimed (setting i)) claim))
  unfolding steps_by steps_of of_steps
  steps_said s (Result.refused why place) reads e = refl
  steps_said s (ok r) reads e = claim_said s r (read_form (as_claimed (setting i)) claim) reads e refl

  input_said : (x : AnswerOf Scope) → read_form (setting i) form ≡ x → meaning (steps_by i form claim room (input_of (setting i).rules x)) ≡ ruled (of_input (setting i).rules x (read_form (as_claimed (setting i)) claim))
  unfolding input_of steps_by of_input
  input_said (refused n p q) e = refl
  input_said (accepted s) e = steps_said s (resolve (setting i).rules s) e refl

  -- what is judged of an input and a claim
  abbrev pub judged_by : CodeResult Verdict Refusal
  judged_by = steps_by i form claim room (input_of (setting i).rules (read_form (setting i) form))

  judged : meaning judged_by ≡ ruled (of_input (setting i).rules (read_form (setting i) form) (read_form (as_claimed (setting i)) claim))
  judged = input_said (read_form (setting i) form) refl

  -- ---- the header, and areas that are too small

  abbrev miscounted : Bool
  miscounted = not (between 1 (version_of i).rows (row_count (version_of i) form)) || not (eqb (length form) ((version_of i).header + 16 * row_count (version_of i) form))

  header_said : header_to (limits_of (setting i)) form ≡ header_for (only (has_header (setting i) form) (setting i)) form
  unfolding header_to
  header_said = ap (λ (s : Setting). header_for (only (has_header s form) s) form) (stand_for i)

  -- what is answered where an area is too small, and where none is, by what the header says
  small_said : (h m : Bool) → has_header (setting i) form ≡ h → miscounted ≡ m → meaning (small_t i form) ≡ ruled (when h then (when m then Check.refused 2 0 [] else Check.refused 3 0 []) else Check.refused 1 0 [])
  unfolding small_t small_by header_for header_in only when◌then◌else◌
  small_said true true e f = rw (header_said, e, f)
  small_said true false e f = rw (header_said, e, f)
  small_said false m e f = rw (header_said, e)

  read_said : (h m : Bool) → has_header (setting i) form ≡ h → miscounted ≡ m
      → meaning judged_by ≡ ruled (when h then (when m then Check.refused 2 0 [] else verdict_for (some (setting i)) form claim) else Check.refused 1 0 [])
  read_said true true e f = judged ∙ unfold read_form of_input when◌then◌else◌ in rw (e, f)
  read_said true false e f = judged ∙ unfold verdict_for when◌then◌else◌ in refl
  read_said false m e f = judged ∙ unfold read_form of_input when◌then◌else◌ in rw e

  -- under this one setting
  abbrev pub asked_by : (slots links : ℕ) → Ruled
  asked_by slots links = check_for (only (has_header (setting i) form) (setting i) or_else none) form claim slots links

  asked : (h : Bool) (slots links : ℕ)
      → check_for (only h (setting i) or_else none) form claim slots links ≡ (when h then (when miscounted then Check.refused 2 0 [] else (when ltb slots (slots_of (version_of i)) || ltb links (links_of (version_of i)) then Check.refused 3 0 [] else verdict_for (some (setting i)) form claim)) else Check.refused 1 0 [])
  unfolding only ◌or_else◌ check_for when◌then◌else◌
  asked true slots links = refl
  asked false slots links = refl

  module _ (slots links : ℕ) where
    small_is : (ltb slots (slots_of (version_of i)) || ltb links (links_of (version_of i))) ≡ true
        → asked_by slots links ≡ (when has_header (setting i) form then (when miscounted then Check.refused 2 0 [] else Check.refused 3 0 []) else Check.refused 1 0 [])
    unfolding when◌then◌else◌
    small_is e = rw e at (asked (has_header (setting i) form) slots links)

    enough_is : (ltb slots (slots_of (version_of i)) || ltb links (links_of (version_of i))) ≡ false
        → asked_by slots links ≡ (when has_header (setting i) form then (when miscounted then Check.refused 2 0 [] else verdict_for (some (setting i)) form claim) else Check.refused 1 0 [])
    unfolding when◌then◌else◌
    enough_is e = rw e at (asked (has_header (setting i) form) slots links)

    pub small_decided : (ltb slots (slots_of (version_of i)) || ltb links (links_of (version_of i))) ≡ true → meaning (small_t i form) ≡ ruled (asked_by slots links)
    small_decided e = small_said (has_header (setting i) form) miscounted refl refl ∙ ap ruled (sym (small_is e))

    pub enough_decided : (ltb slots (slots_of (version_of i)) || ltb links (links_of (version_of i))) ≡ false → meaning judged_by ≡ ruled (asked_by slots links)
    enough_decided e = read_said (has_header (setting i) form) miscounted refl refl ∙ ap ruled (sym (enough_is e))

-- ---- under the setting in force

abbrev one : Setting
one = setting 0

module _ (form claim : List ℕ) (bytes : Bytes form) where
  -- the rows of the form
  rows_few : (s : Scope) → read_form one form ≡ accepted s → (length (drop 8 form) / 16 ≤ 1023) × (length (drop 8 form) / 16 ≡ row_count version1 form)
  rows_few s e =
      let R = (read_exactly one form s).0 e in
      let n = row_count version1 form in
      let long = eqb-true (length form) (8 + 16 * n) R.long in
      let few = leb-true n 1023 (and_right (leb 1 n) (leb n 1023) R.counted) in
      let d = length-drop 8 form in
      (omega arith, omega arith)

  steps_are : (s : Scope) → read_form one form ≡ accepted s → steps_t (drop 8 form) ≡ steps_of (resolve today s)
  steps_are s e =
      let R = (read_exactly one form s).0 e in
      let F = rows_few s e in
      steps_agree (drop 8 form) s (bytes_drop 8 form bytes) F.0 (rw F.1 R.is_form) R.low

  -- the steps in their own tables
  input_tried : (x : AnswerOf Scope) (room : ℕ) → read_form one form ≡ x → input_by 0 form claim room (form_of x) ≡ steps_by 0 form claim room (input_of today x)
  unfolding form_of input_by input_of steps_by
  input_tried (refused n p q) room e = refl
  input_tried (accepted s) room e = ap (λ (x : CodeResult ⊤ Refusal). steps_by 0 form claim room x) (steps_are s e)

  judge_tried : (room : ℕ) → judge_t 0 form claim room ≡ steps_by 0 form claim room (input_of today (read_form one form))
  unfolding judge_t
  judge_tried room = input_tried (read_form one form) room refl

  by_areas : (slots links : ℕ) (a b : Bool) → ltb slots (slots_of (version_of 0)) ≡ a → ltb links (links_of (version_of 0)) ≡ b
      → meaning (pick a (small_t 0 form) (pick b (small_t 0 form) (judge_t 0 form claim (slots_of (version_of 0))))) ≡ ruled (asked_by 0 form claim bytes slots links)
  unfolding pick
  by_areas slots links true b p q = small_decided 0 form claim bytes slots links (rw p)
  by_areas slots links false true p q = small_decided 0 form claim bytes slots links (rw (p, q))
  by_areas slots links false false p q = ap meaning (judge_tried (slots_of (version_of 0))) ∙ enough_decided 0 form claim bytes slots links (rw (p, q))

  pub decided : (slots links : ℕ) → meaning (decide_t 0 form claim slots links) ≡ ruled (check_answer base form claim slots links)
  unfolding decide_t check_answer setting_of
  decided slots links = by_areas slots links (ltb slots (slots_of (version_of 0))) (ltb links (links_of (version_of 0))) refl refl

-- ---- the areas

module _ (form : List ℕ) where
  sized : sized_by base form ≡ some one
  unfolding sized_by setting_of only ◌or_else◌
  sized = go (has_header one form) refl
    where
      go : (h : Bool) → has_header one form ≡ h → sized_by base form ≡ some one
      go true e = rw e
      go false e = rw e

  pub table_left : {A : Type 0} (size : ℕ) (z : A) (old mid new : List A) → Kept size old mid → new ≡ cleared z size mid → new ≡ cleared z size old
  table_left size z old mid new K e = e ∙ cleared_kept z size old mid K.long K.rest

  pub table_cleared : (old mid new : List Slot) → Kept (slots_of (version_of 0)) old mid → new ≡ cleared empty_slot (slots_of (version_of 0)) mid → new ≡ table_after base form old
  unfolding table_after area_for
  table_cleared old mid new K e = rw sized (table_left (slots_of (version_of 0)) empty_slot old mid new K e)

  pub index_cleared : (old mid new : List ℕ) → Kept (links_of (version_of 0)) old mid → new ≡ cleared 0 (links_of (version_of 0)) mid → new ≡ index_after base form old
  unfolding index_after area_for
  index_cleared old mid new K e = rw sized (table_left (links_of (version_of 0)) 0 old mid new K e)

-- ---- check

module _ (form : List ℕ) (all : (i : ℕ) → Fits w8 (get_or form i 0)) (claim : List ℕ) (slots links : ℕ) (d : CodeResult Verdict Refusal) (e : d ≡ decide_t 0 form claim slots links) where
  pub checked : meaning d ≡ ruled (check_answer base form claim slots links)
  checked = rw e (decided form claim (all_bytes form all) slots links)
