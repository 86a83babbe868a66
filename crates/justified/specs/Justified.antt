-- A no is justified: the condition that it names is broken at the row that it names, the conditions before it are not, and no earlier row
-- breaks it. For condition 1 that row is the place of a refusal, of which `ReadFormLaws` speaks.
use Rattle.std.specs.Prelude.{◌≡◌, Bool, true, false, not, ℕ, zero, suc, ◌+◌, length, take}
use Rattle.std.proofs.Math.Path.{refl, ap}
use Rattle.std.proofs.Common.{sym, ap₂, ◌∙◌, subst, arith}
use Rattle.std.proofs.Math.Option.{Option, none, some}
use mathlib.Core.List.{List, [], ◌∷◌, ◌++◌}
use Rattle.rules.specs.Tools.{when◌then◌else◌, is_just, is_in, ◌or_else◌}
use Rattle.rules.specs.Versions.{Setting, as_claimed}
use Rattle.rules.specs.Rows.{Row, encode}
use Rattle.rules.specs.Tree.{Declaration, Operand, Head, Scope, scope, Fields, end, ◌▸◌, Item, plain, holds, head_of, head_rows, item_rows, flatten}
use Rattle.rules.specs.Rules as steps
use Rattle.rules.specs.Rules.{Result, Env, find, resolve}
use Rattle.rules.specs.Answer.{AnswerOf, accepted, setting_of}
use Rattle.rules.specs.Answer as answers
use Rattle.rules.specs.Readings.{is_inserted, fields_of}
use Rattle.read_form.specs.ReadForm.{read_form}
use Rattle.checking.specs.Check.{Verdict, refused, no, yes, is_path, kept, same_parts, without_paths, Claimed, own, added, scope_claimed, differs, condition2, has_numbers, not_new, not_number, no_alias, scope_added, fields_added, item_added, condition3, table, operand_right, not_right, head_operands, scope_operands, fields_operands, item_operands, condition4, unless, conditions, of_claim, of_steps, of_input, verdict_for, verdict}
use Rattle.rules.specs.Laws.ToolLaws.{All, done, ◌&◌}
use Rattle.rules.specs.Laws.Results.{no_option, some_same}

-- ---- rows that are tried one after another

-- a row, and whether it passes
pub data Trial : Type 0 where
  trial : (row : ℕ) (passes : Bool) → Trial

unfoldable pub first_failing : List Trial → Option ℕ
first_failing [] = none
first_failing (trial row passes ∷ ts) = when passes then first_failing ts else some row

abbrev pub Passes : Trial → Type 0
Passes (trial row passes) = passes ≡ true

-- the row fails, and all that are tried before it pass
pub record First (ts : List Trial) (row : ℕ) : Type 0 where
  pub before : List Trial
  pub after : List Trial
  pub are : ts ≡ before ++ (trial row false ∷ after)
  pub pass : All Passes before

pub first_is : (ts : List Trial) (row : ℕ) → first_failing ts ≡ some row → First ts row
unfolding first_failing when◌then◌else◌
first_is [] row e = no_option row e
first_is (trial n true ∷ ts) row e =
    let F = first_is ts row e in
    record { before = trial n true ∷ F.before; after = F.after; are = ap (λ (x : List Trial). trial n true ∷ x) F.are; pass = refl & F.pass }
first_is (trial n false ∷ ts) row e =
    record { before = []; after = ts; are = ap (λ (m : ℕ). trial m false ∷ ts) (some_same n row e); pass = done }

if_or_else : (b : Bool) (a o : Option ℕ) (n : ℕ) → ((when b then a else some n) or_else o) ≡ (when b then (a or_else o) else some n)
unfolding when◌then◌else◌ ◌or_else◌
if_or_else true a o n = refl
if_or_else false a o n = refl

first_append : (xs ys : List Trial) → first_failing (xs ++ ys) ≡ (first_failing xs or_else first_failing ys)
unfolding first_failing ◌or_else◌
first_append [] ys = refl
first_append (trial n b ∷ xs) ys = ap (λ (o : Option ℕ). when b then o else some n) (first_append xs ys) ∙ sym (if_or_else b (first_failing xs) (first_failing ys) n)

no_trials : none ≡ first_failing []
unfolding first_failing
no_trials = refl

-- two searches, and the rows that they try
both_first : (a b : Option ℕ) (xs ys : List Trial) → a ≡ first_failing xs → b ≡ first_failing ys → (a or_else b) ≡ first_failing (xs ++ ys)
both_first a b xs ys e f = rw (e, f) (sym (first_append xs ys))

if_first : (b : Bool) (a : Option ℕ) (xs : List Trial) → a ≡ first_failing xs → (when b then a else none) ≡ first_failing (when b then xs else [])
unfolding when◌then◌else◌ first_failing
if_first true a xs e = e
if_first false a xs e = refl

if_not : (b : Bool) (a o : Option ℕ) → (when b then a else o) ≡ (when not b then o else a)
unfolding when◌then◌else◌
if_not true a o = refl
if_not false a o = refl

-- ---- condition 2: the claimed rows before it are, without the added ones, the first of the input

if_known : (b : Bool) (n r : ℕ) (o : Option ℕ) (X : Type 0) → (when b then some n else o) ≡ some r → (n ≡ r → X) → (b ≡ false → o ≡ some r → X) → X
unfolding when◌then◌else◌
if_known true n r o X e f g = f (some_same n r e)
if_known false n r o X e f g = g refl e

if_known' : (b : Bool) (n r : ℕ) (o : Option ℕ) (X : Type 0) → (when b then o else some n) ≡ some r → (n ≡ r → X) → (b ≡ true → o ≡ some r → X) → X
unfolding when◌then◌else◌
if_known' true n r o X e f g = g refl e
if_known' false n r o X e f g = f (some_same n r e)

record Alike (n : ℕ) (cs : List Claimed) (rs : List Row) (r : ℕ) : Type 0 where
  claimed : ℕ
  inputs : ℕ
  row : r ≡ n + claimed
  same : differs n (take claimed cs) (take inputs rs) ≡ none

alike_none : (n : ℕ) (cs : List Claimed) (rs : List Row) (r : ℕ) → n ≡ r → Alike n cs rs r
unfolding differs
alike_none n cs rs r e = record { claimed = 0; inputs = 0; row = omega (arith, e); same = refl }

alike_added : (n : ℕ) (c : Row) (cs : List Claimed) (rs : List Row) (r : ℕ) → is_path (encode c) ≡ false → Alike (suc n) cs rs r → Alike n (added c ∷ cs) rs r
unfolding differs when◌then◌else◌
alike_added n c cs rs r p a = record { claimed = suc a.claimed; inputs = a.inputs; row = omega (arith, a.row); same = rw p a.same }

alike_own : (n : ℕ) (c x : Row) (cs : List Claimed) (rs : List Row) (r : ℕ) → is_path (encode c) ≡ false → same_parts (kept (encode c)) (kept (encode x)) ≡ true → Alike (suc n) cs rs r → Alike n (own c ∷ cs) (x ∷ rs) r
unfolding differs when◌then◌else◌
alike_own n c x cs rs r p q a = record { claimed = suc a.claimed; inputs = suc a.inputs; row = omega (arith, a.row); same = rw (p, q) a.same }

alike : (n : ℕ) (cs : List Claimed) (rs : List Row) (r : ℕ) → differs n cs rs ≡ some r → Alike n cs rs r
unfolding differs
alike n [] [] r e = no_option r e
alike n [] (x ∷ rs) r e = alike_none n [] (x ∷ rs) r (some_same n r e)
alike n (added c ∷ cs) rs r e =
    if_known (is_path (encode c)) n r (differs (suc n) cs rs) (Alike n (added c ∷ cs) rs r) e (alike_none n (added c ∷ cs) rs r)
    (λ p f. alike_added n c cs rs r p (alike (suc n) cs rs r f))
alike n (own c ∷ cs) [] r e = alike_none n (own c ∷ cs) [] r (some_same n r e)
alike n (own c ∷ cs) (x ∷ rs) r e =
    if_known (is_path (encode c)) n r _ (Alike n (own c ∷ cs) (x ∷ rs) r) e (alike_none n (own c ∷ cs) (x ∷ rs) r)
    (λ p f. if_known' (same_parts (kept (encode c)) (kept (encode x))) n r (differs (suc n) cs rs) (Alike n (own c ∷ cs) (x ∷ rs) r) f (alike_none n (own c ∷ cs) (x ∷ rs) r)
    (λ q g. alike_own n c x cs rs r p q (alike (suc n) cs rs r g)))

pub record SameBefore (s c : Scope) (row : ℕ) : Type 0 where
  pub inputs : ℕ
  pub same : differs 0 (take row (scope_claimed c)) (take inputs (without_paths (flatten s))) ≡ none

same_before : (s c : Scope) (row : ℕ) → condition2 s c ≡ some row → SameBefore s c row
unfolding condition2
same_before s c row e =
    let a = alike 0 (scope_claimed c) (without_paths (flatten s)) row e in
    let n : a.claimed ≡ row = omega (arith, a.row) in
    record { inputs = a.inputs; same = subst (λ (k : ℕ). differs 0 (take k (scope_claimed c)) (take a.inputs (without_paths (flatten s))) ≡ none) n a.same }

-- ---- condition 3: the rows of added fields that are tried, in row order

unfoldable pub decl_trials : (n : ℕ) (before ds : List Declaration) → List Trial
decl_trials n before [] = []
decl_trials n before (d ∷ ds) = trial n (not (is_just (find before d.space d.name))) ∷ decl_trials (suc n) (before ++ (d ∷ [])) ds

unfoldable pub operand_trials : (n : ℕ) → List Operand → List Trial
operand_trials n [] = []
operand_trials n (o ∷ os) = trial n (has_numbers o) ∷ operand_trials (suc n) os

unfoldable pub alias_trials : (n : ℕ) (before : List Declaration) → Head → List Trial
alias_trials n before h =
    trial n (is_in h.code (9 ∷ 10 ∷ 11 ∷ []))
    ∷ (decl_trials (suc n) before h.decls ++ operand_trials (suc n + length h.decls) h.operands)

unfoldable mutual
  pub scope_trials : (n : ℕ) → Scope → List Trial
  scope_trials n (scope kind name fs) = fields_trials (suc n) [] fs

  pub fields_trials : (n : ℕ) (before : List Declaration) → Fields → List Trial
  fields_trials n before end = []
  fields_trials n before (i ▸ fs) =
      (when is_inserted (head_of i) then alias_trials n before (head_of i) else [])
      ++ (item_trials (n + length (head_rows (head_of i))) i ++ fields_trials (n + length (item_rows i)) (before ++ (head_of i).decls) fs)

  pub item_trials : (n : ℕ) → Item → List Trial
  item_trials n (plain h) = []
  item_trials n (holds h s) = scope_trials n s

decls_first : (n : ℕ) (before ds : List Declaration) → not_new n before ds ≡ first_failing (decl_trials n before ds)
unfolding not_new decl_trials first_failing
decls_first n before [] = refl
decls_first n before (d ∷ ds) =
    if_not (is_just (find before d.space d.name)) (some n) (not_new (suc n) (before ++ (d ∷ [])) ds)
    ∙ ap (λ (o : Option ℕ). when not (is_just (find before d.space d.name)) then o else some n) (decls_first (suc n) (before ++ (d ∷ [])) ds)

operands_first : (n : ℕ) (os : List Operand) → not_number n os ≡ first_failing (operand_trials n os)
unfolding not_number operand_trials first_failing
operands_first n [] = refl
operands_first n (o ∷ os) = ap (λ (x : Option ℕ). when has_numbers o then x else some n) (operands_first (suc n) os)

alias_first : (n : ℕ) (before : List Declaration) (h : Head) → no_alias n before h ≡ first_failing (alias_trials n before h)
unfolding no_alias alias_trials first_failing
alias_first n before h =
    ap (λ (o : Option ℕ). when is_in h.code (9 ∷ 10 ∷ 11 ∷ []) then o else some n)
    (both_first (not_new (suc n) before h.decls) (not_number (suc n + length h.decls) h.operands) (decl_trials (suc n) before h.decls) (operand_trials (suc n + length h.decls) h.operands)
    (decls_first (suc n) before h.decls) (operands_first (suc n + length h.decls) h.operands))

mutual
  unfolding scope_added scope_trials

  scope_first : (n : ℕ) (c : Scope) → scope_added n c ≡ first_failing (scope_trials n c)
  scope_first n (scope kind name fs) = fields_first (suc n) [] fs

  fields_first : (n : ℕ) (before : List Declaration) (fs : Fields) → fields_added n before fs ≡ first_failing (fields_trials n before fs)
  fields_first n before end = no_trials
  fields_first n before (i ▸ fs) =
      both_first _ _ _ _ (if_first (is_inserted (head_of i)) _ _ (alias_first n before (head_of i)))
      (both_first _ _ _ _ (item_first (n + length (head_rows (head_of i))) i) (fields_first (n + length (item_rows i)) (before ++ (head_of i).decls) fs))

  item_first : (n : ℕ) (i : Item) → item_added n i ≡ first_failing (item_trials n i)
  item_first n (plain h) = no_trials
  item_first n (holds h s) = scope_first n s

-- ---- condition 4: the operands of input fields that are tried, in row order

unfoldable pub right_trials : (here : Scope) (outside : List Env) (n : ℕ) (now was : List Operand) → List Trial
right_trials here outside n [] was = []
right_trials here outside n (o ∷ now) [] = []
right_trials here outside n (o ∷ now) (w ∷ was) = trial n (operand_right here outside w o) ∷ right_trials here outside (suc n) now was

unfoldable pub head_tried : (here : Scope) (outside : List Env) (n : ℕ) (now was : Head) → List Trial
head_tried here outside n now was = right_trials here outside (suc n + length now.decls) now.operands was.operands

unfoldable mutual
  pub scope_tried : (n : ℕ) (now : Scope) (outside : List Env) (was : Scope) → List Trial
  scope_tried n (scope kind name fs) outside was = fields_tried (suc n) fs (scope kind name fs) outside (fields_of was)

  pub fields_tried : (n : ℕ) (now : Fields) (here : Scope) (outside : List Env) (was : Fields) → List Trial
  fields_tried n end here outside was = []
  fields_tried n (i ▸ now) here outside end = []
  fields_tried n (i ▸ now) here outside (w ▸ was) =
      when is_inserted (head_of i) then fields_tried (n + length (item_rows i)) now here outside (w ▸ was)
      else (item_tried n i here outside w ++ fields_tried (n + length (item_rows i)) now here outside was)

  pub item_tried : (n : ℕ) (now : Item) (here : Scope) (outside : List Env) (was : Item) → List Trial
  item_tried n (plain h) here outside was = head_tried here outside n h (head_of was)
  item_tried n (holds h s) here outside (plain w) = head_tried here outside n h w
  item_tried n (holds h s) here outside (holds w t) =
      head_tried here outside n h w ++ scope_tried (n + length (head_rows h)) s (table here ∷ outside) t

right_first : (here : Scope) (outside : List Env) (n : ℕ) (now was : List Operand) → not_right here outside n now was ≡ first_failing (right_trials here outside n now was)
unfolding not_right right_trials first_failing
right_first here outside n [] was = refl
right_first here outside n (o ∷ now) [] = refl
right_first here outside n (o ∷ now) (w ∷ was) = ap (λ (x : Option ℕ). when operand_right here outside w o then x else some n) (right_first here outside (suc n) now was)

head_first : (here : Scope) (outside : List Env) (n : ℕ) (now was : Head) → head_operands here outside n now was ≡ first_failing (head_tried here outside n now was)
unfolding head_operands head_tried
head_first here outside n now was = right_first here outside (suc n + length now.decls) now.operands was.operands

either_first : (b : Bool) (a o : Option ℕ) (xs ys : List Trial) → a ≡ first_failing xs → o ≡ first_failing ys → (when b then a else o) ≡ first_failing (when b then xs else ys)
unfolding when◌then◌else◌
either_first true a o xs ys e f = e
either_first false a o xs ys e f = f

mutual
  unfolding scope_operands scope_tried

  scope_tried_lem : (n : ℕ) (now : Scope) (outside : List Env) (was : Scope) → scope_operands n now outside was ≡ first_failing (scope_tried n now outside was)
  scope_tried_lem n (scope kind name fs) outside was = fields_tried_lem (suc n) fs (scope kind name fs) outside (fields_of was)

  fields_tried_lem : (n : ℕ) (now : Fields) (here : Scope) (outside : List Env) (was : Fields) → fields_operands n now here outside was ≡ first_failing (fields_tried n now here outside was)
  fields_tried_lem n end here outside was = no_trials
  fields_tried_lem n (i ▸ now) here outside end = no_trials
  fields_tried_lem n (i ▸ now) here outside (w ▸ was) =
      either_first (is_inserted (head_of i)) _ _ _ _ (fields_tried_lem (n + length (item_rows i)) now here outside (w ▸ was))
      (both_first _ _ _ _ (item_tried_lem n i here outside w) (fields_tried_lem (n + length (item_rows i)) now here outside was))

  item_tried_lem : (n : ℕ) (now : Item) (here : Scope) (outside : List Env) (was : Item) → item_operands n now here outside was ≡ first_failing (item_tried n now here outside was)
  item_tried_lem n (plain h) here outside was = head_first here outside n h (head_of was)
  item_tried_lem n (holds h s) here outside (plain w) = head_first here outside n h w
  item_tried_lem n (holds h s) here outside (holds w t) =
      both_first _ _ _ _ (head_first here outside n h w) (scope_tried_lem (n + length (head_rows h)) s (table here ∷ outside) t)

-- ---- the conditions

-- The condition is broken at the row and at none before it, and those before it are not broken.
pub data Broken (s c : Scope) (condition row : ℕ) : Type 0 where
  second : condition ≡ 2 → condition2 s c ≡ some row → SameBefore s c row → Broken s c condition row
  third : condition ≡ 3 → condition2 s c ≡ none → First (scope_trials 0 c) row → Broken s c condition row
  fourth : condition ≡ 4 → condition2 s c ≡ none → condition3 c ≡ none → First (scope_tried 0 c [] s) row → Broken s c condition row

-- what a no says
said_by : Verdict → Option (ℕ × ℕ)
said_by (refused number place carried) = none
said_by (no condition row) = some (condition, row)
said_by yes = none

said_no : (k₁ r₁ k r : ℕ) → no k₁ r₁ ≡ no k r → (k₁ ≡ k) × (r₁ ≡ r)
unfolding said_by
said_no k₁ r₁ k r e = let p = some_same (k₁, r₁) (k, r) (ap said_by e) in (ap (λ (x : ℕ × ℕ). x.0) p, ap (λ (x : ℕ × ℕ). x.1) p)

never_no : {X : Type 0} (k r : ℕ) → yes ≡ no k r → X
unfolding said_by
never_no k r e = no_option (k, r) (ap said_by e)

refused_no : {X : Type 0} (n p : ℕ) (c : List ℕ) (k r : ℕ) → refused n p c ≡ no k r → X
unfolding said_by
refused_no n p c k r e = no_option (k, r) (ap said_by e)

module _ (s c : Scope) (k r : ℕ) where
  fourth_broken : (o : Option ℕ) → condition2 s c ≡ none → condition3 c ≡ none → condition4 s c ≡ o → unless 4 o yes ≡ no k r → Broken s c k r
  unfolding unless condition4
  fourth_broken none a b d e = never_no k r e
  fourth_broken (some x) a b d e =
      let q = said_no 4 x k r e in
      fourth (sym q.0) a b (first_is _ r (sym (scope_tried_lem 0 c [] s) ∙ d ∙ ap some q.1))

  third_broken : (o : Option ℕ) → condition2 s c ≡ none → condition3 c ≡ o → unless 3 o (unless 4 (condition4 s c) yes) ≡ no k r → Broken s c k r
  unfolding unless condition3
  third_broken none a b e = fourth_broken (condition4 s c) a b refl e
  third_broken (some x) a b e =
      let q = said_no 3 x k r e in
      third (sym q.0) a (first_is _ r (sym (scope_first 0 c) ∙ b ∙ ap some q.1))

  second_broken : (o : Option ℕ) → condition2 s c ≡ o → unless 2 o (unless 3 (condition3 c) (unless 4 (condition4 s c) yes)) ≡ no k r → Broken s c k r
  unfolding unless
  second_broken none a e = third_broken (condition3 c) a refl e
  second_broken (some x) a e =
      let q = said_no 2 x k r e in
      let at = a ∙ ap some q.1 in
      second (sym q.0) at (same_before s c r at)

  pub broken : conditions s c ≡ no k r → Broken s c k r
  unfolding conditions
  broken e = second_broken (condition2 s c) refl e

-- ---- on bytes

-- Condition 1: the claim is refused as a form, at that row. Else both are trees, and the condition is broken there.
pub data Justified (settings : List Setting) (input claim : List ℕ) (condition row : ℕ) : Type 0 where
  no_form : (v : Setting) (number : ℕ) (carried : List ℕ) → setting_of settings input ≡ some v → read_form (as_claimed v) claim ≡ answers.refused number row carried → condition ≡ 1 → Justified settings input claim condition row
  a_form : (v : Setting) (s c : Scope) → setting_of settings input ≡ some v → read_form v input ≡ accepted s → read_form (as_claimed v) claim ≡ accepted c → Broken s c condition row → Justified settings input claim condition row

module _ (settings : List Setting) (input claim : List ℕ) (k r : ℕ) where
  abbrev Just : Type 0
  Just = Justified settings input claim k r

  of_claim_lem : (v : Setting) (s : Scope) → setting_of settings input ≡ some v → read_form v input ≡ accepted s → (a : AnswerOf Scope) → read_form (as_claimed v) claim ≡ a → of_claim s a ≡ no k r → Just
  unfolding of_claim
  of_claim_lem v s asks reads (answers.refused number place carried) e h =
      let q = said_no 1 place k r h in
      no_form v number carried asks (e ∙ ap (λ (p : ℕ). answers.refused number p carried) q.1) (sym q.0)
  of_claim_lem v s asks reads (accepted c) e h = a_form v s c asks reads e (broken s c k r h)

  of_steps_lem : (v : Setting) (s : Scope) → setting_of settings input ≡ some v → read_form v input ≡ accepted s → (m : Result (Scope × ℕ)) → of_steps m s (read_form (as_claimed v) claim) ≡ no k r → Just
  unfolding of_steps
  of_steps_lem v s asks reads (Result.refused why place) h = refused_no _ _ _ k r h
  of_steps_lem v s asks reads (steps.ok x) h = of_claim_lem v s asks reads (read_form (as_claimed v) claim) refl h

  of_input_lem : (v : Setting) → setting_of settings input ≡ some v → (a : AnswerOf Scope) → read_form v input ≡ a → of_input v.rules a (read_form (as_claimed v) claim) ≡ no k r → Just
  unfolding of_input
  of_input_lem v asks (answers.refused number place carried) e h = refused_no number place carried k r h
  of_input_lem v asks (accepted s) e h = of_steps_lem v s asks e (resolve v.rules s) h

  of_setting : (o : Option Setting) → setting_of settings input ≡ o → verdict_for o input claim ≡ no k r → Just
  unfolding verdict_for
  of_setting none asks h = refused_no 1 0 [] k r h
  of_setting (some v) asks h = of_input_lem v asks (read_form v input) refl h

  -- EACH NO IS JUSTIFIED, whatever the settings and the bytes are.
  pub no_justified : verdict settings input claim ≡ no k r → Just
  unfolding verdict
  no_justified h = of_setting (setting_of settings input) refl h
