-- Demand 3 for another assembler's output: if the verdict is yes, counting in the claim gives for every walked name of the input the
-- declaration that the outward reading of the input gives.
use Rattle.std.specs.Prelude.{◌≡◌, refl, true, List, [], ℕ, drop}
use Rattle.std.proofs.Common.{◌∙◌, arith}
use Rattle.std.proofs.Math.Option.{Option, none, some}
use Rattle.rules.specs.Versions.{Setting, as_claimed}
use Rattle.rules.specs.Tree.{Scope, form}
use Rattle.rules.specs.Reader.{read}
use Rattle.rules.specs.Rules.{number_of, carried_by, Result, ok, resolve}
use Rattle.rules.specs.Answer.{AnswerOf, accepted, setting_of, row_count, rows_in}
use Rattle.rules.specs.Readings
use Rattle.rules.specs.Readings.{Place}
use Rattle.read_form.specs.ReadForm.{read_form}
use Rattle.checking.specs.Check
use Rattle.checking.specs.Check.{Verdict, yes, conditions, verdict}
use Rattle.rules.specs.Laws.ToolLaws.{ok_at}
use Rattle.rules.proofs.Laws.Output.Well.{well}
use Rattle.rules.proofs.Laws.Output.Numbers.{NumberedScope, numbers}
use Rattle.rules.proofs.Laws.Output.Kept.{kept, blank, without}
use Rattle.rules.specs.Laws.Meaning.Names.{low_scope}
use Rattle.rules.proofs.Laws.Meaning.ReadNames.{read_low}
use Rattle.rules.proofs.Laws.Meaning.Written.{is_written}
use Rattle.rules.proofs.Laws.InputLaws.{Usual, AllUsual, setting_usual}
use Rattle.read_form.proofs.Laws.ReadFormLaws.{read_exactly, read_read}
use Rattle.checking.proofs.Laws.SameFields.{same_fields, numbered_scope_bare}
use Rattle.checking.proofs.Laws.AddedFields.{scope_added_lem}
use Rattle.checking.proofs.Laws.ClaimNumbers.{scope_numbers}
use Rattle.checking.proofs.Laws.ClaimAgrees.{Faithful, claim_agrees, claim_stays}

-- ---- a verdict of yes

no_yes : {X : Type 0} (n p : ℕ) (c : List ℕ) → Verdict.refused n p c ≡ yes → X
no_yes n p c e = let z : ◌≡◌ {A = ℕ} 0 1 = cc in absurd (omega arith)

no_not_yes : {X : Type 0} (n p : ℕ) → Verdict.no n p ≡ yes → X
no_not_yes n p e = let z : ◌≡◌ {A = ℕ} 0 1 = cc in absurd (omega arith)

-- the four conditions
record Passes (s c : Scope) : Type 0 where
  two : Check.condition2 s c ≡ none
  three : Check.condition3 c ≡ none
  four : Check.condition4 s c ≡ none

passes : (s c : Scope) → conditions s c ≡ yes → Passes s c
unfolding conditions Check.unless
passes s c e = go (Check.condition2 s c) (Check.condition3 c) (Check.condition4 s c) refl refl refl e
  where
    go : (a b d : Option ℕ) → Check.condition2 s c ≡ a → Check.condition3 c ≡ b → Check.condition4 s c ≡ d
        → Check.unless 2 a (Check.unless 3 b (Check.unless 4 d yes)) ≡ yes → Passes s c
    go (some n) b d p q r f = no_not_yes 2 n f
    go none (some n) d p q r f = no_not_yes 3 n f
    go none none (some n) p q r f = no_not_yes 4 n f
    go none none none p q r f = record { two = p; three = q; four = r }

-- what is read and what passes
record Yes (settings : List Setting) (input claim : List ℕ) : Type 0 where
  v : Setting
  asks : setting_of settings input ≡ some v
  s : Scope
  reads : read_form v input ≡ accepted s
  r : Scope × ℕ
  resolves : resolve v.rules s ≡ ok r
  c : Scope
  claims : read_form (as_claimed v) claim ≡ accepted c
  passing : Passes s c

said_yes_lem : (settings : List Setting) (input claim : List ℕ) → verdict settings input claim ≡ yes → Yes settings input claim
unfolding verdict Check.verdict_for Check.of_input Check.of_steps Check.of_claim
said_yes_lem settings input claim e = of_setting (setting_of settings input) refl e
  where
    of_claim_lem : (v : Setting) (s : Scope) (r : Scope × ℕ) (x : AnswerOf Scope) → setting_of settings input ≡ some v → read_form v input ≡ accepted s → resolve v.rules s ≡ ok r → read_form (as_claimed v) claim ≡ x
        → Check.of_claim s x ≡ yes → Yes settings input claim
    of_claim_lem v s r (AnswerOf.refused n p c) a t k q f = no_not_yes 1 p f
    of_claim_lem v s r (accepted c) a t k q f = record { v = v; asks = a; s = s; reads = t; r = r; resolves = k; c = c; claims = q; passing = passes s c f }

    of_steps_lem : (v : Setting) (s : Scope) (x : Result (Scope × ℕ)) → setting_of settings input ≡ some v → read_form v input ≡ accepted s → resolve v.rules s ≡ x
        → Check.of_steps x s (read_form (as_claimed v) claim) ≡ yes → Yes settings input claim
    of_steps_lem v s (Result.refused why p) a t k f = no_yes (number_of why) p (carried_by why) f
    of_steps_lem v s (ok r) a t k f = of_claim_lem v s r (read_form (as_claimed v) claim) a t k refl f

    of_input_lem : (v : Setting) (x : AnswerOf Scope) → setting_of settings input ≡ some v → read_form v input ≡ x → Check.of_input v.rules x (read_form (as_claimed v) claim) ≡ yes → Yes settings input claim
    of_input_lem v (AnswerOf.refused n p c) a t f = no_yes n p c f
    of_input_lem v (accepted s) a t f = of_steps_lem v s (resolve v.rules s) a t refl f

    of_setting : (x : Option Setting) → setting_of settings input ≡ x → Check.verdict_for x input claim ≡ yes → Yes settings input claim
    of_setting none a f = no_yes 1 0 [] f
    of_setting (some v) a f = of_input_lem v (read_form v input) a refl f

-- Of an input and a claim with the verdict yes: the trees that they are read as, and what holds of them.
pub record Agreeing (settings : List Setting) (input claim : List ℕ) : Type 0 where
  pub setting : Setting
  pub asked_for : setting_of settings input ≡ some setting
  pub before : Scope
  pub after : Scope
  pub reads : read setting.rules setting.version.scopes (rows_in setting input) ≡ form before
  pub reads_claim : read setting.rules setting.version.scopes (rows_in (as_claimed setting) claim) ≡ form after
  -- without its added fields the claim has the input's, with their codes, places, DECLs, EXPORTs, and operands but for their numbers
  pub same : blank (without after) ≡ blank before
  -- every reference in it is a number without PATHs
  pub numbered : NumberedScope after
  -- what holds numbers only stands there as it was written
  pub written_stays : (p : Place) (u : Readings.Use) → Readings.use_at before p ≡ some u → is_written u.operand ≡ true
      → (u' : Readings.Use) × (Readings.use_at after p ≡ some u') × (u'.operand ≡ u.operand)
  -- for every walked name the outward reading of the input is a declaration, and counting in the claim gives the same one
  pub agree : (p : Place) (x : ℕ × ℕ) → Readings.walked_at before p ≡ some x
      → (d : Place) × (Readings.outward_reading before p ≡ some d) × (Readings.counting_reading after p ≡ some d)

-- For all usual settings: a verdict of yes means that the two readings agree.
pub yes_agrees : (settings : List Setting) → AllUsual settings → (input claim : List ℕ) → verdict settings input claim ≡ yes → Agreeing settings input claim
unfolding Check.condition3 Check.condition4 resolve
yes_agrees settings l input claim e =
    let Y = said_yes_lem settings input claim e in
    let u : Usual Y.v = ok_at Usual (setting_of settings input) Y.v (setting_usual settings input l) Y.asks in
    let q : read Y.v.rules Y.v.version.scopes (rows_in Y.v input) ≡ form Y.s = read_read Y.v input Y.s Y.reads in
    let q' : read Y.v.rules Y.v.version.scopes (rows_in (as_claimed Y.v) claim) ≡ form Y.c = read_read (as_claimed Y.v) claim Y.c Y.claims in
    let F = ((read_exactly Y.v input Y.s).0 Y.reads).is_form in
    let G = ((read_exactly (as_claimed Y.v) claim Y.c).0 Y.claims).is_form in
    let low = read_low Y.v.rules Y.v.version.scopes Y.v.version.names (row_count Y.v.version input) (drop Y.v.version.header input) Y.s u.low q in
    let W = well Y.v.rules u.heap [] Y.s Y.r F.good Y.resolves in
    let S = same_fields Y.v.rules Y.s Y.r.0 Y.c (W.kind ∙ F.component) W.good (numbered_scope_bare Y.r.0 (numbers Y.v.rules [] Y.s Y.r F.good Y.resolves))
    (kept Y.v.rules [] Y.s Y.r (low_scope Y.s low) Y.resolves).same G.component G.good Y.passing.two in
    let A = scope_added_lem Y.v.rules 0 Y.c G.good Y.passing.three in
    let T : Faithful Y.s Y.c = record { low = low; bare = S.bare; same = S.same; added = A; right = Y.passing.four } in
    record {
      setting = Y.v;
      asked_for = Y.asks;
      before = Y.s;
      after = Y.c;
      reads = q;
      reads_claim = q';
      same = S.same;
      numbered = scope_numbers 0 Y.c [] Y.s S.bare A S.same Y.passing.four;
      written_stays = λ p u q t. claim_stays Y.s Y.c p u T q t;
      agree = λ p x w. claim_agrees Y.s Y.c p x T w;
    }
