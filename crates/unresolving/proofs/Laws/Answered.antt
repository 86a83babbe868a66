-- The way back, of all bytes: what is given is an input with these bytes as its output, and one is given if there is any.
use Rattle.std.specs.Prelude.{◌≡◌, refl, Bool, true, false, ◌&&◌, ◌↔◌, ℕ, zero, suc, ◌+◌, ◌-◌, ◌*◌, ◌^◌, ◌/◌, ◌%◌, ◌≤◌, ◌<◌, eqb, leb, ltb, length, take, drop, replicate}
use Rattle.std.proofs.Math.Path.{ap, ap₂, sym}
use Rattle.std.proofs.Common.{◌∙◌, subst, arith}
use Rattle.std.proofs.Math.Option.{Option, none, some}
use mathlib.Core.List.{List, [], ◌∷◌, map, append-nil}
use Rattle.std.proofs.Math.ListN.{length-append}
use Rattle.rules.specs.Tools.{when◌then◌else◌, only, ◌then◌, ◌or_else◌, zeros}
use Rattle.rules.specs.Versions.{Setting, version1, version2, today, newer, base, all, top_name, as_claimed}
use Rattle.rules.specs.Rows.{bytes, Raw, raw, raw_bytes, Row, encode, encode_row}
use Rattle.rules.specs.Tree.{Scope, scope, flatten, form}
use Rattle.rules.specs.Good.{height, kind_of, GoodScope}
use Rattle.rules.specs.Begins.{IsForm}
use Rattle.rules.specs.Reader.{read}
use Rattle.rules.specs.Rules.{Result, ok, resolve}
use Rattle.rules.specs.Answer
use Rattle.rules.specs.Answer.{AnswerOf, map_answer, Answer, accepted, same_numbers, setting_of, row_count, rows_of, rows_in, answer, answer_in, rows_bytes, header_bytes, form_bytes}
use Rattle.unresolving.specs.Back.{unresolve}
use Rattle.unresolving.specs.BackAnswer.{form_of, outcome, tree_of, read_claim, is_outcome, back}
use Rattle.rules.specs.Laws.ToolLaws.{ok_at, All, done, ◌&◌, all_append, and_left, and_right, eqb-true, eqb_same, leb-true, leb-false, false_not, then_some}
use Rattle.rules.specs.Laws.RowLaws.{Written, Bytes}
use Rattle.rules.specs.Laws.Results.{some_same, no_option}
use Rattle.rules.proofs.Laws.Read.BeginsWritten.{rows_again}
use Rattle.rules.specs.Laws.Meaning.Names.{LowScope}
use Rattle.rules.proofs.Laws.Output.OutFits.{out_name}
use Rattle.rules.proofs.Laws.Output.OutBytes.{header_count, header_length, header_drop, out_rows}
use Rattle.rules.proofs.Laws.AnswerLaws.{Sized, answer_resolved}
use Rattle.rules.proofs.Laws.InputLaws.{Usual, AllUsual, base_usual, all_usual, setting_usual, alone_small, Steps, steps, Outcome, written, low_read, is_form, read_out, tree_rows, all_written_lem, few_out}
use Rattle.unresolving.proofs.Laws.WentBack.{WentBack, went_back}

-- ---- small tools

same_are : (a b : List ℕ) → same_numbers a b ≡ true → a ≡ b
unfolding same_numbers
same_are [] [] e = refl
same_are [] (y ∷ b) e = false_not e
same_are (x ∷ a) [] e = false_not e
same_are (x ∷ a) (y ∷ b) e = ap₂ (λ (z : ℕ) (l : List ℕ). z ∷ l) (eqb-true x y (and_left (eqb x y) _ e)) (same_are a b (and_right (eqb x y) _ e))

pub are_same : (a : List ℕ) → same_numbers a a ≡ true
unfolding same_numbers
are_same [] = refl
are_same (x ∷ a) = rw (eqb_same x) (are_same a)

only_some : {A : Type 0} (b : Bool) (x y : A) → only b x ≡ some y → (b ≡ true) × (x ≡ y)
unfolding only
only_some true x y e = (refl, some_same x y e)
only_some false x y e = no_option y e

pub outcome_is : (o : Option (List ℕ)) (claim : List ℕ) → is_outcome o claim ≡ true → o ≡ some claim
unfolding is_outcome
outcome_is none claim e = false_not e
outcome_is (some bs) claim e = ap {B = Option (List ℕ)} some (same_are bs claim e)

-- What is given is an input, and these bytes are its output.
pub back_right : (settings : List Setting) (claim input : List ℕ) → back settings claim ≡ some input → outcome settings input ≡ some claim
unfolding back
back_right settings claim input e =
    let s₁ = then_some (setting_of settings claim) _ input e in
    let s₂ = then_some (read_claim s₁.0 claim) _ input s₁.2 in
    let s₃ = only_some _ _ input s₂.2 in
    subst (λ (i : List ℕ). outcome settings i ≡ some claim) s₃.1 (outcome_is _ claim s₃.0)

-- ---- a written form

raw_length : (r : Raw) → length (raw_bytes r) ≡ 16
unfolding raw_bytes bytes
raw_length (raw code b e x y z) = refl

rows_length : (rs : List Row) → length (rows_bytes rs) ≡ 16 * length rs
unfolding rows_bytes encode_row
rows_length [] = refl
rows_length (r ∷ rs) = omega (arith, length-append (raw_bytes (encode r)) (rows_bytes rs), raw_length (encode r), rows_length rs)

not_less : (n : ℕ) → ltb n n ≡ false
not_less n = leb-false (suc n) n (omega arith)

-- what is asked of settings: the usual, and that a header which asks for one of them is written for it too
pub record Settled (settings : List Setting) : Type 0 where
  pub usual : AllUsual settings
  pub names : (x : List ℕ) (v : Setting) → setting_of settings x ≡ some v → v.version.names ≡ top_name
  pub asks : (x : List ℕ) (v : Setting) → setting_of settings x ≡ some v → (rs : List Row) → setting_of settings (form_bytes v rs) ≡ some v

module _ (v : Setting) (U : Usual v) where
  form_length : (rs : List Row) → length (form_bytes v rs) ≡ v.version.header + 16 * length rs
  unfolding form_bytes
  form_length rs = omega (arith, length-append (header_bytes v (length rs)) (rows_bytes rs), header_length v (length rs) [] U.header, rows_length rs)

  form_count : (rs : List Row) → length rs < 256 ^ v.version.counting → row_count v.version (form_bytes v rs) ≡ length rs
  unfolding form_bytes row_count
  form_count rs h = header_count v (length rs) (rows_bytes rs) h

  form_rows : (rs : List Row) → v.version.names ≡ top_name → length rs < 256 ^ v.version.counting → All (Written top_name) rs → rows_in v (form_bytes v rs) ≡ map some rs
  unfolding form_bytes
  form_rows rs names h a =
      let body = header_drop v (length rs) (rows_bytes rs) U.header in
      ap₂ (λ (c : ℕ) (l : List ℕ). rows_of v.version.names c l) (form_count rs h) body
      ∙ (ap (λ (n : ℕ). rows_of n (length rs) (rows_bytes rs)) names
      ∙ (ap (rows_of top_name (length rs)) (sym (append-nil (rows_bytes rs))) ∙ rows_again top_name rs [] a))

  -- ---- a form whose rows can be written is resolved as its tree

  module _ (names : v.version.names ≡ top_name) (u : Scope) (r : Scope × ℕ) (component : kind_of u ≡ 0) (good : GoodScope v.rules u) (deep : height u ≤ v.version.scopes)
      (few : length (flatten u) ≤ v.version.rows) (some_rows : 1 ≤ length (flatten u)) (rows : All (Written top_name) (flatten u)) (resolves : resolve v.rules u ≡ ok r) where
    abbrev input_of : List ℕ
    input_of = form_bytes v (flatten u)

    countable : length (flatten u) < 256 ^ v.version.counting
    countable = omega (arith, U.countable)

    its_count : row_count v.version input_of ≡ length (flatten u)
    its_count = form_count (flatten u) countable

    sized : Sized [] v input_of (v.version.header + 64 * row_count v.version input_of)
    sized =
        record {
          counted = rw (its_count, leb-true some_rows, leb-true few);
          long = rw (its_count, form_length (flatten u)) (eqb_same (v.version.header + 16 * length (flatten u)));
          roomy = not_less (v.version.header + 64 * row_count v.version input_of);
        }

    answered : answer_in [] v input_of (v.version.header + 64 * row_count v.version input_of) ≡ accepted (flatten r.0)
    unfolding Answer.resolved map_answer resolve
    answered =
        answer_resolved [] v input_of (v.version.header + 64 * row_count v.version input_of) sized u
        (record { component = component; good = good; of_tree = sym (form_rows (flatten u) names countable rows) }) deep
        ∙ ap (λ (m : Result (Scope × ℕ)). map_answer flatten (Answer.resolved m)) resolves

    outcome_of_lem : (settings : List Setting) → setting_of settings input_of ≡ some v → outcome settings input_of ≡ some (form_bytes v (flatten r.0))
    unfolding outcome form_of ◌then◌
    outcome_of_lem settings asks = rw asks (ap (form_of v) answered)

-- ---- one is given if there is any

form_is : (s : Setting) (a : Answer) (claim : List ℕ) → form_of s a ≡ some claim → (out : List Row) × (a ≡ accepted out) × (claim ≡ form_bytes s out)
unfolding form_of
form_is s (Answer.refused n z c) claim e = no_option claim e
form_is s (accepted rs) claim e = (rs, refl, sym (some_same _ claim e))

pub record Ran (settings : List Setting) (claim input : List ℕ) : Type 0 where
  pub v : Setting
  pub asked : setting_of settings input ≡ some v
  pub out : List Row
  pub is : claim ≡ form_bytes v out
  pub answers : answer_in [] v input (v.version.header + 64 * row_count v.version input) ≡ accepted out

pub ran_on : (settings : List Setting) (claim input : List ℕ) → outcome settings input ≡ some claim → Ran settings claim input
unfolding outcome
ran_on settings claim input e =
    let s = then_some (setting_of settings input) _ claim e in
    let F = form_is s.0 _ claim s.2 in
    record { v = s.0; asked = s.1; out = F.0; is = F.2; answers = F.1 }

scope_long_lem : (s : Scope) → 1 ≤ length (flatten s)
unfolding flatten
scope_long_lem (scope kind name fs) = omega arith

tree_is : (v : Setting) (claim : List ℕ) (s : Scope) → read v.rules v.version.scopes (rows_in (as_claimed v) claim) ≡ form s → read_claim v claim ≡ some s
unfolding read_claim tree_of
tree_is v claim s e = rw e

gives : (settings : List Setting) (v : Setting) (claim : List ℕ) (s : Scope) → setting_of settings claim ≡ some v → read_claim v claim ≡ some s
    → outcome settings (form_bytes v (flatten (unresolve s))) ≡ some claim → back settings claim ≡ some (form_bytes v (flatten (unresolve s)))
unfolding back is_outcome only ◌then◌
gives settings v claim s a b d = rw (a, b, d, are_same claim)

-- what is given for the output of `input`: bytes with as many rows
pub record Given (settings : List Setting) (claim input : List ℕ) : Type 0 where
  pub setting : Setting
  pub asked_for : setting_of settings input ≡ some setting
  pub found : List ℕ
  pub is_given_lem : back settings claim ≡ some found
  pub same_count : row_count setting.version found ≡ row_count setting.version input

module _ (settings : List Setting) (L : Settled settings) (claim input : List ℕ) (bs : Bytes input) (e : outcome settings input ≡ some claim) where
  R : Ran settings claim input
  R = ran_on settings claim input e

  abbrev v : Setting
  v = R.v

  S : Steps [] v input (v.version.header + 64 * row_count v.version input) (accepted R.out)
  S = steps [] v input (v.version.header + 64 * row_count v.version input) (accepted R.out) tt R.answers

  W : Outcome v.rules [] S.s R.out
  W = written v.rules [] S.s R.out S.answers

  U : Usual v
  U = ok_at _ _ v (setting_usual settings input L.usual) R.asked

  F : IsForm v.rules (rows_in v input) S.s × (height S.s ≤ v.version.scopes)
  F = is_form [] v input S.s W.r U S.reads W.resolves

  low : LowScope S.s
  low = low_read [] v input S.s U.low S.reads

  fits : All (Written out_name) (flatten W.r.0)
  fits = all_written_lem [] v input S.s W.r U S.reads W.resolves (alone_small v U) bs S.few

  claim_is : claim ≡ form_bytes v (flatten W.r.0)
  claim_is = R.is ∙ ap (form_bytes v) (sym W.rows_are)

  claim_rows : rows_in (as_claimed v) claim ≡ map some (flatten W.r.0)
  claim_rows =
      ap (rows_in (as_claimed v)) (claim_is ∙ sym (append-nil (form_bytes v (flatten W.r.0))))
      ∙ out_rows v (flatten W.r.0) [] U.header (few_out [] v input S.s W.r U S.reads W.resolves S.few) fits

  claim_tree : read_claim v claim ≡ some W.r.0
  claim_tree = tree_is v claim W.r.0 (ap (read v.rules v.version.scopes) claim_rows ∙ read_out [] v input S.s W.r U S.reads W.resolves)

  abbrev u : Scope
  u = unresolve W.r.0

  back_tree : WentBack v.rules S.s u W.r
  unfolding resolve
  back_tree = went_back v.rules U.heap S.s W.r F.0.good low fits W.resolves

  size : length (flatten u) ≡ row_count v.version input
  size = back_tree.size ∙ tree_rows [] v input S.s W.r U S.reads W.resolves

  few : length (flatten u) ≤ v.version.rows
  few = omega (arith, size, S.few)

  high : height u ≤ v.version.scopes
  high = omega (arith, back_tree.high, F.1)

  found_outcome : outcome settings (form_bytes v (flatten u)) ≡ some claim
  found_outcome =
      outcome_of_lem v U (L.names input v R.asked) u W.r (back_tree.kind ∙ F.0.component) back_tree.good high few (scope_long_lem u) back_tree.rows back_tree.resolves
      settings (L.asks input v R.asked (flatten u))
      ∙ ap {B = Option (List ℕ)} some (sym claim_is)

  -- An input is given for the output of every accepted one, with as many rows.
  pub back_complete : Given settings claim input
  back_complete =
      record {
        setting = v;
        asked_for = R.asked;
        found = form_bytes v (flatten u);
        is_given_lem = gives settings v claim W.r.0 (ap (setting_of settings) claim_is ∙ L.asks input v R.asked (flatten W.r.0)) claim_tree found_outcome;
        same_count = form_count v U (flatten u) (omega (arith, few, U.countable)) ∙ size;
      }

-- ---- exactly then

next_byte : (b : ℕ) (bs : List ℕ) → b < 256 → Bytes bs → Bytes (b ∷ bs)
next_byte b bs h a = h & a

bytes_low : (c n : ℕ) → Bytes (bytes c n)
unfolding bytes
bytes_low zero n = done
bytes_low (suc c) n = next_byte (n % 256) _ (omega arith) (bytes_low c (n / 256))

zeros_low : (c : ℕ) → Bytes (replicate c 0)
zeros_low zero = done
zeros_low (suc c) = next_byte 0 _ (omega arith) (zeros_low c)

raw_low : (r : Raw) → Bytes (raw_bytes r)
unfolding raw_bytes
raw_low (raw code b e x y z) =
    all_append (bytes 1 code) _ (bytes_low 1 code)
    (all_append (bytes 1 b) _ (bytes_low 1 b)
    (all_append (bytes 2 e) _ (bytes_low 2 e) (all_append (bytes 4 x) _ (bytes_low 4 x) (all_append (bytes 4 y) _ (bytes_low 4 y) (bytes_low 4 z)))))

pub rows_low : (rs : List Row) → Bytes (rows_bytes rs)
unfolding rows_bytes encode_row
rows_low [] = done
rows_low (r ∷ rs) = all_append (raw_bytes (encode r)) (rows_bytes rs) (raw_low (encode r)) (rows_low rs)

mark_low : (s : Setting) → Bytes (Answer.mark s)
unfolding Answer.mark
mark_low s =
    next_byte 87 _ (omega arith) (next_byte 78 _ (omega arith) (next_byte 84 _ (omega arith)
    (all_append (bytes 2 s.version.number) (bytes 1 s.rules.number) (bytes_low 2 s.version.number) (bytes_low 1 s.rules.number))))

form_low : (s : Setting) (rs : List Row) → Bytes (form_bytes s rs)
unfolding form_bytes header_bytes
form_low s rs =
    all_append (header_bytes s (length rs)) (rows_bytes rs)
    (all_append (Answer.mark s) _ (mark_low s) (all_append (bytes s.version.counting (length rs)) _ (bytes_low s.version.counting (length rs)) (zeros_low (s.version.header - (6 + s.version.counting))))) (rows_low rs)

pub back_bytes : (settings : List Setting) (claim input : List ℕ) → back settings claim ≡ some input → Bytes input
unfolding back
back_bytes settings claim input e =
    let s₁ = then_some (setting_of settings claim) _ input e in
    let s₂ = then_some (read_claim s₁.0 claim) _ input s₁.2 in
    subst Bytes (only_some _ _ input s₂.2).1 (form_low s₁.0 (flatten (unresolve s₂.0)))

-- It is the unresolved tree of what is read.
pub back_is : (settings : List Setting) (claim input : List ℕ) → back settings claim ≡ some input
    → (v : Setting) × (t : Scope) × (setting_of settings claim ≡ some v) × (read_claim v claim ≡ some t) × (input ≡ form_bytes v (flatten (unresolve t)))
unfolding back
back_is settings claim input e =
    let s₁ = then_some (setting_of settings claim) _ input e in
    let s₂ = then_some (read_claim s₁.0 claim) _ input s₁.2 in
    (s₁.0, s₂.0, s₁.1, s₂.1, sym (only_some _ _ input s₂.2).1)

-- None is given exactly if no input has these bytes as its output.
pub back_exactly : (settings : List Setting) → Settled settings → (claim : List ℕ) → (back settings claim ≡ none) ↔ ((input : List ℕ) → Bytes input → outcome settings input ≡ some claim → ⊥)
back_exactly settings L claim = (
  λ e input bs o. let B = back_complete settings L claim input bs o in no_option B.found (sym e ∙ B.is_given_lem),
  λ h. go (back settings claim) refl h,
)
  where
    go : (o : Option (List ℕ)) → back settings claim ≡ o → ((input : List ℕ) → Bytes input → outcome settings input ≡ some claim → ⊥) → o ≡ none
    go none e h = refl
    go (some input) e h = absurd (h input (back_bytes settings claim input e) (back_right settings claim input e))

-- ---- an accepted input has its outcome, however long the output buffer was

past_two : (a b : Bool) (x : AnswerOf Scope) (out : List Row) → map_answer flatten (when a then Answer.refused 2 0 [] else when b then Answer.refused 3 0 [] else x) ≡ accepted out
    → map_answer flatten (when a then Answer.refused 2 0 [] else when false then Answer.refused 3 0 [] else x) ≡ accepted out
unfolding when◌then◌else◌ map_answer
past_two true b x out e = e
past_two false true x out e = let z : ◌≡◌ {A = ℕ} 0 1 = cc in absurd (omega arith)
past_two false false x out e = e

exact_room : (s : Setting) (input : List ℕ) (room : ℕ) (out : List Row) → answer_in [] s input room ≡ accepted out
    → answer_in [] s input (s.version.header + 64 * row_count s.version input) ≡ accepted out
unfolding answer_in Answer.form_in
exact_room s input room out e = rw (not_less (s.version.header + 64 * row_count s.version input)) (past_two _ _ _ out e)

pub accepted_outcome : (settings : List Setting) (input : List ℕ) (room : ℕ) (s : Setting) (out : List Row) → setting_of settings input ≡ some s → answer settings input room ≡ accepted out
    → outcome settings input ≡ some (form_bytes s out)
unfolding answer Answer.answer_inside Answer.answer_for outcome form_of ◌then◌
accepted_outcome settings input room s out a e = rw a (ap (form_of s) (exact_room s input room out (rw a at e)))

-- ---- the settings

-- the header of a written form asks for its setting
form_has : (v : Setting) → Usual v → (rs : List Row) → same_numbers (take 6 (form_bytes v rs)) (Answer.mark v) ≡ true
    → zeros (drop (6 + v.version.counting) (take v.version.header (form_bytes v rs))) ≡ true → Answer.has_header v (form_bytes v rs) ≡ true
unfolding Answer.has_header
form_has v U rs marked padded =
    let l = form_length v U rs in
    let long : leb v.version.header (length (form_bytes v rs)) ≡ true = leb-true {m = v.version.header} {n = length (form_bytes v rs)} (omega arith) in
    rw (long, marked, padded)

-- and not for one with another mark
form_lacks : (v w : Setting) (rs : List Row) → same_numbers (take 6 (form_bytes v rs)) (Answer.mark w) ≡ false → Answer.has_header w (form_bytes v rs) ≡ false
unfolding Answer.has_header
form_lacks v w rs other = rw other (go (leb w.version.header (length (form_bytes v rs))))
  where
    go : (b : Bool) → b && false && zeros (drop (6 + w.version.counting) (take w.version.header (form_bytes v rs))) ≡ false
    go true = refl
    go false = refl

abbrev one : Setting
one = record { version = version1; rules = today }

abbrev two : Setting
two = record { version = version2; rules = today }

abbrev three : Setting
three = record { version = version2; rules = newer }

one_has : (rs : List Row) → Answer.has_header one (form_bytes one rs) ≡ true
unfolding form_bytes header_bytes Answer.mark bytes same_numbers
one_has rs = form_has one all_usual.0 rs refl refl

two_has : (rs : List Row) → Answer.has_header two (form_bytes two rs) ≡ true
unfolding form_bytes header_bytes Answer.mark bytes same_numbers
two_has rs = form_has two all_usual.1.0 rs refl refl

three_has : (rs : List Row) → Answer.has_header three (form_bytes three rs) ≡ true
unfolding form_bytes header_bytes Answer.mark bytes same_numbers
three_has rs = form_has three all_usual.1.1.0 rs refl refl

two_lacks : (rs : List Row) → Answer.has_header one (form_bytes two rs) ≡ false
unfolding form_bytes header_bytes Answer.mark bytes same_numbers
two_lacks rs = form_lacks two one rs refl

three_lacks : (rs : List Row) → (Answer.has_header one (form_bytes three rs) ≡ false) × (Answer.has_header two (form_bytes three rs) ≡ false)
unfolding form_bytes header_bytes Answer.mark bytes same_numbers
three_lacks rs = (form_lacks three one rs refl, form_lacks three two rs refl)

-- those in force

form_asks : (rs : List Row) → setting_of base (form_bytes one rs) ≡ some one
unfolding setting_of only ◌or_else◌
form_asks rs = rw (one_has rs)

pub base_one : (x : List ℕ) (v : Setting) → setting_of base x ≡ some v → one ≡ v
unfolding setting_of only ◌or_else◌
base_one x v e = go (Answer.has_header one x) e
  where
    go : (b : Bool) → (only b one or_else none) ≡ some v → one ≡ v
    go true q = some_same one v q
    go false q = no_option v q

pub base_settled : Settled base
base_settled =
    record {
      usual = base_usual;
      names = λ x v e. subst (λ (s : Setting). s.version.names ≡ top_name) (base_one x v e) refl;
      asks = λ x v e rs. subst (λ (s : Setting). setting_of base (form_bytes s rs) ≡ some s) (base_one x v e) (form_asks rs);
    }

-- and all of both versions and rule sets

abbrev Asks : Setting → Type 0
Asks s = (rs : List Row) → setting_of all (form_bytes s rs) ≡ some s

one_asks : Asks one
unfolding setting_of only ◌or_else◌
one_asks rs = rw (one_has rs)

two_asks : Asks two
unfolding setting_of only ◌or_else◌
two_asks rs = rw (two_lacks rs, two_has rs)

three_asks : Asks three
unfolding setting_of only ◌or_else◌
three_asks rs = rw ((three_lacks rs).0, (three_lacks rs).1, three_has rs)

each : (P : Setting → Type 0) → P one → P two → P three → (x : List ℕ) (v : Setting) → setting_of all x ≡ some v → P v
unfolding setting_of only ◌or_else◌
each P p q r x v e = go (Answer.has_header one x) (Answer.has_header two x) (Answer.has_header three x) e
  where
    go : (a b c : Bool) → (only a one or_else (only b two or_else (only c three or_else none))) ≡ some v → P v
    go true b c e = subst P (some_same one v e) p
    go false true c e = subst P (some_same two v e) q
    go false false true e = subst P (some_same three v e) r
    go false false false e = no_option v e

pub all_settled : Settled all
all_settled =
    record {
      usual = all_usual;
      names = each (λ (s : Setting). s.version.names ≡ top_name) refl refl refl;
      asks = each Asks one_asks two_asks three_asks;
    }
