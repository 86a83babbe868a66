-- Demand 3, and the rest of what is proved of trees, over inputs: the tree that is read, the tree whose rows are written, and what holds of them.
use Rattle.std.specs.Prelude.{◌≡◌, refl, Bool, true, false, ◌||◌, not, List, [], ◌∷◌, ◌++◌, map, ℕ, suc, ◌+◌, ◌*◌, ◌^◌, ◌≤◌, ◌<◌, eqb, leb, ltb, length, drop}
use Rattle.std.proofs.Common.{ap, sym, ◌∙◌, subst, arith}
use Rattle.std.proofs.Math.Option.{Option, none, some}
use Rattle.std.proofs.lemmas.List.{length-map}
use Rattle.rules.specs.Tools.{when◌then◌else◌, between, only, ◌or_else◌}
use Rattle.rules.specs.Versions.{RuleSet, Setting, top_name, base, all, as_claimed}
use Rattle.rules.specs.Rows.{Row}
use Rattle.rules.specs.Tree.{Scope, flatten, RowsRead, bad, deep, form}
use Rattle.rules.specs.Good.{height}
use Rattle.rules.specs.Begins.{IsForm}
use Rattle.rules.specs.Reader.{read}
use Rattle.rules.specs.Rules
use Rattle.rules.specs.Rules.{Refusal, number_of, carried_by, Result, ok, Env, resolve_inside}
use Rattle.rules.specs.Answer
use Rattle.rules.specs.Answer.{AnswerOf, refused, accepted, map_answer, Answer, setting_of, answer, scopes_left, form_in, answer_in, answer_inside, row_count, rows_in, output_inside, form_bytes}
use Rattle.rules.specs.Readings.{is_inserted, Place, Use, use_inside, walked, walked_inside, outward_inside, place_from, is_earlier, counting_inside}
use Rattle.rules.specs.Explainer.{Standing, standing_inside}
use Rattle.rules.specs.Laws.ToolLaws.{Ok, All, done, all_map, and_right, leb_le}
use Rattle.rules.specs.Laws.RowLaws.{Written, legal_wider, Bytes, bytes_drop}
use Rattle.rules.specs.Laws.Results.{holds_of}
use Rattle.rules.proofs.Laws.Read.BeginsWritten.{rows_length, rows_written_lem, all_some}
use Rattle.rules.proofs.Laws.Read.ReadRight.{read_right}
use Rattle.rules.proofs.Laws.Output.Well.{reads_again}
use Rattle.rules.proofs.Laws.Output.FourTimes.{four_times}
use Rattle.rules.proofs.Laws.Output.Numbers.{NumberedScope, numbers}
use Rattle.rules.proofs.Laws.Output.Kept.{Kept, kept}
use Rattle.rules.proofs.Laws.Output.OutFits.{out_name, out_fits}
use Rattle.rules.proofs.Laws.Output.OutBytes.{out_rows}
use Rattle.rules.specs.Laws.Meaning.Names.{LowScope, low_scope}
use Rattle.rules.proofs.Laws.Meaning.ReadNames.{read_low}
use Rattle.rules.proofs.Laws.Meaning.Turns.{place_of}
use Rattle.rules.proofs.Laws.Meaning.Around.{Around, alone}
use Rattle.rules.proofs.Laws.Meaning.Agree.{readings_agree}
use Rattle.rules.proofs.Laws.Meaning.Written
use Rattle.rules.proofs.Laws.Meaning.Written.{is_written}
use Rattle.rules.proofs.Laws.Meaning.Explained.{Explained, explainer_agrees}
use Rattle.rules.proofs.Laws.Meaning.Blame.{unknown_only, late_only}
use Rattle.rules.proofs.Laws.Meaning.InTime.{accepted_early}

-- ---- an answer that is not one of refusals 1 to 5 is that of the steps

abbrev pub FromSteps : Answer → Type 0
FromSteps (refused n z c) = (6 ≤ n)
FromSteps (accepted rs) = Unit {0}

past : (b : Bool) (n z : ℕ) (m : AnswerOf Scope) (x : Answer) → n ≤ 5 → FromSteps x → map_answer flatten (when b then refused n z [] else m) ≡ x → (b ≡ false) × (map_answer flatten m ≡ x)
unfolding when◌then◌else◌ map_answer
past true n z m x h f e = let c : 6 ≤ n = subst FromSteps (sym e) f in absurd (omega arith)
past false n z m x h f e = (refl, e)

counts : (a b : Bool) → not a || b ≡ false → a ≡ true
counts true b e = refl
counts false b e = sym e

-- the tree that is read, and what the steps make of it
pub record Steps (outside : List Env) (v : Setting) (input : List ℕ) (room : ℕ) (x : Answer) : Type 0 where
  pub s : Scope
  pub reads : read v.rules (scopes_left v.version.scopes outside) (rows_in v input) ≡ form s
  pub few : row_count v.version input ≤ v.version.rows
  pub forms : form_in outside v input room ≡ Answer.resolved (resolve_inside v.rules outside s)
  pub answers : map_answer flatten (Answer.resolved (resolve_inside v.rules outside s)) ≡ x

pub steps : (outside : List Env) (v : Setting) (input : List ℕ) (room : ℕ) (x : Answer) → FromSteps x → answer_in outside v input room ≡ x → Steps outside v input room x
unfolding answer_in form_in Answer.after_reading map_answer when◌then◌else◌
steps outside v input room x f e =
    let n = row_count v.version input in
    let P = past (not (between 1 v.version.rows n) || not (eqb (length input) (v.version.header + 16 * n))) 2 0 _ x (omega arith) f e in
    let Q = past (ltb room (v.version.header + 64 * n)) 3 0 _ x (omega arith) f P.1 in
    let low = leb_le n v.version.rows (and_right (leb 1 n) (leb n v.version.rows) (counts (between 1 v.version.rows n) _ P.0)) in
    go (read v.rules (scopes_left v.version.scopes outside) (rows_in v input)) refl low (rw (P.0, Q.0)) Q.1
  where
    go : (r : RowsRead) → read v.rules (scopes_left v.version.scopes outside) (rows_in v input) ≡ r → row_count v.version input ≤ v.version.rows
        → form_in outside v input room ≡ Answer.after_reading outside v.rules r → map_answer flatten (Answer.after_reading outside v.rules r) ≡ x → Steps outside v input room x
    go (bad place) q l g a = let z : 6 ≤ 4 = subst FromSteps (sym a) f in absurd (omega arith)
    go (deep place) q l g a = let z : 6 ≤ 5 = subst FromSteps (sym a) f in absurd (omega arith)
    go (form s) q l g a = record { s = s; reads = q; few = l; forms = g; answers = a }

-- ---- what a setting must be for this: its names below those of inserted fields, its heap types not core funcs, room in its header

pub record Usual (v : Setting) : Type 0 where
  pub low : v.version.names ≤ top_name
  pub heap : eqb 0 v.rules.heap ≡ false
  pub header : 6 + v.version.counting ≤ v.version.header
  pub countable : 4 * v.version.rows < 256 ^ v.version.counting
  pub few : suc v.version.rows < 2147483648

abbrev pub AllUsual : List Setting → Type 0
AllUsual [] = Unit {0}
AllUsual (v ∷ vs) = Usual v × AllUsual vs

pub base_usual : AllUsual base
base_usual = (record { low = omega arith; heap = refl; header = omega arith; countable = omega arith; few = omega arith }, tt)

pub all_usual : AllUsual all
all_usual = (
  record { low = omega arith; heap = refl; header = omega arith; countable = omega arith; few = omega arith },
  (
    record { low = omega arith; heap = refl; header = omega arith; countable = omega arith; few = omega arith },
    (record { low = omega arith; heap = refl; header = omega arith; countable = omega arith; few = omega arith }, tt),
  ),
)

-- the setting that the header asks for, and its answer
pub record Asked (outside : List Env) (settings : List Setting) (input : List ℕ) (room : ℕ) (x : Answer) : Type 0 where
  pub v : Setting
  pub asks : setting_of settings input ≡ some v
  pub usual : Usual v
  pub answers : answer_in outside v input room ≡ x

pub setting_usual : (settings : List Setting) (input : List ℕ) → AllUsual settings → Ok Usual (setting_of settings input)
unfolding setting_of only ◌or_else◌
setting_usual [] input l = tt
setting_usual (v ∷ vs) input l = go (Answer.has_header v input) (setting_usual vs input l.1)
  where
    go : (b : Bool) → Ok Usual (setting_of vs input) → Ok Usual (only b v or_else setting_of vs input)
    go true h = l.0
    go false h = h

pub asked : (outside : List Env) (settings : List Setting) (input : List ℕ) (room : ℕ) (x : Answer) → AllUsual settings → FromSteps x → answer_inside outside settings input room ≡ x
    → Asked outside settings input room x
unfolding answer_inside Answer.answer_for
asked outside settings input room x l f e = go (setting_of settings input) refl (setting_usual settings input l) e
  where
    go : (o : Option Setting) → setting_of settings input ≡ o → Ok Usual o → Answer.answer_for outside o input room ≡ x → Asked outside settings input room x
    go none q h a = let z : 6 ≤ 1 = subst FromSteps (sym a) f in absurd (omega arith)
    go (some v) q h a = record { v = v; asks = q; usual = h; answers = a }

-- ---- the readings agree

pub low_read : (outside : List Env) (v : Setting) (input : List ℕ) (s : Scope) → v.version.names ≤ top_name → read v.rules (scopes_left v.version.scopes outside) (rows_in v input) ≡ form s → LowScope s
low_read outside v input s h e = read_low v.rules (scopes_left v.version.scopes outside) v.version.names (row_count v.version input) (drop v.version.header input) s h e

-- what is written, if an input is accepted
pub record Outcome (rules : RuleSet) (outside : List Env) (s : Scope) (out : List Row) : Type 0 where
  pub r : Scope × ℕ
  pub resolves : resolve_inside rules outside s ≡ ok r
  pub rows_are : flatten r.0 ≡ out

pub written : (rules : RuleSet) (outside : List Env) (s : Scope) (out : List Row) → map_answer flatten (Answer.resolved (resolve_inside rules outside s)) ≡ accepted out → Outcome rules outside s out
unfolding Answer.resolved map_answer
written rules outside s out e = go (resolve_inside rules outside s) refl e
  where
    go : (m : Result (Scope × ℕ)) → resolve_inside rules outside s ≡ m → map_answer flatten (Answer.resolved m) ≡ accepted out → Outcome rules outside s out
    go (Result.refused why z) q a = let c : ◌≡◌ {A = ℕ} 0 1 = cc in absurd (omega arith)
    go (ok r) q a = record { r = r; resolves = q; rows_are = cc }

-- Of an accepted input, with `old` in the output buffer: the tree `before` that it is read as, and the tree `after` that the output buffer
-- is then read as.
pub record AcceptedInside (around : Around) (settings : List Setting) (input old : List ℕ) (out : List Row) : Type 0 where
  pub setting : Setting
  pub usual : Usual setting
  pub asked_for : setting_of settings input ≡ some setting
  pub before : Scope
  pub after : Scope
  pub reads : read setting.rules (scopes_left setting.version.scopes around.outside) (rows_in setting input) ≡ form before
  pub low : LowScope before
  pub few : length (flatten before) ≤ setting.version.rows
  pub next : ℕ
  pub resolves : resolve_inside setting.rules around.outside before ≡ ok (after, next)
  pub forms : form_in around.outside setting input (length old) ≡ accepted after
  -- the bytes of the output determine its rows, and these the tree; there are at most four times as many as in the input
  pub rows_out : rows_in (as_claimed setting) (output_inside around.outside settings input old) ≡ map some out
  pub reads_out : read setting.rules (scopes_left setting.version.scopes around.outside) (rows_in (as_claimed setting) (output_inside around.outside settings input old)) ≡ form after
  pub four : length out ≤ 4 * row_count setting.version input
  pub counted : row_count setting.version input ≤ setting.version.rows
  pub fit : All (Written out_name) out
  pub of_tree : flatten after ≡ out
  -- every reference in it is a number without PATHs
  pub numbered : NumberedScope after
  -- its inserted fields are those with a fresh name: without them it has the input's fields
  pub keeps : Kept before after
  -- what holds numbers only stands there as it was written
  pub written_stays : (p : Place) (u : Use) → use_inside around.base around.ins before p ≡ some u → is_written u.operand ≡ true
      → (u' : Use) × (use_inside around.base around.outs after p ≡ some u') × (u'.operand ≡ u.operand)
  -- for every walked name the outward reading of the input is a declaration, and counting in the output gives the same one
  pub agree : (p : Place) (x : ℕ × ℕ) → walked_inside around.base around.ins before p ≡ some x
      → (d : Place) × (outward_inside around.base around.ins before p ≡ some d) × (counting_inside around.base around.outs after p ≡ some d)
  -- and where the rules ask for it, one that stands earlier
  pub in_time_lem : setting.rules.early ≡ true → (p : Place) (x : ℕ × ℕ) (d : Place) → walked_inside around.base around.ins before p ≡ some x
      → outward_inside around.base around.ins before p ≡ some d → is_earlier d (place_from around.base p) ≡ true
  -- every inserted outer alias in it denotes by the explainer what its reference meant
  pub explains : (way : List ℕ) (n : ℕ) (u : Standing) → standing_inside around.full around.els after way n ≡ some u → is_inserted u.head ≡ true → u.head.code ≡ 11 → Explained around before after u

-- of a form by itself
abbrev pub Accepted : (settings : List Setting) (input old : List ℕ) (out : List Row) → Type 0
Accepted = AcceptedInside alone

-- The scopes around a form are no more, and have no more declarations, than numbers that fit a row.
pub record Small (outside : List Env) (v : Setting) : Type 0 where
  pub most : ℕ
  pub below : most < 2147483648
  pub wide : length outside + v.version.rows ≤ most
  pub tables : All (λ (e : Env). length e.entries ≤ most) outside

module _ (outside : List Env) (v : Setting) (input : List ℕ) (s : Scope) (r : Scope × ℕ) (u : Usual v) (e : read v.rules (scopes_left v.version.scopes outside) (rows_in v input) ≡ form s)
    (q : resolve_inside v.rules outside s ≡ ok r) where
  pub is_form : IsForm v.rules (rows_in v input) s × (height s ≤ scopes_left v.version.scopes outside)
  is_form = (read_right v.rules (scopes_left v.version.scopes outside) (rows_in v input) (form s)).0 e

  -- what is written is read as the tree that the steps gave
  pub read_out : read v.rules (scopes_left v.version.scopes outside) (map some (flatten r.0)) ≡ form r.0
  read_out = reads_again v.rules u.heap (scopes_left v.version.scopes outside) outside s r is_form.0.component is_form.0.good is_form.1 q

  pub tree_rows : length (flatten s) ≡ row_count v.version input
  tree_rows =
      sym (length-map (flatten s) some) ∙ (ap length is_form.0.of_tree ∙ rows_length v.version.names (row_count v.version input) (drop v.version.header input))

  -- and its rows can be written
  pub all_written_lem : Small outside v → Bytes input → row_count v.version input ≤ v.version.rows → All (Written out_name) (flatten r.0)
  all_written_lem small bs few =
      let w : All (Ok (Written v.version.names)) (map some (flatten s)) =
      subst (All (Ok (Written v.version.names))) (sym is_form.0.of_tree) (rows_written_lem v.version.names (row_count v.version input) _ (bytes_drop v.version.header input bs)) in
      let low = u.low in
      out_fits small.most v.rules outside s r small.below (omega (arith, tree_rows, few, small.wide)) small.tables
      (all_map (flatten s) (λ row h. record { fits = h.fits; legal = legal_wider v.version.names out_name row (omega arith) h.legal }) (all_some v.version.names (flatten s) w)) q

  pub four_out : length (flatten r.0) ≤ 4 * row_count v.version input
  four_out =
      let four = holds_of (λ (x : Scope × ℕ). length (flatten x.0) ≤ 4 * length (flatten s)) _ r (four_times v.rules outside s) q in
      omega (arith, four, tree_rows)

  pub few_out : row_count v.version input ≤ v.version.rows → length (flatten r.0) < 256 ^ v.version.counting
  few_out few = omega (arith, four_out, few, u.countable)

-- the output buffer begins with the form
begins_with : (outside : List Env) (settings : List Setting) (input old : List ℕ) (v : Setting) (out : List Row) → setting_of settings input ≡ some v → answer_in outside v input (length old) ≡ accepted out
    → (rest : List ℕ) × (output_inside outside settings input old ≡ form_bytes v out ++ rest)
unfolding output_inside Answer.output_for Answer.output_after Answer.written
begins_with outside settings input old v out e a =
    let size = v.version.header + 64 * row_count v.version input in (
      _,
      ap (λ (o : Option Setting). Answer.output_for outside o input old) e ∙ ap (λ (x : Answer). Answer.output_after v x size old) a,
    )

formed : (m : Result (Scope × ℕ)) (r : Scope × ℕ) → m ≡ ok r → Answer.resolved m ≡ accepted r.0
unfolding Answer.resolved
formed m r e = ap Answer.resolved e

pub readings_inside : (around : Around) (settings : List Setting) → AllUsual settings → (input old : List ℕ) → ((v : Setting) → Usual v → setting_of settings input ≡ some v → Small around.outside v)
    → Bytes input → (out : List Row) → answer_inside around.outside settings input (length old) ≡ accepted out → AcceptedInside around settings input old out
readings_inside around settings l input old small bs out e =
    let outside = around.outside in
    let A = asked outside settings input (length old) (accepted out) l tt e in
    let S = steps outside A.v input (length old) (accepted out) tt A.answers in
    let W = written A.v.rules outside S.s out S.answers in
    let B = begins_with outside settings input old A.v out A.asks A.answers in
    let fit = subst (All (Written out_name)) W.rows_are (all_written_lem outside A.v input S.s W.r A.usual S.reads W.resolves (small A.v A.usual A.asks) bs S.few) in
    let fewer = subst (λ (rs : List Row). length rs < 256 ^ A.v.version.counting) W.rows_are (few_out outside A.v input S.s W.r A.usual S.reads W.resolves S.few) in
    let rows : rows_in (as_claimed A.v) (output_inside outside settings input old) ≡ map some out =
    ap (rows_in (as_claimed A.v)) B.1 ∙ out_rows A.v out B.0 A.usual.header fewer fit in
    let low = low_read outside A.v input S.s A.usual.low S.reads in
    record {
      setting = A.v;
      usual = A.usual;
      asked_for = A.asks;
      before = S.s;
      after = W.r.0;
      reads = S.reads;
      low = low;
      few = omega (arith, tree_rows outside A.v input S.s W.r A.usual S.reads W.resolves, S.few);
      next = W.r.1;
      resolves = W.resolves;
      forms = S.forms ∙ formed (resolve_inside A.v.rules outside S.s) W.r W.resolves;
      rows_out = rows;
      reads_out = ap (read A.v.rules (scopes_left A.v.version.scopes outside)) (rows ∙ ap (map some) (sym W.rows_are))
          ∙ read_out outside A.v input S.s W.r A.usual S.reads W.resolves;
      four = subst (λ (rs : List Row). length rs ≤ 4 * row_count A.v.version input) W.rows_are (four_out outside A.v input S.s W.r A.usual S.reads W.resolves);
      counted = S.few;
      fit = fit;
      of_tree = W.rows_are;
      keeps = kept A.v.rules outside S.s W.r (low_scope S.s low) W.resolves;
      numbered = numbers A.v.rules outside S.s W.r (is_form outside A.v input S.s W.r A.usual S.reads W.resolves).0.good W.resolves;
      written_stays = λ p u e w. Written.written_stays A.v.rules around.base around.frames S.s W.r p u low W.resolves e w;
      agree = λ p x w. readings_agree A.v.rules around.base around.frames S.s W.r p x low W.resolves w;
      in_time_lem = λ early p x d w e. accepted_early A.v.rules around.base around.times S.s W.r p x d low early W.resolves w e;
      explains = λ way n u e new code. explainer_agrees A.v.rules around S.s W.r low W.resolves way n u e new code;
    }

pub alone_small : (v : Setting) → Usual v → Small [] v
alone_small v u = record { most = v.version.rows; below = omega (arith, u.few); wide = omega arith; tables = done }

pub readings : (settings : List Setting) → AllUsual settings → (input old : List ℕ) → Bytes input → (out : List Row) → answer settings input (length old) ≡ accepted out
    → Accepted settings input old out
unfolding answer
readings settings l input old bs out e = readings_inside alone settings l input old (λ v u _. alone_small v u) bs out e

-- ---- refused as unknown

-- what the steps said
refuses : (rules : RuleSet) (outside : List Env) (s : Scope) (n z : ℕ) (carried : List ℕ) → map_answer flatten (Answer.resolved (resolve_inside rules outside s)) ≡ refused n z carried
    → (why : Refusal) × (resolve_inside rules outside s ≡ Result.refused why z) × (number_of why ≡ n) × (carried_by why ≡ carried)
unfolding Answer.resolved map_answer
refuses rules outside s n z carried e = go (resolve_inside rules outside s) e
  where
    go : (m : Result (Scope × ℕ)) → map_answer flatten (Answer.resolved m) ≡ refused n z carried → (why : Refusal) × (m ≡ Result.refused why z) × (number_of why ≡ n) × (carried_by why ≡ carried)
    go (Result.refused why p) a = (why, cc, cc, cc)
    go (ok r) a = let c : ◌≡◌ {A = ℕ} 0 1 = cc in absurd (omega arith)

-- each number is one refusal's
is_unknown : (why : Refusal) (carried : List ℕ) → number_of why ≡ 9 → carried_by why ≡ carried → (space : ℕ) × (why ≡ Rules.unknown space) × (carried ≡ space ∷ [])
unfolding number_of carried_by
is_unknown (Rules.twice space first) carried e c = absurd (omega arith)
is_unknown Rules.not_exported carried e c = absurd (omega arith)
is_unknown (Rules.not_outer space) carried e c = absurd (omega arith)
is_unknown (Rules.unknown space) carried e c = (space, refl, sym c)
is_unknown Rules.no_such_scope carried e c = absurd (omega arith)
is_unknown Rules.too_far carried e c = absurd (omega arith)
is_unknown Rules.case_twice carried e c = absurd (omega arith)
is_unknown Rules.not_earlier carried e c = absurd (omega arith)

is_late_lem : (why : Refusal) → number_of why ≡ 13 → why ≡ Rules.not_earlier
unfolding number_of
is_late_lem (Rules.twice space first) e = absurd (omega arith)
is_late_lem Rules.not_exported e = absurd (omega arith)
is_late_lem (Rules.not_outer space) e = absurd (omega arith)
is_late_lem (Rules.unknown space) e = absurd (omega arith)
is_late_lem Rules.no_such_scope e = absurd (omega arith)
is_late_lem Rules.too_far e = absurd (omega arith)
is_late_lem Rules.case_twice e = absurd (omega arith)
is_late_lem Rules.not_earlier e = refl

-- Of an input that is refused with 9: an operand stands at that place, and the refusal carries a space. If the operand is a walked name, it
-- is of that space and no scope around it declares it.
pub record UnknownInside (around : Around) (settings : List Setting) (input : List ℕ) (z : ℕ) (carried : List ℕ) : Type 0 where
  pub setting : Setting
  pub asked_for : setting_of settings input ≡ some setting
  pub tree : Scope
  pub reads : read setting.rules (scopes_left setting.version.scopes around.outside) (rows_in setting input) ≡ form tree
  pub where_it_is : Place
  pub use_there : Use
  pub stands : use_inside around.base around.ins tree where_it_is ≡ some use_there
  pub blamed : place_of use_there.operand ≡ z
  pub space : ℕ
  pub carries : carried ≡ space ∷ []
  pub undeclared : (x : ℕ × ℕ) → walked use_there.head use_there.operand ≡ some x → (space ≡ x.0) × (outward_inside around.base around.ins tree where_it_is ≡ none)

-- of a form by itself
abbrev pub Unknown : (settings : List Setting) (input : List ℕ) (z : ℕ) (carried : List ℕ) → Type 0
Unknown = UnknownInside alone

pub unknown_inside : (around : Around) (settings : List Setting) → AllUsual settings → (input : List ℕ) (room z : ℕ) (carried : List ℕ)
    → answer_inside around.outside settings input room ≡ refused 9 z carried → UnknownInside around settings input z carried
unknown_inside around settings l input room z carried e =
    let outside = around.outside in
    let A = asked outside settings input room (refused 9 z carried) l (omega arith) e in
    let S = steps outside A.v input room (refused 9 z carried) (omega arith) A.answers in
    let R = refuses A.v.rules outside S.s 9 z carried S.answers in
    let K = is_unknown R.0 carried R.2 R.3 in
    let refused_is : resolve_inside A.v.rules outside S.s ≡ Result.refused (Rules.unknown K.0) z = R.1 ∙ ap (λ (why : Refusal). Result.refused why z) K.1 in
    let B = unknown_only A.v.rules around.base around.frames S.s K.0 z (low_read outside A.v input S.s A.usual.low S.reads) refused_is in
    record {
      setting = A.v;
      asked_for = A.asks;
      tree = S.s;
      reads = S.reads;
      where_it_is = B.0;
      use_there = B.1;
      stands = B.2;
      blamed = B.3;
      space = K.0;
      carries = K.2;
      undeclared = B.4;
    }

pub unknown : (settings : List Setting) → AllUsual settings → (input : List ℕ) (room z : ℕ) (carried : List ℕ) → answer settings input room ≡ refused 9 z carried → Unknown settings input z carried
unfolding answer
unknown settings l input room z carried e = unknown_inside alone settings l input room z carried e

-- ---- refused as not earlier

-- Of an input that is refused with 13: an operand stands at that place, and if it is a walked name, the rules ask for earlier declarations
-- and its outward reading is one that does not stand earlier.
pub record LateInside (around : Around) (settings : List Setting) (input : List ℕ) (z : ℕ) : Type 0 where
  pub setting : Setting
  pub asked_for : setting_of settings input ≡ some setting
  pub tree : Scope
  pub reads : read setting.rules (scopes_left setting.version.scopes around.outside) (rows_in setting input) ≡ form tree
  pub low : LowScope tree
  pub where_it_is : Place
  pub use_there : Use
  pub stands : use_inside around.base around.ins tree where_it_is ≡ some use_there
  pub blamed : place_of use_there.operand ≡ z
  pub later : (x : ℕ × ℕ) → walked use_there.head use_there.operand ≡ some x
      → (setting.rules.early ≡ true) × (d : Place) × (outward_inside around.base around.ins tree where_it_is ≡ some d) × (is_earlier d (place_from around.base where_it_is) ≡ false)

-- of a form by itself
abbrev pub Late : (settings : List Setting) (input : List ℕ) (z : ℕ) → Type 0
Late = LateInside alone

pub late_inside : (around : Around) (settings : List Setting) → AllUsual settings → (input : List ℕ) (room z : ℕ) (carried : List ℕ)
    → answer_inside around.outside settings input room ≡ refused 13 z carried → LateInside around settings input z
late_inside around settings l input room z carried e =
    let outside = around.outside in
    let A = asked outside settings input room (refused 13 z carried) l (omega arith) e in
    let S = steps outside A.v input room (refused 13 z carried) (omega arith) A.answers in
    let R = refuses A.v.rules outside S.s 13 z carried S.answers in
    let refused_is : resolve_inside A.v.rules outside S.s ≡ Result.refused Rules.not_earlier z = R.1 ∙ ap (λ (why : Refusal). Result.refused why z) (is_late_lem R.0 R.2) in
    let low = low_read outside A.v input S.s A.usual.low S.reads in
    let B = late_only A.v.rules around.base around.times S.s z low refused_is in
    record {
      setting = A.v;
      asked_for = A.asks;
      tree = S.s;
      reads = S.reads;
      low = low;
      where_it_is = B.0;
      use_there = B.1;
      stands = B.2;
      blamed = B.3;
      later = B.4;
    }

pub late : (settings : List Setting) → AllUsual settings → (input : List ℕ) (room z : ℕ) (carried : List ℕ) → answer settings input room ≡ refused 13 z carried → Late settings input z
unfolding answer
late settings l input room z carried e = late_inside alone settings l input room z carried e
