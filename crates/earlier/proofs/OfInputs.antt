-- The same over inputs: of an accepted one under rules that ask for earlier declarations, and of one that is refused with 13.
use Rattle.std.specs.Prelude.{◌≡◌, refl, true, List, [], ◌∷◌, ◌++◌, ℕ, length}
use Rattle.std.proofs.Common.{ap, ◌∙◌, arith}
use Rattle.std.proofs.Math.Option.{some}
use Rattle.rules.specs.Versions.{Setting}
use Rattle.rules.specs.Rows.{Row}
use Rattle.rules.specs.Tree.{Scope, flatten, form}
use Rattle.rules.specs.Reader.{read}
use Rattle.rules.specs.Rules as steps
use Rattle.rules.specs.Rules.{number_of, Result, ok, not_earlier, resolve_inside}
use Rattle.rules.specs.Answer as answers
use Rattle.rules.specs.Answer.{refused, accepted, map_answer, setting_of, answer, answer_inside, scopes_left, rows_in}
use Rattle.rules.specs.Readings.{is_inserted, Place, place_from, walked_inside}
use Rattle.rules.specs.Explainer.{Standing, standing_inside, explained, among_inside}
use Rattle.rules.specs.Laws.RowLaws.{Bytes}
use Rattle.rules.proofs.Laws.Meaning.Around.{Around, alone}
use Rattle.rules.proofs.Laws.InputLaws.{AllUsual, AcceptedInside, Accepted, asked, steps as of_steps_lem, low_read, readings}
use Rattle.earlier.specs.Tested.{Name, tested_inside}
use Rattle.earlier.proofs.Scopes.{names_of}
use Rattle.earlier.proofs.Holders.{HoldersAround, nowhere}
use Rattle.earlier.proofs.Ordered.{Backward, Numbered, alias_before, name_before}
use Rattle.earlier.proofs.Held.{LateName, late_only, EarlierName, accepted_earlier}

-- ---- accepted

-- Of the trees `before` and `after` of an accepted input, under rules that ask for earlier declarations.
pub record OrderedInside (around : Around) (before after : Scope) : Type 0 where
  -- every inserted outer alias denotes a definition that stands before the field that holds the alias's component
  pub aliases : (way : List ℕ) (n : ℕ) (u : Standing) → standing_inside around.full around.els after way n ≡ some u → is_inserted u.head ≡ true → u.head.code ≡ 11
      → Backward (explained u) ((around.full ++ way) ++ (n ∷ []))
  -- what became of a walked name counts to a definition that stands before its field
  pub names : (way : List ℕ) (n o : ℕ) (u : Standing) (p : Place) (x : ℕ × ℕ) → standing_inside around.full around.els after way n ≡ some u
      → among_inside around.base after way n o ≡ some (place_from around.base p) → walked_inside around.base around.ins before p ≡ some x
      → Numbered u o x.0 ((around.full ++ way) ++ (n ∷ []))
  -- every name that is held to earlier declarations means one
  pub earlier : (p : Place) (x : Name) → tested_inside around.base around.ins (names_of around.outside) before p ≡ some x → EarlierName around.base p x

-- the output of an accepted input is ordered so
pub ordered_inside : (around : Around) → HoldersAround around.full around.els around.outside → {settings : List Setting} {input old : List ℕ} {out : List Row} (A : AcceptedInside around settings input old out)
    → A.setting.rules.early ≡ true → OrderedInside around A.before A.after
ordered_inside around holders A early =
    record {
      aliases = λ way n u e new code. alias_before A.setting.rules around holders A.before (A.after, A.next) A.low early A.resolves way n u e new code;
      names = λ way n o u p x e among w. name_before A.setting.rules around holders A.before (A.after, A.next) A.low early A.resolves way n o u p x e among w;
      earlier = λ p x e. accepted_earlier A.setting.rules around A.before (A.after, A.next) A.low early A.resolves p x e;
    }

-- the same of a form by itself
pub ordered : (settings : List Setting) → AllUsual settings → (input old : List ℕ) → Bytes input → (out : List Row) → answer settings input (length old) ≡ accepted out
    → (A : Accepted settings input old out) × (A.setting.rules.early ≡ true → OrderedInside alone A.before A.after)
ordered settings l input old bs out e =
    let A = readings settings l input old bs out e in
    (A, λ early. ordered_inside alone (λ steps rest q. nowhere) A early)

-- ---- refused with 13

-- Of an input that is refused with 13: the name at that place that is held to earlier declarations, and means one that does not stand earlier.
pub record LateInside (around : Around) (settings : List Setting) (input : List ℕ) (z : ℕ) : Type 0 where
  pub setting : Setting
  pub asked_for : setting_of settings input ≡ some setting
  pub early : setting.rules.early ≡ true
  pub tree : Scope
  pub reads : read setting.rules (scopes_left setting.version.scopes around.outside) (rows_in setting input) ≡ form tree
  pub late : LateName around.base around.ins (names_of around.outside) tree z

is_late_lem : (why : steps.Refusal) → number_of why ≡ 13 → why ≡ not_earlier
unfolding number_of
is_late_lem (steps.twice space first) e = absurd (omega arith)
is_late_lem steps.not_exported e = absurd (omega arith)
is_late_lem (steps.not_outer space) e = absurd (omega arith)
is_late_lem (steps.unknown space) e = absurd (omega arith)
is_late_lem steps.no_such_scope e = absurd (omega arith)
is_late_lem steps.too_far e = absurd (omega arith)
is_late_lem steps.case_twice e = absurd (omega arith)
is_late_lem not_earlier e = refl

refuses_late : (m : Result (Scope × ℕ)) (z : ℕ) (carried : List ℕ) → map_answer flatten (answers.resolved m) ≡ refused 13 z carried → m ≡ steps.refused not_earlier z
unfolding answers.resolved map_answer
refuses_late (steps.refused why p) z carried e =
    let number : number_of why ≡ 13 = cc in
    let place : p ≡ z = cc in
    ap (λ (w : steps.Refusal). steps.refused w p) (is_late_lem why number) ∙ ap (steps.refused not_earlier) place
refuses_late (ok r) z carried e = let c : ◌≡◌ {A = ℕ} 0 1 = cc in absurd (omega arith)

-- an input that is refused with 13 has such a name
pub late_inside : (around : Around) (settings : List Setting) → AllUsual settings → (input : List ℕ) (room z : ℕ) (carried : List ℕ) → answer_inside around.outside settings input room ≡ refused 13 z carried
    → LateInside around settings input z
late_inside around settings l input room z carried e =
    let A = asked around.outside settings input room (refused 13 z carried) l (omega arith) e in
    let S = of_steps_lem around.outside A.v input room (refused 13 z carried) (omega arith) A.answers in
    let L = late_only A.v.rules around.base around.times S.s (low_read around.outside A.v input S.s A.usual.low S.reads) z (refuses_late (resolve_inside A.v.rules around.outside S.s) z carried S.answers) in
    record { setting = A.v; asked_for = A.asks; early = L.0; tree = S.s; reads = S.reads; late = L.1 }

-- the same of a form by itself
pub late : (settings : List Setting) → AllUsual settings → (input : List ℕ) (room z : ℕ) (carried : List ℕ) → answer settings input room ≡ refused 13 z carried → LateInside alone settings input z
unfolding answer
late settings l input room z carried e = late_inside alone settings l input room z carried e
