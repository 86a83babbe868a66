-- A CASE: the code enters the names of a field's CASEs in the table of entered names, the rules keep them in a list.
use Rattle.std.specs.Prelude.{◌≡◌, Bool, true, ◌&&◌, ◌||◌, not, List, [], ◌∷◌, ◌++◌, ℕ, ◌+◌, ◌<◌, eqb, length, set, Option, Some, None, Ok, Err, is_some}
use Rattle.std.proofs.Math.Path.{refl}
use Rattle.std.proofs.Common.{sym, ◌∙◌, arith, eq-eqb, ne_eqb, eqb-true}
use Rattle.std.proofs.Math.Bool.{false}
use Rattle.std.proofs.lemmas.Bool.{eqb-false}
use Rattle.kit.specs.Pick.{pick}
use Rattle.kit.specs.Out.{◌&◌}
use Rattle.rules.specs.Tools.{when◌then◌else◌, is_in}
use Rattle.rules.specs.Rows.{Case}
use Rattle.rules.specs.Tree.{Operand, case, operand_row}
use Rattle.rules.specs.Rules.{number_of, carried_by, case_twice, refused, ok}
use Rattle.refusal.specs.Refusals.{refusal_at, untold}
use Rattle.names.specs.Table.{Slot, decl_slot, space_of, name_of, between, find_in}
use Rattle.names.proofs.Storey.{pushed_room, between_push}
use Rattle.plan.specs.Enter.{first_t, twice_t, push_then}
use Rattle.write.specs.declared.alias.WriteState.{WriteState}
use Rattle.write.specs.WriteState.{case_seen_t, put_then}
use Rattle.write.specs.Own.{Wrote₂, write_case_t}
use Rattle.agree.specs.Rows.At.{Is, put_all}
use Rattle.agree.specs.StepC.WriteAgrees.{row_copied, put_one_lem}
use Rattle.agree.specs.Refusals.Answers.{Says}

-- the first n slots have the names that were seen
abbrev pub Cases : (entered : List Slot) (n : ℕ) (seen : List ℕ) → Type 0
Cases entered n seen = (name : ℕ) → is_some (find_in (between 0 n entered) 13 name) ≡ is_in name seen

pub no_cases : (entered : List Slot) → Cases entered 0 []
unfolding between find_in
no_cases entered name = refl

found_step : (t u : Bool) (n : ℕ) (a b : Option ℕ) (c : Bool) → is_some b ≡ c || is_some a
    → is_some (pick t (pick u (Some n) b) b) ≡ c || is_some (pick t (pick u (Some n) a) a)
unfolding pick
found_step true true n a b true e = refl
found_step true true n a b false e = refl
found_step true false n a b c e = e
found_step false u n a b c e = e

found_last : (ss : List Slot) (new name : ℕ) → is_some (find_in (ss ++ (decl_slot 13 new 0 ∷ [])) 13 name) ≡ eqb new name || is_some (find_in ss 13 name)
unfolding find_in pick
found_last [] new name = go (eqb new name)
  where
    go : (t : Bool) → is_some {T = ℕ} (pick t (Some 0) None) ≡ t || false
    go true = unfold pick in refl
    go false = unfold pick in refl
found_last (s ∷ ss) new name = found_step (eqb (space_of s) 13) (eqb (name_of s) name) _ (find_in ss 13 name) (find_in (ss ++ (decl_slot 13 new 0 ∷ [])) 13 name) (eqb new name) (found_last ss new name)

eqb_swap : (a b : ℕ) → eqb a b ≡ eqb b a
eqb_swap a b = go (eqb a b) refl
  where
    go : (t : Bool) → eqb a b ≡ t → t ≡ eqb b a
    go true e = sym (eq-eqb b a (sym (eqb-true a b e)))
    go false e = sym (ne_eqb b a (λ h. eqb-false a b e (sym h)))

-- one name more
more_cases : (entered : List Slot) (n : ℕ) (seen : List ℕ) (new : ℕ) → n < length entered → Cases entered n seen → Cases (set entered n (decl_slot 13 new 0)) (n + 1) (new ∷ seen)
more_cases entered n seen new h c name =
    rw (between_push entered n (decl_slot 13 new 0) 0 (omega arith) h) (found_last (between 0 n entered) new name ∙ (rw (c name, eqb_swap new name)))

choose : (t : Bool) (F : Option ℕ) → is_some (pick t None F) ≡ not t && is_some F
unfolding pick
choose true F = refl
choose false F = refl

case_turn : (t : Bool) (name z : ℕ) (P : Operand → Wrote₂ → Type 0) (entered : List Slot) (out : List ℕ) (w : Wrote₂) → P (case name z) w → Says (when t then refused case_twice z else ok (case name z)) P (pick t (Err (record { refusal = refusal_at 12 z; told = untold }) & entered & out) w)
unfolding when◌then◌else◌ pick number_of carried_by
case_turn true name z P entered out w h = (entered & out, refl)
case_turn false name z P entered out w h = h

-- the code passes a CASE as the rules do, or refuses with the same
pub case_agrees : (field : List ℕ) (i : ℕ) (entered : List Slot) (out : List ℕ) (s : WriteState) (seen : List ℕ) (name z : ℕ) → Is field i (Case name z) → s.seen < length entered → Cases entered s.seen seen
    → Says (when not (eqb name 0) && is_in name seen then refused case_twice z else ok (case name z)) (λ x w. w ≡ put_then (put_all out s.to (operand_row x)) λ to out'. Ok (case_seen_t s to (s.seen + 1)) & set entered s.seen (decl_slot 13 name 0) & out') (write_case_t field i entered out s name z)
    × Cases (set entered s.seen (decl_slot 13 name 0)) (s.seen + 1) (name ∷ seen)
unfolding write_case_t twice_t first_t operand_row push_then
case_agrees field i entered out s seen name z is h c = (
  rw (choose (eqb name 0) (find_in (between 0 s.seen entered) 13 name), c name, pushed_room entered s.seen (decl_slot 13 name 0) h, row_copied field i (Case name z) out s.to is)
      (case_turn (not (eqb name 0) && is_in name seen) name z _ entered out _ (rw (put_one_lem out s.to (Case name z)))),
  more_cases entered s.seen seen name h c,
)
