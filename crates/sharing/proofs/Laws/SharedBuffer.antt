-- What the planner leaves in the output buffer, for every input: after a refusal what the resolver leaves, else the planned form and zeros
-- behind it. The buffer keeps its length.
use Rattle.std.specs.Prelude.{◌≡◌, refl, ℕ, ◌+◌, ◌*◌, ◌-◌, ◌≤◌, drop, replicate}
use Rattle.std.proofs.Common.{sym, ◌∙◌, length-append, length-drop}
use Rattle.std.proofs.Math.Path.{ap}
use Rattle.std.proofs.Math.Option.{Option, none, some}
use mathlib.Core.List.{List, [], ◌++◌}
use native.Mathlib.Omega.{arith}
use Rattle.std.proofs.Math.ListN.{length}
use Rattle.std.proofs.lemmas.List.{length-replicate}
use Rattle.rules.specs.Versions.{Setting}
use Rattle.rules.specs.Rows.{Row}
use Rattle.rules.specs.Answer.{AnswerOf, refused, accepted, Answer, setting_of, row_count, answer_for, answer_inside, answer, form_bytes, written, output_after, output_for, output_inside, output}
use Rattle.rules.specs.Laws.ToolLaws.{Ok, ok_at}
use Rattle.rules.specs.Laws.RowLaws.{Bytes}
use Rattle.rules.proofs.Laws.InputLaws.{Usual, AllUsual, setting_usual}
use Rattle.read_form.proofs.Laws.OutputLength.{form_length, output_length}
use Rattle.sharing.specs.Sharing.{shared_after, shared, shared_for, shared_output}
use Rattle.sharing.proofs.Laws.SharedAnswer.{Planned, planned}

-- the form's part of the buffer
abbrev part : Setting → (input : List ℕ) → ℕ
part s input = s.version.header + 64 * row_count s.version input

-- ---- after a refusal

refused_for : (o : Option Setting) (settings : List Setting) (input old : List ℕ) (n p : ℕ) (c : List ℕ) → answer_for [] o input (length old) ≡ refused n p c → shared settings input (length old) ≡ refused n p c → shared_for o settings input old ≡ output_for [] o input old
unfolding shared_for output_for answer_for
refused_for none settings input old n p c e f = refl
refused_for (some s) settings input old n p c e f = rw (f, e)

-- The input's refusal leaves what the resolver leaves.
pub refused_buffer : (settings : List Setting) (input old : List ℕ) (n p : ℕ) (c : List ℕ) → answer settings input (length old) ≡ refused n p c → shared_output settings input old ≡ output settings input old
unfolding shared_output output output_inside shared shared_after answer answer_inside
refused_buffer settings input old n p c e = refused_for (setting_of settings input) settings input old n p c e (rw e)

-- ---- after acceptance

-- The planned form stands at the front of the form's part, and zeros behind it; bytes beyond stay.
pub planned_buffer : (settings : List Setting) (input old : List ℕ) (own : List Row) (q : Planned settings input (length old) own) → shared_output settings input old ≡ written (part q.setting input) (form_bytes q.setting q.out) old
unfolding shared_output shared_for output_after
planned_buffer settings input old own q = rw (q.asked_for, q.answers)

-- what the resolver writes for that input
own_buffer : (settings : List Setting) (input old : List ℕ) (own : List Row) (s : Setting) → setting_of settings input ≡ some s → answer settings input (length old) ≡ accepted own → output settings input old ≡ written (part s input) (form_bytes s own) old
unfolding output output_inside output_for output_after answer answer_inside answer_for
own_buffer settings input old own s e a = rw e (rw (rw e at a))

written_size : (size : ℕ) (new old : List ℕ) → length (written size new old) ≡ length new + ((size - length new) + (length old - size))
unfolding written
written_size size new old =
    omega (arith, length-append new (replicate (size - length new) 0 ++ drop size old), length-append (replicate {A = ℕ} (size - length new) 0) (drop size old), length-replicate {A = ℕ} (size - length new) 0, length-drop size old)

-- THE BUFFER KEEPS ITS LENGTH, whatever the input is.
pub buffer_length : (settings : List Setting) → AllUsual settings → (input old : List ℕ) → Bytes input → length (shared_output settings input old) ≡ length old
buffer_length settings l input old bs = go (answer settings input (length old)) refl
  where
    whole : (own : List Row) → answer settings input (length old) ≡ accepted own → (q : Planned settings input (length old) own) → length (shared_output settings input old) ≡ length old
    whole own e q =
        let u : Usual q.setting = ok_at Usual (setting_of settings input) q.setting (setting_usual settings input l) q.asked_for in
        let kept : length (output settings input old) ≡ length old = unfold output in output_length [] settings l input old in
        omega (
          arith,
          kept,
          ap length (own_buffer settings input old own q.setting q.asked_for e),
          ap length (planned_buffer settings input old own q),
          written_size (part q.setting input) (form_bytes q.setting own) old,
          written_size (part q.setting input) (form_bytes q.setting q.out) old,
          form_length q.setting own u,
          form_length q.setting q.out u,
          q.fewer,
        )

    go : (a : Answer) → answer settings input (length old) ≡ a → length (shared_output settings input old) ≡ length old
    go (refused n p c) e = ap length (refused_buffer settings input old n p c e) ∙ (unfold output in output_length [] settings l input old)
    go (accepted own) e = whole own e (planned settings l input bs (length old) own e)
