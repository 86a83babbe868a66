-- `sheet::check` meets its contract.
use mathlib.Core.Path.{sym, ap}
use mathlib.Core.Bool.{not}
use native.Mathlib.Omega.{arith}
use lib.Seq.{length-take-le}
use lib.ListN.{length}
use borrow.Author.Rules.{rules}
use Rattle.rules.specs.Versions.{base}
use Rattle.rules.proofs.Laws.InputLaws.{base_usual}
use Rattle.reading_laws.specs.OnBytes.{base_within}
use Rattle.sheet.proofs.Runs.{area_is, one_header}
use Rattle.sheet.proofs.Whole.{work_is, area_cleared, unsound_says, unsound_leaves, small_says, small_leaves, other_says, other_leaves, no_room_says, no_room_leaves, answered_says, answered_leaves}
use Rattle.sheet.proofs.check.Goals as goal

pub returns-then-not-is_sound : goal.returns-then-not-is_sound
returns-then-not-is_sound c = let form = c.args.form.now in
    search (unsound_says base form 65480 (area_is form), unsound_leaves base form 65480 (area_is form), work_is base form 65480 (area_is form), rules)

pub returns-then-work-lt-AREA : goal.returns-then-work-lt-AREA
returns-then-work-lt-AREA c = let form = c.args.form.now in
    search (small_says base form 65480 (area_is form), small_leaves base form 65480 (area_is form), work_is base form 65480 (area_is form), rules)

pub slice_bounds-is_output-end-2 : goal.slice_bounds-is_output-end-2
slice_bounds-is_output-end-2 c = sym (length-take-le 65480 c.args.work.now c.if-work-lt-AREA.false)

pub is_output-requires : goal.is_output-requires
is_output-requires c = let long = length-take-le 65480 c.args.work.now c.if-work-lt-AREA.false in
    omega (arith, long)

pub returns-then-not-is_output : goal.returns-then-not-is_output
returns-then-not-is_output c =
    record {
      result_value = other_says base _ 65480 (area_is _) _ _ c.args.answers.now (length c.args.work.now) _ c.is_sound.ensures (ap not c.if-not-is_sound.false) c.if-work-lt-AREA.false _ c.is_output.ensures.0 (ap not c.if-not-is_output.true) _ c.refused-then-not-is_output.ensures;
      answers_after = other_leaves base _ 65480 (area_is _) _ _ c.args.answers.now (length c.args.work.now) _ c.is_sound.ensures (ap not c.if-not-is_sound.false) c.if-work-lt-AREA.false _ c.is_output.ensures.0 (ap not c.if-not-is_output.true);
      work_after = area_cleared base _ 65480 (area_is _) c.args.work.now _ c.is_output.ensures.1;
    }

pub returns-then-answers-answers_size : goal.returns-then-answers-answers_size
returns-then-answers-answers_size c =
    record {
      result_value = no_room_says base _ 65480 (area_is _) _ _ c.args.answers.now (length c.args.work.now) _ c.is_sound.ensures (ap not c.if-not-is_sound.false) c.if-work-lt-AREA.false _ c.is_output.ensures.0 (ap not c.if-not-is_output.false) _ c.answers_size.ensures c.if-answers-answers_size.true _ c.refused-then-answers-answers_size.ensures;
      answers_after = no_room_leaves base _ 65480 (area_is _) _ _ c.args.answers.now (length c.args.work.now) _ c.is_sound.ensures (ap not c.if-not-is_sound.false) c.if-work-lt-AREA.false _ c.is_output.ensures.0 (ap not c.if-not-is_output.false) _ c.answers_size.ensures c.if-answers-answers_size.true;
      work_after = area_cleared base _ 65480 (area_is _) c.args.work.now _ c.is_output.ensures.1;
    }

pub returns : goal.returns
returns c = let answers = c.args.answers.now in
    let work = c.args.work.now in
    let fits = c.shared_slice_known-1.given in
    record {
      result_value = answered_says base _ 65480 (area_is _) _ _ answers (length work) _ c.is_sound.ensures (ap not c.if-not-is_sound.false) c.if-work-lt-AREA.false _ c.is_output.ensures.0 (ap not c.if-not-is_output.false) _ c.answers_size.ensures c.if-answers-answers_size.false base_usual base_within 8 (one_header _) fits _ _ c.answer_slots.ensures.answers_after;
      answers_after = answered_leaves base _ 65480 (area_is _) _ _ answers (length work) _ c.is_sound.ensures (ap not c.if-not-is_sound.false) c.if-work-lt-AREA.false _ c.is_output.ensures.0 (ap not c.if-not-is_output.false) _ c.answers_size.ensures c.if-answers-answers_size.false base_usual base_within 8 (one_header _) fits _ _ c.answer_slots.ensures.answers_after;
      work_after = area_cleared base _ 65480 (area_is _) work _ c.is_output.ensures.1;
    }
