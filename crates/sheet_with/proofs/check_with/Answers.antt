-- `sheet_with::check_with` meets its contract.
use mathlib.Core.Path.{sym, ap}
use mathlib.Core.Bool.{not}
use native.Mathlib.Omega.{arith}
use lib.ListN.{length}
use lib.Seq.{length-take-le}
use Rattle.resolver_with.specs.Areas.{lent_of}
use Rattle.sheet_with.proofs.Whole.{lent_large, work_large, is_enough, early_returns, other_returns, no_room_returns, answered_returns, work_cleared, work_zeroed, cleared_asked}
use Rattle.sheet_with.proofs.check_with.Goals as goal

pub returns-in-Some : goal.returns-in-Some
returns-in-Some c = let args = c.args in
    let asks = c.asked_for-i.ensures in
    let sized = c.area_for-size.ensures.0 in
    let fits = c.are_roomy-lent.ensures in
    let is = c.refused_early.ensures in
    let said = early_returns args.form.now args.resolved.now args.sheet.now args.answers.now (length args.work.now) (lent_of args.entered.now args.names.now args.known.now args.chains.now args.ends.now) c.asked_for-i.result asks _ sized _ fits _ is _ c.in-Some.is _ c.refused.ensures in
    record {
      result_value = said.0;
      answers_after = said.1;
      work_after = work_cleared args.form.now args.resolved.now args.sheet.now args.answers.now (length args.work.now) (lent_of args.entered.now args.names.now args.known.now args.chains.now args.ends.now) c.asked_for-i.result asks _ sized _ fits args.work.now _ c.clear_bytes.ensures;
      cleared = cleared_asked _ _ asks _ _ _ _ _ _ _ _ _ _ c.clear_areas.ensures;
    }

pub slice_bounds-is_output-end : goal.slice_bounds-is_output-end
slice_bounds-is_output-end c = let args = c.args in
    let asks = c.asked_for-i.ensures in
    let sized = c.area_for-size.ensures.0 in
    let fits = c.are_roomy-lent.ensures in
    let is = c.refused_early.ensures in
    let large = work_large args.form.now args.resolved.now args.sheet.now args.answers.now (length args.work.now) (lent_of args.entered.now args.names.now args.known.now args.chains.now args.ends.now) c.asked_for-i.result asks _ sized _ fits (is_enough args.form.now args.resolved.now args.sheet.now args.answers.now (length args.work.now) (lent_of args.entered.now args.names.now args.known.now args.chains.now args.ends.now) c.asked_for-i.result asks _ sized _ fits _ is c.in_default.is) in
    omega (arith, large)

pub slice_bounds-is_output-end-2 : goal.slice_bounds-is_output-end-2
slice_bounds-is_output-end-2 c = let args = c.args in
    let asks = c.asked_for-i.ensures in
    let sized = c.area_for-size.ensures.0 in
    let fits = c.are_roomy-lent.ensures in
    let is = c.refused_early.ensures in
    sym (length-take-le _ args.work.now (work_large args.form.now args.resolved.now args.sheet.now args.answers.now (length args.work.now) (lent_of args.entered.now args.names.now args.known.now args.chains.now args.ends.now) c.asked_for-i.result asks _ sized _ fits (is_enough args.form.now args.resolved.now args.sheet.now args.answers.now (length args.work.now) (lent_of args.entered.now args.names.now args.known.now args.chains.now args.ends.now) c.asked_for-i.result asks _ sized _ fits _ is c.in_default.is)))

pub is_output-requires : goal.is_output-requires
is_output-requires c = let args = c.args in
    let asks = c.asked_for-i.ensures in
    let sized = c.area_for-size.ensures.0 in
    let fits = c.are_roomy-lent.ensures in
    let is = c.refused_early.ensures in
    let enough = is_enough args.form.now args.resolved.now args.sheet.now args.answers.now (length args.work.now) (lent_of args.entered.now args.names.now args.known.now args.chains.now args.ends.now) c.asked_for-i.result asks _ sized _ fits _ is c.in_default.is in
    let long = length-take-le _ args.work.now (work_large args.form.now args.resolved.now args.sheet.now args.answers.now (length args.work.now) (lent_of args.entered.now args.names.now args.known.now args.chains.now args.ends.now) c.asked_for-i.result asks _ sized _ fits enough) in
    (asks, omega (arith, long, sized), lent_large args.form.now args.resolved.now args.sheet.now args.answers.now (length args.work.now) (lent_of args.entered.now args.names.now args.known.now args.chains.now args.ends.now) c.asked_for-i.result asks _ sized _ fits enough)

pub returns-then-not-is_output : goal.returns-then-not-is_output
returns-then-not-is_output c = let args = c.args in
    let asks = c.asked_for-i.ensures in
    let sized = c.area_for-size.ensures.0 in
    let fits = c.are_roomy-lent.ensures in
    let is = c.refused_early.ensures in
    let said = other_returns args.form.now args.resolved.now args.sheet.now args.answers.now (length args.work.now) (lent_of args.entered.now args.names.now args.known.now args.chains.now args.ends.now) c.asked_for-i.result asks _ sized _ fits _ is c.in_default.is _ c.is_output.ensures.value.0 (ap not c.if-not-is_output.true) _ c.refused-then-not-is_output.ensures in
    record {
      result_value = said.0;
      answers_after = said.1;
      work_after = work_zeroed args.form.now args.resolved.now args.sheet.now args.answers.now (length args.work.now) (lent_of args.entered.now args.names.now args.known.now args.chains.now args.ends.now) c.asked_for-i.result asks _ sized _ fits args.work.now _ c.is_output.ensures.value.1;
      cleared = c.is_output.ensures.cleared;
    }

pub returns-then-answers-answers_size : goal.returns-then-answers-answers_size
returns-then-answers-answers_size c = let args = c.args in
    let asks = c.asked_for-i.ensures in
    let sized = c.area_for-size.ensures.0 in
    let fits = c.are_roomy-lent.ensures in
    let is = c.refused_early.ensures in
    let said = no_room_returns args.form.now args.resolved.now args.sheet.now args.answers.now (length args.work.now) (lent_of args.entered.now args.names.now args.known.now args.chains.now args.ends.now) c.asked_for-i.result asks _ sized _ fits _ is c.in_default.is _ c.is_output.ensures.value.0 (ap not c.if-not-is_output.false) _ c.answers_size.ensures c.if-answers-answers_size.true _ c.refused-then-answers-answers_size.ensures in
    record {
      result_value = said.0;
      answers_after = said.1;
      work_after = work_zeroed args.form.now args.resolved.now args.sheet.now args.answers.now (length args.work.now) (lent_of args.entered.now args.names.now args.known.now args.chains.now args.ends.now) c.asked_for-i.result asks _ sized _ fits args.work.now _ c.is_output.ensures.value.1;
      cleared = c.is_output.ensures.cleared;
    }

pub returns : goal.returns
returns c = let args = c.args in
    let asks = c.asked_for-i.ensures in
    let sized = c.area_for-size.ensures.0 in
    let fits = c.are_roomy-lent.ensures in
    let is = c.refused_early.ensures in
    let said = answered_returns args.form.now args.resolved.now args.sheet.now args.answers.now (length args.work.now) (lent_of args.entered.now args.names.now args.known.now args.chains.now args.ends.now) c.asked_for-i.result asks _ sized _ fits _ is c.in_default.is _ c.is_output.ensures.value.0 (ap not c.if-not-is_output.false) _ c.answers_size.ensures c.if-answers-answers_size.false c.shared_slice_known-1.given _ _ c.answer_behind.ensures in
    record {
      result_value = said.0;
      answers_after = said.1;
      work_after = work_zeroed args.form.now args.resolved.now args.sheet.now args.answers.now (length args.work.now) (lent_of args.entered.now args.names.now args.known.now args.chains.now args.ends.now) c.asked_for-i.result asks _ sized _ fits args.work.now _ c.is_output.ensures.value.1;
      cleared = c.is_output.ensures.cleared;
    }
