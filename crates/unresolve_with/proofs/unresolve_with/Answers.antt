-- `unresolve_with::unresolve_with` meets its contract.
use Rattle.check_with.proofs.Whole.{areas_after}
use Rattle.unresolve_with.proofs.Whole.{small_said, small_left, is_roomy, is_large, large_said, large_left, back_after}
use borrow.Author.Rules.{rules}
use Rattle.unresolve_with.proofs.unresolve_with.Goals as goal

pub returns-then-is_small : goal.returns-then-is_small
returns-then-is_small c = record {
  result_value = (small_said c.args.form.now c.args.out.now c.asked_for-i.result c.asked_for-i.ensures c.args.restored.now c.args.again.now c.args.noted.now c.args.entered.now c.args.names.now c.args.known.now c.args.chains.now c.args.ends.now _ c.are_roomy-lent.ensures _ c.is_small.ensures c.if-is_small.true _ c.refused.ensures, small_left c.args.form.now c.args.out.now c.asked_for-i.result c.asked_for-i.ensures c.args.restored.now c.args.again.now c.args.noted.now c.args.entered.now c.args.names.now c.args.known.now c.args.chains.now c.args.ends.now _ c.are_roomy-lent.ensures _ c.is_small.ensures c.if-is_small.true);
  cleared_back = back_after c.args.form.now c.asked_for-i.result c.asked_for-i.ensures _ _ _ _ _ _ c.clear_back.ensures;
  cleared = areas_after c.args.form.now c.asked_for-i.result c.asked_for-i.ensures _ _ _ _ _ _ _ _ _ _ c.clear_areas.ensures;
}

pub give_lent-requires : goal.give_lent-requires
give_lent-requires c = (is_roomy c.args.form.now c.args.out.now c.asked_for-i.result c.asked_for-i.ensures c.args.restored.now c.args.again.now c.args.noted.now c.args.entered.now c.args.names.now c.args.known.now c.args.chains.now c.args.ends.now _ c.are_roomy-lent.ensures _ c.is_small.ensures c.if-is_small.false, is_large c.args.form.now c.args.out.now c.asked_for-i.result c.asked_for-i.ensures c.args.restored.now c.args.again.now c.args.noted.now c.args.entered.now c.args.names.now c.args.known.now c.args.chains.now c.args.ends.now _ c.are_roomy-lent.ensures _ c.is_small.ensures c.if-is_small.false)

pub returns : goal.returns
returns c = record {
  result_value = (large_said c.args.form.now c.args.out.now c.asked_for-i.result c.asked_for-i.ensures c.args.restored.now c.args.again.now c.args.noted.now c.args.entered.now c.args.names.now c.args.known.now c.args.chains.now c.args.ends.now _ c.are_roomy-lent.ensures _ c.is_small.ensures c.if-is_small.false c.give_lent.result c.give_lent.ensures.result_value.0, large_left c.args.form.now c.args.out.now c.asked_for-i.result c.asked_for-i.ensures c.args.restored.now c.args.again.now c.args.noted.now c.args.entered.now c.args.names.now c.args.known.now c.args.chains.now c.args.ends.now _ c.are_roomy-lent.ensures _ c.is_small.ensures c.if-is_small.false _ c.give_lent.ensures.result_value.1);
  cleared_back = back_after c.args.form.now c.asked_for-i.result c.asked_for-i.ensures _ _ _ _ _ _ c.give_lent.ensures.cleared_back;
  cleared = areas_after c.args.form.now c.asked_for-i.result c.asked_for-i.ensures _ _ _ _ _ _ _ _ _ _ c.give_lent.ensures.cleared;
}
