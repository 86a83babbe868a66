-- `unresolve_with::give_lent` meets its contract.
use Rattle.check_with.proofs.Ways.{areas_left}
use Rattle.unresolve_with.proofs.Ways.{back_left}
use Rattle.unresolve_with.proofs.give_lent.Goals as goal

pub returns : goal.returns
returns c = record {
  result_value = c.give_in_fronts-answer.ensures.result_value;
  cleared_back = back_left c.args.i _ _ _ _ _ _ _ _ _ c.give_in_fronts-answer.ensures.kept c.clear_back.ensures;
  cleared = areas_left _ _ _ _ _ _ _ _ _ _ _ _ _ _ _ _ c.give_in_fronts-answer.ensures.kept_2 c.clear_areas.ensures;
}
