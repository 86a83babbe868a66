-- `mend_form::part_at` meets its contract.
use Rattle.kit.proofs.Laws.{picks}
use Rattle.mend_form.specs.Filled.{part_at}
use Rattle.mend_form.proofs.part_at.Goals as goal

pub returns-then-j-lt2 : goal.returns-then-j-lt2
unfolding part_at
returns-then-j-lt2 c = search picks

pub returns-then-j-lt4 : goal.returns-then-j-lt4
unfolding part_at
returns-then-j-lt4 c = search picks

pub returns : goal.returns
unfolding part_at
returns c = search picks
