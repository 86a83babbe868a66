-- `after_row::after_outer` meets its contract.
use Rattle.kit.proofs.Laws.{picks}
use Rattle.wants.specs.States.{outer_entry}
use Rattle.after_row.proofs.after_outer.Goals as goal

pub returns-then-space-gt12 : goal.returns-then-space-gt12
unfolding outer_entry
returns-then-space-gt12 c = search picks

pub returns : goal.returns
unfolding outer_entry
returns c = search picks
