-- `after_row::after_ref` meets its contract.
use Rattle.kit.proofs.Laws.{picks}
use Rattle.wants.specs.States.{ref_entry}
use Rattle.after_row.proofs.after_ref.Goals as goal

pub returns-then-space-gt12 : goal.returns-then-space-gt12
unfolding ref_entry
returns-then-space-gt12 c = search picks

pub returns-then-paths-eq0 : goal.returns-then-paths-eq0
unfolding ref_entry
returns-then-paths-eq0 c = search picks

pub returns-then-space-paths : goal.returns-then-space-paths
unfolding ref_entry
returns-then-space-paths c = search picks

pub returns : goal.returns
unfolding ref_entry
returns c = search picks
