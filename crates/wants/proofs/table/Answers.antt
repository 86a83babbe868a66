-- `wants::table` meets its contract.
use mathlib.Core.Path.{refl}
use Rattle.kit.specs.Pick.{pick}
use Rattle.rules.specs.Tools as tools
use Rattle.rules.specs.Shapes as rules
use Rattle.wants.specs.States.{states, left_of, after}
use Rattle.wants.proofs.Laws.{table_right}
use Rattle.wants.proofs.table.Goals as goal

pub returns : goal.returns
unfolding states left_of after pick tools.computes rules.computes
returns c = table_right _ refl
