-- `plan::insertions::moved` meets its contract.
use Rattle.plan.specs.Insertions.{moved_t}
use Rattle.std.proofs.Common.{rules}
use Rattle.plan.proofs.insertions.moved.Goals as goal

pub returns : goal.returns
unfolding moved_t
returns c = search rules
