-- `view::explain::explain_each` meets its contract. The invariant: the search from here on answers what the whole search does.
use Prim.Native.Nat.{◌-◌}
use Rattle.view.proofs.ShownLaws.{there_ways}
use Rattle.view.proofs.explain.explain_each.Goals as goal

pub loop-row-init : goal.loop-row-init
loop-row-init c = search there_ways

pub loop-row-preserved : goal.loop-row-preserved
loop-row-preserved c = search there_ways

pub returns : goal.returns
returns c = search there_ways
