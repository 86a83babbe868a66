-- `unresolve::run::begins_with` meets its contract.
use Prim.Native.Nat.{◌-◌}
use borrow.Author.Rules.{rules}
use Rattle.unresolve.proofs.Ways.{beginning}
use Rattle.unresolve.proofs.run.begins_with.Goals as goal

pub returns-then-bytes-front : goal.returns-then-bytes-front
returns-then-bytes-front c = search beginning

pub loop-k-init : goal.loop-k-init
loop-k-init c = (search beginning, search rules, search rules)

pub bounds-bytes-k : goal.bounds-bytes-k
bounds-bytes-k c = search beginning

pub bounds-front-k : goal.bounds-front-k
bounds-front-k c = search beginning

pub returns-then-bytes-k : goal.returns-then-bytes-k
returns-then-bytes-k c = search beginning

pub overflow_add-k : goal.overflow_add-k
overflow_add-k c = search beginning

pub loop-k-smaller : goal.loop-k-smaller
loop-k-smaller c = search beginning

pub loop-k-preserved : goal.loop-k-preserved
loop-k-preserved c = (search beginning, search rules, search rules)

pub returns : goal.returns
returns c = search beginning
