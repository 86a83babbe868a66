-- `claim_aliases::try_aliases` meets its contract.
use borrow.Author.Rules.{rules}
use Prim.Native.Nat.{◌-◌}
use Rattle.claim_aliases.proofs.Ways.{turns}
use Rattle.claim_aliases.proofs.try_aliases.Goals as goal

pub loop-i-init : goal.loop-i-init
loop-i-init c = (search turns, search rules, search rules, search rules)

pub go_over-requires : goal.go_over-requires
go_over-requires c = search turns

pub returns-in_default : goal.returns-in_default
returns-in_default c = search turns

pub loop-i-preserved : goal.loop-i-preserved
loop-i-preserved c = (search turns, search turns, search rules, search rules)

pub returns : goal.returns
returns c = search turns
