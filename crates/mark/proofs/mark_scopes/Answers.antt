-- `mark::mark_scopes` meets its contract.
use Rattle.std.proofs.Common.{rules}
use Rattle.mark.proofs.Ways.{scopes_ways, scopes_turn}
use Rattle.mark.proofs.mark_scopes.Goals as goal

pub loop-i-preserved : goal.loop-i-preserved
loop-i-preserved c = (search scopes_turn, search rules, search rules, search rules, search rules)

pub returns : goal.returns
returns c = search scopes_ways
