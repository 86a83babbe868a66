-- `scopes::lookup::scope_outward_with` meets its contract.
use Rattle.scopes.proofs.ScopeLaws.{outward_ways}
use Rattle.scopes.proofs.FoundLaws.{lent_ways}
use Rattle.scopes.proofs.lookup.scope_outward_with.Goals as goal

pub loop-around-init : goal.loop-around-init
loop-around-init c = search outward_ways

pub returns-then-is_wanted : goal.returns-then-is_wanted
returns-then-is_wanted c = search outward_ways

pub scope_at-around-requires : goal.scope_at-around-requires
scope_at-around-requires c = search lent_ways

pub loop-around-preserved : goal.loop-around-preserved
loop-around-preserved c = search outward_ways

pub returns : goal.returns
returns c = search outward_ways
