-- `meanings::chains::chain_at` meets its contract.
use Rattle.scopes.proofs.ChainLaws.{chain_ways}
use Rattle.meanings.proofs.chains.chain_at.Goals as goal

pub scope_at-requires : goal.scope_at-requires
scope_at-requires c = search chain_ways

pub b_at-requires : goal.b_at-requires
b_at-requires c = search chain_ways

pub value_at-requires : goal.value_at-requires
value_at-requires c = search chain_ways

pub chain_of-requires : goal.chain_of-requires
chain_of-requires c = search chain_ways

pub returns : goal.returns
returns c = search chain_ways
