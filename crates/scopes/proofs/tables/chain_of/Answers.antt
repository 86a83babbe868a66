-- `scopes::tables::chain_of` meets its contract.
use Rattle.scopes.proofs.ChainLaws.{chain_ways}
use Rattle.scopes.proofs.tables.chain_of.Goals as goal

pub returns : goal.returns
returns c = search chain_ways
