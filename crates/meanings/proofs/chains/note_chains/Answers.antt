-- `meanings::chains::note_chains` meets its contract.
use Rattle.scopes.proofs.ChainLaws.{chains_on, chains_all}
use Rattle.scopes.proofs.TableLaws.{counts_below}
use native.Mathlib.Omega.{arith}
use borrow.Author.Rules.{rules}
use Rattle.meanings.proofs.chains.note_chains.Goals as goal

pub loop-row-init : goal.loop-row-init
loop-row-init c = (search rules, search rules, search rules)

pub chain_at-chain-requires : goal.chain_at-chain-requires
chain_at-chain-requires c = (search rules, counts_below _ _ _ _ c.requires.1 (omega arith))

pub loop-row-preserved : goal.loop-row-preserved
loop-row-preserved c = let chain = c.chain_at-chain.ensures in (
  chains_on _ _ _ _ c.loop-row.invariant.0 (omega arith) (omega arith) _ chain.0 chain.1 _ c.link.ensures,
  search rules,
  search rules,
)

pub returns : goal.returns
returns c = chains_all _ _ _ _ _ c.loop-row.invariant.0 (omega arith) (omega arith)
