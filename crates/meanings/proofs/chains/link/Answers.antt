-- `meanings::chains::link` meets its contract.
use Rattle.scopes.proofs.ChainLaws.{link_ways}
use Rattle.meanings.proofs.chains.link.Goals as goal

pub returns-then-code_at-eq-DECL : goal.returns-then-code_at-eq-DECL
returns-then-code_at-eq-DECL c = search link_ways

pub returns-else-code_at-eq-DECL : goal.returns-else-code_at-eq-DECL
returns-else-code_at-eq-DECL c = search link_ways
