-- `ferhevok::wnt_resolve` meets its contract.
use borrow.Author.Rules.{rules}
use Rattle.ferhevok.proofs.Packs.{packs_ruled}
use Rattle.ferhevok.proofs.wnt_resolve.Goals as goal

pub returns : goal.returns
returns c = search (packs_ruled, rules)
