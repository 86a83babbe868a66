-- `ferhevok::back::wnt_unresolve` meets its contract.
use borrow.Author.Rules.{rules}
use Rattle.ferhevok.proofs.Packs.{packs_back}
use Rattle.ferhevok.proofs.back.wnt_unresolve.Goals as goal

pub returns : goal.returns
returns c = search (packs_back, rules)
