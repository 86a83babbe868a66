-- `ferhevok::lent::wnt_resolve_with` meets its contract.
use borrow.Author.Rules.{rules}
use Rattle.ferhevok.proofs.Packs.{packs_ruled}
use Rattle.ferhevok.proofs.lent.wnt_resolve_with.Goals as goal

pub returns : goal.returns
returns c = (search (packs_ruled, rules), search rules, search rules)
