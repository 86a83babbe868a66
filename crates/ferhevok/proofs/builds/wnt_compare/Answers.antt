-- `ferhevok::builds::wnt_compare` meets its contract.
use borrow.Author.Rules.{rules}
use Rattle.ferhevok.proofs.Lists.{lists_ruled}
use Rattle.ferhevok.proofs.builds.wnt_compare.Goals as goal

pub returns : goal.returns
returns c = (search (lists_ruled, rules), search rules)
