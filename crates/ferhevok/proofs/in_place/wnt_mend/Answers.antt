-- `ferhevok::in_place::wnt_mend` meets its contract.
use borrow.Author.Rules.{rules}
use Rattle.ferhevok.proofs.Packs.{packs_mend}
use Rattle.ferhevok.proofs.in_place.wnt_mend.Goals as goal

pub returns : goal.returns
returns c = search (packs_mend, rules)
