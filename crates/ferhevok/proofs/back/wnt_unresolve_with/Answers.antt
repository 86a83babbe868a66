-- `ferhevok::back::wnt_unresolve_with` meets its contract.
use borrow.Author.Rules.{rules}
use Rattle.ferhevok.proofs.Packs.{packs_back}
use Rattle.ferhevok.proofs.back.wnt_unresolve_with.Goals as goal

pub returns : goal.returns
returns c = record { value = (search (packs_back, rules), search rules); cleared_back = search rules; cleared = search rules }
