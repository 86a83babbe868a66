-- `ferhevok::moves::wnt_moved` meets its contract.
use borrow.Author.Rules.{rules}
use Rattle.ferhevok.proofs.Packs.{packs_moved}
use Rattle.ferhevok.proofs.moves.wnt_moved.Goals as goal

pub returns : goal.returns
returns c = search (packs_moved, rules)
