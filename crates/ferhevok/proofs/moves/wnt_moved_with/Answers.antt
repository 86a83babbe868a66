-- `ferhevok::moves::wnt_moved_with` meets its contract.
use borrow.Author.Rules.{rules}
use Rattle.ferhevok.proofs.Packs.{packs_moved}
use Rattle.ferhevok.proofs.moves.wnt_moved_with.Goals as goal

pub returns : goal.returns
returns c = record { value = search (packs_moved, rules); apart_after = search rules; cleared = search rules }
