-- `ferhevok::fewer::wnt_share` meets its contract.
use borrow.Author.Rules.{rules}
use Rattle.ferhevok.proofs.Packs.{packs_ruled}
use Rattle.ferhevok.proofs.fewer.wnt_share.Goals as goal

pub returns : goal.returns
returns c = record { value = (search (packs_ruled, rules), search rules); table_after = (search rules, search rules) }
