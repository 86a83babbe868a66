-- `ferhevok::claims::wnt_check_with` meets its contract.
use borrow.Author.Rules.{rules}
use Rattle.ferhevok.proofs.Verdicts.{packs_verdict}
use Rattle.ferhevok.proofs.claims.wnt_check_with.Goals as goal

pub returns : goal.returns
returns c = record { value = search (packs_verdict, rules); table_after = search rules; cleared = search rules }
