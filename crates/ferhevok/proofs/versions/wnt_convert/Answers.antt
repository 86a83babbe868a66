-- `ferhevok::versions::wnt_convert` meets its contract.
use borrow.Author.Rules.{rules}
use Rattle.ferhevok.proofs.Conversions.{rows_ruled}
use Rattle.ferhevok.proofs.versions.wnt_convert.Goals as goal

pub returns : goal.returns
returns c = (search (rows_ruled, rules), search rules)
