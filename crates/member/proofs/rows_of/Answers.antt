-- `member::rows_of` meets its contract.
use Rattle.member.proofs.Ways.{rows_in_lem}
use borrow.Author.Rules.{rules}
use Rattle.member.proofs.rows_of.Goals as goal

pub returns : goal.returns
returns c = search (rows_in_lem, rules)
