-- `anonymise::run::copy_header` meets its contract.
use borrow.Author.Rules.{rules}
use Rattle.anonymise.proofs.Rows.{over_front}
use Rattle.anonymise.proofs.run.copy_header.Goals as goal

pub returns : goal.returns
returns c = search (over_front, rules)
