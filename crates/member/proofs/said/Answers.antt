-- `member::said` meets its contract.
use Rattle.member.proofs.Ways.{said_accepted, said_refused}
use borrow.Author.Rules.{rules}
use Rattle.member.proofs.said.Goals as goal

pub returns-in-Ok : goal.returns-in-Ok
returns-in-Ok c = search (said_accepted, rules)

pub returns-in-Err : goal.returns-in-Err
returns-in-Err c = search (said_refused, rules)
