-- `codes::has` meets its contract.
use Rattle.codes.proofs.Laws.{has_just}
use borrow.Author.Rules.{rules}
use Rattle.codes.proofs.has.Goals as goal

pub returns-in-Just : goal.returns-in-Just
returns-in-Just c = search (has_just, rules)

pub returns-in-Five : goal.returns-in-Five
returns-in-Five c = cc

pub returns-in-Six : goal.returns-in-Six
returns-in-Six c = cc

pub returns-in-Four : goal.returns-in-Four
returns-in-Four c = cc
