-- `codes::may_declare` meets its contract.
use Rattle.codes.proofs.Laws.{declare_none, declare_one, declare_many}
use borrow.Author.Rules.{rules}
use Rattle.codes.proofs.may_declare.Goals as goal

pub returns-in-Nothing : goal.returns-in-Nothing
returns-in-Nothing c = search (declare_none, rules)

pub returns-in-One : goal.returns-in-One
returns-in-One c = search (declare_one, rules)

pub returns-in-Many : goal.returns-in-Many
returns-in-Many c = search (declare_many, rules)
