-- `write::own::write_case` meets its contract.
use Rattle.write.proofs.LawsOwn.{ways}
use Rattle.write.proofs.LawsWithin.{sees}
use borrow.Author.Rules.{rules}
use Rattle.write.proofs.own.write_case.Goals as goal

pub is_twice-requires : goal.is_twice-requires
is_twice-requires c = search (sees, rules)

pub returns-then-is_twice : goal.returns-then-is_twice
returns-then-is_twice c = search ways

pub returns : goal.returns
returns c = search (ways, sees)
