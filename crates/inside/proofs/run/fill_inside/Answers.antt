-- `inside::run::fill_inside` meets its contract.
use Rattle.resolver.proofs.Laws.{fill_done, ways}
use borrow.Author.Rules.{rules}
use Rattle.inside.proofs.run.fill_inside.Goals as goal

pub returns-then-front-header : goal.returns-then-front-header
returns-then-front-header c = search ways

pub returns-in-Err : goal.returns-in-Err
returns-in-Err c = search ways

pub returns-in-Ok : goal.returns-in-Ok
returns-in-Ok c = search (fill_done, c.header_size-header.ensures.0, c.if-front-header.false, c.walk_inside.ensures, rules)
