-- `resolver_with::run::fill_in` meets its contract.
use Rattle.std.specs.Prelude.{Err}
use mathlib.Core.Path.{ap}
use native.Mathlib.Omega.{arith}
use borrow.Author.Rules.{rules}
use Rattle.resolver.proofs.Laws.{ways, fill_short, fill_done}
use Rattle.resolver_with.proofs.run.fill_in.Goals as goal

pub returns-then-front-header : goal.returns-then-front-header
returns-then-front-header c = fill_short _ _ _ _ c.header_size-header.ensures.0 _ c.if-front-header.true (ap (λ x. Err x) c.from.ensures)

pub walk_in-requires : goal.walk_in-requires
walk_in-requires c = c.requires

pub shape_of-front-in-Err : goal.shape_of-front-in-Err
shape_of-front-in-Err c = omega (arith, c.entered-1.given, c.known-1.given, c.names-1.given, c.chains-1.given, c.ends-1.given, c.front-1.given, c.front-in-Err-1.given)

pub shape_of-entered-in-Err : goal.shape_of-entered-in-Err
shape_of-entered-in-Err c = omega (arith, c.entered-1.given, c.known-1.given, c.names-1.given, c.chains-1.given, c.ends-1.given, c.front-1.given, c.front-in-Err-1.given)

pub shape_of-names-in-Err : goal.shape_of-names-in-Err
shape_of-names-in-Err c = omega (arith, c.entered-1.given, c.known-1.given, c.names-1.given, c.chains-1.given, c.ends-1.given, c.front-1.given, c.front-in-Err-1.given)

pub shape_of-known-in-Err : goal.shape_of-known-in-Err
shape_of-known-in-Err c = omega (arith, c.entered-1.given, c.known-1.given, c.names-1.given, c.chains-1.given, c.ends-1.given, c.front-1.given, c.front-in-Err-1.given)

pub shape_of-chains-in-Err : goal.shape_of-chains-in-Err
shape_of-chains-in-Err c = omega (arith, c.entered-1.given, c.known-1.given, c.names-1.given, c.chains-1.given, c.ends-1.given, c.front-1.given, c.front-in-Err-1.given)

pub shape_of-ends-in-Err : goal.shape_of-ends-in-Err
shape_of-ends-in-Err c = omega (arith, c.entered-1.given, c.known-1.given, c.names-1.given, c.chains-1.given, c.ends-1.given, c.front-1.given, c.front-in-Err-1.given)

pub returns-in-Err : goal.returns-in-Err
returns-in-Err c = search ways

pub shape_of-front-in-Ok : goal.shape_of-front-in-Ok
shape_of-front-in-Ok c = omega (arith, c.entered-1.given, c.known-1.given, c.names-1.given, c.chains-1.given, c.ends-1.given, c.front-1.given, c.front-in-Ok-1.given)

pub shape_of-entered-in-Ok : goal.shape_of-entered-in-Ok
shape_of-entered-in-Ok c = omega (arith, c.entered-1.given, c.known-1.given, c.names-1.given, c.chains-1.given, c.ends-1.given, c.front-1.given, c.front-in-Ok-1.given)

pub shape_of-names-in-Ok : goal.shape_of-names-in-Ok
shape_of-names-in-Ok c = omega (arith, c.entered-1.given, c.known-1.given, c.names-1.given, c.chains-1.given, c.ends-1.given, c.front-1.given, c.front-in-Ok-1.given)

pub shape_of-known-in-Ok : goal.shape_of-known-in-Ok
shape_of-known-in-Ok c = omega (arith, c.entered-1.given, c.known-1.given, c.names-1.given, c.chains-1.given, c.ends-1.given, c.front-1.given, c.front-in-Ok-1.given)

pub shape_of-chains-in-Ok : goal.shape_of-chains-in-Ok
shape_of-chains-in-Ok c = omega (arith, c.entered-1.given, c.known-1.given, c.names-1.given, c.chains-1.given, c.ends-1.given, c.front-1.given, c.front-in-Ok-1.given)

pub shape_of-ends-in-Ok : goal.shape_of-ends-in-Ok
shape_of-ends-in-Ok c = omega (arith, c.entered-1.given, c.known-1.given, c.names-1.given, c.chains-1.given, c.ends-1.given, c.front-1.given, c.front-in-Ok-1.given)

pub returns-in-Ok : goal.returns-in-Ok
returns-in-Ok c = search (fill_done, c.header_size-header.ensures.0, c.if-front-header.false, c.walk_in.ensures, rules)
