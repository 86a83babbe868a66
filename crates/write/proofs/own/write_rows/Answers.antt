-- `write::own::write_rows` meets its contract.
use mathlib.Core.Path.{ap}
use borrow.Author.Rules.{rules}
use Rattle.write.proofs.LawsOwn.{ways, own_turn}
use Rattle.write.proofs.LawsWithin.{seen_done, seen_same, stopped}
use Rattle.write.proofs.own.write_rows.Goals as goal

pub loop-i-init : goal.loop-i-init
loop-i-init c = (search ways, c.requires.1, search rules, search rules, search rules)

pub returns-then-code_at-eq-OPEN : goal.returns-then-code_at-eq-OPEN
returns-then-code_at-eq-OPEN c = (search ways, seen_same _ _ _ _ (ap (λ x. x.seen) c.arrived.ensures) c.loop-i.invariant.1)

pub write_row-walked-requires : goal.write_row-walked-requires
write_row-walked-requires c = (c.requires.0, c.loop-i.invariant.1)

pub loop-i-preserved : goal.loop-i-preserved
loop-i-preserved c = (own_turn _ _ _ _ _ _ _ _ _ _ c.loop-i.invariant.0 c.loop-i-test.true _ c.code_at.ensures c.if-code_at-eq-OPEN.false _ _ _ c.write_row-walked.ensures.0 _ c.in-Ok.is, seen_done _ _ _ _ c.in-Ok.is c.write_row-walked.ensures.1, search rules, search rules, search rules)

pub returns-in-Err : goal.returns-in-Err
returns-in-Err c = (search ways, search stopped)

pub returns : goal.returns
returns c = (search ways, seen_same _ _ _ _ (ap (λ x. x.seen) c.arrived-2.ensures) c.loop-i.invariant.1)
