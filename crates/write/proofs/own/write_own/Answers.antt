-- `write::own::write_own` meets its contract.
use mathlib.Core.Path.{refl, ap}
use borrow.Author.Rules.{rules}
use Rattle.write.proofs.LawsOwn.{own_as}
use Rattle.write.proofs.LawsWithin.{seen_done, seen_same, stopped}
use Rattle.write.proofs.own.write_own.Goals as goal

pub write_rows-walked-requires : goal.write_rows-walked-requires
write_rows-walked-requires c = (c.requires.0, seen_same _ _ _ _ (ap (λ x. x.seen) c.unseen.ensures) c.requires.1)

pub leave-requires : goal.leave-requires
leave-requires c = (seen_done _ _ _ _ c.in-Ok.is c.write_rows-walked.ensures.1, search rules)

pub returns-in-Err : goal.returns-in-Err
returns-in-Err c = (own_as _ _ _ _ _ c.args.s _ c.unseen.ensures _ _ _ c.write_rows-walked.ensures.0 _ refl, search stopped)

pub returns-in-Ok : goal.returns-in-Ok
returns-in-Ok c = (own_as _ _ _ _ _ c.args.s _ c.unseen.ensures _ _ _ c.write_rows-walked.ensures.0 _ c.in-Ok.is, c.leave.ensures)
