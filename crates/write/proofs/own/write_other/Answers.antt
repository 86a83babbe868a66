-- `write::own::write_other` meets its contract.
use Rattle.write.proofs.LawsOwn.{ways}
use Rattle.write.proofs.LawsWithin.{serves, sees}
use Rattle.write.proofs.own.write_other.Goals as goal

pub write_outer-requires : goal.write_outer-requires
write_outer-requires c = search serves

pub returns-in-Outer : goal.returns-in-Outer
returns-in-Outer c = search (ways, sees)

pub returns-in-Case : goal.returns-in-Case
returns-in-Case c = search (ways, sees)

pub returns-in-Path : goal.returns-in-Path
returns-in-Path c = search (ways, sees)

pub returns-in_default : goal.returns-in_default
returns-in_default c = search (ways, sees)
