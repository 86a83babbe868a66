-- `resolver::steps::try_steps` meets its contract.
use Rattle.resolver.proofs.Passing.{steps_pass, steps_refuse}
use borrow.Author.Rules.{rules}
use Rattle.resolver.proofs.steps.try_steps.Goals as goal

pub returns-in-Ok : goal.returns-in-Ok
returns-in-Ok c = search (steps_pass, steps_refuse, rules)

pub returns-in-Err : goal.returns-in-Err
returns-in-Err c = search (steps_pass, steps_refuse, rules)
