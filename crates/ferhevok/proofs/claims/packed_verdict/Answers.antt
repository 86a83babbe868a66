-- `ferhevok::claims::packed_verdict` meets its contract.
use Rattle.ferhevok.proofs.Verdicts.{verdicts}
use Rattle.ferhevok.proofs.claims.packed_verdict.Goals as goal

pub returns-in-Ok-Yes : goal.returns-in-Ok-Yes
returns-in-Ok-Yes c = search verdicts

pub returns-in-Ok-No : goal.returns-in-Ok-No
returns-in-Ok-No c = search verdicts

pub returns-in-Err : goal.returns-in-Err
returns-in-Err c = search verdicts
