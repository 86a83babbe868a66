-- `diff::run::compare` meets its contract.
use Rattle.diff.proofs.Agrees.{ways, says, asked_bad}
use Rattle.diff.proofs.run.compare.Goals as goal

pub returns-in_err-asked : goal.returns-in_err-asked
returns-in_err-asked c =
    says _ _ _ _ _ _ (asked_bad _ _ _ _ _ c.claim_of.ensures _ c.in_err-asked.was _ c.from_residual.ensures.1)

pub compare_as-requires : goal.compare_as-requires
compare_as-requires c = search (ways, c.in_ok-asked.was)

pub returns : goal.returns
returns c = says _ _ _ _ _ _ (search ways)
