-- `convert::run::convert` meets its contract.
use Rattle.convert.proofs.Ways.{ways, says, asked_bad}
use Rattle.convert.proofs.run.convert.Goals as goal

pub returns-then-version-lt1 : goal.returns-then-version-lt1
returns-then-version-lt1 c = says _ _ _ _ _ (search ways)

pub returns-then-version-gt2 : goal.returns-then-version-gt2
returns-then-version-gt2 c = says _ _ _ _ _ (search ways)

pub returns-in_err-asked : goal.returns-in_err-asked
returns-in_err-asked c =
    says _ _ _ _ _ (asked_bad _ _ _ _ c.setting_of.ensures c.if-version-lt1.false c.if-version-gt2.false _ c.in_err-asked.was _ c.from_residual.ensures.1)

pub convert_sized-requires : goal.convert_sized-requires
convert_sized-requires c = search (ways, c.in_ok-asked.was)

pub returns : goal.returns
returns c = says _ _ _ _ _ (search ways)
