-- `form::part::field_rows` meets its contract.
use Rattle.kit.proofs.Laws.{yes!, no!, tests}
use Rattle.form.specs.Part.{field_rows}
use Rattle.form.proofs.part.field_rows.Goals as goal

pub returns-then-rows-at : goal.returns-then-rows-at
unfolding field_rows
returns-then-rows-at c = yes! _ (omega tests) (cc)

pub returns : goal.returns
unfolding field_rows
returns c = no! _ (omega tests) (cc)
