-- `convert::run::convert_form` meets its contract.
use Rattle.convert.proofs.Ways.{form_ways}
use Rattle.convert.proofs.run.convert_form.Goals as goal

pub returns-then-lacks : goal.returns-then-lacks
returns-then-lacks c = search form_ways

pub returns-then-limits-rows : goal.returns-then-limits-rows
returns-then-limits-rows c = search form_ways

pub convert_to-requires : goal.convert_to-requires
convert_to-requires c = search form_ways

pub returns : goal.returns
returns c = search form_ways
