-- `view_json::told` meets its contract.
use Rattle.view.proofs.ShownLaws.{shown_ways}
use Rattle.view_json.proofs.told.Goals as goal

pub returns : goal.returns
returns c = search shown_ways
