-- `view_json::is_there` meets its contract.
use Rattle.view.proofs.ShownLaws.{shown_ways}
use Rattle.view_json.proofs.is_there.Goals as goal

pub returns : goal.returns
returns c = search shown_ways
