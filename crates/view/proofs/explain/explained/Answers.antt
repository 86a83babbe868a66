-- `view::explain::explained` meets its contract.
use Rattle.view.proofs.ShownLaws.{shown_ways}
use Rattle.view.proofs.explain.explained.Goals as goal

pub returns : goal.returns
returns c = search shown_ways
