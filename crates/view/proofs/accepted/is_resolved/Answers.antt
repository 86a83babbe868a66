-- `view::accepted::is_resolved` meets its contract.
use Rattle.view.proofs.ShownLaws.{shown_ways}
use Rattle.view.proofs.accepted.is_resolved.Goals as goal

pub returns : goal.returns
returns c = search shown_ways
