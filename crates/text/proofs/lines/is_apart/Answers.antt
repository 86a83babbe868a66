-- `text::lines::is_apart` meets its contract.
use Rattle.text.proofs.LineLaws.{line_ways}
use Rattle.text.proofs.lines.is_apart.Goals as goal

pub returns-then-line-at : goal.returns-then-line-at
returns-then-line-at c = search line_ways

pub returns : goal.returns
returns c = search line_ways
