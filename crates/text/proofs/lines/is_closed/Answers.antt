-- `text::lines::is_closed` meets its contract.
use Rattle.text.proofs.LineLaws.{line_ways}
use Rattle.text.proofs.lines.is_closed.Goals as goal

pub returns-then-line-at : goal.returns-then-line-at
returns-then-line-at c = search line_ways

pub returns-then-line-at-eq93 : goal.returns-then-line-at-eq93
returns-then-line-at-eq93 c = search line_ways

pub returns-else-line-at-eq93 : goal.returns-else-line-at-eq93
returns-else-line-at-eq93 c = search line_ways
