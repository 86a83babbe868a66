-- `text::lines::is_comment` meets its contract.
use Rattle.text.proofs.LineLaws.{line_ways}
use Rattle.text.proofs.lines.is_comment.Goals as goal

pub returns-then-line-eq0 : goal.returns-then-line-eq0
returns-then-line-eq0 c = search line_ways

pub returns : goal.returns
returns c = search line_ways
