-- `text::lines::row_in` meets its contract.
use Rattle.text.proofs.LineLaws.{row_ways}
use Rattle.text.proofs.lines.row_in.Goals as goal

pub returns-then-has_bracket : goal.returns-then-has_bracket
returns-then-has_bracket c = search row_ways

pub returns-else-has_bracket : goal.returns-else-has_bracket
returns-else-has_bracket c = search row_ways

pub returns-else-is_closed : goal.returns-else-is_closed
returns-else-is_closed c = search row_ways
