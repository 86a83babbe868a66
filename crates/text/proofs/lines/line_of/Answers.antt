-- `text::lines::line_of` meets its contract.
use Rattle.text.proofs.LineLaws.{whole_ways}
use Rattle.text.proofs.lines.line_of.Goals as goal

pub returns-then-is_blank : goal.returns-then-is_blank
returns-then-is_blank c = search whole_ways

pub returns-then-is_comment : goal.returns-then-is_comment
returns-then-is_comment c = search whole_ways

pub returns : goal.returns
returns c = search whole_ways
