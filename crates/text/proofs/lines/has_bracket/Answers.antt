-- `text::lines::has_bracket` meets its contract. The invariant: a bracket opens from here on exactly if one opens from the start on.
use Rattle.text.proofs.LineLaws.{bracket_ways}
use Rattle.text.proofs.lines.has_bracket.Goals as goal

pub loop-i-init : goal.loop-i-init
loop-i-init c = search bracket_ways

pub returns-then-line-i-eq91 : goal.returns-then-line-i-eq91
returns-then-line-i-eq91 c = search bracket_ways

pub loop-i-preserved : goal.loop-i-preserved
loop-i-preserved c = search bracket_ways

pub returns : goal.returns
returns c = search bracket_ways
