-- `text::behind_line` meets its contract. The invariant: the line is as long as what is passed of it and what is left.
use Rattle.text.proofs.TextLaws.{length_ways}
use Rattle.text.proofs.behind_line.Goals as goal

pub loop-end-init : goal.loop-end-init
loop-end-init c = search length_ways

pub returns-then-text-end-eq10 : goal.returns-then-text-end-eq10
returns-then-text-end-eq10 c = search length_ways

pub loop-end-preserved : goal.loop-end-preserved
loop-end-preserved c = search length_ways

pub returns : goal.returns
returns c = search length_ways
