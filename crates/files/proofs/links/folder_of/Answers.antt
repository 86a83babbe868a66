-- `files::links::folder_of` meets its contract. The invariant: the search from here answers what the search from the end does.
use Rattle.files.proofs.Laws.{slash_ways}
use Rattle.files.proofs.links.folder_of.Goals as goal

pub loop-end-init : goal.loop-end-init
loop-end-init c = search slash_ways

pub returns-then-path-end-eq47 : goal.returns-then-path-end-eq47
returns-then-path-end-eq47 c = search slash_ways

pub loop-end-preserved : goal.loop-end-preserved
loop-end-preserved c = search slash_ways

pub returns : goal.returns
returns c = search slash_ways
