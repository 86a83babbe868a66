-- `text::end_text` meets its contract.
use Rattle.text.proofs.TextLaws.{end_ways}
use Rattle.text.proofs.end_text.Goals as goal

pub returns-then-rows-eq0 : goal.returns-then-rows-eq0
returns-then-rows-eq0 c = search end_ways

pub put_header-requires : goal.put_header-requires
put_header-requires c = search end_ways

pub returns : goal.returns
returns c = search end_ways
