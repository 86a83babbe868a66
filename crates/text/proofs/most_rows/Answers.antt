-- `text::most_rows` meets its contract.
use Rattle.text.proofs.TextLaws.{most_ways}
use Rattle.text.proofs.most_rows.Goals as goal

pub returns-then-length-lt-HEADER : goal.returns-then-length-lt-HEADER
returns-then-length-lt-HEADER c = search most_ways

pub returns-then-rows-lt4092 : goal.returns-then-rows-lt4092
returns-then-rows-lt4092 c = search most_ways

pub returns-else-rows-lt4092 : goal.returns-else-rows-lt4092
returns-else-rows-lt4092 c = search most_ways
