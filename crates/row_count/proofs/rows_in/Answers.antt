-- `row_count::rows_in` meets its contract.
use Rattle.row_count.proofs.CountLaws.{count_ways}
use Rattle.row_count.proofs.rows_in.Goals as goal

pub returns-then-form-lt-HEADER : goal.returns-then-form-lt-HEADER
returns-then-form-lt-HEADER c = search count_ways

pub returns-then-rows-lt65535 : goal.returns-then-rows-lt65535
returns-then-rows-lt65535 c = search count_ways

pub returns-else-rows-lt65535 : goal.returns-else-rows-lt65535
returns-else-rows-lt65535 c = search count_ways
