-- `whole_form::header::header_size` meets its contract.
use Rattle.whole_form.proofs.Headers.{size_ways}
use Rattle.whole_form.proofs.header.header_size.Goals as goal

pub returns-then-header-behind : goal.returns-then-header-behind
returns-then-header-behind c = search size_ways

pub returns-else-header-behind : goal.returns-else-header-behind
returns-else-header-behind c = search size_ways
