-- `row_kinds::is_reference` meets its contract.
use Rattle.row_kinds.proofs.KindLaws.{kind_ways}
use Rattle.row_kinds.proofs.is_reference.Goals as goal

pub returns : goal.returns
returns c = search kind_ways
