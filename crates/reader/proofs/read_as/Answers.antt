-- `reader::read_as` meets its contract.
use Rattle.reader.proofs.Steps.{reads_ways}
use Rattle.reader.proofs.read_as.Goals as goal

pub returns-then-stage-lt-WHOLE : goal.returns-then-stage-lt-WHOLE
returns-then-stage-lt-WHOLE c = search reads_ways

pub returns-then-next-n : goal.returns-then-next-n
returns-then-next-n c = search reads_ways

pub returns-then-stage-eq-WHOLE : goal.returns-then-stage-eq-WHOLE
returns-then-stage-eq-WHOLE c = search reads_ways

pub returns-then-stage-eq-DEEP : goal.returns-then-stage-eq-DEEP
returns-then-stage-eq-DEEP c = search reads_ways

pub returns : goal.returns
returns c = search reads_ways
