-- `ferhevok::versions::packed_rows` meets its contract.
use Rattle.ferhevok.proofs.Conversions.{rows}
use Rattle.ferhevok.proofs.versions.packed_rows.Goals as goal

pub returns-in-Ok : goal.returns-in-Ok
returns-in-Ok c = search rows

pub returns-in-Err : goal.returns-in-Err
returns-in-Err c = search rows
