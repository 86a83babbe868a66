-- `ferhevok::bindings::packed_slots` meets its contract.
use Rattle.ferhevok.proofs.Slots.{packs_slots}
use Rattle.ferhevok.proofs.bindings.packed_slots.Goals as goal

pub returns-in-Ok : goal.returns-in-Ok
returns-in-Ok c = search packs_slots

pub returns-in-Err : goal.returns-in-Err
returns-in-Err c = search packs_slots
