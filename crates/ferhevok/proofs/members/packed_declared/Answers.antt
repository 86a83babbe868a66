-- `ferhevok::members::packed_declared` meets its contract.
use Rattle.ferhevok.proofs.Declarations.{declarations}
use Rattle.ferhevok.proofs.members.packed_declared.Goals as goal

pub returns-in-Some-Member : goal.returns-in-Some-Member
returns-in-Some-Member c = search declarations

pub returns-in-Some-Prelude : goal.returns-in-Some-Prelude
returns-in-Some-Prelude c = search declarations
