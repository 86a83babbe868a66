-- `batch::run::batch_in` meets its contract.
use mathlib.Core.Path.{refl}
use native.Mathlib.Omega.{arith}
use Rattle.batch.proofs.Ways.{wholes}
use Rattle.batch.proofs.run.batch_in.Goals as goal

pub returns-then-are_bad : goal.returns-then-are_bad
returns-then-are_bad c = record { value = search wholes; answers_after = search wholes; same = record { entered = refl; names = refl; known = refl; chains = refl; ends = refl } }

pub returns-then-is_short : goal.returns-then-is_short
returns-then-is_short c = record { value = search wholes; answers_after = search wholes; same = record { entered = refl; names = refl; known = refl; chains = refl; ends = refl } }

pub resolve_all-requires : goal.resolve_all-requires
resolve_all-requires c = (search wholes, search wholes, c.requires)

pub returns : goal.returns
returns c = record { value = search wholes; answers_after = search wholes; same = record { entered = omega (arith, c.entered-1.given); names = omega (arith, c.names-1.given); known = omega (arith, c.known-1.given); chains = omega (arith, c.chains-1.given); ends = omega (arith, c.ends-1.given) } }
