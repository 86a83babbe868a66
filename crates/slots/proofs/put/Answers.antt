-- `slots::put` meets its contract.
use Rattle.slots.proofs.Ways.{put_ways}
use Rattle.slots.proofs.put.Goals as goal

pub returns-in-Elsewhere : goal.returns-in-Elsewhere
returns-in-Elsewhere c = search put_ways
