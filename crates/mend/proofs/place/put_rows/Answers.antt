-- `mend::place::put_rows` meets its contract. The invariant: what is still to be put makes the whole, and the old rows from here on are still there.
use Rattle.mend.proofs.InPlace.{put_ways}
use Rattle.mend.proofs.place.put_rows.Goals as goal

pub loop-i-init : goal.loop-i-init
loop-i-init c = search put_ways

pub loop-i-preserved : goal.loop-i-preserved
loop-i-preserved c = (search put_ways, search put_ways, search put_ways)

pub returns : goal.returns
returns c = search put_ways
