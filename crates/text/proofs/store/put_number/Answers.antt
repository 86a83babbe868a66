-- `text::store::put_number` meets its contract. The invariant: the bytes that are left to store make what all of them make.
use Rattle.text.proofs.TextLaws.{bytes_ways}
use Rattle.text.proofs.store.put_number.Goals as goal

pub loop-i-init : goal.loop-i-init
loop-i-init c = search bytes_ways

pub loop-i-preserved : goal.loop-i-preserved
loop-i-preserved c = search bytes_ways

pub returns : goal.returns
returns c = search bytes_ways
