-- `known::text::is_text` meets its contract. The invariant: the bytes from here on are text exactly if all of them are.
use Prim.Native.Nat.{◌-◌}
use Rattle.known.proofs.Laws.{bytes_ways}
use Rattle.known.proofs.text.is_text.Goals as goal

pub loop-i-init : goal.loop-i-init
loop-i-init c = search bytes_ways

pub loop-i-preserved : goal.loop-i-preserved
loop-i-preserved c = search bytes_ways

pub returns-else-is_text_byte : goal.returns-else-is_text_byte
returns-else-is_text_byte c = search bytes_ways

pub returns : goal.returns
returns c = search bytes_ways
