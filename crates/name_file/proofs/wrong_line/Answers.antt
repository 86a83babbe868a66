-- `name_file::wrong_line` meets its contract. The invariant: what is left of the file makes of the line and the count so far what the whole file makes.
use Prim.Native.Nat.{◌-◌}
use Rattle.name_file.proofs.Laws.{wrong_ways}
use Rattle.name_file.proofs.wrong_line.Goals as goal

pub loop-i-init : goal.loop-i-init
loop-i-init c = search wrong_ways

pub returns-then-not-is_sound : goal.returns-then-not-is_sound
returns-then-not-is_sound c = search wrong_ways

pub loop-i-preserved-then-byte-eq10 : goal.loop-i-preserved-then-byte-eq10
loop-i-preserved-then-byte-eq10 c = search wrong_ways

pub loop-i-preserved : goal.loop-i-preserved
loop-i-preserved c = search wrong_ways

pub returns-then-is_sound : goal.returns-then-is_sound
returns-then-is_sound c = search wrong_ways

pub returns-else-is_sound : goal.returns-else-is_sound
returns-else-is_sound c = search wrong_ways
