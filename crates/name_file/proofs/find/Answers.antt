-- `name_file::find` meets its contract. The invariant: what is left of the file makes of the line so far what the whole file makes.
use Prim.Native.Nat.{◌-◌}
use Rattle.name_file.proofs.Laws.{find_ways}
use Rattle.name_file.proofs.find.Goals as goal

pub loop-i-init : goal.loop-i-init
loop-i-init c = search find_ways

pub returns-then-is_of : goal.returns-then-is_of
returns-then-is_of c = search find_ways

pub loop-i-preserved-then-byte-eq10 : goal.loop-i-preserved-then-byte-eq10
loop-i-preserved-then-byte-eq10 c = search find_ways

pub loop-i-preserved : goal.loop-i-preserved
loop-i-preserved c = search find_ways

pub returns-then-is_of-2 : goal.returns-then-is_of-2
returns-then-is_of-2 c = search find_ways

pub returns : goal.returns
returns c = search find_ways
