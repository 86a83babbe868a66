-- `text::lines::is_blank` meets its contract. The invariant: the bytes from here on are blank exactly if all of them are.
use Rattle.text.proofs.LineLaws.{blank_ways}
use Rattle.text.proofs.lines.is_blank.Goals as goal

pub loop-i-init : goal.loop-i-init
loop-i-init c = search blank_ways

pub loop-i-preserved : goal.loop-i-preserved
loop-i-preserved c = search blank_ways

pub returns-else-is_blank_byte : goal.returns-else-is_blank_byte
returns-else-is_blank_byte c = search blank_ways

pub returns : goal.returns
returns c = search blank_ways
