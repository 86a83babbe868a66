-- `share_with::bytes_for` meets its contract.
use native.Mathlib.Omega.{arith}
use Rattle.share_with.proofs.Ways.{bytes_are_lem, bytes_few}
use Rattle.share_with.proofs.bytes_for.Goals as goal

pub overflow_mul-result : goal.overflow_mul-result
overflow_mul-result c = let f = bytes_few c.args.i _ c.of_input-limits.ensures in omega arith

pub returns : goal.returns
returns c = let f = bytes_few c.args.i _ c.of_input-limits.ensures in (bytes_are_lem c.args.i _ c.of_input-limits.ensures, omega arith)
