-- `put::put_four` meets its contract.
use native.Mathlib.Omega.{arith}
use native.Mathlib.Numerals.{towards_suc}
use lib.ListN.{length-set}
use Rattle.put.proofs.put_four.Goals as goal

pub bounds-out-a-2 : goal.bounds-out-a-2
bounds-out-a-2 c = simp length-set (omega arith)

pub bounds-out-a-3 : goal.bounds-out-a-3
bounds-out-a-3 c = simp length-set (omega arith)

pub bounds-out-a-4 : goal.bounds-out-a-4
bounds-out-a-4 c = simp length-set (omega arith)

pub returns : goal.returns
returns c = simp towards_suc
