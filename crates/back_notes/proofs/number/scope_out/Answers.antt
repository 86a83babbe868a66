-- `back_notes::number::scope_out` meets its contract.
use Rattle.back_notes.proofs.Ways.{outs}
use Rattle.back_notes.proofs.number.scope_out.Goals as goal

pub returns-then-depth-far : goal.returns-then-depth-far
returns-then-depth-far c = search outs

pub returns : goal.returns
returns c = search outs
