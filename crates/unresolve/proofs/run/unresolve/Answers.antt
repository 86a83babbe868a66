-- `unresolve::run::unresolve` meets its contract.
use Rattle.unresolve.proofs.Agrees.{restored_cleared, again_cleared}
use Rattle.unresolve.proofs.run.unresolve.Goals as goal

pub returns : goal.returns
returns c = let made = c.decide-answer in
    (made.ensures.0, made.ensures.1, restored_cleared _ _ _ made.ensures.2 c.clear_bytes.ensures, again_cleared _ _ _ made.ensures.3 c.clear_bytes-2.ensures)
