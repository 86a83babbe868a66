-- `resolver_with::run::resolve_with` meets its contract.
use Rattle.resolver_with.proofs.Runs.{with_answers, with_leaves, clears_as}
use Rattle.resolver_with.proofs.run.resolve_with.Goals as goal

pub returns : goal.returns
returns c = let asks = c.asked_for-i.ensures in
    (with_answers _ _ _ _ _ _ asks c.resolve_at.ensures.0, with_leaves _ _ _ _ _ _ asks c.resolve_at.ensures.0, clears_as _ _ asks _ _ _ _ _ _ _ _ _ _ c.resolve_at.ensures.1)
