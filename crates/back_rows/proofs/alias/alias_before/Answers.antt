-- `back_rows::alias::alias_before` meets its contract.
use Rattle.back_rows.proofs.Ways.{seeing}
use Rattle.back_rows.proofs.alias.alias_before.Goals as goal

pub returns-then-end-lt4 : goal.returns-then-end-lt4
returns-then-end-lt4 c = search seeing

pub returns-then-last-eq-EXPORT : goal.returns-then-last-eq-EXPORT
returns-then-last-eq-EXPORT c = search seeing

pub returns-then-last-eq-OUTER : goal.returns-then-last-eq-OUTER
returns-then-last-eq-OUTER c = search seeing

pub returns : goal.returns
returns c = search seeing
