-- `meant::name_meant` meets its contract.
use Rattle.meant.proofs.Ways.{name_ways}
use Rattle.meant.proofs.name_meant.Goals as goal

pub returns-then-e_at-lt2 : goal.returns-then-e_at-lt2
returns-then-e_at-lt2 c = search name_ways

pub returns-then-code-eq-OUTER : goal.returns-then-code-eq-OUTER
returns-then-code-eq-OUTER c = search name_ways

pub returns-then-code-eq-REF : goal.returns-then-code-eq-REF
returns-then-code-eq-REF c = search name_ways

pub returns : goal.returns
returns c = search name_ways
