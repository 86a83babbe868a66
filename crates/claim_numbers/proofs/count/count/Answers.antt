-- `claim_numbers::count::count` meets its contract.
use Rattle.claim_numbers.proofs.Ways.{counting}
use Rattle.claim_numbers.proofs.count.count.Goals as goal

pub returns-then-depth-counts : goal.returns-then-depth-counts
returns-then-depth-counts c = search counting

pub returns-else-depth-counts : goal.returns-else-depth-counts
returns-else-depth-counts c = search counting

pub returns-then-p-ne-DECL : goal.returns-then-p-ne-DECL
returns-then-p-ne-DECL c = search counting

pub returns-then-depth-eq0 : goal.returns-then-depth-eq0
returns-then-depth-eq0 c = search counting

pub returns : goal.returns
returns c = search counting
