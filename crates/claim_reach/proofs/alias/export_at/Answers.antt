-- `claim_reach::alias::export_at` meets its contract.
use Rattle.claim_reach.proofs.Ways.{rows_of_alias}
use Rattle.claim_reach.proofs.alias.export_at.Goals as goal

pub returns-then-code_of-export_code : goal.returns-then-code_of-export_code
returns-then-code_of-export_code c = search rows_of_alias

pub returns-then-parts_at-name : goal.returns-then-parts_at-name
returns-then-parts_at-name c = search rows_of_alias

pub returns : goal.returns
returns c = search rows_of_alias
