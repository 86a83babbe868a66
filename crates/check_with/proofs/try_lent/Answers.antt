-- `check_with::try_lent` meets its contract.
use Rattle.check_with.proofs.Ways.{areas_left}
use borrow.Author.Rules.{rules}
use Rattle.check_with.proofs.try_lent.Goals as goal

pub returns : goal.returns
returns c = record { value = search rules; cleared = search (areas_left, rules) }
