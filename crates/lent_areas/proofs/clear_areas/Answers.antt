-- `lent_areas::clear_areas` meets its contract.
use borrow.Author.Rules.{rules}
use Rattle.lent_areas.proofs.Ways.{all_cleared}
use Rattle.lent_areas.proofs.clear_areas.Goals as goal

pub returns : goal.returns
returns c = search (all_cleared, rules)
