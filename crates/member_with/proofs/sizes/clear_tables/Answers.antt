-- `member_with::sizes::clear_tables` meets its contract.
use Rattle.member_with.proofs.Ways.{tables_cleared}
use borrow.Author.Rules.{rules}
use Rattle.member_with.proofs.sizes.clear_tables.Goals as goal

pub returns : goal.returns
returns c = search (tables_cleared, rules)
