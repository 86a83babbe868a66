-- `diff::list::is_pair` meets its contract.
use borrow.Author.Rules.{rules}
use Rattle.diff.proofs.Ways.{pair_left, pair_right, pair_both}
use Rattle.diff.proofs.list.is_pair.Goals as goal

pub returns-then-not-is_lone : goal.returns-then-not-is_lone
returns-then-not-is_lone c = search (pair_left, rules)

pub returns-then-not-is_lone-2 : goal.returns-then-not-is_lone-2
returns-then-not-is_lone-2 c = search (pair_right, rules)

pub returns : goal.returns
returns c = search (pair_both, rules)
