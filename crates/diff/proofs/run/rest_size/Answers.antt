-- `diff::run::rest_size` meets its contract.
use borrow.Author.Rules.{rules}
use Rattle.diff.proofs.Runs.{pair_sized, apart_sized}
use Rattle.diff.proofs.run.rest_size.Goals as goal

pub returns-then-is_pair : goal.returns-then-is_pair
returns-then-is_pair c = (search (pair_sized, rules), search rules)

pub returns : goal.returns
returns c = (search (apart_sized, rules), search rules)
