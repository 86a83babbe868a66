-- `share::share` meets its contract.
use borrow.Author.Rules.{rules}
use Rattle.share.proofs.Ways.{table_empty, index_empty, small_answers, small_leaves, large_areas, answers_with, leaves_with}
use Rattle.share.proofs.share.Goals as goal

pub returns-then-is_small : goal.returns-then-is_small
returns-then-is_small c = record { result_value = (search (small_answers, rules), search (small_leaves, rules)); table_after = (search (table_empty, rules), search (index_empty, rules)) }

pub share_in-requires : goal.share_in-requires
share_in-requires c = search (large_areas, rules)

pub returns : goal.returns
returns c = record { result_value = (search (answers_with, rules), search (leaves_with, rules)); table_after = (search rules, search rules) }
