-- `share::share_in` meets its contract.
use borrow.Author.Rules.{rules}
use Rattle.share.proofs.Agrees.{own_answers, own_leaves, own_resolved}
use Rattle.share.proofs.Ways.{table_empty, index_empty, proposal_answers, proposal_leaves}
use Rattle.share.proofs.share_in.Goals as goal

pub returns-then-own-ne0 : goal.returns-then-own-ne0
returns-then-own-ne0 c = record { result_value = (search (own_answers, rules), search (own_leaves, rules)); table_after = (search (table_empty, rules), search (index_empty, rules)) }

pub settle-requires : goal.settle-requires
settle-requires c = (search (own_resolved, rules), search rules)

pub returns : goal.returns
returns c = record { result_value = (search (proposal_answers, rules), search (proposal_leaves, rules)); table_after = (search rules, search rules) }
