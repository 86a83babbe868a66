-- `batch::shares::in_share` meets its contract.
use borrow.Author.Rules.{rules}
use Rattle.batch.proofs.Ways.{shares}
use Rattle.batch.proofs.shares.in_share.Goals as goal

pub overflow_mul-at : goal.overflow_mul-at
overflow_mul-at c = search shares

pub slice_bounds-in_front-count : goal.slice_bounds-in_front-count
slice_bounds-in_front-count c = search shares

pub slice_bounds-in_front-start : goal.slice_bounds-in_front-start
slice_bounds-in_front-start c = search shares

pub in_front-answer-requires : goal.in_front-answer-requires
in_front-answer-requires c = (search shares, search rules)

pub returns : goal.returns
returns c = search shares
