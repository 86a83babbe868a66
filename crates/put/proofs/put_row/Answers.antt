-- `put::put_row` meets its contract.
use Rattle.put.proofs.Laws.{put_full, put_done}
use borrow.Author.Rules.{rules}
use Rattle.put.proofs.put_row.Goals as goal

pub returns-then-out-to : goal.returns-then-out-to
returns-then-out-to c = search (put_full, rules)

pub returns : goal.returns
returns c = search (put_done, rules)
