-- `put::put_word` meets its contract.
use Rattle.put.proofs.Laws.{put_number}
use borrow.Author.Rules.{rules}
use Rattle.put.proofs.put_word.Goals as goal

pub returns : goal.returns
returns c = search (put_number, rules)
