-- `put::put_parts` meets its contract. Four stores in a row are one store of sixteen bytes (`put_all`).
use Rattle.put.proofs.Laws.{put_all}
use borrow.Author.Rules.{rules}
use Rattle.put.proofs.put_parts.Goals as goal

pub returns : goal.returns
returns c = search (put_all, rules)
