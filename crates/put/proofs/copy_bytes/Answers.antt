-- `put::copy_bytes` meets its contract. Four stores in a row are one store of sixteen bytes (`copy_all`).
use Rattle.put.proofs.Laws.{copy_all}
use borrow.Author.Rules.{rules}
use Rattle.put.proofs.copy_bytes.Goals as goal

pub returns : goal.returns
returns c = search (copy_all, rules)
