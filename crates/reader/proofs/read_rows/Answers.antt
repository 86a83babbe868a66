-- `reader::read_rows` meets its contract.
use Rattle.reader.proofs.Steps.{all_read}
use borrow.Author.Rules.{rules}
use Rattle.reader.proofs.read_rows.Goals as goal

pub returns : goal.returns
returns c = search (all_read, rules)
