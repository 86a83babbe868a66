-- `reader::read` meets its contract.
use Rattle.reader.proofs.Steps.{read_input}
use borrow.Author.Rules.{rules}
use Rattle.reader.proofs.read.Goals as goal

pub returns : goal.returns
returns c = search (read_input, rules)
