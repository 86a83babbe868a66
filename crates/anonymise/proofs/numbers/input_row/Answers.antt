-- `anonymise::numbers::input_row` meets its contract.
use borrow.Author.Rules.{rules}
use Rattle.anonymise.proofs.Names.{input_row_lem}
use Rattle.anonymise.proofs.numbers.input_row.Goals as goal

pub returns : goal.returns
returns c = search (input_row_lem, rules)
