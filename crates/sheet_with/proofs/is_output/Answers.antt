-- `sheet_with::is_output` meets its contract.
use borrow.Author.Rules.{rules}
use Rattle.sheet.proofs.Ways.{all_zero}
use Rattle.sheet_with.proofs.is_output.Goals as goal

pub returns : goal.returns
returns c = record {
  value = (c.resolves_to-same.ensures.value, search (all_zero, rules));
  cleared = c.resolves_to-same.ensures.cleared;
}
