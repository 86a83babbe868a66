-- `share_with::mark_in` meets its contract.
use Rattle.share_with.proofs.Ways.{empty_index, noted_in}
use borrow.Author.Rules.{rules}
use Rattle.share_with.proofs.mark_in.Goals as goal

pub mark_rows-requires : goal.mark_rows-requires
mark_rows-requires c = search (empty_index, rules)

pub returns : goal.returns
returns c = (search (noted_in, rules), search rules)
