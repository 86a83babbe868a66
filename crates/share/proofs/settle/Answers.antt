-- `share::settle` meets its contract. The check never refuses the proposal.
use borrow.Author.Rules.{rules}
use Rattle.share.proofs.Ways.{left_roomy, refused_never}
use Rattle.share.proofs.settle.Goals as goal

pub propose-proposed-requires : goal.propose-proposed-requires
propose-proposed-requires c = search (left_roomy, rules)

pub returns : goal.returns
returns c = absurd (search (refused_never, rules))
