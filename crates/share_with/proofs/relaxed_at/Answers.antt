-- `share_with::relaxed_at` meets its contract.
use Rattle.share_with.proofs.Ways.{relaxed_newer, relaxed_other}
use borrow.Author.Rules.{rules}
use Rattle.share_with.proofs.relaxed_at.Goals as goal

pub returns-then-i-eq-NEWER : goal.returns-then-i-eq-NEWER
returns-then-i-eq-NEWER c = search (relaxed_newer, rules)

pub returns-else-i-eq-NEWER : goal.returns-else-i-eq-NEWER
returns-else-i-eq-NEWER c = search (relaxed_other, rules)
