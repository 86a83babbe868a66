-- `share::is_small` meets its contract.
use borrow.Author.Rules.{rules}
use Rattle.share.proofs.Ways.{small_slots, small_links}
use Rattle.share.proofs.is_small.Goals as goal

pub returns-then-slots-lt-SLOTS : goal.returns-then-slots-lt-SLOTS
returns-then-slots-lt-SLOTS c = search (small_slots, rules)

pub returns-else-slots-lt-SLOTS : goal.returns-else-slots-lt-SLOTS
returns-else-slots-lt-SLOTS c = search (small_links, rules)
