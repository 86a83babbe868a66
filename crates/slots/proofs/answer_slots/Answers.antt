-- `slots::answer_slots` meets its contract. The invariant: with the answers to the slots that are left it is the whole answer.
use borrow.Author.Rules.{rules}
use Rattle.slots.proofs.Ways.{list_ways, answered_turn}
use Rattle.slots.proofs.answer_slots.Goals as goal

pub loop-n-init : goal.loop-n-init
loop-n-init c = search list_ways

pub loop-n-preserved : goal.loop-n-preserved
loop-n-preserved c = (answered_turn _ _ _ _ _ _ _ c.loop-n.invariant.0 c.loop-n-test.true _ _ c.word_at-place.ensures c.word_at-name.ensures _ c.binding_of.ensures _ _ c.put-failing.ensures.answers_after, search rules, search rules, search rules)

pub returns : goal.returns
returns c = search list_ways
