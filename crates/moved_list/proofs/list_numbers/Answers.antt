-- `moved_list::list_numbers` meets its contract. The invariant: with the entries of the rows that are left the lists are the whole ones.
use borrow.Author.Rules.{rules}
use Rattle.moved_list.proofs.Ways.{list_ways, list_turn}
use Rattle.moved_list.proofs.list_numbers.Goals as goal

pub loop-row-init : goal.loop-row-init
loop-row-init c = search list_ways

pub loop-row-preserved : goal.loop-row-preserved
loop-row-preserved c = (list_turn _ _ _ _ _ _ _ _ _ c.loop-row.invariant.0 c.loop-row-test.true _ _ c.code_at.ensures c.follow-at.ensures _ c.entry_at.ensures _ _ _ c.put-s.ensures.apart_after, search rules, search rules, search rules, search rules)

pub returns : goal.returns
returns c = search list_ways
