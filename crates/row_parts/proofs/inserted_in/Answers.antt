-- `row_parts::inserted_in` meets its contract. The invariant: the count from here on is the whole count.
use mathlib.Core.Path.{◌∙◌}
use borrow.Author.Rules.{rules}
use Rattle.row_parts.proofs.PartLaws.{inserted_ways, inserted_turn, count_on_lem}
use Rattle.row_parts.proofs.inserted_in.Goals as goal

pub loop-row-init : goal.loop-row-init
loop-row-init c = search inserted_ways

pub loop-row-preserved : goal.loop-row-preserved
loop-row-preserved c = (inserted_turn _ _ _ _ _ c.loop-row.invariant.0 c.loop-row-test.true _ _ c.is_inserted.ensures (c.counted-count.ensures.0 ∙ count_on_lem _ _ (search rules)), search rules)

pub returns : goal.returns
returns c = search inserted_ways
