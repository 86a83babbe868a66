-- `scope_rows::number_of` meets its contract. The invariant: the count from here on is the whole count.
use mathlib.Core.Path.{◌∙◌}
use borrow.Author.Rules.{rules}
use Rattle.row_parts.proofs.PartLaws.{count_on_lem}
use Rattle.scope_rows.proofs.LevelLaws.{number_ways, number_turn, level_on_lem}
use Rattle.scope_rows.proofs.number_of.Goals as goal

pub loop-row-init : goal.loop-row-init
loop-row-init c = search number_ways

pub loop-row-preserved : goal.loop-row-preserved
loop-row-preserved c = (number_turn _ _ _ _ _ _ _ c.loop-row.invariant.0 c.loop-row-test.true _ _ _ _ c.declares.ensures c.code_at.ensures (c.counted-number.ensures.0 ∙ count_on_lem _ _ (search rules)) (c.level_behind-level.ensures.0 ∙ level_on_lem _ _ (search rules)), search rules, search rules)

pub returns : goal.returns
returns c = search number_ways
