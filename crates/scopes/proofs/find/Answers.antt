-- `scopes::find` meets its contract. The invariant: the search from here answers what the search from the start does.
use mathlib.Core.Path.{◌∙◌}
use borrow.Author.Rules.{rules}
use Rattle.row_parts.proofs.PartLaws.{count_on_lem}
use Rattle.scope_rows.proofs.LevelLaws.{level_on_lem}
use Rattle.scopes.proofs.ScopeLaws.{find_ways, find_on}
use Rattle.scopes.proofs.find.Goals as goal

pub loop-row-init : goal.loop-row-init
loop-row-init c = search find_ways

pub returns-then-is_bound : goal.returns-then-is_bound
returns-then-is_bound c = search find_ways

pub returns-then-is_declaration-is_meant : goal.returns-then-is_declaration-is_meant
returns-then-is_declaration-is_meant c = search find_ways

pub loop-row-preserved : goal.loop-row-preserved
loop-row-preserved c = (find_on _ _ _ _ _ _ _ _ c.loop-row.invariant.0 c.loop-row-test.true _ c.code_at-code.ensures _ c.is_bound.ensures c.if-is_bound.false _ c.declares-is_declaration.ensures _ c.x_at-name.ensures _ c.is_meant.ensures c.if-is_declaration-is_meant.false _ _ (c.counted-number.ensures.0 ∙ count_on_lem _ _ (search rules)) (c.level_behind-level.ensures.0 ∙ level_on_lem _ _ (search rules)), search rules, search rules)

pub returns : goal.returns
returns c = search find_ways
