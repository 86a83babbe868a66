-- For an accepted input and the rows of its output, the code answers every slot as the rules do.
use Rattle.std.specs.Prelude.{◌≡◌, ℕ, length}
use Rattle.std.proofs.Math.Path.{refl, ap, ap₂}
use Rattle.std.proofs.Common.{sym, ◌∙◌}
use mathlib.Core.List.{List, [], ◌∷◌, map}
use Rattle.rules.specs.Versions.{RuleSet}
use Rattle.rules.specs.Tree.{Scope, flatten}
use Rattle.rules.specs.Good.{GoodScope}
use Rattle.rules.specs.Laws.ToolLaws.{All, done, ◌&◌}
use Rattle.rules.proofs.Laws.Output.Kept.{Kept}
use Rattle.rules.proofs.Laws.Output.Numbers.{NumberedScope}
use Rattle.row_parts.specs.Parts.{rows_in}
use Rattle.reading_laws.specs.Meant.{Rows}
use Rattle.binding.specs.Sheet.{Slot, Binding, bound, binding, bindings}
use Rattle.bound.specs.Bound as code
use Rattle.slots.specs.Slots.{ruled, answer_to}
use Rattle.sheet_laws.specs.Refs.{refs_kept}
use Rattle.sheet_laws.specs.RefRows.{by_rows, ref_rows, reference_is}
use Rattle.sheet_laws.specs.Scan.{Stood, places_of, rows_of, Right, scan_finds}
use Rattle.sheet_laws.specs.Reached.{bound_agrees}

module _ (form : List ℕ) (before after : Scope) (rules : RuleSet) (good : GoodScope rules after) (R : Rows form after) (just : rows_in form ≡ length (flatten after)) (kept : Kept before after) (numbered : NumberedScope after) where
  by_rows_lem : (z name : ℕ) (all : List Stood) → All (Right form after z) all → ruled (code.bound_by form (by_rows (rows_of all)) name) ≡ bound after name (places_of all)
  unfolding code.bound_by bound
  by_rows_lem z name [] done = refl
  by_rows_lem z name (x ∷ []) (right & done) = bound_agrees form after rules good R numbered x.place x.row right.at_row z right.operand right.stands right.is_ref_lem name
  by_rows_lem z name (x ∷ y ∷ all) right = refl

  slot_agrees : (slot : Slot) → answer_to form slot ≡ binding before after slot
  unfolding answer_to code.binding_of binding
  slot_agrees slot =
      let z = slot.place in
      let S = scan_finds form z rules after good kept.aliases R.stand in
      let rows : ref_rows form z 0 (rows_in form) ≡ rows_of S.0 = ap (ref_rows form z 0) just ∙ S.1 in
      ap (λ (r : _). ruled (code.bound_by form r slot.name)) (reference_is form z ∙ ap by_rows rows)
      ∙ (by_rows_lem z slot.name S.0 S.3 ∙ ap (bound after slot.name) (sym (refs_kept z before after kept ∙ S.2)))

  pub slots_agree : (slots : List Slot) → map (answer_to form) slots ≡ bindings before after slots
  unfolding bindings
  slots_agree [] = refl
  slots_agree (slot ∷ slots) = ap₂ (λ (b : Binding) (bs : List Binding). b ∷ bs) (slot_agrees slot) (slots_agree slots)
