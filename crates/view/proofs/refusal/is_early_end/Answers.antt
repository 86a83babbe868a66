-- `view::refusal::is_early_end` meets its contract.
use mathlib.Core.Path.{◌≡◌}
use mathlib.Core.Bool.{◌&&◌}
use mathlib.Core.List.{List}
use Prim.Native.Nat.{ℕ}
use borrow.Author.Rules.{rules}
use lib.Dec.{eqb}
use Rattle.row_parts.specs.Parts.{rows_in}
use Rattle.view.proofs.refusal.is_early_end.Goals as goal

early_is : (form : List ℕ) (number place rows : ℕ) → rows ≡ rows_in form → (eqb number 4 && eqb place rows) ≡ (eqb number 4 && eqb place (rows_in form))
early_is form number place rows h = rw h

pub returns : goal.returns
returns c = search (early_is, rules)
