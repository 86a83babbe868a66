-- The header and the row count: each law is one unfolding of a definition, with the facts in the form in which the code gives them.
use mathlib.Core.Path.{◌≡◌, refl}
use mathlib.Core.Bool.{Bool, ◌&&◌}
use mathlib.Core.List.{List}
use native.Mathlib.Omega.{arith}
use Prim.Native.Nat.{ℕ, ◌-◌, ◌/◌, ◌≤◌, ◌<◌}
use borrow.Author.Rules.{rules}
use lib.Dec.{eqb}
use lib.ListN.{length, get_or}
use Rattle.kit.proofs.Laws.{yes!, no!, tests}
use Rattle.parts.specs.PartsAt.{two}
use Rattle.form_bytes.specs.Begins.{begins_as}
use Rattle.row_bytes.specs.Parts.{start_of}
use Rattle.row_count.specs.Count.{has_header, rows_in, is_whole}

module _ (form : List ℕ) where
  pub header_is : (w : Bool) (b c : ℕ) → w ≡ begins_as form 1 → b ≡ get_or form 4 0 → c ≡ get_or form 5 0 → (w && eqb b 0 && eqb c 0) ≡ has_header form
  header_is w b c hw hb hc = rw (hw, hb, hc)

  pub rows_none : length form < 8 → 0 ≡ rows_in form
  unfolding rows_in
  rows_none h = yes! _ (omega tests) (omega arith)

  pub rows_few : (length form - 8) / 16 < 65535 → (length form - 8) / 16 ≡ rows_in form
  unfolding rows_in
  rows_few h = yes! _ (omega tests) refl

  pub rows_many : 65535 ≤ (length form - 8) / 16 → 65535 ≡ rows_in form
  unfolding rows_in
  rows_many h = no! _ (omega tests) refl

pub whole_is : (form : List ℕ) (rows said start : ℕ) → rows ≡ rows_in form → said ≡ two form 6 → start ≡ start_of rows → (eqb said rows && eqb (length form) start) ≡ is_whole form
unfolding is_whole
whole_is form rows said start r s t = rw (s, t, r)

pub ruleset count_ways = (header_is, rows_none, rows_few, rows_many, whole_is, rules)
