-- What is asked of a field's operands: names of an input, and paths where the tables allow them.
use Rattle.std.specs.Prelude.{List, [], ◌∷◌, ℕ}
use Rattle.rules.specs.Versions.{top_name}
use Rattle.rules.specs.Rows.{Num, Id}
use Rattle.rules.specs.Tree.{Operand, ref, outer, case}
use Rattle.rules.specs.Laws.RowLaws.{LegalIndex}
use Rattle.unresolving.proofs.Laws.Aliases.{Short}

-- of space 10, if there is more than one PATH
abbrev pub Ten : (Q : ℕ → Type 0) → List ℕ → Type 0
Ten Q [] = Unit {0}
Ten Q (q ∷ ps) = Q 10

-- a path to a space, of one PATH more than these: `Q` holds of the spaces of its aliases
pub record PathMay (Q : ℕ → Type 0) (space : ℕ) (ps : List ℕ) : Type 0 where
  pub short : Short space ps
  pub may : Q space
  pub ten : Ten Q ps

abbrev pub May : (Q : ℕ → Type 0) → Operand → Type 0
May Q (ref space (Num n) [] z) = Unit {0}
May Q (ref space (Id name) [] z) = LegalIndex top_name (Id name)
May Q (ref space at (p ∷ ps) z) = PathMay Q space ps
May Q (outer space up at z) = Unit {0}
May Q (case name z) = Unit {0}

abbrev pub AllMay : (Q : ℕ → Type 0) → List Operand → Type 0
AllMay Q [] = Unit {0}
AllMay Q (o ∷ os) = May Q o × AllMay Q os

pub shorter : (Q : ℕ → Type 0) (space q : ℕ) (ps : List ℕ) → PathMay Q space (q ∷ ps) → PathMay Q space ps
shorter Q space q [] h = record { short = tt; may = h.may; ten = tt }
shorter Q space q (r ∷ ps) h = record { short = h.short; may = h.may; ten = h.ten }
