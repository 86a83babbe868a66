-- The rows of an item: its FIELD, its DECLs, and the rest, which begins with no DECL.
use Rattle.std.specs.Prelude.{◌≡◌, refl, Bool, true, false, List, [], ◌∷◌, ◌++◌, ℕ, ◌<◌, length}
use Rattle.std.proofs.Common.{sym, append_assoc, append-nil, arith}
use mathlib.Core.Option.{none, some}
use Rattle.rules.specs.Laws.ToolLaws.{false_not}
use Rattle.rows.specs.RowAt.{taken}
use Rattle.plan.specs.Views.{if_decl}
use Rattle.rules.specs.Rows.{Row, Field, Decl, Ref, Path, Outer, Case, Open, Close, Export}
use Rattle.rules.specs.Tree.{Operand, ref, outer, case, Head, scope, Item, plain, holds, head_of, decl_rows, operand_row, operand_rows, export_rows, head_rows, flatten, item_rows}

-- the rows of the scope that an item holds
unfoldable pub inside_rows : Item → List Row
inside_rows (plain h) = []
inside_rows (holds h s) = flatten s

-- what follows the DECLs
unfoldable pub rest_rows : Item → List Row
rest_rows i = operand_rows (head_of i).operands ++ (export_rows (head_of i).export ++ inside_rows i)

-- the FIELD row
abbrev pub field_row : Head → Row
field_row h = Field h.code h.builtin h.z

-- an item's rows, parted
pub item_rows_lem : (i : Item) → item_rows i ≡ field_row (head_of i) ∷ (decl_rows (head_of i).decls ++ rest_rows i)
unfolding flatten head_rows head_of rest_rows inside_rows
item_rows_lem (plain h) = rw append-nil
item_rows_lem (holds h s) = simp append_assoc

-- there is at least the FIELD
pub some_rows : (i : Item) → 0 < length (item_rows i)
some_rows i = rw (item_rows_lem i) (omega arith)

-- is it a DECL?
abbrev pub is_decl : Row → Bool
is_decl (Field code builtin z) = false
is_decl (Decl space name z) = true
is_decl (Ref space at paths z) = false
is_decl (Path name) = false
is_decl (Outer space up at z) = false
is_decl (Case name z) = false
is_decl (Open kind name) = false
is_decl Close = false
is_decl (Export name) = false

-- there is no DECL at once
abbrev pub NoDecl : List Row → Type 0
NoDecl [] = Unit {0}
NoDecl (r ∷ rs) = is_decl r ≡ false

-- a scope begins with its OPEN
no_decl_inside : (i : Item) → NoDecl (inside_rows i)
unfolding inside_rows flatten
no_decl_inside (plain h) = tt
no_decl_inside (holds h (scope kind name fs)) = refl

-- an EXPORT is no DECL
no_decl_export : (o : mathlib.Core.Option.Option ℕ) (rs : List Row) → NoDecl rs → NoDecl (export_rows o ++ rs)
unfolding export_rows
no_decl_export none rs n = n
no_decl_export (some x) rs n = refl

-- operands are no DECLs
no_decl_operands : (os : List Operand) (rs : List Row) → NoDecl rs → NoDecl (operand_rows os ++ rs)
unfolding operand_rows operand_row
no_decl_operands [] rs n = n
no_decl_operands (ref space at paths z ∷ os) rs n = refl
no_decl_operands (outer space up at z ∷ os) rs n = refl
no_decl_operands (case name z ∷ os) rs n = refl

-- the DECLs end where the rest begins
pub no_decl_rest : (i : Item) → NoDecl (rest_rows i)
unfolding rest_rows
no_decl_rest i = no_decl_operands (head_of i).operands _ (no_decl_export (head_of i).export _ (no_decl_inside i))

-- a row that is no DECL is not taken for one
pub not_decl_lem : {A : Type 0} (r : Row) (f : ℕ → ℕ → ℕ → A) (a : A) → is_decl r ≡ false → if_decl (taken (some r)) f a ≡ a
unfolding taken if_decl
not_decl_lem (Field code builtin z) f a e = refl
not_decl_lem (Decl space name z) f a e = false_not (sym e)
not_decl_lem (Ref space at paths z) f a e = refl
not_decl_lem (Path name) f a e = refl
not_decl_lem (Outer space up at z) f a e = refl
not_decl_lem (Case name z) f a e = refl
not_decl_lem (Open kind name) f a e = refl
not_decl_lem Close f a e = refl
not_decl_lem (Export name) f a e = refl
