-- The entries of rows that stand one behind another: of a field's own rows, of its operands.
use Rattle.std.specs.Prelude.{◌≡◌, refl, true, false, ◌||◌, eqb, Option as CodeOption, None}
use Rattle.std.proofs.Math.Path.{ap, sym}
use Rattle.std.proofs.Common.{ap₂, ◌∙◌, subst}
use Rattle.std.proofs.Math.Option.{Option, none, some}
use mathlib.Core.List.{List, [], ◌∷◌, ◌++◌, append_assoc}
use native.Mathlib.Omega.{arith}
use Prim.Native.Nat.{ℕ, suc, ◌+◌, ◌≤◌, ◌<◌}
use Rattle.std.proofs.Math.ListN.{length}
use Rattle.kit.proofs.Laws.{yes!, no!, left_suc}
use Rattle.rules.specs.Rows.{Row, Field, encode}
use Rattle.rules.specs.Tree.{Declaration, Operand, ref, outer, case, decl_rows, path_rows, operand_row, export_rows}
use Rattle.rules.specs.Laws.ToolLaws.{All, done, ◌&◌}
use Rattle.places.proofs.RowAt.{operand_row_of}
use Rattle.moving.specs.Moved.{MovedNumber, NoItem, if_any}
use Rattle.row_parts.specs.Parts.{code_at, rows_in}
use Rattle.numbers.specs.Entries.{is_written, entry_at}
use Rattle.moved_list.specs.Listing.{behind_from, behind_next, follow, entries_from, moved_of, apart_of}
use Rattle.moved_list.proofs.Ways.{moved_append, apart_append}
use Rattle.reading_laws.specs.Stand.{Is, At, code_part}
use Rattle.reading_laws.specs.Even.{code_of, Flat}
use Rattle.moved_laws.specs.AtPlace.{Says, says_nothing}
use Rattle.numbers.specs.declared.Entry.{Entry}

-- ---- rows without numbers

pub record Silent (r : Row) : Type 0 where
  pub not_ref : eqb (code_of r) 3 ≡ false
  pub not_outer : eqb (code_of r) 5 ≡ false

-- that neither open nor close a scope
pub record Quiet (r : Row) : Type 0 where
  pub silent : Silent r
  pub flat : Flat r

-- ---- spans

module _ (form out : List ℕ) where
  -- the entries of n rows from `row` on, where the output's row goes from `at` to `to`
  pub record Span (row n at : ℕ) (ms : List MovedNumber) (ns : List NoItem) (to : ℕ) : Type 0 where
    pub entries : List (CodeOption Entry)
    pub are : (left : ℕ) → entries_from form out row (n + left) at ≡ entries ++ entries_from form out (row + n) left to
    pub first : moved_of entries ≡ ms
    pub second : apart_of entries ≡ ns

  pub no_rows_lem : (row at : ℕ) → Span row 0 at [] [] at
  unfolding moved_of apart_of
  no_rows_lem row at =
      record {
        entries = [];
        are = λ left. (let a : 0 + left ≡ left = omega arith in let b : row + 0 ≡ row = omega arith in rw (a, b));
        first = refl;
        second = refl;
      }

  pub span_append : (row n m at mid to : ℕ) (ms₁ ms₂ : List MovedNumber) (ns₁ ns₂ : List NoItem) → Span row n at ms₁ ns₁ mid → Span (row + n) m mid ms₂ ns₂ to → Span row (n + m) at (ms₁ ++ ms₂) (ns₁ ++ ns₂) to
  span_append row n m at mid to ms₁ ms₂ ns₁ ns₂ P Q =
      record {
        entries = P.entries ++ Q.entries;
        are = λ left. (
            let a : n + m + left ≡ n + (m + left) = omega arith in
            let b : row + n + m ≡ row + (n + m) = omega arith in
            ap (λ (k : ℕ). entries_from form out row k at) a
            ∙ (P.are (m + left) ∙ (ap (λ (l : List (CodeOption Entry)). P.entries ++ l) (Q.are left ∙ ap (λ (k : ℕ). Q.entries ++ entries_from form out k left to) b) ∙ sym (append_assoc P.entries Q.entries _)))
            );
        first = moved_append P.entries Q.entries ∙ ap₂ (λ (x y : List MovedNumber). x ++ y) P.first Q.first;
        second = apart_append P.entries Q.entries ∙ ap₂ (λ (x y : List NoItem). x ++ y) P.second Q.second;
      }

  -- one row
  one_row : (row at to : ℕ) (m : Option MovedNumber) (a : Option NoItem) → follow out at (code_at form row) ≡ to → Says (entry_at form row out to) m a → Span row 1 at (if_any m []) (if_any a []) to
  unfolding entries_from
  one_row row at to m a e S =
      record {
        entries = entry_at form row out to ∷ [];
        are = λ left. (let k : 1 + left ≡ suc left = omega arith in rw (k, e));
        first = S.first;
        second = S.second;
      }

  stays_at : (row at : ℕ) (r : Row) → Is form row r → Flat r → follow out at (code_at form row) ≡ at
  unfolding follow encode
  stays_at row at r is f = let c : code_at form row ≡ code_of r = ap code_part is in sym (no! _ (rw (c, f.not_open_lem, f.not_close)) refl)

  quiet_entry : (row to : ℕ) (r : Row) → Is form row r → Silent r → entry_at form row out to ≡ None
  unfolding entry_at is_written encode
  quiet_entry row to r is q = let c : code_at form row ≡ code_of r = ap code_part is in sym (no! _ (rw (c, q.not_ref, q.not_outer)) refl)

  silent_row : (row at to : ℕ) (r : Row) → Is form row r → Silent r → follow out at (code_at form row) ≡ to → Span row 1 at [] [] to
  unfolding if_any
  silent_row row at to r is q e = one_row row at to none none e (subst (λ (x : CodeOption Entry). Says x none none) (sym (quiet_entry row to r is q)) says_nothing)

  -- rows without numbers, in one scope
  pub quiet_rows : (row at : ℕ) (rs : List Row) → All Quiet rs → At form row rs → Span row (length rs) at [] [] at
  quiet_rows row at [] a stand = no_rows_lem row at
  quiet_rows row at (r ∷ rs) (q & a) stand =
      let one : 1 + length rs ≡ suc (length rs) = omega arith in
      subst (λ (n : ℕ). Span row n at [] [] at) one
      (span_append row 1 (length rs) at at at [] [] [] [] (silent_row row at at r stand.0 q.silent (stays_at row at r stand.0 q.flat)) (quiet_rows (row + 1) at rs a stand.1))

  -- an OPEN or a CLOSE
  pub bound_row : (row at : ℕ) (r : Row) → Is form row r → Silent r → (eqb (code_of r) 7 || eqb (code_of r) 8) ≡ true → Span row 1 at [] [] (behind_next out at)
  unfolding follow encode
  bound_row row at r is q bound = silent_row row at (behind_next out at) r is q (let c : code_at form row ≡ code_of r = ap code_part is in sym (yes! _ (rw c bound) refl))

  -- a row of which something may be listed
  pub listed_row : (row at : ℕ) (r : Row) (m : Option MovedNumber) (a : Option NoItem) → Is form row r → Flat r → Says (entry_at form row out at) m a → Span row 1 at (if_any m []) (if_any a []) at
  listed_row row at r m a is f S = one_row row at at m a (stays_at row at r is f) S

-- ---- rows of a field

pub field_quiet : (code builtin z : ℕ) → Quiet (Field code builtin z)
unfolding encode
field_quiet code builtin z = record { silent = record { not_ref = refl; not_outer = refl }; flat = record { not_open_lem = refl; not_close = refl } }

pub decls_quiet : (ds : List Declaration) → All Quiet (decl_rows ds)
unfolding decl_rows encode
decls_quiet [] = done
decls_quiet (d ∷ ds) = record { silent = record { not_ref = refl; not_outer = refl }; flat = record { not_open_lem = refl; not_close = refl } } & decls_quiet ds

pub paths_quiet : (ps : List ℕ) → All Quiet (path_rows ps)
unfolding path_rows encode
paths_quiet [] = done
paths_quiet (p ∷ ps) = record { silent = record { not_ref = refl; not_outer = refl }; flat = record { not_open_lem = refl; not_close = refl } } & paths_quiet ps

pub export_quiet : (o : Option ℕ) → All Quiet (export_rows o)
unfolding export_rows encode
export_quiet none = done
export_quiet (some n) = record { silent = record { not_ref = refl; not_outer = refl }; flat = record { not_open_lem = refl; not_close = refl } } & done

pub operand_flat : (o : Operand) → Flat (operand_row_of o)
unfolding encode
operand_flat (ref space at paths z) = record { not_open_lem = refl; not_close = refl }
operand_flat (outer space up at z) = record { not_open_lem = refl; not_close = refl }
operand_flat (case name z) = record { not_open_lem = refl; not_close = refl }

-- its first row, and then PATHs
pub operand_rows_lem : (o : Operand) → (more : List Row) × (operand_row o ≡ operand_row_of o ∷ more) × All Quiet more
unfolding operand_row
operand_rows_lem (ref space at paths z) = (path_rows paths, refl, paths_quiet paths)
operand_rows_lem (outer space up at z) = ([], refl, done)
operand_rows_lem (case name z) = ([], refl, done)

-- ---- the next OPEN or CLOSE of the output

module _ (out : List ℕ) where
  next_on : (row : ℕ) → row < rows_in out → eqb (code_at out row) 7 ≡ false → eqb (code_at out row) 8 ≡ false → behind_next out row ≡ behind_next out (row + 1)
  unfolding behind_next behind_from
  next_on row h o c = rw (left_suc row (rows_in out) h) (sym (no! _ (rw (o, c)) refl))

  next_here : (row : ℕ) → row < rows_in out → (eqb (code_at out row) 7 || eqb (code_at out row) 8) ≡ true → behind_next out row ≡ row + 1
  unfolding behind_next behind_from
  next_here row h bound = rw (left_suc row (rows_in out) h) (sym (yes! _ bound refl))

  -- rows between that are neither
  pub next_behind : (row : ℕ) (rs : List Row) → All Flat rs → At out row rs → row + length rs ≤ rows_in out → behind_next out row ≡ behind_next out (row + length rs)
  unfolding encode
  next_behind row [] fs a h = let same : row ≡ row + 0 = omega arith in ap (behind_next out) same
  next_behind row (r ∷ rs) (f & fs) a h =
      let c : code_at out row ≡ code_of r = ap code_part a.0 in
      let on : row + 1 + length rs ≡ row + suc (length rs) = omega arith in
      next_on row (omega arith) (rw c f.not_open_lem) (rw c f.not_close) ∙ (next_behind (row + 1) rs fs a.1 (omega arith) ∙ ap (behind_next out) on)

  pub next_is : (row : ℕ) (r : Row) → Is out row r → (eqb (code_of r) 7 || eqb (code_of r) 8) ≡ true → row < rows_in out → behind_next out row ≡ row + 1
  unfolding encode
  next_is row r is bound h = let c : code_at out row ≡ code_of r = ap code_part is in next_here row h (rw c bound)
