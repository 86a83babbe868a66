-- Rows written from the last to the first, and references as they were before their aliases were inserted.
use Rattle.std.specs.Prelude.{ℕ, zero, suc, ◌+◌, ◌-◌, ◌*◌, ◌/◌, ◌%◌, List, length, drop, ◌==◌, nat_lt}
use Rattle.std.proofs.lemmas.List.Edits.{sets}
use Rattle.kit.specs.Pick.{pick}
use Rattle.kit.specs.Out.{Out, ◌&◌}
use Rattle.rows.specs.declared.row.Index.TheVariants.{Number, Name}
use Rattle.rows.specs.declared.row.Row.{Row}
use Rattle.rows.specs.declared.row.Row.TheVariants.{Ref, Path}
use Rattle.put.specs.Put.{row_bytes}
use Rattle.back_notes.specs.Note.{Note, Noted}
use Rattle.back_rows.specs.Below.{below}
use Rattle.back_rows.specs.Alias.{alias_before_t, is_linked_t}
use Rattle.back_rows.specs.declared.alias.Alias.{Alias}
use Rattle.back_rows.specs.declared.restore.Restored.{Restored}

-- ---- where the rows that were written begin, and the output

abbrev pub Wrote : Type 0
Wrote = Out ℕ (List ℕ)

-- sixteen bytes before them; nothing, where there is no room
unfoldable pub put_bytes : List ℕ → (to : ℕ) (out : List ℕ) → Wrote
put_bytes bs to out = pick (to == 0) (0 & out) (to - 1 & pick (nat_lt (to - 1) (length out / 16)) (sets out (16 * (to - 1)) bs) out)

-- writes a row before those that begin at `to`, and answers where they begin then; where there is no room, nothing is written
abbrev pub put_back_t : Row → (to : ℕ) (out : List ℕ) → Wrote
put_back_t row to out = put_bytes (row_bytes row) to out

abbrev pub copy_back_t : Noted → (to : ℕ) (out : List ℕ) → Wrote
copy_back_t r to out = put_bytes r.bytes to out

unfoldable pub wrote_then : {A : Type 0} → Wrote → (ℕ → List ℕ → A) → A
wrote_then (to & out) f = f to out

-- ---- a reference that was restored: where the rows begin, and the rows whose inserted fields are left

pub record Rest : Type 0 where
  pub to : ℕ
  pub left : List Noted

abbrev pub rest : (to : ℕ) → List Noted → Rest
rest to left = record { to = to; left = left }

-- what the code left, as the definitions have it
abbrev pub rested_at : (rows : List ℕ) (noted : List Note) → Restored → Rest
rested_at rows noted r = rest r.to (below rows noted r.next)

unfoldable pub leaves : Wrote → List Noted → Out Rest (List ℕ)
leaves (to & out) l = rest to l & out

-- the reference with which a path begins
abbrev pub begin_t : (last first : Alias) (count to : ℕ) (out : List ℕ) → Wrote
begin_t last first count to out = put_back_t (Ref last.decl.b (Number first.operand.x) count last.operand.z) to out

-- `first` is the first of a path so far, and these rows stand before it
unfoldable pub path_t : (turns : ℕ) (last first : Alias) → List Noted → (count to : ℕ) (out : List ℕ) → Out Rest (List ℕ)
path_t zero last first l count to out = leaves (begin_t last first count to out) l
path_t (suc turns) last first l count to out =
    pick (is_linked_t (alias_before_t l) first)
    (wrote_then (put_back_t (Path (alias_before_t l).value) to out) λ to' out'. path_t turns last (alias_before_t l) (drop (alias_before_t l).size l) ((count + 1) % 4294967296) to' out')
    (leaves (begin_t last first count to out) l)

-- a name further out, or a path; these rows stand before the alias
unfoldable pub restore_ref_t : Alias → List Noted → (to : ℕ) (out : List ℕ) → Out Rest (List ℕ)
restore_ref_t a l to out =
    pick (a.operand.code == 5) (leaves (put_back_t (Ref a.operand.b (Name a.value) 0 a.operand.z) to out) l)
    (wrote_then (put_back_t (Path a.value) to out) λ to' out'. path_t a.start a a l 1 to' out')
