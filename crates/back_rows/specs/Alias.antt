-- Inserted fields among rows that are gone through from the last to the first.
use Rattle.std.specs.Prelude.{ℕ, ◌-◌, Bool, not, ◌&&◌, List, length, ◌==◌, nat_lt, slice_index}
use Rattle.kit.specs.Pick.{pick}
use Rattle.parts.specs.PartsAt.{parts}
use Rattle.parts.specs.declared.Parts.{Parts}
use Rattle.back_notes.specs.Note.{Noted}
use Rattle.back_rows.specs.Below.{nth}
use Rattle.back_rows.specs.declared.alias.Alias.{Alias}

-- the parts of no row
abbrev pub no_parts : Parts
no_parts = parts 0 0 0 0 0 0

-- no inserted field ends before the row `end`
abbrev pub no_alias_t : (end : ℕ) → Alias
no_alias_t end = record { size = 0; start = end; field = no_parts; decl = no_parts; number = 0; operand = no_parts; value = 0 }

-- the number or the name that was noted
abbrev pub note_of : Noted → ℕ
note_of r = slice_index r.note 0

-- one of this many rows: the last of them comes first
unfoldable pub alias_of_t : (size value : ℕ) → List Noted → Alias
alias_of_t size value l =
    pick ((nth l (size - 2)).parts.code == 2)
    (pick (nat_lt (nth l (size - 2)).parts.x 2147483648) (no_alias_t (length l))
    (record {
      size = size;
      start = length l - size;
      field = (nth l (size - 1)).parts;
      decl = (nth l (size - 2)).parts;
      number = note_of (nth l (size - 2));
      operand = (nth l (size - 3)).parts;
      value = value;
    }))
    (no_alias_t (length l))

-- the one that comes next
unfoldable pub alias_before_t : List Noted → Alias
alias_before_t l =
    pick (nat_lt (length l) 4) (no_alias_t (length l))
    (pick ((nth l 0).parts.code == 9) (alias_of_t 4 (nth l 0).parts.x l)
    (pick ((nth l 0).parts.code == 5) (alias_of_t 3 (note_of (nth l 0)) l)
    (no_alias_t (length l))))

-- does the reference count to it, from the same place?
abbrev pub for_t : Alias → Parts → Bool
for_t a p = not (a.size == 0) && (a.decl.b == p.b && (a.decl.z == p.z && a.number == p.x))

-- does b go on with the path of a?
abbrev pub is_linked_t : (a b : Alias) → Bool
is_linked_t a b =
    not (a.size == 0)
    && (a.field.b == 9 && (b.field.b == 9 && (a.decl.b == 10 && (a.field.z == b.field.z && a.number == b.operand.x))))
