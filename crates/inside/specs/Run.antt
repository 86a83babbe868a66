-- The walk and the run of a form inside a root whose rows are given.
use Rattle.std.specs.Prelude.{◌≡◌, List, ℕ, ◌*◌, ◌≤◌, length, Result}
use Rattle.kit.specs.Out.{Out, ◌&◌}
use Rattle.rules.specs.Versions.{Version, Setting}
use Rattle.rules.specs.Tree.{Scope, flatten}
use Rattle.rules.specs.Readings.{fields_of}
use Rattle.batching.specs.Batch.{root_of, inside_answer, inside_output}
use Rattle.parts.specs.PartsAt.{parts_at}
use Rattle.names.specs.Table.{Slot}
use Rattle.write.specs.WriteState.{Wrote}
use Rattle.claim_rows.specs.Left.{rows_at}
use Rattle.claim_laws.specs.RowParts.{all_parts}
use Rattle.agree.specs.Fit.Spaces.{Spaces}
use Rattle.prelude_root.specs.Root.{root_t}
use Rattle.resolver.specs.Meaning.{meaning, ruled}
use Rattle.member_laws.specs.Within.{walk_inside}
use Rattle.refusal.specs.declared.Refused.{Refused}

-- ---- the walk

-- behind the root's declarations, which were entered in the table
unfoldable pub walk_behind : Setting → Out ℕ (List Slot) → (name : ℕ) (rows ends : List ℕ) (entered : List Slot) (out : List ℕ) → Wrote
walk_behind s (used & names) name rows ends entered out = walk_inside s name used rows ends entered names out

-- the walk inside the root whose rows are `root`: its declarations come first in the table of names, which has room for as many and for the form's
unfoldable pub walk_around : Setting → (root rows ends : List ℕ) (entered names : List Slot) (out : List ℕ) → Wrote
walk_around s root rows ends entered names out = walk_behind s (root_t names (rows_at root 0)) (parts_at root 0).x rows ends entered out

-- ---- the run

-- these bytes are the rows of a tree whose root has no more declarations than a form of this version may have rows
pub record RootIn (v : Version) (t : Scope) (root : List ℕ) : Type 0 where
  pub rows : rows_at root 0 ≡ all_parts (flatten t)
  pub name : (parts_at root 0).x ≡ (root_of t).name
  pub spaces : Spaces (fields_of t)
  pub few : length (root_of t).entries ≤ v.rows
  pub short : length (flatten t) ≤ 4 * v.rows

-- inside whatever root these rows are, the answer and the output are the rules'
abbrev pub Resolves : Setting → (root form old new : List ℕ) → Result ℕ Refused → Type 0
Resolves s root form old new a =
    (t : Scope) → RootIn s.version t root → (meaning a ≡ ruled (inside_answer s (root_of t) form (length old))) × (new ≡ inside_output s (root_of t) form old)
