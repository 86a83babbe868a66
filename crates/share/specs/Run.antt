-- The run as the code takes it.
use Rattle.std.specs.Prelude.{◌≡◌, Bool, true, false, List, ℕ, ◌+◌, ◌*◌, ◌/◌, ◌≤◌, length, take, drop, replicate}
use Rattle.kit.specs.Out.{Out, ◌&◌}
use Rattle.rules.specs.Versions.{Setting}
use Rattle.rules.specs.Rows.{Row}
use Rattle.rules.specs.Answer.{accepted, answer, output}
use Rattle.checking.specs.Check.{Verdict, yes, no, refused}
use Rattle.limits.specs.Held.{setting}
use Rattle.form.specs.MarkEnds.{ends_t}
use Rattle.names.specs.Table.{Slot}
use Rattle.mark.specs.MarkedRows.{mark_rows_t}
use Rattle.resolver.specs.Meaning.{meaning, ruled}
use Rattle.resolver.specs.Run as resolver
use Rattle.resolver.specs.Run.{no_slots, no_ends, walk_in, walk_t, fill_t, before}
use Rattle.claim_check.specs.Meaning as checked
use Rattle.share_laws.specs.Relaxed.{relaxed}
use Rattle.share.specs.declared.Own.{Own}

-- ---- the proposal

-- the marked rows, without the table
unfoldable pub rows_of : Out (List Slot) (List ℕ) → List ℕ
rows_of (table & marked) = marked

-- the walk over marked rows of a form of this setting, into its share of the output; what stands beyond that share stays
unfoldable pub propose_in : Setting → (marked ends : List ℕ) (entered names : List Slot) (form out : List ℕ) → resolver.Ran
propose_in s marked ends entered names form out =
    let size = s.version.header + 64 * (length (drop s.version.header form) / 16) in
    before (fill_t s (walk_in (relaxed s) marked ends entered names) (take size out)) (drop size out)

-- the rows of a form of version 1, marked: the tables start empty
unfoldable pub mark_t : (rows marked : List ℕ) → List ℕ
mark_t rows marked = rows_of (mark_rows_t rows (ends_t rows no_ends) no_slots marked)

-- the walk over them, into the form's share of the output
unfoldable pub walked_t : (rows marked front : List ℕ) → resolver.Ran
walked_t rows marked front = fill_t (setting 0) (walk_t (mark_t rows (take (length rows) marked))) front

-- room for the rows of any form of version 1
unfoldable pub no_rows : List ℕ
no_rows = replicate 16368 0

-- what stands beyond that share stays
unfoldable pub propose_t : (form out : List ℕ) → resolver.Ran
propose_t form out =
    let body = drop 8 form in
    let size = 8 + 64 * (length body / 16) in
    before (walked_t body no_rows (take size out)) (drop size out)

-- a form of this setting, for whose share there is room
pub record Roomy (s : Setting) (form out : List ℕ) : Type 0 where
  pub rows : ℕ
  pub long : length form ≡ s.version.header + 16 * rows
  pub few : rows ≤ s.version.rows
  pub room : s.version.header + 64 * rows ≤ length out

-- ---- the check

-- whether it accepts
unfoldable pub is_yes : Verdict → Bool
is_yes yes = true
is_yes (no condition row) = false
is_yes (refused number place carried) = false

-- what the code says
abbrev pub said_yes : checked.Said → Bool
said_yes checked.yes = true
said_yes (checked.no condition row) = false
said_yes (checked.refused number place) = false

-- areas that are large enough for it
pub record Large (slots links : ℕ) : Type 0 where
  pub slots_large : 2046 ≤ slots
  pub links_large : 3070 ≤ links

-- what the resolver left for a form that it accepts
pub record Resolved (settings : List Setting) (form out : List ℕ) : Type 0 where
  pub old : List ℕ
  pub own : List Row
  pub accepts : answer settings form (length old) ≡ accepted own
  pub left : out ≡ output settings form old

-- what it answers and leaves
pub record Ran (settings : List Setting) (form old new : List ℕ) (own : Own) : Type 0 where
  pub answers : meaning own.answer ≡ ruled (answer settings form (length old))
  pub leaves : new ≡ output settings form old
  pub numbered : own.number ≡ (meaning own.answer).plain.number
