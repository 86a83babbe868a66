-- The run as the code takes it, under one setting.
use Rattle.std.specs.Prelude.{◌≡◌, true, List, ℕ, ◌+◌, ◌*◌, ◌/◌, ◌≤◌, length, take, drop}
use Rattle.kit.specs.Out.{Out, ◌&◌}
use Rattle.rules.specs.Versions.{Setting}
use Rattle.checking.specs.CheckAnswer.{slots_of, links_of}
use Rattle.limits.specs.Held.{setting}
use Rattle.form.specs.MarkEnds.{ends_to}
use Rattle.names.specs.Table.{Slot}
use Rattle.mark.specs.MarkedRows.{mark_rows_t}
use Rattle.resolver.specs.Run.{Ran, walk_in, fill_t, before}
use Rattle.resolver_with.specs.Areas.{slots_for, Lent, roomy}
use Rattle.resolver_with.specs.Asked.{asked}
use Rattle.share_laws.specs.Relaxed.{relaxed}
use Rattle.share_with.specs.With.{bytes_for}

-- ---- the proposal

unfoldable pub walk_over : Setting → (ends : List ℕ) (names : List Slot) (front : List ℕ) → Out (List Slot) (List ℕ) → Ran
walk_over s ends names front (table & marked) = fill_t s (walk_in (relaxed s) marked ends table names) front

-- the rows of a form are marked, and the steps run on them, into its share of the output
unfoldable pub walked_in : Setting → (rows marked ends : List ℕ) (entered names : List Slot) (front : List ℕ) → Ran
walked_in s rows marked ends entered names front =
    let noted = ends_to s.version.scopes rows ends in
    walk_over s noted names front (mark_rows_t rows noted entered (take (length rows) marked))

-- in the fronts of the areas; what stands beyond that share stays
unfoldable pub propose_with : Setting → (form out marked ends : List ℕ) (entered names : List Slot) → Ran
propose_with s form out marked ends entered names =
    let v = s.version in
    let body = drop v.header form in
    let size = v.header + 64 * (length body / 16) in
    let slots = slots_for v in
    before (walked_in s body (take (bytes_for v) marked) (take slots ends) (take slots entered) (take slots names) (take size out)) (drop size out)

-- ---- the areas

-- a table that has an index for its slots
pub record Linked (slots links : ℕ) : Type 0 where
  pub links_are : links ≡ slots + slots
  pub few : slots ≤ 16384

-- areas of these lengths are large enough for a form that asks for the setting at place i
pub record Fit (i : ℕ) (form : List ℕ) (bytes slots links : ℕ) (lent : Lent) : Type 0 where
  pub asks : setting i ≡ asked form
  pub bytes_large : bytes_for (setting i).version ≤ bytes
  pub slots_large : slots_of (setting i).version ≤ slots
  pub links_large : links_of (setting i).version ≤ links
  pub lent_large : roomy (asked form).version lent ≡ true
