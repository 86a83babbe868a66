-- The way back for every setting in force, where the resolver's working areas are lent too: how large the areas are, what is answered,
-- and what is left in each buffer. The sizes go by the setting that the resolved form's header asks for.
use Rattle.std.specs.Prelude.{◌≡◌, Bool, ◌||◌, not, List, ℕ, ◌*◌, ltb, length}
use Rattle.rules.specs.Tools.{when◌then◌else◌}
use Rattle.rules.specs.Versions.{Version, all}
use Rattle.clearing.specs.Cleared.{cleared}
use Rattle.unresolving.specs.BackAnswer.{Returned, refused, back_answer, over}
use Rattle.back_notes.specs.Note.{Note, no_note}
use Rattle.resolver_with.specs.Areas.{Lent, roomy}
use Rattle.resolver_with.specs.Asked.{asked}
use Rattle.unresolve.specs.With.{input_size, output_size}

-- a note for each row of an output
abbrev pub notes_for : Version → ℕ
notes_for v = 4 * v.rows

-- how long the areas are that are lent: those of the way back, and those of the resolver
pub record Lengths : Type 0 where
  pub restored : ℕ
  pub again : ℕ
  pub noted : ℕ
  pub tables : Lent

-- the lengths of the areas that are lent
abbrev pub lengths_of : (restored again : List ℕ) (noted : List Note) → Lent → Lengths
lengths_of restored again noted tables =
    record { restored = length restored; again = length again; noted = length noted; tables = tables }

-- one of them is too small
unfoldable pub too_small : Version → Lengths → Bool
too_small v l = not (roomy v l.tables) || (ltb l.restored (input_size v) || (ltb l.again (output_size v) || ltb l.noted (notes_for v)))

-- ---- the answer: an area that is too small is refusal 3, ahead of all else

-- refusal 3 where an area is too small, else the rules' answer
unfoldable pub back_lent : (claim : List ℕ) (room : ℕ) → Lengths → Returned
back_lent claim room l = when too_small (asked claim).version l then refused 3 0 else back_answer all claim room

-- the output's bytes behind the result stay, and all of them after a refusal
unfoldable pub out_lent : (claim old : List ℕ) → Lengths → List ℕ
out_lent claim old l = over (back_lent claim (length old) l) old

-- ---- the areas of the way back: zero up to that size, and beyond as they were

-- the areas of the way back are handed back empty
pub record ClearedBack (v : Version) (r r' a a' : List ℕ) (n n' : List Note) : Type 0 where
  pub restored : r' ≡ cleared 0 (input_size v) r
  pub again : a' ≡ cleared 0 (output_size v) a
  pub noted : n' ≡ cleared no_note (notes_for v) n
