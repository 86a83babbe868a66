-- Areas of the way back for a form of the setting at place i.
use Rattle.std.specs.Prelude.{◌≡◌, List, ℕ, ◌≤◌, length}
use Rattle.limits.specs.Held.{setting}
use Rattle.back_notes.specs.Note.{Note}
use Rattle.unresolve.specs.With.{input_size, output_size}
use Rattle.unresolve_with.specs.With.{notes_for}

-- of the very sizes that it takes
pub record Sized (i : ℕ) (r a : List ℕ) (n : List Note) : Type 0 where
  pub restored : length r ≡ input_size (setting i).version
  pub again : length a ≡ output_size (setting i).version
  pub noted : length n ≡ notes_for (setting i).version

-- large enough
pub record Roomy (i : ℕ) (r a : List ℕ) (n : List Note) : Type 0 where
  pub restored : input_size (setting i).version ≤ length r
  pub again : output_size (setting i).version ≤ length a
  pub noted : notes_for (setting i).version ≤ length n
