-- The answers to the slots of a sheet, as the code writes them.
use Rattle.std.specs.Prelude.{List, ◌++◌, map, ℕ, ◌+◌, ◌*◌}
use Rattle.std.proofs.lemmas.List.Edits.{sets}
use Rattle.kit.specs.Out.{Out, ◌&◌}
use Rattle.rules.specs.Rows.{bytes}
use Rattle.binding.specs.Sheet.{Slot, as_written, elsewhere, no_reference, several, failing, slots, answers_bytes}
use Rattle.binding.specs.Sheet as rules
use Rattle.bound.specs.Bound.{binding_of}
use Rattle.bound.specs.declared.Binding.{Binding}
use Rattle.bound.specs.declared.Binding.TheVariants.{AsWritten, Elsewhere, NoReference, Several}

-- the rules' answer for each of the code's
abbrev pub ruled : Binding → rules.Binding
ruled AsWritten = as_written
ruled (Elsewhere row) = elsewhere row
ruled NoReference = no_reference
ruled Several = several

unfoldable pub answer_to : (form : List ℕ) → Slot → rules.Binding
answer_to form slot = ruled (binding_of form slot.place slot.name)

-- the two numbers of an answer
unfoldable pub pair_bytes : (kind row : ℕ) → List ℕ
pair_bytes kind row = bytes 4 kind ++ bytes 4 row

-- further answers behind the first n: how many slots fail then, and what the buffer holds
unfoldable pub noted : (n so_far : ℕ) (old : List ℕ) → List rules.Binding → Out ℕ (List ℕ)
noted n so_far old bs = so_far + failing bs & sets old (8 * n) (answers_bytes bs)

-- writes an answer for each slot of a sheet on the rows of a resolved form, behind a header of eight bytes, and says how many slots are not bound as written
unfoldable pub answered : (form sheet old : List ℕ) → Out ℕ (List ℕ)
answered form sheet old = noted 0 0 old (map (answer_to form) (slots sheet))
