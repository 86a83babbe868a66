-- The run as the code takes it.
use Rattle.std.specs.Prelude.{Bool, false, List, ℕ, eqb, Result, Err}
use Rattle.std.proofs.Math.Option.{Option, none, some}
use Rattle.kit.specs.Pick.{pick}
use Rattle.rules.specs.Answer.{same_numbers}
use Rattle.binding.specs.Sheet.{Run}
use Rattle.resolver.specs.Meaning.{Numbers}
use Rattle.refusal.specs.declared.Refusal.{Refusal}

-- document 01's refusal of that number
abbrev pub refused_t : (number : ℕ) → Result ℕ Refusal
refused_t number = Err (record { number = number; place = 0 })

-- how many rows an answer says were written, 0 for a refusal
unfoldable pub rows_written : Numbers → ℕ
rows_written n = pick (eqb n.number 0) n.place 0

-- whether these are the bytes of the run, if there is one
unfoldable pub is_output : Option Run → List ℕ → Bool
is_output none resolved = false
is_output (some run) resolved = same_numbers resolved run.bytes
