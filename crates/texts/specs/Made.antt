-- What is answered of a text once what is wrong with it was said.
use Rattle.std.specs.Prelude.{List, ℕ, Option, Some, None, Result, Ok, Err}
use Rattle.kit.specs.Out.{Out, ◌&◌}
use Rattle.text.specs.declared.Wrong.{Wrong}

-- makes the form that a text spells
unfoldable pub made : Out (Result ℕ Wrong) (List ℕ) → Out (Option ℕ) (List ℕ)
made (Ok rows & out) = Some rows & out
made (Err wrong & out) = None & out
