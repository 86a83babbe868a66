-- Which bytes begin as a form of version 2 does.
use Rattle.std.specs.Prelude.{Bool, List, ℕ}
use Rattle.form_bytes.specs.Begins.{begins_as}

-- whether bytes begin as a form of version 2 does
abbrev pub is_second : List ℕ → Bool
is_second bytes = begins_as bytes 2
