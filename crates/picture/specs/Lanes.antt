-- When arcs need lanes of their own.
use Rattle.std.specs.Prelude.{Bool, ◌&&◌, leb}
use Rattle.picture.specs.declared.lanes.Span.{Span}

-- neither ends before the other begins
abbrev pub overlap : (one other : Span) → Bool
overlap one other = leb one.first other.last && leb other.first one.last
