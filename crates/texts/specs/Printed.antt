-- What is told of a row beside its own words.
use Rattle.std.specs.Prelude.{Bool, ◌&&◌, eqb, leb}
use Rattle.parts.specs.declared.Parts.{Parts}

-- a DECL with a name that only the resolver gives
abbrev pub is_inserted : Parts → Bool
is_inserted row = eqb row.code 2 && leb 2147483648 row.x
