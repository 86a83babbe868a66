-- Bytes that are a header of version 1 and just the rows that it counts.
use Rattle.std.specs.Prelude.{Bool, ◌&&◌, List, ℕ, ltb}
use Rattle.row_parts.specs.Parts as parts

-- and of these at least one
unfoldable pub is_whole : List ℕ → Bool
is_whole form = parts.has_header form && parts.is_whole form && ltb 0 (parts.rows_in form)
