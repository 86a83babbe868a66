-- Rows that stand in bytes one after another, and rows that are written one after another.
use Rattle.std.specs.Prelude.{◌≡◌, List, [], ◌∷◌, ℕ, ◌+◌, ◌*◌, ◌/◌, ◌<◌, length, take, drop}
use Rattle.std.proofs.Math.Option.{some}
use Rattle.kit.specs.Out.{Out, ◌&◌}
use Rattle.rules.specs.Rows.{Row, encode_row}
use Rattle.rows.specs.RowAt.{taken, row_at}
use Rattle.put.specs.Put.{put_row}
use Rattle.write.specs.WriteState.{put_then}

-- one row: it is there, it is read as that row, and its bytes are the row's
pub record Is (bytes : List ℕ) (p : ℕ) (row : Row) : Type 0 where
  pub there : p < length bytes / 16
  pub reads : row_at bytes p ≡ taken (some row)
  pub holds : take 16 (drop (16 * p) bytes) ≡ encode_row row

-- the rows from place p on
unfoldable pub At : (bytes : List ℕ) (p : ℕ) → List Row → Type 0
At bytes p [] = Unit {0}
At bytes p (row ∷ rows) = Is bytes p row × At bytes (p + 1) rows

-- rows written from place `to` on: how many stand there then, and the bytes
unfoldable pub put_all : (out : List ℕ) (to : ℕ) → List Row → Out ℕ (List ℕ)
put_all out to [] = to & out
put_all out to (row ∷ rows) = put_then (put_row out to (taken (some row))) λ to' out'. put_all out' to' rows
