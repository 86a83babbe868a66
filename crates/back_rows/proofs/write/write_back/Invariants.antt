-- `back_rows::write::write_back` meets its contract.
use Rattle.std.proofs.Common.{◌≡◌, ◌/◌, length}
use Rattle.back_rows.specs.Below.{below}
use Rattle.back_rows.specs.Write.{cursor_at, start_t, write_back_t}
use Rattle.back_rows.proofs.write.write_back.Given as goal

abbrev pub invariant-loop-i : goal.invariant-loop-i
invariant-loop-i l = (write_back_t (below l.rows l.noted l.i) (cursor_at l.rows l.noted l.c) l.out ≡ write_back_t (below l.rows l.noted (length l.rows / 16)) (start_t (length l.initial.out / 16)) l.initial.out) × (length l.out ≡ length l.initial.out)
