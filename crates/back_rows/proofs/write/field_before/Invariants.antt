-- `back_rows::write::field_before` meets its contract.
use Rattle.std.proofs.Common.{◌≡◌}
use Rattle.back_rows.specs.Write.{field_before_t}
use Rattle.back_rows.proofs.write.field_before.Given as goal

abbrev pub invariant-loop-k : goal.invariant-loop-k
invariant-loop-k l = field_before_t l.rows l.k ≡ field_before_t l.rows l.i
