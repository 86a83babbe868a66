-- `member::member` meets its contract.
use mathlib.Core.Path.{sym}
use native.Mathlib.Omega.{arith}
use lib.Seq.{length-take-le}
use Rattle.member.proofs.Ways.{member_returns}
use Rattle.member.proofs.member.Goals as goal

pub slice_bounds-resolve_member-end-2 : goal.slice_bounds-resolve_member-end-2
slice_bounds-resolve_member-end-2 c = sym (length-take-le _ _ (omega arith))

pub returns-clause-place_value : goal.returns-clause-place_value
returns-clause-place_value c = search member_returns

pub returns-clause-out_after : goal.returns-clause-out_after
returns-clause-out_after c = search member_returns

pub returns-clause-work_after : goal.returns-clause-work_after
returns-clause-work_after c = search member_returns
