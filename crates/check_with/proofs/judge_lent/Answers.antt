-- `check_with::judge_lent` meets its contract.
use mathlib.Core.Path.{sym}
use native.Mathlib.Omega.{arith}
use lib.Seq.{length-take-le}
use Rattle.check_with.proofs.Ways.{claim_fits, claim_judged, front_cleared}
use borrow.Author.Rules.{rules}
use Rattle.check_with.proofs.judge_lent.Goals as goal

pub slice_bounds-judge_claim-end-2 : goal.slice_bounds-judge_claim-end-2
slice_bounds-judge_claim-end-2 c = sym (length-take-le _ _ (omega arith))

pub slice_bounds-judge_claim-end-4 : goal.slice_bounds-judge_claim-end-4
slice_bounds-judge_claim-end-4 c = sym (length-take-le _ _ (omega arith))

pub judge_claim-judged-requires : goal.judge_claim-judged-requires
judge_claim-judged-requires c = (search (claim_fits, rules), search rules)

pub returns : goal.returns
returns c = record { value = search (claim_judged, rules); table_after = (search (front_cleared, rules), search (front_cleared, rules)) }
