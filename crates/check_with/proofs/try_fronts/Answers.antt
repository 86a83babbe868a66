-- `check_with::try_fronts` meets its contract.
use mathlib.Core.Path.{sym}
use native.Mathlib.Omega.{arith}
use lib.Seq.{length-take-le}
use Rattle.claim_check.proofs.Runs.{kept_front}
use Rattle.check_with.proofs.Ways.{entered_long, names_long, known_long, chains_long, ends_long, fronts_suit}
use borrow.Author.Rules.{rules}
use Rattle.check_with.proofs.try_fronts.Goals as goal

pub slice_bounds-try_input-end-2 : goal.slice_bounds-try_input-end-2
slice_bounds-try_input-end-2 c = sym (length-take-le _ _ (omega arith))

pub slice_bounds-try_input-end-4 : goal.slice_bounds-try_input-end-4
slice_bounds-try_input-end-4 c = sym (length-take-le _ _ (omega arith))

pub slice_bounds-try_input-end-6 : goal.slice_bounds-try_input-end-6
slice_bounds-try_input-end-6 c = sym (length-take-le _ _ (omega arith))

pub slice_bounds-try_input-end-8 : goal.slice_bounds-try_input-end-8
slice_bounds-try_input-end-8 c = sym (length-take-le _ _ (omega arith))

pub slice_bounds-try_input-end-10 : goal.slice_bounds-try_input-end-10
slice_bounds-try_input-end-10 c = sym (length-take-le _ _ (omega arith))

pub try_input-requires : goal.try_input-requires
try_input-requires c = search (fronts_suit, rules)

pub returns : goal.returns
returns c = record { value = search rules; kept = (search (kept_front, entered_long, rules), search (kept_front, names_long, rules), search (kept_front, known_long, rules), search (kept_front, chains_long, rules), search (kept_front, ends_long, rules)) }
