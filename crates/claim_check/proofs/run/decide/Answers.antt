-- `claim_check::run::decide` meets its contract.
use mathlib.Core.Path.{sym}
use native.Mathlib.Omega.{arith}
use lib.Seq.{length-take-le}
use Rattle.claim_check.proofs.Runs.{decide_slots, decide_links, decide_judge, kept_same, kept_front, fits}
use borrow.Author.Rules.{rules}
use Rattle.claim_check.proofs.run.decide.Goals as goal

pub returns-then-table-most : goal.returns-then-table-most
returns-then-table-most c = (search (decide_slots, rules), search (kept_same, rules), search (kept_same, rules))

pub returns-then-index-all : goal.returns-then-index-all
returns-then-index-all c = (search (decide_links, rules), search (kept_same, rules), search (kept_same, rules))

pub slice_bounds-judge-end-2 : goal.slice_bounds-judge-end-2
slice_bounds-judge-end-2 c = sym (length-take-le _ _ (omega arith))

pub slice_bounds-judge-end-4 : goal.slice_bounds-judge-end-4
slice_bounds-judge-end-4 c = sym (length-take-le _ _ (omega arith))

pub judge-requires : goal.judge-requires
judge-requires c = search (fits, rules)

pub returns : goal.returns
returns c = (search (decide_judge, rules), search (kept_front, rules), search (kept_front, rules))
