-- `diff::run::compare_as` meets its contract.
use borrow.Author.Rules.{rules}
use Rattle.diff.proofs.Agrees.{as_ways, whole_low, whole_some, whole_high, left_refused, right_refused}
use Rattle.diff.proofs.run.compare_as.Goals as goal

pub returns-in_err-read_claim : goal.returns-in_err-read_claim
returns-in_err-read_claim c =
    left_refused _ _ _ _ _ c.requires _ c.read_claim.ensures _ c.in_err-read_claim.was _ c.from_residual.ensures.1

pub returns-in_err-read_claim-2 : goal.returns-in_err-read_claim-2
returns-in_err-read_claim-2 c =
    right_refused _ _ _ _ _ c.requires _ c.read_claim.ensures _ c.in_ok-read_claim.was _ c.read_claim-2.ensures _ c.in_err-read_claim-2.was _ c.from_residual-in_err-read_claim-2.ensures.1

pub list_forms-requires : goal.list_forms-requires
list_forms-requires c =
    let left = c.in_ok-read_claim.was in
    let right = c.in_ok-read_claim-2.was in
    (search (whole_low, rules, left), search (whole_high, rules, left), search (whole_some, rules, right), search (whole_high, rules, right))

pub returns : goal.returns
returns c =
    let left = c.in_ok-read_claim.was in
    let right = c.in_ok-read_claim-2.was in
    search (as_ways, left, right)
