-- `claim_check::run::check` meets its contract.
use Rattle.claim_check.proofs.Agrees.{checked, table_cleared, index_cleared}
use borrow.Author.Rules.{rules}
use Rattle.claim_check.proofs.run.check.Goals as goal

pub returns : goal.returns
returns c = let form = c.args.form.now in
    let all = c.shared_slice_known-1.given in
    (search (checked form all, rules), search (table_cleared, rules), search (index_cleared, rules))
