-- `anonymise::run::anonymise` meets its contract.
use borrow.Author.Rules.{rules}
use Rattle.anonymise.proofs.Agrees.{long_enough, short_enough, promised_bad, promised_run}
use Rattle.anonymise.proofs.run.anonymise.Goals as goal

pub returns-in_err-header_of : goal.returns-in_err-header_of
returns-in_err-header_of c = promised_bad _ _ _ _ c.header_of.ensures _ c.in_err-header_of.was _ c.from_residual.ensures.1

pub run-requires : goal.run-requires
run-requires c = search (long_enough, short_enough, rules, c.in_ok-header_of.was)

pub returns : goal.returns
returns c = promised_run _ _ _ _ c.header_of.ensures _ c.in_ok-header_of.was _ _ _ c.run.ensures
