-- `diff::run::list_forms` meets its contract.
use borrow.Author.Rules.{rules}
use Rattle.diff.proofs.Runs.{forms_listed}
use Rattle.diff.proofs.run.list_forms.Goals as goal

pub returns : goal.returns
returns c = search (forms_listed, rules)
