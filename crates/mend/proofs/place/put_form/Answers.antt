-- `mend::place::put_form` meets its contract.
use Rattle.mend.proofs.InPlace.{form_put}
use borrow.Author.Rules.{rules}
use Rattle.mend.proofs.place.put_form.Goals as goal

pub returns : goal.returns
returns c = search (form_put, rules)
