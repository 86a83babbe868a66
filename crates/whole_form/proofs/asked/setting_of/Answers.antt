-- `whole_form::asked::setting_of` meets its contract.
use borrow.Author.Rules.{rules}
use Rattle.whole_form.proofs.Ways.{asked_input}
use Rattle.whole_form.proofs.asked.setting_of.Goals as goal

pub returns : goal.returns
returns c = search (asked_input, rules)
