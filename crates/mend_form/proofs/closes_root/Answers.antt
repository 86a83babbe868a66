-- `mend_form::closes_root` meets its contract.
use borrow.Author.Rules.{rules}
use Rattle.mending.specs.Mend.{closes_root}
use Rattle.mend_form.proofs.closes_root.Goals as goal

pub returns : goal.returns
unfolding closes_root
returns c = search rules
