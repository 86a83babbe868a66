-- `mend_form::stays` meets its contract.
use Rattle.kit.proofs.Laws.{picks}
use Rattle.mend_form.proofs.Laws.{stays_all, stays_none, stays_export}
use Rattle.mend_form.specs.Filled.{stays_t}
use Rattle.mend_form.proofs.stays.Goals as goal

pub returns-in-1 : goal.returns-in-1
unfolding stays_t
returns-in-1 c = search picks

pub returns-in-2 : goal.returns-in-2
unfolding stays_t
returns-in-2 c = search picks

pub returns-in-4 : goal.returns-in-4
unfolding stays_t
returns-in-4 c = search picks

pub returns-in-6 : goal.returns-in-6
unfolding stays_t
returns-in-6 c = search picks

pub returns-in-7 : goal.returns-in-7
unfolding stays_t
returns-in-7 c = search picks

pub returns-in-8 : goal.returns-in-8
unfolding stays_t
returns-in-8 c = search (stays_none, picks)

pub returns-in-9 : goal.returns-in-9
unfolding stays_t
returns-in-9 c = search (stays_export, picks)

pub returns-in_default : goal.returns-in_default
unfolding stays_t
returns-in_default c = search (stays_all, picks)
