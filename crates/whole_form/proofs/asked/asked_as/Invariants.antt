-- `whole_form::asked::asked_as` meets its contract. The invariant: what is asked for from here on is what is asked for.
use mathlib.Core.Path.{◌≡◌}
use Prim.Native.Nat.{◌-◌}
use lib.ListN.{drop}
use Rattle.rules.specs.Versions.{all}
use Rattle.whole_form.specs.Asked.{asked_from}
use Rattle.whole_form.proofs.asked.asked_as.Given as goal

abbrev pub invariant-loop-next : goal.invariant-loop-next
invariant-loop-next l = asked_from l.claim l.next (drop l.next all) l.form ≡ asked_from l.claim 0 all l.form

abbrev pub decreases-loop-next : goal.decreases-loop-next
decreases-loop-next l = 3 - l.next
