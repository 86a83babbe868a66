-- `mend::run::mend` meets its contract.
use mathlib.Core.Path.{sym}
use native.Mathlib.Omega.{arith}
use lib.Seq.{length-take-le}
use Rattle.mend.proofs.Agrees.{far_answers, far_leaves, far_lists, other_answers, other_leaves, other_lists, held_fits, held_few, held_long, made_answers, made_leaves, made_lists}
use borrow.Author.Rules.{rules}
use Rattle.mend.proofs.run.mend.Goals as goal

pub returns-then-buffer-long : goal.returns-then-buffer-long
returns-then-buffer-long c = search (far_answers, far_leaves, far_lists, rules)

pub slice_bounds-setting_for-end-2 : goal.slice_bounds-setting_for-end-2
slice_bounds-setting_for-end-2 c = sym (length-take-le _ _ (omega arith))

pub returns-then-i-ge-SETTINGS : goal.returns-then-i-ge-SETTINGS
returns-then-i-ge-SETTINGS c = search (other_answers, other_leaves, other_lists, rules)

pub mend_marked-requires : goal.mend_marked-requires
mend_marked-requires c = (search (held_fits, rules), search (held_few, rules), search rules, search (held_long, rules))

pub returns : goal.returns
returns c = search (made_answers, made_leaves, made_lists, rules)
