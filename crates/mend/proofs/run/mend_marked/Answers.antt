-- `mend::run::mend_marked` meets its contract.
use mathlib.Core.Path.{sym}
use native.Mathlib.Omega.{arith}
use lib.Seq.{length-take-le}
use Rattle.mend.proofs.Ways.{fits_first, kept_fits, made_none, made_many, made_whole}
use borrow.Author.Rules.{rules}
use Rattle.mend.proofs.run.mend_marked.Goals as goal

pub slice_bounds-kept_of-end-2 : goal.slice_bounds-kept_of-end-2
slice_bounds-kept_of-end-2 c = sym (length-take-le _ _ (omega arith))

pub kept_of-kept-requires : goal.kept_of-kept-requires
kept_of-kept-requires c = search (fits_first, rules)

pub returns-then-rows-eq0 : goal.returns-then-rows-eq0
returns-then-rows-eq0 c = search (made_none, rules)

pub returns-then-limits-rows : goal.returns-then-limits-rows
returns-then-limits-rows c = search (made_many, rules)

pub mend_to-requires : goal.mend_to-requires
mend_to-requires c = record { wide_bound = (search rules, search rules, search (kept_fits, rules), search rules); kept_value = search rules }

pub returns : goal.returns
returns c = search (made_whole, rules)
