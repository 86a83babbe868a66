-- `whole_form::header::put_header` meets its contract. The invariant: with what is left to write, the output is as it must be.
use mathlib.Core.Path.{refl}
use borrow.Author.Rules.{rules}
use Rattle.copy.proofs.Laws.{copy_full}
use Rattle.whole_form.proofs.Headers.{header_end, header_turn}
use Rattle.whole_form.proofs.header.put_header.Goals as goal

pub loop-i-init : goal.loop-i-init
loop-i-init c = (refl, refl)

pub returns-then-out-i : goal.returns-then-out-i
returns-then-out-i c = search (copy_full, rules)

pub loop-i-preserved : goal.loop-i-preserved
loop-i-preserved c = (search (header_turn, rules), search rules)

pub returns : goal.returns
returns c = search (header_end, rules)
