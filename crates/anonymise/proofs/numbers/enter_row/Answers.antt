-- `anonymise::numbers::enter_row` meets its contract.
use Rattle.anonymise.proofs.Names.{enters}
use Rattle.anonymise.proofs.numbers.enter_row.Goals as goal

pub enter_index-requires-in-Outer : goal.enter_index-requires-in-Outer
enter_index-requires-in-Outer c = search enters

pub returns-in-Decl : goal.returns-in-Decl
returns-in-Decl c = search enters

pub returns-in-Ref : goal.returns-in-Ref
returns-in-Ref c = search enters

pub returns-in-Outer : goal.returns-in-Outer
returns-in-Outer c = search enters

pub returns-in-Case : goal.returns-in-Case
returns-in-Case c = search enters

pub returns-in-Open : goal.returns-in-Open
returns-in-Open c = search enters

pub returns-in_default : goal.returns-in_default
returns-in_default c = search enters
