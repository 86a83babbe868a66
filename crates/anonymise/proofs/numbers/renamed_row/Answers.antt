-- `anonymise::numbers::renamed_row` meets its contract.
use Rattle.anonymise.proofs.Names.{numbers}
use Rattle.anonymise.proofs.numbers.renamed_row.Goals as goal

pub returns-in-Decl : goal.returns-in-Decl
returns-in-Decl c = search numbers

pub returns-in-Ref : goal.returns-in-Ref
returns-in-Ref c = search numbers

pub returns-in-Outer : goal.returns-in-Outer
returns-in-Outer c = search numbers

pub returns-in-Case : goal.returns-in-Case
returns-in-Case c = search numbers

pub returns-in-Open : goal.returns-in-Open
returns-in-Open c = search numbers

pub returns-in_default : goal.returns-in_default
returns-in_default c = search numbers
