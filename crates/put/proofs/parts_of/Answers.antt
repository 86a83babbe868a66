-- `put::parts_of` meets its contract.
use Rattle.put.proofs.Laws.{parts_ways}
use Rattle.put.proofs.parts_of.Goals as goal

pub returns-in-Field : goal.returns-in-Field
returns-in-Field c = search parts_ways

pub returns-in-Decl : goal.returns-in-Decl
returns-in-Decl c = search parts_ways

pub returns-in-Ref : goal.returns-in-Ref
returns-in-Ref c = search parts_ways

pub returns-in-Path : goal.returns-in-Path
returns-in-Path c = search parts_ways

pub returns-in-Outer : goal.returns-in-Outer
returns-in-Outer c = search parts_ways

pub returns-in-Case : goal.returns-in-Case
returns-in-Case c = search parts_ways

pub returns-in-Open : goal.returns-in-Open
returns-in-Open c = search parts_ways

pub returns-in-Close : goal.returns-in-Close
returns-in-Close c = search parts_ways

pub returns-in-Export : goal.returns-in-Export
returns-in-Export c = search parts_ways

pub returns-in-Broken : goal.returns-in-Broken
returns-in-Broken c = search parts_ways
