-- `read_row::wanting` meets its contract.
use Rattle.read_row.proofs.Steps.{want_not, want_done, want_paths}
use borrow.Author.Rules.{rules}
use Rattle.read_row.proofs.wanting.Goals as goal

pub returns-then-left-lt-NOTHING : goal.returns-then-left-lt-NOTHING
returns-then-left-lt-NOTHING c = search (want_not, want_done, want_paths, rules)

pub returns-then-paths-eq0 : goal.returns-then-paths-eq0
returns-then-paths-eq0 c = search (want_not, want_done, want_paths, rules)

pub returns : goal.returns
returns c = search (want_not, want_done, want_paths, rules)
