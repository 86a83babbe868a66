-- `rows::row::decl_of` meets its contract.
use Rattle.rows.specs.FromParts.{decl_of}
use Rattle.rows.proofs.Laws.{passed, failed}
use borrow.Author.Rules.{rules}
use Rattle.rows.proofs.row.decl_of.Goals as goal

pub returns-then-is_decl : goal.returns-then-is_decl
unfolding decl_of
returns-then-is_decl c = search (passed, rules)

pub returns-else-is_decl : goal.returns-else-is_decl
unfolding decl_of
returns-else-is_decl c = search (failed, rules)
