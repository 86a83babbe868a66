-- `read_row::on_decl` meets its contract.
use Rattle.read_row.proofs.Steps.{decl_else, decl_not, decl_more}
use borrow.Author.Rules.{rules}
use Rattle.read_row.proofs.on_decl.Goals as goal

pub returns-then-s-ne-DECLARING : goal.returns-then-s-ne-DECLARING
returns-then-s-ne-DECLARING c = search (decl_else, decl_not, decl_more, rules)

pub returns-then-not-may_declare : goal.returns-then-not-may_declare
returns-then-not-may_declare c = search (decl_else, decl_not, decl_more, rules)

pub returns : goal.returns
returns c = search (decl_else, decl_not, decl_more, rules)
