-- `member::resolve_member` meets its contract.
use Rattle.member.proofs.Ways.{told_low, told_answers, told_stays, inside_answers, inside_leaves}
use borrow.Author.Rules.{rules}
use Rattle.member.proofs.resolve_member.Goals as goal

pub of_prelude-requires : goal.of_prelude-requires
of_prelude-requires c = search (told_low, rules)

pub returns-then-of-ne0 : goal.returns-then-of-ne0
returns-then-of-ne0 c = (search (told_answers, rules), search (told_stays, rules))

pub returns : goal.returns
returns c = (search (inside_answers, rules), search (inside_leaves, rules))
