-- `share::is_output` meets its contract.
use borrow.Author.Rules.{rules}
use Rattle.share.proofs.Agrees.{said_yes_lem}
use Rattle.share.proofs.is_output.Goals as goal

pub returns : goal.returns
returns c = (search (said_yes_lem, rules), search rules, search rules)
