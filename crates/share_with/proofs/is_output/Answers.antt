-- `share_with::is_output` meets its contract.
use Rattle.share.proofs.Agrees.{said_yes_lem}
use borrow.Author.Rules.{rules}
use Rattle.share_with.proofs.is_output.Goals as goal

pub returns : goal.returns
returns c = record { value = search (said_yes_lem, rules); table_after = search rules; cleared = search rules }
