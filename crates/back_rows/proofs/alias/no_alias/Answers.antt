-- `back_rows::alias::no_alias` meets its contract.
use Rattle.back_rows.proofs.Ways.{none_is}
use Rattle.std.proofs.Common.{rules}
use Rattle.back_rows.proofs.alias.no_alias.Goals as goal

pub returns : goal.returns
returns c = search (none_is, rules)
