-- `scopes::lookup::find_known` meets its contract.
use Rattle.scopes.proofs.FoundLaws.{key_ways}
use borrow.Author.Rules.{rules}
use Rattle.scopes.proofs.lookup.find_known.Goals as goal

pub follow-requires : goal.follow-requires
follow-requires c = (search rules, search rules, search key_ways, search key_ways, search rules, search key_ways)

pub follow-requires-in-Number : goal.follow-requires-in-Number
follow-requires-in-Number c = (search rules, search rules, search key_ways, search key_ways, search rules, search key_ways)
