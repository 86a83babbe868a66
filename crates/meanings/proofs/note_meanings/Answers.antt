-- `meanings::note_meanings` meets its contract.
use Rattle.scopes.proofs.ChainLaws.{chains_none}
use Rattle.meanings.proofs.EntryLaws.{noted_ways}
use borrow.Author.Rules.{rules}
use Rattle.meanings.proofs.note_meanings.Goals as goal

pub returns-then-rows_in-gt-MOST : goal.returns-then-rows_in-gt-MOST
returns-then-rows_in-gt-MOST c = search noted_ways

pub note_numbers-requires : goal.note_numbers-requires
note_numbers-requires c = (search rules, chains_none _ _ 8192, search rules, search rules, search rules)

pub note_chains-requires : goal.note_chains-requires
note_chains-requires c = (search rules, search rules, chains_none _ _ 8192, search rules, search rules)

pub note_chains-requires-2 : goal.note_chains-requires-2
note_chains-requires-2 c = (search rules, search rules, chains_none _ _ 8192, search rules, search rules)

pub returns : goal.returns
returns c = search noted_ways
