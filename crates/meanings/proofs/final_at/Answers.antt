-- `meanings::final_at` meets its contract.
use Rattle.meanings.proofs.EntryLaws.{final_ways}
use Rattle.meanings.proofs.final_at.Goals as goal

pub returns-then-is_inserted_outer : goal.returns-then-is_inserted_outer
returns-then-is_inserted_outer c = search (final_ways, c.in_ok-meaning.was)

pub returns-else-is_inserted_outer : goal.returns-else-is_inserted_outer
returns-else-is_inserted_outer c = search final_ways

pub returns-in_err-meaning : goal.returns-in_err-meaning
returns-in_err-meaning c = search final_ways
