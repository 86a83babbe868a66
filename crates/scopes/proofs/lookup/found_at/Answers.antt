-- `scopes::lookup::found_at` meets its contract.
use Rattle.scopes.proofs.TableLaws.{counts_below}
use Rattle.scopes.proofs.FoundLaws.{found_ways}
use native.Mathlib.Omega.{arith}
use Rattle.scopes.proofs.lookup.found_at.Goals as goal

pub returns-in_err-row : goal.returns-in_err-row
returns-in_err-row c = search (found_ways, c.in_err-row.ensures)

pub number_at-requires : goal.number_at-requires
number_at-requires c = counts_below _ _ _ _ c.requires (omega (arith, c.in_ok-row.ensures))

pub returns : goal.returns
returns c = search (found_ways, c.in_ok-row.ensures)
