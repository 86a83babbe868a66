-- `scopes::lookup::follow` meets its contract.
use Rattle.scopes.proofs.FoundLaws.{found_ways}
use native.Mathlib.Omega.{arith}
use Rattle.scopes.proofs.TableLaws.{counts_below}
use Rattle.scopes.proofs.lookup.follow.Goals as goal

pub found_at-requires : goal.found_at-requires
found_at-requires c = counts_below _ _ _ _ c.requires.1 (omega arith)

pub returns : goal.returns
returns c = search found_ways
