-- `moved_list::list_numbers` meets its contract. The invariant: with the entries of the rows that are left the lists are the whole ones.
use mathlib.Core.Path.{◌≡◌}
use Prim.Native.Nat.{◌-◌, ◌≤◌}
use lib.ListN.{length}
use Rattle.moved_list.specs.Listing.{entries_from, entries_in, noted, none}
use Rattle.moved_list.proofs.list_numbers.Given as goal

abbrev pub invariant-loop-row : goal.invariant-loop-row
invariant-loop-row l = (noted l.s l.moved l.apart (entries_from l.form l.out l.row (l.rows - l.row) l.at) ≡ noted none l.initial.moved l.initial.apart (entries_in l.form l.out)) × (length l.moved ≡ length l.initial.moved) × (length l.apart ≡ length l.initial.apart) × (l.s.moved ≤ l.row) × (l.s.apart ≤ l.row)
