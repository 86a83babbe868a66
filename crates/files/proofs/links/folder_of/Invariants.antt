-- `files::links::folder_of` meets its contract. The invariant: the search from here answers what the search from the end does.
use mathlib.Core.Path.{◌≡◌}
use Prim.Native.Nat.{◌≤◌}
use lib.ListN.{length}
use Rattle.files.specs.Paths.{slash_in, folder_of}
use Rattle.files.proofs.links.folder_of.Given as goal

abbrev pub invariant-loop-end : goal.invariant-loop-end
invariant-loop-end l = (slash_in l.path l.end ≡ folder_of l.path) × (l.end ≤ length l.path)

abbrev pub decreases-loop-end : goal.decreases-loop-end
decreases-loop-end l = l.end
