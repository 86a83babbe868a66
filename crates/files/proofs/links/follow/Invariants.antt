-- `files::links::follow` is safe. The invariant: the buffer keeps its length.
use Rattle.std.specs.Prelude.{◌≡◌, length}
use Rattle.files.proofs.links.follow.Given as goal

abbrev pub invariant-loop : goal.invariant-loop
invariant-loop l = length l.path ≡ length l.initial.path
