-- The ways through the code: each law is one unfolding of a definition, with the facts in the form in which the code gives them.
use mathlib.Core.Path.{◌≡◌, refl}
use mathlib.Core.Bool.{Bool, true, false}
use mathlib.Core.List.{List}
use Prim.Native.Nat.{ℕ, ◌≤◌, ◌<◌}
use borrow.Author.Rules.{rules}
use lib.IntN.{pos}
use Rattle.kit.proofs.Laws.{yes!, no!, tests}
use Rattle.files.specs.Paths.{is_dash}
use Rattle.command.specs.Status.{worse_of, talk_beside}

module _ (one other : ℕ) where
  pub worse_other : one < other → other ≡ worse_of one other
  unfolding worse_of
  worse_other h = yes! _ (omega tests) refl

  pub worse_one : other ≤ one → one ≡ worse_of one other
  unfolding worse_of
  worse_one h = no! _ (omega tests) refl

module _ (path : List ℕ) (b : Bool) (dash : b ≡ is_dash path) where
  pub talk_error : b ≡ true → pos 2 ≡ talk_beside path
  unfolding talk_beside
  talk_error h = yes! _ (rw (← dash) h) refl

  pub talk_out : b ≡ false → pos 1 ≡ talk_beside path
  unfolding talk_beside
  talk_out h = no! _ (rw (← dash) h) refl

pub ruleset ways = (worse_other, worse_one, talk_error, talk_out, rules)
