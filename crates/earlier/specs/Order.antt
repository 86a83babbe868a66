-- The order that the component model's explainer asks for, on a tree alone: a definition stands before what refers to it.
-- Every field counts, as in `Explainer`.
use Rattle.std.specs.Prelude.{◌≡◌, List, [], ◌∷◌, ◌++◌, ℕ, ◌<◌}
use Rattle.std.proofs.Math.Option.{Option, none}
use Rattle.std.proofs.Math.ListN.{get_elem?}
use Rattle.rules.specs.Readings.{Level}
use Rattle.rules.specs.Explainer.{Definition, index_space}

-- `steps` lead from the root to a field: the field that holds the next component, and so on, and last its own number. The component of the
-- definition `d` lies on that way, and `d` stands there before the field that the steps go through: the field itself, or the one that
-- holds the component in which it stands.
pub record StandsBefore (d : Definition) (steps : List ℕ) : Type 0 where
  pub through : ℕ
  pub rest : List ℕ
  pub towards : steps ≡ d.way ++ (through ∷ rest)
  pub earlier : d.field < through

-- the definition that a reference by number denotes: it counts those of its sort in the current component, all of them, in their order
unfoldable pub counts_to : (around : List Level) (sort index : ℕ) → Option Definition
counts_to [] sort index = none
counts_to (l ∷ ls) sort index = get_elem? (index_space l.way sort 0 l.fields) index
