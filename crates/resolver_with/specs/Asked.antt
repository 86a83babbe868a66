-- Which setting a header asks for, of all that there are: both versions and both rule sets. By it go the sizes of the areas that are lent.
use Rattle.std.specs.Prelude.{List, [], ◌∷◌, ℕ}
use Rattle.rules.specs.Tools.{when◌then◌else◌}
use Rattle.rules.specs.Versions.{Setting, version1, today, all}
use Rattle.rules.specs.Answer.{has_header}

-- the first of all settings: version 1 with rule set 0
abbrev pub first : Setting
first = record { version = version1; rules = today }

-- the setting that a header asks for, of these; the first where it asks for none of them
unfoldable pub asked_in : List Setting → (input : List ℕ) → Setting
asked_in [] input = first
asked_in (s ∷ ss) input = when has_header s input then s else asked_in ss input

-- the setting by which the areas have their sizes
unfoldable pub asked : List ℕ → Setting
asked input = asked_in all input
