-- What may lie around a form.
use Rattle.std.specs.Prelude.{◌≡◌, refl, List, [], ◌++◌, ℕ}
use Rattle.std.proofs.Math.Option.{Option}
use Rattle.rules.specs.Tree.{Scope}
use Rattle.rules.specs.Rules.{Env}
use Rattle.rules.specs.Readings.{Place, Level}
use Rattle.rules.specs.Explainer.{Definition, among_inside, among_originals}
use Rattle.rules.proofs.Laws.Meaning.Frames.{Frames, nowhere}
use Rattle.rules.proofs.Laws.Meaning.Early
use Rattle.rules.proofs.Laws.Meaning.Early.{TimesAround}
use Rattle.rules.specs.Laws.Meaning.IndexSpaces.{Beside, top_level}

-- What lies around a form: the way to its root without inserted fields and with all of them, and the scopes around it in four views:
-- of the input, of the output, the explainer's, and the tables of the steps. `among` gives the places of definitions, once the form's
-- output is known.
pub record Around : Type 0 where
  pub base : List ℕ
  pub full : List ℕ
  pub ins : List Level
  pub outs : List Level
  pub els : List Level
  pub outside : List Env
  pub among : Scope → Definition → Option Place
  pub frames : Frames ins outs outside
  pub times : TimesAround base ins outside
  pub besides : (t : Scope) → Beside (among t) els outs
  -- the form lies at the end of `full`
  pub lies : (t : Scope) (way : List ℕ) (field at : ℕ) → among t (record { way = full ++ way; field = field; at = at }) ≡ among_inside base t way field at

-- a form by itself
abbrev pub alone : Around
alone = record { base = []; full = []; ins = []; outs = []; els = []; outside = []; among = among_originals; frames = nowhere; times = λ steps rest e. Early.nowhere; besides = λ t. top_level; lies = λ t way field at. refl }
