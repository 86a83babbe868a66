-- The version asked for by the place of its setting, and what is known of bytes whose header was read.
use Rattle.std.specs.Prelude.{◌≡◌, Bool, ◌&&◌, List, ℕ, ◌+◌, ◌*◌, ◌≤◌, ◌<◌, eqb, length, Result, Err}
use Rattle.std.proofs.Math.Option.{some}
use Rattle.kit.specs.Pick.{pick}
use Rattle.rules.specs.Versions.{all}
use Rattle.rules.specs.Tree.{Scope}
use Rattle.rules.specs.Answer.{accepted, setting_of, row_count}
use Rattle.read_form.specs.ReadForm.{read_form}
use Rattle.limits.specs.Held.{setting}
use Rattle.refusal.specs.declared.Refusal.{Refusal}

-- a refusal whose number document 01 gives, and its place
abbrev pub refused_t : (number place : ℕ) → Result ℕ Refusal
refused_t number place = Err (record { number = number; place = place })

-- the place in the list of all settings of the version asked for, 1 or 2, with the rule set of the form's setting if it has that
unfoldable pub place_of_t : (version from : ℕ) → ℕ
place_of_t version from = pick (eqb version 1) 0 (pick (eqb from 2) 2 1)

-- does the version asked for lack the form's rule set? Version 1 has rule set 0 alone
unfoldable pub lacks_t : (version from : ℕ) → Bool
lacks_t version from = eqb version 1 && eqb from 2

-- bytes of the setting at place `from`, whose rows are there
pub record Sized (from : ℕ) (form : List ℕ) (rows : ℕ) : Type 0 where
  pub known : from < 3
  pub asks : setting_of all form ≡ some (setting from)
  pub counted : row_count (setting from).version form ≡ rows
  pub some_rows : 1 ≤ rows
  pub few : rows ≤ (setting from).version.rows
  pub long : length form ≡ (setting from).version.header + 16 * rows

-- and they make a form
pub record Sound (from : ℕ) (form : List ℕ) (rows : ℕ) : Type 0 where
  pub sized : Sized from form rows
  pub tree : Scope
  pub reads : read_form (setting from) form ≡ accepted tree
