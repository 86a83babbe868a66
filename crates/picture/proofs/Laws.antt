-- The ways through the code that says where arcs lead.
use Rattle.std.specs.Prelude.{Option}
use mathlib.Core.Path.{◌≡◌, refl, sym, ◌∙◌}
use mathlib.Core.Bool.{Bool, true, false}
use mathlib.Core.List.{List}
use Prim.Native.Nat.{ℕ}
use borrow.Author.Rules.{rules}
use Rattle.kit.specs.Pick.{pick}
use Rattle.kit.proofs.Laws.{yes!, no! }
use Rattle.row_parts.specs.Parts.{is_reference}
use Rattle.readings.specs.Meaning.{meaning_of}
use Rattle.meanings.specs.Entries.{Entry, noted, meaning_at}
use Rattle.meanings.proofs.Noted.{meaning_is}
use Rattle.picture.specs.Arcs.{row_meant, target_of}
use Rattle.readings.specs.declared.Meaning.{Meaning}

-- the row of what a reference means
pub target_meant : (form : List ℕ) (entries : List Entry) (row r : ℕ) (m : Option Meaning) (b : Bool) → b ≡ is_reference form row → b ≡ true → m ≡ meaning_at form entries row → r ≡ row_meant m row → r ≡ target_of form entries row
unfolding target_of
target_meant form entries row r m b hb t hm hr = yes! _ (rw hb at t) (rw hm at hr)

-- a row that is no reference
pub target_none : (form : List ℕ) (entries : List Entry) (row : ℕ) (b : Bool) → b ≡ is_reference form row → b ≡ false → row ≡ target_of form entries row
unfolding target_of
target_none form entries row b hb t = no! _ (rw hb at t) refl

-- by the entries that are noted of a form, an arc leads where the readings say
pub target_is : (form : List ℕ) (entries : List Entry) (row : ℕ) → target_of form (noted form entries) row ≡ pick (is_reference form row) (row_meant (meaning_of form row) row) row
unfolding target_of
target_is form entries row = by (is_reference form row) refl
  where
    by : (b : Bool) → is_reference form row ≡ b → target_of form (noted form entries) row ≡ pick (is_reference form row) (row_meant (meaning_of form row) row) row
    by true h = rw (meaning_is form entries row h)
    by false h = sym (no! _ h refl) ∙ no! _ h refl

pub ruleset arc_ways = (target_meant, target_none, rules)
