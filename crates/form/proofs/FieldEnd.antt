-- Ways through the end of a field.
use mathlib.Core.Path.{◌≡◌, refl}
use mathlib.Core.List.{List}
use Prim.Native.Nat.{ℕ, ◌/◌, ◌≤◌, ◌<◌}
use lib.ListN.{length, get_or}
use borrow.Author.Rules.{rules}
use Rattle.kit.proofs.Laws.{yes!, no!, tests}
use Rattle.form.specs.Part.{field_end}

module _ (rows ends : List ℕ) (at : ℕ) where
  pub end_none : length ends ≤ at → at ≡ field_end rows ends at
  unfolding field_end
  end_none h = yes! _ (omega tests) refl

  module _ (h : at < length ends) (end : ℕ) (got : end ≡ get_or ends at 0) where
    pub end_before : end < at → at ≡ field_end rows ends at
    unfolding field_end
    end_before f = no! _ (omega tests) (yes! _ (omega tests) refl)

    module _ (f : at ≤ end) where
      pub end_past : length rows / 16 < end → at ≡ field_end rows ends at
      unfolding field_end
      end_past g = no! _ (omega tests) (no! _ (omega tests) (yes! _ (omega tests) refl))

      pub end_in : end ≤ length rows / 16 → end ≡ field_end rows ends at
      unfolding field_end
      end_in g = no! _ (omega tests) (no! _ (omega tests) (no! _ (omega tests) got))

pub ruleset ways = (end_none, end_before, end_past, end_in, rules)
