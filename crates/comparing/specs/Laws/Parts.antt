-- A row as it counts, said of its six parts alone: what code sees of it.
use Rattle.std.specs.Prelude.{◌≡◌, refl, Bool, true, false, ◌&&◌, [], ◌∷◌, ℕ, ◌/◌, ◌%◌, eqb, get_or}
use Rattle.rules.specs.Tools.{when◌then◌else◌}
use Rattle.rules.specs.Rows.{Raw, raw, Num, Id, Row, Field, Decl, Ref, Path, Outer, Case, Open, Close, Export, encode, flag, number}
use Rattle.comparing.specs.Compare.{Choice, blur_place, blur_name, blur_index, blur}
use Rattle.rules.specs.Laws.Results.{if_both}

-- by code: is x a name? is y?
unfoldable pub is_name_x : (code e : ℕ) → Bool
is_name_x code e = get_or (false ∷ false ∷ true ∷ eqb (e % 2) 1 ∷ false ∷ eqb (e % 2) 1 ∷ true ∷ true ∷ []) code false

-- is part y a name: that of an OUTER's index?
unfoldable pub is_name_y : (code e : ℕ) → Bool
is_name_y code e = eqb code 5 && eqb (e / 2) 1

unfoldable pub blur_parts : Choice → Raw → Raw
blur_parts c (raw code b e x y z) =
    raw code b e (when is_name_x code e then blur_name c x else x) (when is_name_y code e then blur_name c y else y) (blur_place c z)

no_place : (c : Choice) → blur_place c 0 ≡ 0
unfolding blur_place
no_place c = if_both (λ (n : ℕ). n ≡ 0) c.places 0 0 refl refl

-- The parts of a row as it counts are its parts as they count.
pub blur_parts_lem : (c : Choice) (r : Row) → encode (blur c r) ≡ blur_parts c (encode r)
unfolding blur blur_index blur_parts is_name_x is_name_y encode flag number when◌then◌else◌
blur_parts_lem c (Field code builtin z) = refl
blur_parts_lem c (Decl space name z) = refl
blur_parts_lem c (Ref space (Num n) paths z) = refl
blur_parts_lem c (Ref space (Id n) paths z) = refl
blur_parts_lem c (Path name) = rw (no_place c)
blur_parts_lem c (Outer space (Num m) (Num n) z) = refl
blur_parts_lem c (Outer space (Num m) (Id n) z) = refl
blur_parts_lem c (Outer space (Id m) (Num n) z) = refl
blur_parts_lem c (Outer space (Id m) (Id n) z) = refl
blur_parts_lem c (Case name z) = refl
blur_parts_lem c (Open kind name) = rw (no_place c)
blur_parts_lem c Close = rw (no_place c)
blur_parts_lem c (Export name) = rw (no_place c)
