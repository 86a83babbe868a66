-- Rows are found the same exactly if they are equal as they count.
use Rattle.std.specs.Prelude.{◌≡◌, refl, true, ℕ, zero, suc, ◌/◌, ◌%◌, get_or, drop}
use Rattle.std.proofs.Common.{ap, ap₂, sym, ◌∙◌}
use mathlib.Core.List.{List, [], ◌∷◌, ◌++◌, map, cons≢nil}
use Rattle.rules.specs.Rows.{Raw, raw, Index, Num, Id, Row, Field, Decl, Ref, Path, Outer, Case, Open, Close, Export, encode, flag, number}
use Rattle.comparing.specs.Compare.{Choice, blur, six_parts, rows_parts, same}
use Rattle.headers.specs.Laws.Written.{numbers_same, numbers_equal}

-- ---- six parts say at most one row

said : (flag n : ℕ) → Index
said zero n = Num n
said (suc flag) n = Id n

said_row : Raw → Row
said_row (raw code b e x y z) =
    get_or (Field b e z ∷ Field b e z ∷ Decl b x z ∷ Ref b (said e x) y z ∷ Path x ∷ Outer b (said (e % 2) x) (said (e / 2) y) z ∷ Case x z ∷ Open b x ∷ Close ∷ Export x ∷ []) code Close

said_again : (r : Row) → said_row (encode r) ≡ r
unfolding said_row said encode flag number
said_again (Field code builtin z) = refl
said_again (Decl space name z) = refl
said_again (Ref space (Num n) paths z) = refl
said_again (Ref space (Id n) paths z) = refl
said_again (Path name) = refl
said_again (Outer space (Num m) (Num n) z) = refl
said_again (Outer space (Num m) (Id n) z) = refl
said_again (Outer space (Id m) (Num n) z) = refl
said_again (Outer space (Id m) (Id n) z) = refl
said_again (Case name z) = refl
said_again (Open kind name) = refl
said_again Close = refl
said_again (Export name) = refl

-- ---- so do the parts of many rows

first_parts : List ℕ → Raw
first_parts ns = raw (get_or ns 0 0) (get_or ns 1 0) (get_or ns 2 0) (get_or ns 3 0) (get_or ns 4 0) (get_or ns 5 0)

first_is : (r : Raw) (ns : List ℕ) → first_parts (six_parts r ++ ns) ≡ r
unfolding first_parts six_parts
first_is (raw code b e x y z) ns = refl

others_are : (r : Raw) (ns : List ℕ) → drop 6 (six_parts r ++ ns) ≡ ns
unfolding six_parts
others_are (raw code b e x y z) ns = refl

some_parts : {X : Type 0} (r : Raw) (ns : List ℕ) → six_parts r ++ ns ≡ [] → X
unfolding six_parts
some_parts (raw code b e x y z) ns e' = absurd (cons≢nil e')

parts_equal : (l r : List Row) → rows_parts l ≡ rows_parts r → l ≡ r
unfolding rows_parts
parts_equal [] [] e = refl
parts_equal [] (y ∷ r) e = some_parts (encode y) (rows_parts r) (sym e)
parts_equal (x ∷ l) [] e = some_parts (encode x) (rows_parts l) e
parts_equal (x ∷ l) (y ∷ r) e =
    let one : encode x ≡ encode y = sym (first_is (encode x) (rows_parts l)) ∙ ap first_parts e ∙ first_is (encode y) (rows_parts r) in
    let others : rows_parts l ≡ rows_parts r = sym (others_are (encode x) (rows_parts l)) ∙ ap (drop 6) e ∙ others_are (encode y) (rows_parts r) in
    ap₂ (λ (a : Row) (s : List Row). a ∷ s) (sym (said_again x) ∙ ap said_row one ∙ said_again y) (parts_equal l r others)

pub same_equal : (c : Choice) (l r : List Row) → same c l r ≡ true → map (blur c) l ≡ map (blur c) r
unfolding same
same_equal c l r e = parts_equal (map (blur c) l) (map (blur c) r) (numbers_equal _ _ e)

pub equal_same : (c : Choice) (l r : List Row) → map (blur c) l ≡ map (blur c) r → same c l r ≡ true
unfolding same
equal_same c l r e = rw e (numbers_same (rows_parts (map (blur c) r)))
