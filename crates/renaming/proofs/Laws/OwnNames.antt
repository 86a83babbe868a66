-- A mapping need keep different only the names that stand in the form: it is, on these, a mapping that keeps all names different.
use Rattle.std.specs.Prelude.{◌≡◌, Bool, ◌&&◌, ◌||◌, ◌⊎◌, length, drop}
use Rattle.std.proofs.Math.Path.{refl, ap₂}
use Rattle.std.proofs.Common.{ap, sym, ◌∙◌, inl, inr, length-append}
use Rattle.std.proofs.Math.Bool.{true, false}
use Rattle.std.proofs.Math.Option.{Option, none, some}
use mathlib.Core.List.{List, [], ◌∷◌, ◌++◌, map}
use Prim.Native.Nat.{ℕ, zero, suc, ◌+◌, ◌*◌, ◌≤◌, ◌<◌}
use native.Mathlib.Omega.{arith}
use Rattle.std.proofs.Math.Dec.{eqb}
use Rattle.rules.specs.Tools.{when◌then◌else◌, is_in}
use Rattle.rules.specs.Versions.{top_name}
use Rattle.rules.specs.Rows.{Index, Num, Id, Row, Field, Decl, Ref, Path, Outer, Case, Open, Close, Export, decode_row}
use Rattle.rules.specs.Answer.{rows_of}
use Rattle.renaming.specs.Renaming.{Keeps, KeepsOn, renamed_index, renamed_row, renamed_part, renamed_rows, renamed, name_in, index_names, row_names, names_of, firsts, place_of, by_first}
use Rattle.rules.specs.Laws.ToolLaws.{Ok, All, done, ◌&◌, if_ok_lem, false_not, or_cases, or-true, eqb-true, eqb_same, eqb-false}
use Rattle.rules.specs.Laws.RowLaws.{LegalIndex, Legal, decode_legal}
use Rattle.renaming.proofs.Laws.Bytes.{by_range}

-- ---- two values change places

swap : (a b x : ℕ) → ℕ
swap a b x = when eqb x a then b else when eqb x b then a else x

not_same : (x y : ℕ) → eqb x y ≡ false → ¬ (x ≡ y)
not_same x y e q = false_not (sym e ∙ (ap (eqb x) (sym q) ∙ eqb_same x))

swap_cases : (P : ℕ → Type 0) (a b x : ℕ) → (x ≡ a → P b) → (x ≡ b → P a) → (¬ (x ≡ a) → ¬ (x ≡ b) → P x) → P (swap a b x)
unfolding swap
swap_cases P a b x p q r =
    if_ok_lem P (eqb x a) b _ (λ e. p (eqb-true x a e))
    (λ e. if_ok_lem P (eqb x b) a x (λ e'. q (eqb-true x b e')) (λ e'. r (not_same x a e) (not_same x b e')))

swap_apart : (a b x y : ℕ) → swap a b x ≡ swap a b y → x ≡ y
swap_apart a b x y =
    swap_cases (λ v. v ≡ swap a b y → x ≡ y) a b x
    (λ p. swap_cases (λ u. b ≡ u → x ≡ y) a b y (λ q e. p ∙ sym q) (λ q e. p ∙ (sym e ∙ sym q)) (λ n m e. absurd (m (sym e))))
    (λ p. swap_cases (λ u. a ≡ u → x ≡ y) a b y (λ q e. p ∙ (sym e ∙ sym q)) (λ q e. p ∙ sym q) (λ n m e. absurd (n (sym e))))
    (λ n m. swap_cases (λ u. x ≡ u → x ≡ y) a b y (λ q e. absurd (m e)) (λ q e. absurd (n e)) (λ n' m' e. e))

-- ---- a mapping of some names, as a mapping of all

abbrev pub InRange : List ℕ → Type 0
InRange ns = (n : ℕ) → is_in n ns ≡ true → (1 ≤ n) × (n ≤ top_name)

pub record Extended (ns : List ℕ) (f : ℕ → ℕ) : Type 0 where
  pub whole : ℕ → ℕ
  pub keeps : Keeps whole
  pub agrees : (n : ℕ) → is_in n ns ≡ true → whole n ≡ f n

in_tail : (n m : ℕ) (ns : List ℕ) → is_in n ns ≡ true → is_in n (m ∷ ns) ≡ true
in_tail n m ns e = rw e (or-true (eqb n m))

in_head : (n : ℕ) (ns : List ℕ) → is_in n (n ∷ ns) ≡ true
in_head n ns = rw (eqb_same n)

pub extend : (ns : List ℕ) (f : ℕ → ℕ) → KeepsOn ns f → InRange ns → Extended ns f
extend [] f k r = record { whole = λ n. n; keeps = record { within = λ n l h. (l, h); apart = λ a b l h l' h' e. e }; agrees = λ n e. false_not e }
extend (n ∷ ns) f k r =
    let e = extend ns f (record { within = λ m i. k.within m (in_tail m n ns i); apart = λ a b i j. k.apart a b (in_tail a n ns i) (in_tail b n ns j) }) (λ m i. r m (in_tail m n ns i)) in
    let g = e.whole in
    let own = r n (in_head n ns) in
    let at_n = e.keeps.within n own.0 own.1 in
    let new = k.within n (in_head n ns) in
    let same : (m : ℕ) → is_in m (n ∷ ns) ≡ true → g m ≡ g n → m ≡ n =
    λ m i q. e.keeps.apart m n (r m i).0 (r m i).1 own.0 own.1 q in
    record {
      whole = λ x. swap (g n) (f n) (g x);
      keeps = record {
        within = λ x l h. swap_cases (λ v. (1 ≤ v) × (v ≤ top_name)) (g n) (f n) (g x) (λ q. new) (λ q. at_n) (λ p q. e.keeps.within x l h);
        apart = λ a b l h l' h' q. e.keeps.apart a b l h l' h' (swap_apart (g n) (f n) (g a) (g b) q);
      };
      agrees = λ m i. or_cases (eqb m n) (is_in m ns) i
          (λ q. let is-n : m ≡ n = eqb-true m n q in
          rw is-n (swap_cases (λ v. v ≡ f n) (g n) (f n) (g n) (λ p. refl) (λ p. p) (λ p q. absurd (p refl))))
          (λ q. swap_cases (λ v. v ≡ f m) (g n) (f n) (g m)
          (λ p. ap f (sym (same m i p)))
          (λ p. let fm : f m ≡ f n = sym (e.agrees m q) ∙ p in
          let is-n : m ≡ n = k.apart m n i (in_head n ns) fm in
          ap g (sym is-n) ∙ e.agrees m q)
          (λ p p'. e.agrees m q));
    }

-- ---- the names of rows

pub in_left : (n : ℕ) (xs ys : List ℕ) → is_in n xs ≡ true → is_in n (xs ++ ys) ≡ true
in_left n [] ys e = false_not e
in_left n (x ∷ xs) ys e = or_cases (eqb n x) (is_in n xs) e (λ q. rw q) (λ q. rw (in_left n xs ys q) (or-true (eqb n x)))

pub in_right : (n : ℕ) (xs ys : List ℕ) → is_in n ys ≡ true → is_in n (xs ++ ys) ≡ true
in_right n [] ys e = e
in_right n (x ∷ xs) ys e = rw (in_right n xs ys e) (or-true (eqb n x))

in_either : {P : Type 0} (n : ℕ) (xs ys : List ℕ) → is_in n (xs ++ ys) ≡ true → (is_in n xs ≡ true → P) → (is_in n ys ≡ true → P) → P
in_either n [] ys e f g = g e
in_either n (x ∷ xs) ys e f g =
    or_cases (eqb n x) (is_in n (xs ++ ys)) e (λ q. f (rw q))
    (λ q. in_either n xs ys q (λ i. f (rw i (or-true (eqb n x)))) g)

-- two mappings agree on these names
abbrev Agree : (f g : ℕ → ℕ) → List ℕ → Type 0
Agree f g ns = (n : ℕ) → is_in n ns ≡ true → f n ≡ g n

module _ (f g : ℕ → ℕ) where
  one_agree : (n : ℕ) → f n ≡ g n → renamed f n ≡ renamed g n
  unfolding renamed
  one_agree n e = rw e

  zero_agree : (n : ℕ) → n ≡ 0 → renamed f n ≡ renamed g n
  unfolding renamed when◌then◌else◌
  zero_agree n e = rw e

  name_agree : (n : ℕ) → Agree f g (name_in n) → renamed f n ≡ renamed g n
  unfolding name_in
  name_agree n a = by_zero (eqb n 0) refl
    where
      by_zero : (b : Bool) → eqb n 0 ≡ b → renamed f n ≡ renamed g n
      by_zero true e = zero_agree n (eqb-true n 0 e)
      by_zero false e = one_agree n (a n (unfold name_in when◌then◌else◌ in rw (e, eqb_same n)))

  index_agree : (i : Index) → Agree f g (index_names i) → renamed_index (renamed f) i ≡ renamed_index (renamed g) i
  index_agree (Num n) a = refl
  index_agree (Id n) a = ap Id (name_agree n a)

  row_agree : (row : Row) → Agree f g (row_names row) → renamed_row (renamed f) row ≡ renamed_row (renamed g) row
  unfolding renamed_row row_names
  row_agree (Field code builtin z) a = refl
  row_agree (Decl space name z) a = rw (name_agree name a)
  row_agree (Ref space at paths z) a = rw (index_agree at a)
  row_agree (Path name) a = refl
  row_agree (Outer space up at z) a =
      rw (index_agree up (λ n i. a n (in_left n (index_names up) (index_names at) i)), index_agree at (λ n i. a n (in_right n (index_names up) (index_names at) i)))
  row_agree (Case name z) a = rw (name_agree name a)
  row_agree (Open kind name) a = rw (name_agree name a)
  row_agree Close a = refl
  row_agree (Export name) a = refl

  part_agree : (o : Option Row) (bs : List ℕ) (rows : List (Option Row)) → Agree f g (names_of (o ∷ rows)) → renamed_part (renamed f) o bs ≡ renamed_part (renamed g) o bs
  unfolding renamed_part names_of
  part_agree none bs rows a = refl
  part_agree (some row) bs rows a = rw (row_agree row (λ n i. a n (in_left n (row_names row) (names_of rows) i)))

  tail_agree : (o : Option Row) (rows : List (Option Row)) → Agree f g (names_of (o ∷ rows)) → Agree f g (names_of rows)
  unfolding names_of
  tail_agree none rows a = a
  tail_agree (some row) rows a = λ n i. a n (in_right n (row_names row) (names_of rows) i)

  pub rows_agree : (count : ℕ) (bs : List ℕ) → Agree f g (names_of (rows_of top_name count bs)) → renamed_rows (renamed f) count bs ≡ renamed_rows (renamed g) count bs
  unfolding renamed_rows rows_of
  rows_agree zero bs a = refl
  rows_agree (suc count) bs a =
      ap₂ ◌++◌ (part_agree (decode_row top_name bs) bs (rows_of top_name count (drop 16 bs)) a)
      (rows_agree count (drop 16 bs) (tail_agree (decode_row top_name bs) (rows_of top_name count (drop 16 bs)) a))

-- ---- the names of rows that were taken apart are names

name_range : (m : ℕ) → m ≤ top_name → InRange (name_in m)
unfolding name_in
name_range m h n i = go (eqb m 0) refl i
  where
    go : (b : Bool) → eqb m 0 ≡ b → is_in n (when b then [] else m ∷ []) ≡ true → (1 ≤ n) × (n ≤ top_name)
    go true e i = false_not (unfold when◌then◌else◌ in i)
    go false e i =
        let is_m : n ≡ m = or_cases (eqb n m) false (unfold when◌then◌else◌ in i) (λ q. eqb-true n m q) (λ q. false_not q) in
        let not_zero : ¬ (m ≡ 0) = not_same m 0 e in
        (omega (arith, is_m, not_zero), omega (arith, is_m, h))

index_range : (i : Index) → LegalIndex top_name i → InRange (index_names i)
index_range (Num m) l n e = false_not e
index_range (Id m) l n e = name_range m l.1 n e

row_range : (row : Row) → Legal top_name row → InRange (row_names row)
unfolding row_names
row_range (Field code builtin z) l n e = false_not e
row_range (Decl space name z) l n e = name_range name l n e
row_range (Ref space at paths z) l n e = index_range at l n e
row_range (Path name) l n e = false_not e
row_range (Outer space up at z) l n e = in_either n (index_names up) (index_names at) e (λ i. index_range up l.0 n i) (λ i. index_range at l.1 n i)
row_range (Case name z) l n e = name_range name l n e
row_range (Open kind name) l n e = name_range name l n e
row_range Close l n e = false_not e
row_range (Export name) l n e = false_not e

next_range : (o : Option Row) (rows : List (Option Row)) → Ok (Legal top_name) o → InRange (names_of rows) → InRange (names_of (o ∷ rows))
unfolding names_of
next_range none rows l r = r
next_range (some row) rows l r = λ n e. in_either n (row_names row) (names_of rows) e (λ i. row_range row l n i) (λ i. r n i)

pub rows_range : (count : ℕ) (bs : List ℕ) → InRange (names_of (rows_of top_name count bs))
unfolding rows_of
rows_range zero bs = λ n e. false_not (unfold names_of in e)
rows_range (suc count) bs = next_range (decode_row top_name bs) (rows_of top_name count (drop 16 bs)) (unfold decode_row in decode_legal top_name _) (rows_range count (drop 16 bs))

-- ---- by first appearance

-- a name that stands in the list has its own place
place_apart : (ms : List ℕ) (a b : ℕ) → is_in a ms ≡ true → place_of ms a ≡ place_of ms b → a ≡ b
unfolding place_of when◌then◌else◌
place_apart [] a b i e = false_not i
place_apart (m ∷ ms) a b i e = go (eqb a m) refl (eqb b m) refl i e (λ j q. place_apart ms a b j q)
  where
    positive : (l : List ℕ) (n : ℕ) → 1 ≤ place_of l n
    positive [] n = unfold place_of in omega arith
    positive (x ∷ l) n = unfold place_of in if_ok_lem (λ v. 1 ≤ v) (eqb n x) 1 (suc (place_of l n)) (λ q. omega arith) (λ q. omega arith)

    go : (x : Bool) → eqb a m ≡ x → (y : Bool) → eqb b m ≡ y → x || is_in a ms ≡ true → (when x then 1 else suc (place_of ms a)) ≡ (when y then 1 else suc (place_of ms b))
        → (is_in a ms ≡ true → place_of ms a ≡ place_of ms b → a ≡ b) → a ≡ b
    go true p true q i e rec = eqb-true a m p ∙ sym (eqb-true b m q)
    go true p false q i e rec = let same : 1 ≡ suc (place_of ms b) = e in absurd (omega (arith, positive ms b, same))
    go false p true q i e rec = let same : suc (place_of ms a) ≡ 1 = e in absurd (omega (arith, positive ms a, same))
    go false p false q i e rec = let same : suc (place_of ms a) ≡ suc (place_of ms b) = e in rec i (omega (arith, same))

place_range : (ms : List ℕ) (n : ℕ) → (1 ≤ place_of ms n) × (place_of ms n ≤ suc (length ms))
unfolding place_of
place_range [] n = (omega arith, omega arith)
place_range (m ∷ ms) n =
    let r = place_range ms n in
    if_ok_lem (λ v. (1 ≤ v) × (v ≤ suc (suc (length ms)))) (eqb n m) 1 (suc (place_of ms n)) (λ q. (omega arith, omega arith)) (λ q. (omega arith, omega (arith, r.1)))

-- every name is there, once
firsts_has : (seen ns : List ℕ) (n : ℕ) → is_in n seen || is_in n ns ≡ true → is_in n (firsts seen ns) ≡ true
unfolding firsts
firsts_has seen [] n i = or_cases (is_in n seen) false i (λ q. q) (λ q. false_not q)
firsts_has seen (m ∷ ns) n i =
    if_ok_lem (λ l. is_in n l ≡ true) (is_in m seen) (firsts seen ns) (firsts (seen ++ (m ∷ [])) ns)
    (λ e. firsts_has seen ns n (or_cases (is_in n seen) (eqb n m || is_in n ns) i (λ q. rw q)
    (λ q. or_cases (eqb n m) (is_in n ns) q (λ r. let is_m : n ≡ m = eqb-true n m r in let s : is_in n seen ≡ true = rw is_m e in rw s) (λ r. rw r (or-true (is_in n seen))))))
    (λ e. firsts_has (seen ++ (m ∷ [])) ns n (or_cases (is_in n seen) (eqb n m || is_in n ns) i (λ q. rw (in_left n seen (m ∷ []) q))
    (λ q. or_cases (eqb n m) (is_in n ns) q
    (λ r. let one : is_in n (m ∷ []) ≡ true = rw r in rw (in_right n seen (m ∷ []) one))
    (λ r. rw r (or-true (is_in n (seen ++ (m ∷ []))))))))

firsts_long : (seen ns : List ℕ) → length (firsts seen ns) ≤ length seen + length ns
unfolding firsts
firsts_long seen [] = omega arith
firsts_long seen (m ∷ ns) =
    if_ok_lem (λ l. length l ≤ length seen + suc (length ns)) (is_in m seen) (firsts seen ns) (firsts (seen ++ (m ∷ [])) ns)
    (λ e. omega (arith, firsts_long seen ns))
    (λ e. omega (arith, firsts_long (seen ++ (m ∷ [])) ns, length-append seen (m ∷ [])))

name_few : (n : ℕ) → length (name_in n) ≤ 1
unfolding name_in
name_few n = if_ok_lem (λ l. length l ≤ 1) (eqb n 0) [] (n ∷ []) (λ e. omega arith) (λ e. omega arith)

index_few : (i : Index) → length (index_names i) ≤ 1
index_few (Num n) = omega arith
index_few (Id n) = name_few n

row_few : (row : Row) → length (row_names row) ≤ 2
unfolding row_names
row_few (Field code builtin z) = omega arith
row_few (Decl space name z) = omega (arith, name_few name)
row_few (Ref space at paths z) = omega (arith, index_few at)
row_few (Path name) = omega arith
row_few (Outer space up at z) = omega (arith, index_few up, index_few at, length-append (index_names up) (index_names at))
row_few (Case name z) = omega (arith, name_few name)
row_few (Open kind name) = omega (arith, name_few name)
row_few Close = omega arith
row_few (Export name) = omega arith

names_few : (rows : List (Option Row)) → length (names_of rows) ≤ 2 * length rows
unfolding names_of
names_few [] = omega arith
names_few (none ∷ rows) = omega (arith, names_few rows)
names_few (some row ∷ rows) = omega (arith, names_few rows, row_few row, length-append (row_names row) (names_of rows))

-- The mapping by first appearance keeps different names of the rows different, and within range.
pub by_first_keeps : (rows : List (Option Row)) → 2 * length rows < top_name → KeepsOn (names_of rows) (by_first rows)
unfolding by_first
by_first_keeps rows few =
    let ms = firsts [] (names_of rows) in
    record {
      within = λ n i. ((place_range ms n).0, omega (arith, few, (place_range ms n).1, firsts_long [] (names_of rows), names_few rows));
      apart = λ a b i j e. place_apart ms a b (firsts_has [] (names_of rows) a i) e;
    }

-- ---- in the order of their first appearance

abbrev Different : List ℕ → Type 0
Different [] = Unit {0}
Different (n ∷ ns) = (is_in n ns ≡ false) × Different ns

neither_one : (a b : Bool) → a || b ≡ false → (a ≡ false) × (b ≡ false)
neither_one true b e = false_not (sym e)
neither_one false b e = (refl, e)

not_in_snoc : (m n : ℕ) (ns : List ℕ) → is_in m ns ≡ false → ¬ (m ≡ n) → is_in m (ns ++ (n ∷ [])) ≡ false
not_in_snoc m n [] e h = rw (eqb-false m n h)
not_in_snoc m n (x ∷ ns) e h = let r = neither_one (eqb m x) (is_in m ns) e in rw r.0 (not_in_snoc m n ns r.1 h)

different_snoc : (ns : List ℕ) (n : ℕ) → Different ns → is_in n ns ≡ false → Different (ns ++ (n ∷ []))
different_snoc [] n d e = (refl, tt)
different_snoc (m ∷ ns) n d e =
    let r = neither_one (eqb n m) (is_in n ns) e in
    (not_in_snoc m n ns d.0 (λ q. not_same n m r.0 (sym q)), different_snoc ns n d.1 r.1)

firsts_different : (seen ns : List ℕ) → Different seen → Different (firsts seen ns)
unfolding firsts
firsts_different seen [] d = d
firsts_different seen (n ∷ ns) d =
    if_ok_lem Different (is_in n seen) (firsts seen ns) (firsts (seen ++ (n ∷ [])) ns)
    (λ e. firsts_different seen ns d)
    (λ e. firsts_different (seen ++ (n ∷ [])) ns (different_snoc seen n d e))

-- as many numbers as asked for, from `k` on
abbrev pub counting : (k n : ℕ) → List ℕ
counting k zero = []
counting k (suc n) = k ∷ counting (suc k) n

counting_suc : (k n : ℕ) → map suc (counting k n) ≡ counting (suc k) n
counting_suc k zero = refl
counting_suc k (suc n) = ap (λ (l : List ℕ). suc k ∷ l) (counting_suc (suc k) n)

places_behind : (m : ℕ) (ms xs : List ℕ) → is_in m xs ≡ false → map (place_of (m ∷ ms)) xs ≡ map suc (map (place_of ms) xs)
unfolding place_of when◌then◌else◌
places_behind m ms [] e = refl
places_behind m ms (x ∷ xs) e =
    let r = neither_one (eqb m x) (is_in m xs) e in
    rw (eqb-false x m (λ q. not_same m x r.0 (sym q)), places_behind m ms xs r.1)

places : (ms : List ℕ) → Different ms → map (place_of ms) ms ≡ counting 1 (length ms)
unfolding place_of when◌then◌else◌
places [] d = refl
places (m ∷ ms) d =
    ap₂ (λ (n : ℕ) (l : List ℕ). n ∷ l) (rw (eqb_same m))
    (places_behind m ms ms d.0 ∙ (ap (map suc) (places ms d.1) ∙ counting_suc 1 (length ms)))

-- The names of the rows, each once and in the order in which they first stand there, become 1, 2, 3, …
pub in_order : (rows : List (Option Row)) → map (by_first rows) (firsts [] (names_of rows)) ≡ counting 1 (length (firsts [] (names_of rows)))
unfolding by_first
in_order rows = places (firsts [] (names_of rows)) (firsts_different [] (names_of rows) tt)
