-- All rows: their names entered, and then written with numbers for names. One law for each way through the code.
use mathlib.Core.Path.{◌≡◌, refl, sym, ap, ap₂, ◌∙◌}
use mathlib.Core.Bool.{Bool, true, false}
use mathlib.Core.Option.{Option, none, some}
use mathlib.Core.Logic.{◌⊎◌, inl, inr}
use mathlib.Core.List.{List, [], ◌∷◌, ◌++◌, map}
use native.Mathlib.Nat.{sub-zero}
use native.Mathlib.Numerals.{add-one}
use native.Mathlib.Omega.{arith}
use Prim.Native.Nat.{ℕ, zero, suc, ◌+◌, ◌-◌, ◌*◌, ◌/◌, ◌≤◌, ◌<◌}
use lib.Dec.{eqb}
use lib.ListN.{length, get_or, take, drop, set, length-append, length-map}
use lib.Seq.{length-take-le, take_all, take-take, take-suc, drop-cons, set_at, append_snoc, get_or-take, drop-drop}
use borrow.Author.Rules.{rules}
use Rattle.kit.specs.Out.{◌&◌}
use Rattle.kit.proofs.Laws.{yes!, tests, left_suc, lt_or_le}
use Rattle.rules.specs.Rows as rules
use Rattle.rules.specs.Rows.{decode_row}
use Rattle.rules.specs.Tools.{when◌then◌else◌}
use Rattle.rules.specs.Versions.{top_name}
use Rattle.rules.specs.Answer.{rows_of}
use Rattle.renaming.specs.Renaming.{name_in, row_names, names_of, firsts, place_of, renamed}
use Rattle.renaming.specs.Anonymous.{over}
use Rattle.names.specs.Table.{Slot, empty_slot, name_of}
use Rattle.rows.specs.RowAt.{as_index, taken}
use Rattle.rows.specs.declared.row.Index.{Index}
use Rattle.rows.specs.declared.row.Index.TheVariants.{Number, Name}
use Rattle.rows.specs.declared.row.Row.{Row}
use Rattle.rows.specs.declared.row.Row.TheVariants.{Field, Decl, Ref, Path, Outer, Case, Open, Close, Export, Broken}
use Rattle.put.specs.Put.{put_row}
use Rattle.anonymise.specs.Seen.{seen_in, Knows, Enters}
use Rattle.anonymise.specs.Renamed.{input_row, index_names_t, row_names_t, key_of, renamed_row_t, left_by, row_written, rows_written}
use Rattle.anonymise.proofs.Names.{firsts_append}

-- ---- the names of all rows

names_cons : (o : Option rules.Row) (rest : List (Option rules.Row)) → names_of (o ∷ rest) ≡ row_names_t (taken o) ++ names_of rest
unfolding names_of row_names taken row_names_t as_index
names_cons none rest = refl
names_cons (some (rules.Field code builtin z)) rest = refl
names_cons (some (rules.Decl space name z)) rest = refl
names_cons (some (rules.Ref space (rules.Num n) paths z)) rest = refl
names_cons (some (rules.Ref space (rules.Id n) paths z)) rest = refl
names_cons (some (rules.Path name)) rest = refl
names_cons (some (rules.Outer space (rules.Num n) (rules.Num m) z)) rest = refl
names_cons (some (rules.Outer space (rules.Num n) (rules.Id m) z)) rest = refl
names_cons (some (rules.Outer space (rules.Id n) (rules.Num m) z)) rest = refl
names_cons (some (rules.Outer space (rules.Id n) (rules.Id m) z)) rest = refl
names_cons (some (rules.Case name z)) rest = refl
names_cons (some (rules.Open kind name)) rest = refl
names_cons (some rules.Close) rest = refl
names_cons (some (rules.Export name)) rest = refl

few_if : (t : Bool) (n : ℕ) → length (when t then [] else n ∷ []) ≤ 1
unfolding when◌then◌else◌
few_if true n = omega arith
few_if false n = omega arith

index_few : (at : Index) → length (index_names_t at) ≤ 1
unfolding name_in
index_few (Number n) = omega arith
index_few (Name n) = few_if (eqb n 0) n

row_few : (r : Row) → length (row_names_t r) ≤ 2
unfolding row_names_t name_in
row_few (Field c b z) = omega arith
row_few (Decl s n z) = omega (arith, few_if (eqb n 0) n)
row_few (Ref s at p z) = omega (arith, index_few at)
row_few (Path n) = omega arith
row_few (Outer s u at z) = omega (arith, index_few u, index_few at, length-append (index_names_t u) (index_names_t at))
row_few (Case n z) = omega (arith, few_if (eqb n 0) n)
row_few (Open k n) = omega (arith, few_if (eqb n 0) n)
row_few Close = omega arith
row_few (Export n) = omega arith
row_few Broken = omega arith

-- the names of the rows from i on
abbrev pub names_from : (rows : List ℕ) (i left : ℕ) → List ℕ
names_from rows i left = names_of (rows_of top_name left (drop (16 * i) rows))

row_is : (rows : List ℕ) (i : ℕ) → i < length rows / 16 → input_row rows i ≡ taken (decode_row top_name (drop (16 * i) rows))
unfolding input_row
row_is rows i h = sym (yes! _ (omega tests) refl)

names_next : (rows : List ℕ) (i left : ℕ) → i < length rows / 16 → names_from rows i (suc left) ≡ row_names_t (input_row rows i) ++ names_from rows (i + 1) left
unfolding rows_of
names_next rows i left h =
    let next : 16 * i + 16 ≡ 16 * (i + 1) = omega arith in
    names_cons (decode_row top_name (drop (16 * i) rows)) (rows_of top_name left (drop 16 (drop (16 * i) rows)))
    ∙ ap₂ (λ (r : Row) (l : List ℕ). row_names_t r ++ names_of (rows_of top_name left l)) (sym (row_is rows i h)) (drop-drop 16 (16 * i) rows ∙ ap (λ (k : ℕ). drop k rows) next)

module _ (rows : List ℕ) where
  pub names_start : (table : List Slot) → firsts (seen_in table 0) (names_from rows 0 (length rows / 16 - 0)) ≡ key_of rows
  unfolding seen_in key_of
  names_start table = rw sub-zero

  module _ (table table' : List Slot) (index' : List ℕ) (used used' i n : ℕ) (e : Enters table used (row_names_t (input_row rows i)) table' index' used') where
    pub names_turn : i < n → n ≡ length rows / 16 → firsts (seen_in table used) (names_from rows i (n - i)) ≡ key_of rows → firsts (seen_in table' used') (names_from rows (i + 1) (n - (i + 1))) ≡ key_of rows
    names_turn h is inv =
        ap (λ (l : List ℕ). firsts l (names_from rows (i + 1) (n - (i + 1)))) e.seen
        ∙ (sym (firsts_append (seen_in table used) (row_names_t (input_row rows i)) (names_from rows (i + 1) (n - (i + 1))))
        ∙ (ap (firsts (seen_in table used)) (sym (names_next rows i (n - (i + 1)) (omega arith)))
        ∙ rw (left_suc i n h) at inv))

    pub used_turn : used ≤ 2 * i → used' ≤ 2 * (i + 1)
    used_turn h = omega (arith, e.few, row_few (input_row rows i))

  pub names_end : (table : List Slot) (used i n : ℕ) → n ≤ i → firsts (seen_in table used) (names_from rows i (n - i)) ≡ key_of rows → seen_in table used ≡ key_of rows
  unfolding rows_of names_of firsts
  names_end table used i n h inv = let e : n - i ≡ 0 = omega arith in rw e at inv

pub knows_after : (table table' : List Slot) (index' : List ℕ) (used used' : ℕ) (ns : List ℕ) → Enters table used ns table' index' used' → Knows table' index' used'
knows_after table table' index' used used' ns e = e.knows

-- ---- rows written

module _ (key rows : List ℕ) where
  pub row_written_lem : (i : ℕ) (r new : Row) (out out' : List ℕ) (to : ℕ) → r ≡ input_row rows i → new ≡ renamed_row_t (renamed (place_of key)) r → (to & out') ≡ put_row out i new → out' ≡ row_written key rows i out
  unfolding row_written left_by
  row_written_lem i r new out out' to got is w = ap left_by (rw (is, got) at w)

  pub rows_start : (out : List ℕ) → rows_written key rows 0 (length rows / 16 - 0) out ≡ rows_written key rows 0 (length rows / 16) out
  rows_start out = rw sub-zero

  pub rows_turn : (out out₀ out' : List ℕ) (i n : ℕ) → i < n → out' ≡ row_written key rows i out → rows_written key rows i (n - i) out ≡ rows_written key rows 0 (length rows / 16) out₀
      → rows_written key rows (i + 1) (n - (i + 1)) out' ≡ rows_written key rows 0 (length rows / 16) out₀
  unfolding rows_written
  rows_turn out out₀ out' i n h w inv = rw w (rw (left_suc i n h) at inv)

  pub rows_end : (out out₀ : List ℕ) (i n : ℕ) → n ≤ i → rows_written key rows i (n - i) out ≡ rows_written key rows 0 (length rows / 16) out₀ → out ≡ rows_written key rows 0 (length rows / 16) out₀
  unfolding rows_written
  rows_end out out₀ i n h inv = let e : n - i ≡ 0 = omega arith in rw e at inv

-- ---- numbers put over others

pub over_is : (new old : List ℕ) → length new ≤ length old → over new old ≡ new ++ drop (length new) old
unfolding over
over_is new old h = ap (λ (l : List ℕ). l ++ drop (length new) old) (take_all (length old) new h)

module _ (s d : List ℕ) where
  pub over_start : d ≡ over (take 0 s) d
  unfolding over
  over_start = go (length d)
    where
      go : (n : ℕ) → d ≡ take n [] ++ drop 0 d
      go zero = refl
      go (suc n) = refl

  at_turn : (i : ℕ) → i ≤ length s → i ≤ length d → over (take i s) d ≡ take i s ++ drop i d
  at_turn i h g = over_is (take i s) d (omega (arith, length-take-le i s h)) ∙ ap (λ (k : ℕ). take i s ++ drop k d) (length-take-le i s h)

  over_turn : (l : List ℕ) (i a : ℕ) → l ≡ over (take i s) d → i < length s → i < length d → a ≡ get_or s i 0 → set l i a ≡ over (take (i + 1) s) d
  over_turn l i a inv h g e =
      let m : take (i + 1) s ≡ take i s ++ (a ∷ []) = rw (add-one, e) (take-suc s i 0 h) in
      rw (inv ∙ at_turn i (omega arith) (omega arith), at_turn (i + 1) (omega arith) (omega arith), m, add-one, drop-cons d i 0 g)
      (set_at (take i s) (get_or d i 0) (drop (suc i) d) a i (length-take-le i s (omega arith)) ∙ sym (append_snoc (take i s) a (drop (suc i) d)))

  over_all : (l : List ℕ) (i : ℕ) → l ≡ over (take i s) d → length s ≤ i → l ≡ over s d
  over_all l i inv h = inv ∙ ap (λ (x : List ℕ). over x d) (take_all i s h)

  over_full : (l : List ℕ) (i : ℕ) → l ≡ over (take i s) d → length d ≤ i → l ≡ over s d
  unfolding over
  over_full l i inv h = go (lt_or_le (length s) i)
    where
      past : (x : List ℕ) → length d ≤ length x → drop (length x) d ≡ []
      past x q = ends (length x) d q
        where
          ends : (n : ℕ) (y : List ℕ) → length y ≤ n → drop n y ≡ []
          ends zero [] q = refl
          ends zero (b ∷ y) q = absurd (omega arith)
          ends (suc n) [] q = refl
          ends (suc n) (b ∷ y) q = ends n y (omega arith)

      go : ((length s < i) ⊎ (i ≤ length s)) → l ≡ take (length d) s ++ drop (length s) d
      go (inl q) = over_all l i inv (omega arith)
      go (inr q) =
          let size = length-take-le i s q in
          inv ∙ ap₂ ◌++◌ (take-take (length d) i s h) (past (take i s) (omega arith) ∙ sym (past s (omega arith)))

map_at : (f : Slot → ℕ) (l : List Slot) (i : ℕ) (d : Slot) → get_or (map f l) i (f d) ≡ f (get_or l i d)
map_at f [] i d = refl
map_at f (x ∷ l) zero d = refl
map_at f (x ∷ l) (suc i) d = map_at f l i d

module _ (table : List Slot) (used : ℕ) (room : used ≤ length table) where
  key_long : length (seen_in table used) ≡ used
  unfolding seen_in
  key_long = length-map (take used table) name_of ∙ length-take-le used table room

  name_at : (i : ℕ) (s : Slot) → i < used → s ≡ get_or table i empty_slot → get_or s 1 0 ≡ get_or (seen_in table used) i 0
  unfolding seen_in
  name_at i s h e = rw e (sym (map_at name_of (take used table) i empty_slot ∙ ap name_of (get_or-take used table i empty_slot h)))

  pub key_turn : (key key₀ : List ℕ) (i : ℕ) (s : Slot) → i < used → i < length key → length key ≡ length key₀ → s ≡ get_or table i empty_slot → key ≡ over (take i (seen_in table used)) key₀
      → set key i (get_or s 1 0) ≡ over (take (i + 1) (seen_in table used)) key₀
  key_turn key key₀ i s h g l e inv = over_turn (seen_in table used) key₀ key i (get_or s 1 0) inv (omega (arith, key_long)) (omega arith) (name_at i s h e)

  pub key_end : (key key₀ : List ℕ) (i : ℕ) → used ≤ i → key ≡ over (take i (seen_in table used)) key₀ → key ≡ over (seen_in table used) key₀
  key_end key key₀ i h inv = over_all (seen_in table used) key₀ key i inv (omega (arith, key_long))

  pub key_full : (key key₀ : List ℕ) (i : ℕ) → length key ≤ i → length key ≡ length key₀ → key ≡ over (take i (seen_in table used)) key₀ → key ≡ over (seen_in table used) key₀
  key_full key key₀ i h l inv = over_full (seen_in table used) key₀ key i inv (omega arith)

-- the first numbers of a list put over others that are as many
pub over_front : (new old front : List ℕ) (n : ℕ) → n ≤ length new → n ≤ length old → front ≡ take n new → front ++ drop n old ≡ over (take n new) old
over_front new old front n h g e =
    let size : length (take n new) ≡ n = length-take-le n new h in
    let fits : length (take n new) ≤ length old = omega arith in
    rw e (sym (over_is (take n new) old fits ∙ ap (λ (k : ℕ). take n new ++ drop k old) size))

pub ruleset ways = (names_start, names_turn, used_turn, names_end, knows_after, row_written_lem, rows_start, rows_turn, rows_end, over_start, key_turn, key_end, key_full, rules)
