-- Names that are entered in the table and numbered: one law for each way through the code.
use Rattle.std.specs.Prelude.{Option, Some, None, ℕ}
use mathlib.Core.Path.{◌≡◌, refl, sym, ap, ap₂, ◌∙◌}
use mathlib.Core.Bool.{Bool, true, false, ◌&&◌, ◌||◌}
use mathlib.Core.List.{List, [], ◌∷◌, ◌++◌, map}
use native.Mathlib.Nat.{sub-zero}
use native.Mathlib.Omega.{arith}
use Prim.Native.Nat.{ℕ, suc, ◌+◌, ◌≤◌, ◌<◌}
use lib.Dec.{eqb, leb}
use lib.ListN.{length, take, set, length-map, length-set, length-append}
use lib.Seq.{length-take-le}
use types.Run.{OneOf, miss}
use denote.Enum.Declared.{tag_of}
use borrow.Author.Rules.{rules}
use borrow.Author.Tests.{eqb-true}
use Rattle.kit.specs.Out.{◌&◌}
use Rattle.kit.specs.Pick.{pick}
use Rattle.kit.proofs.Laws.{tests, take_next_set}
use Rattle.rules.specs.Tools.{when◌then◌else◌, is_in, between}
use Rattle.rules.specs.Versions.{top_name}
use Rattle.rules.specs.Laws.ToolLaws.{false_not, eqb_same, eqb-false}
use Rattle.renaming.specs.Renaming.{renamed, name_in, firsts, place_of}
use Rattle.names.specs.Table.{Slot, name_of, pushed, find_in}
use Rattle.names.specs.Table as names
use Rattle.names.proofs.Laws.{push_room}
use Rattle.index.specs.Indexed.{Holds, Covers}
use Rattle.index.proofs.Storey.{covers_all}
use Rattle.rows.specs.contracts.row.Row as row
use Rattle.rows.specs.RowAt.{row_to}
use Rattle.rows.specs.declared.row.Index.{Index}
use Rattle.rows.specs.declared.row.Index.TheVariants.{Number, Name}
use Rattle.rows.specs.declared.row.Row.{Row}
use Rattle.rows.specs.declared.row.Row.TheVariants.{Field, Decl, Ref, Path, Outer, Case, Open, Close, Export, Broken}
use Rattle.anonymise.specs.Seen.{slot_of, slots_from, seen_in, Knows, Enters}
use Rattle.anonymise.specs.Renamed.{input_row, index_names_t, row_names_t, renamed_index_t, renamed_row_t}

-- ---- a search finds the place

eqb_turn : (a b : ℕ) (t : Bool) → eqb a b ≡ t → eqb b a ≡ t
eqb_turn a b true e = rw (eqb-true a b e) (eqb_same b)
eqb_turn a b false e = eqb-false b a (λ q. let back : eqb a b ≡ true = rw q (eqb_same a) in false_not (sym e ∙ back))

find_known : (k : ℕ) (ns : List ℕ) (n : ℕ) → is_in n ns ≡ true → find_in (slots_from (suc k) ns) 0 n ≡ Some (k + place_of ns n)
unfolding find_in slots_from place_of pick when◌then◌else◌
find_known k [] n i = false_not i
find_known k (m ∷ ns) n i = go (eqb n m) refl i (λ j. find_known (suc k) ns n j)
  where
    go : (t : Bool) → eqb n m ≡ t → t || is_in n ns ≡ true → (is_in n ns ≡ true → find_in (slots_from (suc (suc k)) ns) 0 n ≡ Some (suc k + place_of ns n))
        → pick (eqb m n) (Some (suc k)) (find_in (slots_from (suc (suc k)) ns) 0 n) ≡ Some (k + (when t then 1 else suc (place_of ns n)))
    go true e i rec = let num : suc k ≡ k + 1 = omega arith in rw (eqb_turn n m true e) (ap Some num)
    go false e i rec = let num : suc k + place_of ns n ≡ k + suc (place_of ns n) = omega arith in rw (eqb_turn n m false e) (rec i ∙ ap Some num)

neither : (a b : Bool) → a || b ≡ false → (a ≡ false) × (b ≡ false)
neither true b e = false_not (sym e)
neither false b e = (refl, e)

find_none : (k : ℕ) (ns : List ℕ) (n : ℕ) → is_in n ns ≡ false → find_in (slots_from k ns) 0 n ≡ None
unfolding find_in slots_from pick
find_none k [] n i = refl
find_none k (m ∷ ns) n i =
    let both = neither (eqb n m) (is_in n ns) i in
    rw (eqb_turn n m false both.0) (find_none (suc k) ns n both.1)

place_none : (ns : List ℕ) (n : ℕ) → is_in n ns ≡ false → place_of ns n ≡ suc (length ns)
unfolding place_of when◌then◌else◌
place_none [] n i = refl
place_none (m ∷ ns) n i =
    let both = neither (eqb n m) (is_in n ns) i in
    rw both.0 (ap suc (place_none ns n both.1))

-- ---- names one behind the other

firsts_if : (t : Bool) (xs ys x y l : List ℕ) → x ≡ firsts xs l → y ≡ firsts ys l → (when t then x else y) ≡ firsts (when t then xs else ys) l
unfolding when◌then◌else◌
firsts_if true xs ys x y l p q = p
firsts_if false xs ys x y l p q = q

pub firsts_append : (seen xs ys : List ℕ) → firsts seen (xs ++ ys) ≡ firsts (firsts seen xs) ys
unfolding firsts
firsts_append seen [] ys = refl
firsts_append seen (x ∷ xs) ys = firsts_if (is_in x seen) _ _ _ _ ys (firsts_append seen xs ys) (firsts_append (seen ++ (x ∷ [])) xs ys)

slots_snoc : (k : ℕ) (ns : List ℕ) (n : ℕ) → slots_from k (ns ++ (n ∷ [])) ≡ slots_from k ns ++ (slot_of n (k + length ns) ∷ [])
unfolding slots_from
slots_snoc k [] n = let e : k + 0 ≡ k = omega arith in rw e
slots_snoc k (m ∷ ns) n =
    let e : suc k + length ns ≡ k + suc (length ns) = omega arith in
    ap (λ (l : List Slot). slot_of m k ∷ l) (slots_snoc (suc k) ns n ∙ ap (λ (j : ℕ). slots_from (suc k) ns ++ (slot_of n j ∷ [])) e)

map_snoc : (f : Slot → ℕ) (xs : List Slot) (x : Slot) → map f (xs ++ (x ∷ [])) ≡ map f xs ++ (f x ∷ [])
map_snoc f [] x = refl
map_snoc f (y ∷ xs) x = ap (λ (l : List ℕ). f y ∷ l) (map_snoc f xs x)

-- ---- a table of names

module _ (table : List Slot) (index : List ℕ) (used : ℕ) (k : Knows table index used) where
  pub knows_covers : Covers table index used
  knows_covers = covers_all table index used k.holds

  pub seen_long : length (seen_in table used) ≡ used
  unfolding seen_in
  seen_long = length-map (take used table) name_of ∙ length-take-le used table k.holds.room

  all_slots : names.between 0 used table ≡ slots_from 1 (seen_in table used)
  unfolding names.between
  all_slots = rw sub-zero k.numbered

  -- what the search says of a name
  module _ (name : ℕ) (f : Option ℕ) (w : f ≡ find_in (names.between 0 used table) 0 name) where
    says : f ≡ find_in (slots_from 1 (seen_in table used)) 0 name
    says = rw all_slots at w

    was_there : (m : ℕ) → f ≡ Some m → (is_in name (seen_in table used) ≡ true) × (m ≡ place_of (seen_in table used) name)
    was_there m e = go (is_in name (seen_in table used)) refl
      where
        go : (t : Bool) → is_in name (seen_in table used) ≡ t → (is_in name (seen_in table used) ≡ true) × (m ≡ place_of (seen_in table used) name)
        go true q =
            let found : Some m ≡ Some (0 + place_of (seen_in table used) name) = sym e ∙ (says ∙ find_known 0 (seen_in table used) name q) in
            let same : m ≡ 0 + place_of (seen_in table used) name = cc in
            (q, omega arith)
        go false q =
            let found : Some m ≡ None = sym e ∙ (says ∙ find_none 1 (seen_in table used) name q) in
            let no_way : ◌≡◌ {A = ℕ} 0 1 = cc in
            absurd (omega arith)

    not_there : f ≡ None → is_in name (seen_in table used) ≡ false
    not_there e = go (is_in name (seen_in table used)) refl
      where
        go : (t : Bool) → is_in name (seen_in table used) ≡ t → is_in name (seen_in table used) ≡ false
        go false q = q
        go true q =
            let found : None ≡ Some (0 + place_of (seen_in table used) name) = sym e ∙ (says ∙ find_known 0 (seen_in table used) name q) in
            let no_way : ◌≡◌ {A = ℕ} 0 1 = cc in
            absurd (omega arith)

  -- ---- a name is entered

  stays : (ns : List ℕ) → firsts (seen_in table used) ns ≡ seen_in table used → Enters table used ns table index used
  stays ns e = record { knows = k; seen = sym e; few = omega arith; long = refl }

  pub enter_none : (name : ℕ) → name ≡ 0 → Enters table used (name_in name) table index used
  enter_none name z = stays (name_in name) (unfold name_in firsts when◌then◌else◌ in rw z)

  pub enter_number : (at : Index) (n : ℕ) → at ≡ Number n → Enters table used (index_names_t at) table index used
  enter_number at n e = rw e (stays [] (unfold firsts in refl))

  module _ (name : ℕ) (named : name ≡ 0 → ⊥) (f : Option ℕ) (w : f ≡ find_in (names.between 0 used table) 0 name) where
    one_name : name_in name ≡ name ∷ []
    unfolding name_in when◌then◌else◌
    one_name = rw (eqb-false name 0 named)

    pub enter_known : (m : ℕ) → f ≡ Some m → Enters table used (name_in name) table index used
    enter_known m e = rw one_name (stays (name ∷ []) (unfold firsts when◌then◌else◌ in rw (was_there name f w m e).0))

    module _ (room : used < length table) (r : ℕ) (table' : List Slot) (index' : List ℕ) (number : ℕ) (next : number ≡ used + 1) (p : (r & table') ≡ pushed table used (slot_of name number)) (h : Holds table' index' r) where
      pushed_as : (r & table') ≡ (used + 1 & set table used (slot_of name number))
      pushed_as = p ∙ sym (push_room table used (slot_of name number) room)

      count_is : r ≡ used + 1
      count_is = let e = pushed_as in cc

      table_is : table' ≡ set table used (slot_of name number)
      table_is = let e = pushed_as in cc

      slots_are : take r table' ≡ take used table ++ (slot_of name number ∷ [])
      slots_are = rw (count_is, table_is) (take_next_set table used (slot_of name number) room)

      names_are : seen_in table' r ≡ seen_in table used ++ (name ∷ [])
      unfolding seen_in
      names_are = rw slots_are (map_snoc name_of (take used table) (slot_of name number))

      numbered_are : take r table' ≡ slots_from 1 (seen_in table' r)
      numbered_are =
          let last : number ≡ 1 + length (seen_in table used) = omega (arith, seen_long) in
          slots_are ∙ (ap₂ (λ (l : List Slot) (j : ℕ). l ++ (slot_of name j ∷ [])) k.numbered last
          ∙ (sym (slots_snoc 1 (seen_in table used) name) ∙ ap (slots_from 1) (sym names_are)))

      pub enter_new : f ≡ None → Enters table used (name_in name) table' index' r
      enter_new e =
          rw one_name
          (record {
            knows = record { holds = h; numbered = numbered_are };
            seen = names_are ∙ unfold firsts when◌then◌else◌ in rw (not_there name f w e);
            few = omega (arith, count_is);
            long = ap length table_is ∙ length-set table used (slot_of name number);
          })

-- names and then others
pub enters_both : (table table' table'' : List Slot) (index' index'' : List ℕ) (used used' used'' : ℕ) (ns ms : List ℕ) → Enters table used ns table' index' used' → Enters table' used' ms table'' index'' used'' → Enters table used (ns ++ ms) table'' index'' used''
enters_both table table' table'' index' index'' used used' used'' ns ms a b =
    record {
      knows = b.knows;
      seen = b.seen ∙ (ap (λ (l : List ℕ). firsts l ms) a.seen ∙ sym (firsts_append (seen_in table used) ns ms));
      few = omega (arith, a.few, b.few, length-append ns ms);
      long = b.long ∙ a.long;
    }

pub enter_name : (table table' : List Slot) (index' : List ℕ) (used used' : ℕ) (at : Index) (n : ℕ) → at ≡ Name n → Enters table used (name_in n) table' index' used' → Enters table used (index_names_t at) table' index' used'
enter_name table table' index' used used' at n e h = rw e h

-- ---- the names of a row

-- what `input_row` finds
pub input_row_lem : (rows : List ℕ) (i : ℕ) (r : Row) → r ≡ row_to top_name rows i → r ≡ input_row rows i
unfolding input_row
input_row_lem rows i r e = e

module _ (rows : List ℕ) (i : ℕ) (r : Row) (got : r ≡ input_row rows i) (table : List Slot) (used : ℕ) (table' : List Slot) (index' : List ℕ) (used' : ℕ) where
  abbrev Named : List ℕ → Type 0
  Named ns = Enters table used ns table' index' used'

  entered : (ns : List ℕ) → row_names_t r ≡ ns → Named ns → Named (row_names_t (input_row rows i))
  entered ns e h = rw (← got) (rw e h)

  pub row_decl : (space name z : ℕ) → r ≡ Decl space name z → Named (name_in name) → Named (row_names_t (input_row rows i))
  row_decl space name z e h = entered (name_in name) (unfold row_names_t in rw e) h

  pub row_ref : (space : ℕ) (at : Index) (paths z : ℕ) → r ≡ Ref space at paths z → Named (index_names_t at) → Named (row_names_t (input_row rows i))
  row_ref space at paths z e h = entered (index_names_t at) (unfold row_names_t in rw e) h

  pub row_outer : (space : ℕ) (up at : Index) (z : ℕ) → r ≡ Outer space up at z → (table'' : List Slot) (index'' : List ℕ) (used'' : ℕ) → Enters table used (index_names_t up) table'' index'' used''
      → Enters table'' used'' (index_names_t at) table' index' used' → Named (row_names_t (input_row rows i))
  row_outer space up at z e table'' index'' used'' h g =
      entered (index_names_t up ++ index_names_t at) (unfold row_names_t in rw e) (enters_both table table'' table' index'' index' used used'' used' _ _ h g)

  pub row_case : (name z : ℕ) → r ≡ Case name z → Named (name_in name) → Named (row_names_t (input_row rows i))
  row_case name z e h = entered (name_in name) (unfold row_names_t in rw e) h

  pub row_open : (kind name : ℕ) → r ≡ Open kind name → Named (name_in name) → Named (row_names_t (input_row rows i))
  row_open kind name e h = entered (name_in name) (unfold row_names_t in rw e) h

no_names : (r : Row) → OneOf (0 ∷ 3 ∷ 7 ∷ 8 ∷ 9 ∷ []) (tag_of row.the_type r) → row_names_t r ≡ []
unfolding row_names_t
no_names (Field c b z) k = refl
no_names (Decl sp n z) k = absurd (miss (0 ∷ 3 ∷ 7 ∷ 8 ∷ 9 ∷ []) 1 tt k)
no_names (Ref sp at p z) k = absurd (miss (0 ∷ 3 ∷ 7 ∷ 8 ∷ 9 ∷ []) 2 tt k)
no_names (Path n) k = refl
no_names (Outer sp u at z) k = absurd (miss (0 ∷ 3 ∷ 7 ∷ 8 ∷ 9 ∷ []) 4 tt k)
no_names (Case n z) k = absurd (miss (0 ∷ 3 ∷ 7 ∷ 8 ∷ 9 ∷ []) 5 tt k)
no_names (Open g n) k = absurd (miss (0 ∷ 3 ∷ 7 ∷ 8 ∷ 9 ∷ []) 6 tt k)
no_names Close k = refl
no_names (Export n) k = refl
no_names Broken k = refl

pub row_bare : (rows : List ℕ) (i : ℕ) (r : Row) → r ≡ input_row rows i → (table : List Slot) (index : List ℕ) (used : ℕ) → Knows table index used → OneOf (0 ∷ 3 ∷ 7 ∷ 8 ∷ 9 ∷ []) (tag_of row.the_type r)
    → Enters table used (row_names_t (input_row rows i)) table index used
row_bare rows i r got table index used k t = rw (← got, no_names r t) (stays table index used k [] (unfold firsts in refl))

-- the second name of an OUTER has room too
pub room_left : (table table' : List Slot) (index' : List ℕ) (used used' : ℕ) (at : Index) → Enters table used (index_names_t at) table' index' used' → used + 2 ≤ length table → used' < length table'
room_left table table' index' used used' at h room = let few = index_few at in omega (arith, h.few, h.long)
  where
    index_few : (x : Index) → length (index_names_t x) ≤ 1
    index_few (Number n) = omega arith
    index_few (Name n) = unfold name_in in by_test (eqb n 0) n
      where
        by_test : (t : Bool) (m : ℕ) → length (when t then [] else m ∷ []) ≤ 1
        by_test true m = unfold when◌then◌else◌ in omega arith
        by_test false m = unfold when◌then◌else◌ in omega arith

pub ruleset enters = (knows_covers, enter_none, enter_number, enter_name, enter_known, enter_new, row_decl, row_ref, row_outer, row_case, row_open, row_bare, room_left, rules)

-- ---- the number of a name

module _ (table : List Slot) (index : List ℕ) (used : ℕ) (k : Knows table index used) (name : ℕ) where
  pub number_none : name ≡ 0 → name ≡ renamed (place_of (seen_in table used)) name
  number_none z = unfold renamed when◌then◌else◌ in rw z

  pub number_fresh : 2147483648 ≤ name → name ≡ renamed (place_of (seen_in table used)) name
  unfolding renamed when◌then◌else◌
  number_fresh h =
      let high : leb name top_name ≡ false = omega tests in
      let past : between 1 top_name name ≡ false = rw high (and_off (leb 1 name)) in
      rw past
    where
      and_off : (t : Bool) → t && false ≡ false
      and_off true = refl
      and_off false = refl

  module _ (named : name ≡ 0 → ⊥) (low : name < 2147483648) (f : Option ℕ) (w : f ≡ find_in (names.between 0 used table) 0 name) where
    in_range : renamed (place_of (seen_in table used)) name ≡ place_of (seen_in table used) name
    unfolding renamed when◌then◌else◌
    in_range =
        let a : leb 1 name ≡ true = omega tests in
        let b : leb name top_name ≡ true = omega tests in
        rw (a, b)

    pub number_known : (m : ℕ) → f ≡ Some m → m ≡ renamed (place_of (seen_in table used)) name
    number_known m e = (was_there table index used k name f w m e).1 ∙ sym in_range

    pub number_next : f ≡ None → (m : ℕ) → m ≡ used + 1 → m ≡ renamed (place_of (seen_in table used)) name
    number_next e m q =
        let next = place_none (seen_in table used) name (not_there table index used k name f w e) in
        let same : m ≡ place_of (seen_in table used) name = omega (arith, next, seen_long table index used k) in
        same ∙ sym in_range

-- ---- a row with numbers for names

module _ (g : ℕ → ℕ) where
  pub index_number : (at : Index) (n : ℕ) → at ≡ Number n → Number n ≡ renamed_index_t g at
  index_number at n e = rw e

  pub index_name : (at : Index) (n m : ℕ) → at ≡ Name n → m ≡ g n → Name m ≡ renamed_index_t g at
  index_name at n m e h = rw (e, h)

  module _ (r : Row) where
    pub new_decl_lem : (space name z m : ℕ) → r ≡ Decl space name z → m ≡ g name → Decl space m z ≡ renamed_row_t g r
    unfolding renamed_row_t
    new_decl_lem space name z m e h = rw (e, h)

    pub new_ref : (space : ℕ) (at new : Index) (paths z : ℕ) → r ≡ Ref space at paths z → new ≡ renamed_index_t g at → Ref space new paths z ≡ renamed_row_t g r
    unfolding renamed_row_t
    new_ref space at new paths z e h = rw (e, h)

    pub new_outer : (space : ℕ) (up at up' at' : Index) (z : ℕ) → r ≡ Outer space up at z → up' ≡ renamed_index_t g up → at' ≡ renamed_index_t g at → Outer space up' at' z ≡ renamed_row_t g r
    unfolding renamed_row_t
    new_outer space up at up' at' z e h q = rw (e, h, q)

    pub new_case : (name z m : ℕ) → r ≡ Case name z → m ≡ g name → Case m z ≡ renamed_row_t g r
    unfolding renamed_row_t
    new_case name z m e h = rw (e, h)

    pub new_open : (kind name m : ℕ) → r ≡ Open kind name → m ≡ g name → Open kind m ≡ renamed_row_t g r
    unfolding renamed_row_t
    new_open kind name m e h = rw (e, h)

  pub new_bare : (r : Row) → OneOf (0 ∷ 3 ∷ 7 ∷ 8 ∷ 9 ∷ []) (tag_of row.the_type r) → r ≡ renamed_row_t g r
  unfolding renamed_row_t
  new_bare (Field c b z) k = refl
  new_bare (Decl sp n z) k = absurd (miss (0 ∷ 3 ∷ 7 ∷ 8 ∷ 9 ∷ []) 1 tt k)
  new_bare (Ref sp at p z) k = absurd (miss (0 ∷ 3 ∷ 7 ∷ 8 ∷ 9 ∷ []) 2 tt k)
  new_bare (Path n) k = refl
  new_bare (Outer sp u at z) k = absurd (miss (0 ∷ 3 ∷ 7 ∷ 8 ∷ 9 ∷ []) 4 tt k)
  new_bare (Case n z) k = absurd (miss (0 ∷ 3 ∷ 7 ∷ 8 ∷ 9 ∷ []) 5 tt k)
  new_bare (Open g n) k = absurd (miss (0 ∷ 3 ∷ 7 ∷ 8 ∷ 9 ∷ []) 6 tt k)
  new_bare Close k = refl
  new_bare (Export n) k = refl
  new_bare Broken k = refl

pub ruleset numbers = (knows_covers, number_none, number_fresh, number_known, number_next, index_number, index_name, new_decl_lem, new_ref, new_outer, new_case, new_open, new_bare, rules)
