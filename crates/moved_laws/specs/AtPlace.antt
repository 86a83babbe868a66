-- What is listed of an operand's row is what the rules list of its place.
use Rattle.std.specs.Prelude.{◌≡◌, Bool, true, false, ◌&&◌, ◌||◌, not, ℕ, suc, ◌+◌, eqb, leb, ltb, length, Option as CodeOption, Some, None}
use Rattle.std.proofs.Math.Path.{refl, ap, sym, subst}
use Rattle.std.proofs.Common.{◌∙◌}
use Rattle.std.proofs.Math.Option.{Option, none, some, map}
use mathlib.Core.List.{List, [], ◌∷◌}
use native.Mathlib.Omega.{arith}
use Rattle.std.proofs.Math.ListN.{get_elem?}
use Rattle.kit.specs.Pick.{pick}
use Rattle.kit.proofs.Laws.{yes!, no!, tests}
use Rattle.rules.specs.Tools.{when◌then◌else◌, only, ◌then◌}
use Rattle.rules.specs.Versions.{RuleSet}
use Rattle.rules.specs.Rows.{Index, Num, Id, encode, flag, number, Ref, Outer}
use Rattle.rules.specs.Tree.{Operand, ref, outer, case, Scope}
use Rattle.rules.specs.Rules.{ok, resolve}
use Rattle.rules.specs.Readings
use Rattle.rules.specs.Readings.{Place, Level, use_at, counted, place}
use Rattle.rules.specs.Laws.ToolLaws.{done, then_some, leb_le, leb_lt}
use Rattle.rules.specs.Laws.Meaning.Names.{LowScope, low_scope}
use Rattle.rules.proofs.Laws.Output.Kept.{AliasesFields, kept}
use Rattle.places.specs.PlaceRows.{Floor, floor, floors, floors_at, Located, counted_row, row_of_operand}
use Rattle.places.specs.Counting.{spot_of, counted_row_lem}
use Rattle.places.proofs.RowAt.{all_at, operand_row_of}
use Rattle.moving.specs.Moved
use Rattle.moving.specs.Moved.{names_to, nearest_named, Written, instance_space, written, written_at, counted_in, Denoted, denoted, same_place, MovedNumber, NoItem, moved_at, apart_at, if_any}
use Rattle.moving.proofs.Laws.Lists.{Same, NoneInFields, same_scope, floor_level, level_floor, item_after, none_around, map_some}
use Rattle.moving.proofs.Laws.EveryNumber.{low_none, fields_none}
use Rattle.row_parts.specs.Parts.{code_at, b_at, e_at, x_at, y_at, z_at}
use Rattle.scopes.specs.Scopes.{scope_of, find_in, scope_outward}
use Rattle.readings.specs.Meaning.{space_sought, outer_wanted}
use Rattle.scopes.specs.declared.Key.TheVariants.{Number as Numbered}
use Rattle.scopes.specs.declared.Wanted.{Wanted}
use Rattle.scopes.specs.declared.Wanted.TheVariants.{Out, Named}
use Rattle.numbers.specs.declared.Number.{Number}
use Rattle.numbers.specs.Entries.{is_written, numbered, number_at, scope_wanted, is_pushed, gets, gets_entry, gets_in, output_entry, meant_by, counted_entry, counted_in as counted_on, entry_at}
use Rattle.moved_list.specs.Listing.{moved_number, no_item, moved_of, apart_of}
use Rattle.reading_laws.specs.Stand.{Is, code_part, b_part, e_part, x_part, y_part, z_part}
use Rattle.reading_laws.specs.Floors.{Chain, first_row, floors_chain}
use Rattle.reading_laws.specs.Number.{counted_in_lem, stands_at}
use Rattle.reading_laws.specs.Outward.{first_wanted, scope_outward_lem, count_out, count_past}
use Rattle.reading_laws.specs.Operands.{Used}
use Rattle.reading_laws.specs.Meant.{Rows, use_there}
use Rattle.moved_laws.specs.InScope.{floors_aliases, none_found, pushed_moves}
use Rattle.moved_laws.specs.Named.{NamesAre, names_at, named_found, named_nowhere}
use Rattle.numbers.specs.declared.Entry.TheVariants.{Moved as MovedEntry, Apart}
use Rattle.numbers.specs.declared.Entry.{Entry}
use Rattle.scopes.specs.declared.Outer.{Outer as OuterScope}

-- ---- an entry says what the rules list of a place

pub record Says (e : CodeOption Entry) (m : Option MovedNumber) (a : Option NoItem) : Type 0 where
  pub first : moved_of (e ∷ []) ≡ if_any m []
  pub second : apart_of (e ∷ []) ≡ if_any a []

pub says_nothing : Says None none none
unfolding moved_of apart_of if_any
says_nothing = record { first = refl; second = refl }

says_apart : (z space n : ℕ) → Says (Some (Apart z space n)) none (some (no_item z space n))
unfolding moved_of apart_of if_any
says_apart z space n = record { first = refl; second = refl }

says_moved : (z space meant gets : ℕ) → Says (Some (MovedEntry z space meant gets)) (some (moved_number z space meant gets)) none
unfolding moved_of apart_of if_any
says_moved z space meant gets = record { first = refl; second = refl }

-- moved if it is pushed
decided : (m : MovedNumber) {o : Option MovedNumber} {a : Option NoItem} (b : Bool) → o ≡ only (not (not b)) m → a ≡ none → Says (pick b (Some (MovedEntry m.z m.space m.meant m.gets)) None) o a
unfolding pick only
decided m true e₁ e₂ = rw (e₁, e₂) (says_moved m.z m.space m.meant m.gets)
decided m false e₁ e₂ = rw (e₁, e₂) says_nothing

-- ---- a scope this many scopes out

unfoldable scope_for : Option Floor → (d : ℕ) → CodeOption OuterScope
scope_for none d = None
scope_for (some f) d = Some (record { scope = f.row; out = d })

counts_out : (form : List ℕ) (fs : List Floor) (d : ℕ) → Chain form fs → scope_outward form (first_row fs) (Out d) ≡ scope_for (get_elem? fs d) d
unfolding scope_for
counts_out form fs d C = scope_outward_lem form (Out d) fs C ∙ go (get_elem? fs d) refl
  where
    go : (o : Option Floor) → get_elem? fs d ≡ o → first_wanted form (Out d) 0 fs ≡ scope_for o d
    go none e = let same : d ≡ 0 + d = omega arith in ap (λ (k : ℕ). first_wanted form (Out k) 0 fs) same ∙ count_past form fs d 0 e
    go (some f) e =
        let same : d ≡ 0 + d = omega arith in
        ap (λ (k : ℕ). first_wanted form (Out k) 0 fs) same ∙ (count_out form fs d 0 f e ∙ ap (λ (k : ℕ). Some (record { scope = f.row; out = k })) (sym same))

-- ---- the number of a row

abbrev number_of : Written → Number
number_of w = numbered w.z w.space w.number

module _ (form : List ℕ) (r : ℕ) where
  not_written : (e : ℕ) (c : ℕ) → code_at form r ≡ c → e_at form r ≡ e → ((eqb c 3 && eqb e 0) || (eqb c 5 && ltb e 2)) ≡ false → (out : List ℕ) (at : ℕ) → entry_at form r out at ≡ None
  unfolding entry_at is_written
  not_written e c hc he no_number out at = sym (no! _ (rw (hc, he) no_number) refl)

  entry_of : (out : List ℕ) (at s : ℕ) (wanted : Wanted) (o : CodeOption OuterScope) (n : Number) → is_written form r ≡ true → scope_of form r ≡ s → scope_wanted form r ≡ wanted → number_at form r ≡ n → scope_outward form s wanted ≡ o
      → entry_at form r out at ≡ counted_on form o n out at
  unfolding entry_at
  entry_of out at s wanted o n is around w number reached = sym (yes! _ is refl) ∙ rw (around, w, number, reached)

flag_low : (i : Index) → ltb (flag i) 2 ≡ true
unfolding flag
flag_low (Num n) = refl
flag_low (Id n) = refl

pub instance_space_lem : (space paths : ℕ) → pick (eqb (suc paths) 0) space (pick (ltb space 7) 6 10) ≡ instance_space space
unfolding instance_space pick when◌then◌else◌
instance_space_lem space paths = let past : eqb (suc paths) 0 ≡ false = omega tests in rw past (go (leb space 6) refl)
  where
    go : (b : Bool) → leb space 6 ≡ b → ◌≡◌ {A = ℕ} (pick (ltb space 7) 6 10) (when b then 6 else 10)
    go true e = let l = leb_le space 6 e in let t : ltb space 7 ≡ true = omega (tests, l) in rw t
    go false e = let l = leb_lt space 6 e in let t : ltb space 7 ≡ false = omega (tests, l) in rw t

own_space : (space : ℕ) → pick (eqb 0 0) space (pick (ltb space 7) 6 10) ≡ space
unfolding pick
own_space space = refl

counted_wanted : (d : ℕ) → outer_wanted (flag (Num d)) (number (Num d)) ≡ Out d
unfolding outer_wanted flag number pick
counted_wanted d = refl

named_wanted : (name : ℕ) → outer_wanted (flag (Id name)) (number (Id name)) ≡ Named name
unfolding outer_wanted flag number pick
named_wanted name = refl

-- an OUTER of a scope by name
module _ (names : List ℕ) (space name n z : ℕ) where
  no_name : nearest_named names name ≡ none → written names (outer space (Id name) (Num n) z) ≡ none
  unfolding written ◌then◌
  no_name e = rw e

  a_name : (d : ℕ) → nearest_named names name ≡ some d → written names (outer space (Id name) (Num n) z) ≡ some (record { z = z; out = d; space = space; number = n })
  unfolding written ◌then◌
  a_name d e = rw e

nothing_there : (form : List ℕ) (n : Number) (out : List ℕ) (at : ℕ) → counted_on form None n out at ≡ None
unfolding counted_on
nothing_there form n out at = refl

found_there : (fs : List Floor) (d : ℕ) (f : Floor) → get_elem? fs d ≡ some f → Some (record { scope = f.row; out = 0 + d }) ≡ scope_for (get_elem? fs d) d
unfolding scope_for
found_there fs d f e = let same : 0 + d ≡ d = omega arith in rw (e, same)

-- ---- what the rules list of a place, step by step

module _ (before after : Scope) (p : Place) where
  not_listed : written_at before p ≡ none → (moved_at before after p ≡ none) × (apart_at before p ≡ none)
  unfolding moved_at apart_at ◌then◌
  not_listed e = (rw e, rw e)

  module _ (w : Written) (number : written_at before p ≡ some w) where
    no_such_scope : Moved.counted_in before p w ≡ none → (moved_at before after p ≡ none) × (apart_at before p ≡ none)
    unfolding moved_at apart_at ◌then◌
    no_such_scope e = (rw (number, e), rw (number, e))

    module _ (f : Floor) (in-before : Moved.counted_in before p w ≡ some f) where
      no_item_lem : counted_row f w.space w.number ≡ none → (moved_at before after p ≡ none) × (apart_at before p ≡ some (no_item w.z w.space w.number))
      unfolding moved_at apart_at denoted only ◌then◌
      no_item_lem e = (rw (number, in-before, e), rw (number, in-before, e))

      -- whether it is listed as moved
      an_item : (g : Floor) (x y : Located) → Moved.counted_in after p w ≡ some g → counted_row f w.space w.number ≡ some x → counted_row g w.space w.number ≡ some y
          → (moved_at before after p ≡ only (not (same_place (place f.level x.standing.spot) (place g.level y.standing.spot))) (moved_number w.z w.space x.row y.row))
          × (apart_at before p ≡ none)
      unfolding moved_at apart_at denoted only ◌then◌
      an_item g x y in_after ex ey = (rw (number, in-before, ex, in_after, ey), rw (number, in-before, ex))

-- ---- the entry of a place's row

module _ (form out : List ℕ) (before : Scope) (run : Scope × ℕ) (rules : RuleSet) (low : LowScope before) (resolves : resolve rules before ≡ ok run) (R : Rows form before) (R' : Rows out run.0)
    (p : Place) (r : ℕ) (at_row : row_of_operand before p ≡ some r) (at : ℕ) (gs : List Floor) (around-after : floors_at run.0 p.way ≡ some gs) (in_scope_lem : scope_of out at ≡ first_row gs) where
  abbrev after : Scope
  after = run.0

  U : Used form before p r
  U = use_there form before R p r at_row

  abbrev fs : List Floor
  fs = U.f ∷ U.rest

  chain_after : Chain out gs
  chain_after = floors_chain out after p.way gs R'.stand R'.fit around-after

  counted_before : (w : Written) → Moved.counted_in before p w ≡ get_elem? fs w.out
  unfolding Moved.counted_in ◌then◌
  counted_before w = rw U.are

  counted_after : (w : Written) → Moved.counted_in after p w ≡ get_elem? gs w.out
  unfolding Moved.counted_in ◌then◌
  counted_after w = rw around-after

  -- no scope around it has an inserted field
  originals_in : (w : Written) (f : Floor) → Moved.counted_in before p w ≡ some f → NoneInFields f.level.fields
  unfolding Readings.root
  originals_in w f e =
      let t = then_some (Readings.around p.way (Readings.root before) []) _ _ (floor_level before p w f e) in
      all_at t.0 w.out f.level (none_around p.way (Readings.root before) [] t.0 t.1 (fields_none before (low_none before low)) done) t.2

  aliases_in : (w : Written) (g : Floor) → get_elem? gs w.out ≡ some g → AliasesFields g.level.fields
  unfolding resolve
  aliases_in w g e = all_at gs w.out g (floors_aliases after p.way gs (kept rules [] before run (low_scope before low) resolves).aliases around-after) e

  -- what it counts to in the output
  record Item (w : Written) (f : Floor) (x : Located) : Type 0 where
    g : Floor
    in_after : Moved.counted_in after p w ≡ some g
    same : Same f.level g.level
    y : Located
    is : counted_row g w.space w.number ≡ some y

  item : (w : Written) (f : Floor) (x : Located) → Moved.counted_in before p w ≡ some f → counted_row f w.space w.number ≡ some x → Item w f x
  item w f x e q =
      let L = same_scope rules before run p w f.level low resolves (floor_level before p w f e) in
      let F = level_floor after p w L.0 L.1 in
      let there = ap (map spot_of) q in
      let I = item_after f.level L.0 L.2 w.space w.number (spot_of x) (sym (counted_row_lem f w.space w.number) ∙ there) in
      let Y = map_some spot_of (counted_row F.0 w.space w.number) I.0 (counted_row_lem F.0 w.space w.number ∙ (ap (λ (l : Level). counted l w.space w.number) F.2 ∙ I.1)) in
      record { g = F.0; in_after = F.1; same = subst (Same f.level) (sym F.2) L.2; y = Y.0; is = Y.1 }

  module _ (w : Written) (number : written_at before p ≡ some w) where
    -- with an item in the input
    with_item : (f : Floor) (x : Located) → Moved.counted_in before p w ≡ some f → counted_row f w.space w.number ≡ some x
        → Says (output_entry out at w.out (number_of w) x.row) (moved_at before after p) (apart_at before p)
    unfolding output_entry gets_in gets_entry gets scope_for
    with_item f x e q =
        let I = item w f x e q in
        let here : get_elem? gs w.out ≡ some I.g = sym (counted_after w) ∙ I.in_after in
        let S = stands_at out gs w.out I.g chain_after here in
        let there : scope_outward out (scope_of out at) (Out w.out) ≡ Some (record { scope = I.g.row; out = w.out }) = ap (λ (s : ℕ). scope_outward out s (Out w.out)) in_scope_lem ∙ (counts_out out gs w.out chain_after ∙ ap (λ (o : Option Floor). scope_for o w.out) here) in
        let found = counted_in_lem out I.g S.0 w.space w.number I.y S.1 I.is in
        let moving = pushed_moves out f I.g S.0 S.1 I.same (originals_in w f e) (aliases_in w I.g here) w.z w.space w.number x I.y q I.is in
        let lists = an_item before after p w number f e I.g x I.y I.in_after q I.is in
        rw (there, found) (decided (moved_number w.z w.space x.row I.y.row) (is_pushed out I.g.row (number_of w)) (lists.0 ∙ ap (λ (b : Bool). only (not b) (moved_number w.z w.space x.row I.y.row)) moving) lists.1)

    -- Whatever it counts to.
    says_number : entry_at form r out at ≡ counted_on form (scope_for (get_elem? fs w.out) w.out) (number_of w) out at → Says (entry_at form r out at) (moved_at before after p) (apart_at before p)
    unfolding counted_on counted_entry meant_by scope_for
    says_number e = subst (λ (x : CodeOption Entry). Says x (moved_at before after p) (apart_at before p)) (sym e) (go (get_elem? fs w.out) refl)
      where
        counts : (f : Floor) → get_elem? fs w.out ≡ some f → (o : Option Located) → counted_row f w.space w.number ≡ o
            → Says (meant_by out at w.out (number_of w) (find_in form f.row w.space (Numbered w.number))) (moved_at before after p) (apart_at before p)
        counts f q none e =
            let S = stands_at form fs w.out f U.chain q in
            let lists = no_item_lem before after p w number f (counted_before w ∙ q) e in
            rw (none_found form f S.0 S.1 w.space w.number e, lists.0, lists.1) (says_apart w.z w.space w.number)
        counts f q (some x) e =
            let S = stands_at form fs w.out f U.chain q in
            rw (counted_in_lem form f S.0 w.space w.number x S.1 e) (with_item f x (counted_before w ∙ q) e)

        go : (o : Option Floor) → get_elem? fs w.out ≡ o → Says (counted_on form (scope_for o w.out) (number_of w) out at) (moved_at before after p) (apart_at before p)
        go none q = let lists = no_such_scope before after p w number (counted_before w ∙ q) in rw (lists.0, lists.1) says_nothing
        go (some f) q = counts f q (counted_row f w.space w.number) refl

  -- ---- by the operand

  known_names : (names : List ℕ) × (names_to p.way before [] ≡ some names) × NamesAre form fs names
  unfolding floors_at floors
  known_names = names_at form before p.way fs R.stand U.are (floors_chain form before [] (floor (Readings.root before) 1 ∷ []) R.stand R.fit refl).0

  abbrev names : List ℕ
  names = known_names.0

  written_is : written_at before p ≡ written names U.operand
  unfolding written_at ◌then◌
  written_is = rw (U.used_as, known_names.1)

  -- its row holds no number
  none_listed : written names U.operand ≡ none → entry_at form r out at ≡ None → Says (entry_at form r out at) (moved_at before after p) (apart_at before p)
  none_listed e q = let lists = not_listed before after p (written_is ∙ e) in rw (q, lists.0, lists.1) says_nothing

  one_listed : (w : Written) → written names U.operand ≡ some w → is_written form r ≡ true → number_at form r ≡ number_of w
      → scope_outward form U.f.row (scope_wanted form r) ≡ scope_for (get_elem? fs w.out) w.out → Says (entry_at form r out at) (moved_at before after p) (apart_at before p)
  one_listed w e is number there =
      says_number w (written_is ∙ e) (entry_of form r out at U.f.row (scope_wanted form r) _ (number_of w) is U.around refl number there)

  module _ (space n paths z : ℕ) (is : Is form r (Ref space (Num n) paths z)) where
    ref_is_written : is_written form r ≡ true
    unfolding is_written encode flag
    ref_is_written = let c : code_at form r ≡ 3 = ap code_part is in let e : e_at form r ≡ 0 = ap e_part is in rw (c, e)

    ref_wanted : scope_wanted form r ≡ Out 0
    unfolding scope_wanted encode
    ref_wanted = let c : code_at form r ≡ 3 = ap code_part is in rw c (sym (no! _ refl refl))

    ref_number_lem : number_at form r ≡ numbered z (pick (eqb paths 0) space (pick (ltb space 7) 6 10)) n
    unfolding number_at space_sought encode number
    ref_number_lem =
        let c : code_at form r ≡ 3 = ap code_part is in
        let b : b_at form r ≡ space = ap b_part is in
        let x : x_at form r ≡ n = ap x_part is in
        let y : y_at form r ≡ paths = ap y_part is in
        let place : z_at form r ≡ z = ap z_part is in
        rw (c, b, x, y, place) (sym (no! _ refl refl))

  ref_listed : (w : Written) (space n paths z : ℕ) → written names U.operand ≡ some w → Is form r (Ref space (Num n) paths z) → w.out ≡ 0 → numbered z (pick (eqb paths 0) space (pick (ltb space 7) 6 10)) n ≡ number_of w
      → Says (entry_at form r out at) (moved_at before after p) (apart_at before p)
  ref_listed w space n paths z e is here number =
      one_listed w e (ref_is_written space n paths z is) (ref_number_lem space n paths z is ∙ number)
      (ap (scope_outward form U.f.row) (ref_wanted space n paths z is) ∙ (counts_out form fs 0 U.chain ∙ ap (λ (d : ℕ). scope_for (get_elem? fs d) d) (sym here)))

  module _ (space n z : ℕ) (up : Index) (is : Is form r (Outer space up (Num n) z)) where
    outer_e : e_at form r ≡ flag up
    unfolding encode flag
    outer_e = ap e_part is ∙ omega arith

    outer_is_written : is_written form r ≡ true
    unfolding is_written encode
    outer_is_written =
        let c : code_at form r ≡ 5 = ap code_part is in
        rw (c, outer_e) (flag_low up)

    outer_number : number_at form r ≡ numbered z space n
    unfolding number_at encode number
    outer_number =
        let c : code_at form r ≡ 5 = ap code_part is in
        let b : b_at form r ≡ space = ap b_part is in
        let y : y_at form r ≡ n = ap y_part is in
        let place : z_at form r ≡ z = ap z_part is in
        rw (c, b, y, place) (sym (yes! _ refl refl))

    outer_wanted_lem : scope_wanted form r ≡ outer_wanted (flag up) (number up)
    unfolding scope_wanted encode
    outer_wanted_lem =
        let c : code_at form r ≡ 5 = ap code_part is in
        let x : x_at form r ≡ number up = ap x_part is in
        rw (c, x, outer_e) (sym (yes! _ refl refl))

  says_operand : (o : Operand) → U.operand ≡ o → Is form r (operand_row_of o) → Says (entry_at form r out at) (moved_at before after p) (apart_at before p)
  unfolding written encode flag
  says_operand (ref space (Num n) [] z) q is =
      ref_listed (record { z = z; out = 0; space = space; number = n }) space n 0 z (ap (written names) q) is refl (ap (λ (s : ℕ). numbered z s n) (own_space space))
  says_operand (ref space (Num n) (x ∷ xs) z) q is =
      ref_listed (record { z = z; out = 0; space = instance_space space; number = n }) space n (suc (length xs)) z (ap (written names) q) is refl (ap (λ (s : ℕ). numbered z s n) (instance_space_lem space (length xs)))
  says_operand (ref space (Id name) paths z) q is = none_listed (ap (written names) q) (not_written form r 1 3 (ap code_part is) (ap e_part is) refl out at)
  says_operand (outer space (Num d) (Num n) z) q is =
      one_listed (record { z = z; out = d; space = space; number = n }) (ap (written names) q) (outer_is_written space n z (Num d) is) (outer_number space n z (Num d) is)
      (ap (scope_outward form U.f.row) (outer_wanted_lem space n z (Num d) is ∙ counted_wanted d) ∙ counts_out form fs d U.chain)
  says_operand (outer space (Id name) (Num n) z) q is = by_name_lem (nearest_named names name) refl
    where
      there : scope_outward form U.f.row (scope_wanted form r) ≡ first_wanted form (Named name) 0 fs
      there = ap (scope_outward form U.f.row) (outer_wanted_lem space n z (Id name) is ∙ named_wanted name) ∙ scope_outward_lem form (Named name) fs U.chain

      by_name_lem : (o : Option ℕ) → nearest_named names name ≡ o → Says (entry_at form r out at) (moved_at before after p) (apart_at before p)
      by_name_lem none e =
          none_listed (ap (written names) q ∙ no_name names space name n z e)
          (entry_of form r out at U.f.row (scope_wanted form r) None _ (outer_is_written space n z (Id name) is) U.around refl refl (there ∙ named_nowhere form fs names known_names.2 name 0 e) ∙ nothing_there form _ out at)
      by_name_lem (some d) e =
          let F = named_found form fs names known_names.2 name 0 d e in
          one_listed (record { z = z; out = d; space = space; number = n }) (ap (written names) q ∙ a_name names space name n z d e) (outer_is_written space n z (Id name) is) (outer_number space n z (Id name) is)
          (there ∙ (F.2 ∙ found_there fs d F.0 F.1))
  says_operand (outer space (Num d) (Id name) z) q is = none_listed (ap (written names) q) (not_written form r 2 5 (ap code_part is) (ap e_part is) refl out at)
  says_operand (outer space (Id up) (Id name) z) q is = none_listed (ap (written names) q) (not_written form r 3 5 (ap code_part is) (ap e_part is) refl out at)
  says_operand (case name z) q is = none_listed (ap (written names) q) (not_written form r 0 6 (ap code_part is) (ap e_part is) refl out at)

  -- The entry of an operand's row says what the rules list of its place.
  pub says_place : Says (entry_at form r out at) (moved_at before after p) (apart_at before p)
  says_place = says_operand U.operand refl U.is
