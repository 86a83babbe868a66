-- Numbers on rows: what a REF or an OUTER of numbers means, and what it means in the end, is what the tree says, for every place.
use Rattle.std.specs.Prelude.{◌≡◌, Bool, false, eqb, length, Option as CodeOption, Some}
use Rattle.std.proofs.Math.Path.{refl, ap, sym, subst}
use Rattle.std.proofs.Common.{◌∙◌}
use Rattle.std.proofs.Math.Bool.{true}
use Rattle.std.proofs.Math.Option.{Option, none, some}
use mathlib.Core.List.{List, [], ◌∷◌, ◌++◌}
use native.Mathlib.Omega.{arith}
use Prim.Native.Nat.{ℕ, zero, suc, ◌+◌, ◌<◌}
use Rattle.std.proofs.Math.Dec.{ltb}
use Rattle.std.proofs.Math.ListN.{get_elem?}
use Rattle.kit.specs.Pick.{pick}
use Rattle.kit.proofs.Laws.{yes!, no!, tests}
use Rattle.rules.specs.Tools.{when◌then◌else◌, ◌then◌}
use Rattle.rules.specs.Versions.{RuleSet}
use Rattle.rules.specs.Rows.{Field, Ref, Outer, Index, Num, Id, encode, flag, number}
use Rattle.rules.specs.Tree.{Declaration, Operand, ref, outer, Head, Scope, head_rows, decl_rows, operand_row, operand_rows, export_rows}
use Rattle.rules.specs.Good.{GoodScope}
use Rattle.rules.specs.Readings.{is_fresh, any_fresh, is_inserted, Place, Spot, original, inserted}
use Rattle.rules.specs.Laws.ToolLaws.{All, ◌&◌, and-false, or-false, eqb-true}
use Rattle.rules.specs.Laws.Results.{some_same, no_option}
use Rattle.places.specs.PlaceRows.{Floor, floors_at, operand_at, row_of_operand, Located, counted_row}
use Rattle.places.specs.Counting.{spot_of, of_space_all}
use Rattle.places.proofs.RowAt.{operand_row_of, decl_row_of, all_at}
use Rattle.row_parts.specs.Parts.{code_at, b_at, e_at, x_at, y_at, next_of}
use Rattle.row_parts.specs.Parts as parts
use Rattle.scopes.specs.Scopes.{scope_above, scope_of}
use Rattle.readings.specs.Meaning.{space_sought, reading_of, in_scope, key_of, meaning_of, through_outer, is_inserted_outer, behind, final_meaning}
use Rattle.scopes.specs.declared.Key.TheVariants.{Number}
use Rattle.reading_laws.specs.Stand.{Is, At, code_part, b_part, e_part, x_part, y_part}
use Rattle.reading_laws.specs.Even.{Even, nothing, flat, up_even}
use Rattle.reading_laws.specs.Floors.{Stands, Chain, first_row, scope_behind, floors_chain}
use Rattle.reading_laws.specs.Number.{meant_in_lem, nothing_in, outer_meant, outer_nothing, outer_past}
use Rattle.reading_laws.specs.Spots.{GoodOf, floors_good, Inserted, SpotIs, spots}
use Rattle.reading_laws.specs.Operands.{Used, operand_used}
use Rattle.reading_laws.specs.Declared.{DeclsAre, name_at, decls_stand}
use Rattle.reading_laws.specs.Meant.{Rows, use_there, around}
use Rattle.reading_laws.specs.Said.{said, said_in, said_out, said_behind, said_end, said_from, sought}
use Rattle.readings.specs.declared.Meaning.{Meaning}

-- ---- rows

one_only : (ds : List Declaration) → length ds ≡ 1 → (d : Declaration) × (ds ≡ d ∷ [])
one_only [] e = absurd (omega arith)
one_only (d ∷ []) e = (d, refl)
one_only (d ∷ c ∷ ds) e = absurd (omega arith)

only_elem : (ds : List Declaration) (d c : Declaration) (m : ℕ) → ds ≡ d ∷ [] → get_elem? ds m ≡ some c → (m ≡ 0) × (c ≡ d)
only_elem ds d c m e q = go m (sym (ap (λ (l : List Declaration). get_elem? l m) e) ∙ q)
  where
    go : (m : ℕ) → get_elem? (d ∷ []) m ≡ some c → (m ≡ 0) × (c ≡ d)
    go zero q = (refl, sym (some_same d c q))
    go (suc m) q = no_option c q

alias_even : (h : Head) (d : Declaration) → Even (Field h.code h.builtin h.z ∷ decl_row_of d ∷ [])
unfolding encode
alias_even h d = flat (record { not_open_lem = refl; not_close = refl }) (flat (record { not_open_lem = refl; not_close = refl }) nothing)

module _ (form : List ℕ) where
  -- a number is counted in its own scope
  number_meaning : (r space n paths z : ℕ) → Is form r (Ref space (Num n) paths z) → meaning_of form r ≡ in_scope form (scope_of form r) 0 (sought space paths) (Number n)
  unfolding meaning_of reading_of space_sought sought key_of encode flag number pick
  number_meaning r space n paths z is =
      let c : code_at form r ≡ 3 = ap code_part is in
      let b : b_at form r ≡ space = ap b_part is in
      let e : e_at form r ≡ 0 = ap e_part is in
      let x : x_at form r ≡ n = ap x_part is in
      let y : y_at form r ≡ paths = ap y_part is in
      rw (c, b, e, x, y)

  outer_meaning : (r space : ℕ) (up at : Index) (z : ℕ) → Is form r (Outer space up at z) → meaning_of form r ≡ through_outer form r
  unfolding meaning_of encode pick
  outer_meaning r space up at z is = let c : code_at form r ≡ 5 = ap code_part is in rw c

  -- ---- in one scope, and this many scopes out

  said_in_lem : (f : Floor) (beyond out space n : ℕ) → Stands form f beyond → ((x : Located) → counted_row f space n ≡ some x → Is form x.row (decl_row_of x.standing.decl))
      → in_scope form f.row out space (Number n) ≡ said (counted_row f space n) n out
  unfolding said
  said_in_lem f beyond out space n S decls = go (counted_row f space n) refl
    where
      go : (o : Option Located) → counted_row f space n ≡ o → in_scope form f.row out space (Number n) ≡ said o n out
      go none q = nothing_in form f beyond out space n S q
      go (some x) q = meant_in_lem form f beyond out space n x S q ∙ ap (λ (name : ℕ). Some (record { row = x.row; number = n; out = out; name = name })) (name_at form x.row x.standing.decl (decls x q))

  -- an OUTER of two numbers
  outer_said : (fs : List Floor) (row space d n z : ℕ) → Chain form fs → DeclsAre form fs → scope_of form row ≡ first_row fs → Is form row (Outer space (Num d) (Num n) z)
      → through_outer form row ≡ said_in (get_elem? fs d) d space n
  unfolding said said_in
  outer_said fs row space d n z C D around is = go (get_elem? fs d) refl
    where
      counts : (f : Floor) → get_elem? fs d ≡ some f → (o : Option Located) → counted_row f space n ≡ o → through_outer form row ≡ said o n d
      counts f e none q = outer_nothing form fs row space d n z f C around is e q
      counts f e (some x) q = outer_meant form fs row space d n z f x C around is e q ∙ ap (λ (name : ℕ). Some (record { row = x.row; number = n; out = d; name = name })) (name_at form x.row x.standing.decl (D d f space n x e q).0)

      go : (o : Option Floor) → get_elem? fs d ≡ o → through_outer form row ≡ said_in o d space n
      go none e = outer_past form fs row space d n z C around is e
      go (some f) e = counts f e (counted_row f space n) refl

  -- ---- through an inserted outer alias

  not_alias : (row : ℕ) (d : Declaration) → Is form row (decl_row_of d) → is_fresh d.name ≡ false → is_inserted_outer form row ≡ false
  unfolding is_inserted_outer parts.is_inserted encode
  not_alias row d is old =
      let c : code_at form row ≡ 2 = ap code_part is in
      let x : x_at form row ≡ d.name = ap x_part is in
      rw (c, x, old)

  not_before : (row : ℕ) → eqb (code_at form (next_of row)) 5 ≡ false → is_inserted_outer form row ≡ false
  unfolding is_inserted_outer
  not_before row e = rw (e, and-false (parts.is_inserted form row))

  is_alias_lem : (row : ℕ) (d : Declaration) → Is form row (decl_row_of d) → is_fresh d.name ≡ true → code_at form (next_of row) ≡ 5 → is_inserted_outer form row ≡ true
  unfolding is_inserted_outer parts.is_inserted encode
  is_alias_lem row d is new after =
      let c : code_at form row ≡ 2 = ap code_part is in
      let x : x_at form row ≡ d.name = ap x_part is in
      rw (c, x, new, after)

  -- the rows of an outer alias: FIELD, DECL, OUTER
  alias_rows : (h : Head) (row : ℕ) (d : Declaration) (space : ℕ) (up at : Index) (z : ℕ) (more : List Operand) → At form row (head_rows h) → h.decls ≡ d ∷ [] → h.operands ≡ outer space up at z ∷ more
      → At form row (Field h.code h.builtin h.z ∷ decl_row_of d ∷ []) × Is form (row + 1 + 1) (Outer space up at z)
  unfolding head_rows decl_rows operand_rows operand_row
  alias_rows h row d space up at z more a e₁ e₂ =
      let b : At form row (Field h.code h.builtin h.z ∷ decl_row_of d ∷ Outer space up at z ∷ (operand_rows more ++ export_rows h.export)) = rw (e₁, e₂) at a in
      ((b.0, (b.1.0, tt)), b.1.1.0)

  behind_itself : (row n out name : ℕ) (m : CodeOption Meaning) → is_inserted_outer form row ≡ false → m ≡ Some (record { row = row; number = n; out = out; name = name }) → behind form m ≡ m
  unfolding behind
  behind_itself row n out name m i e = ap (behind form) e ∙ (sym (no! _ i refl) ∙ sym e)

  behind_alias : (row n out name : ℕ) (m : CodeOption Meaning) → is_inserted_outer form row ≡ true → m ≡ Some (record { row = row; number = n; out = out; name = name }) → behind form m ≡ through_outer form (next_of row)
  unfolding behind
  behind_alias row n out name m i e = ap (behind form) e ∙ sym (yes! _ i refl)

  next_row : (row : ℕ) → row < 65535 → next_of row ≡ suc row
  unfolding next_of
  next_row row low = let in_range : ltb row 65535 ≡ true = omega (tests, low) in sym (yes! _ in_range refl) ∙ omega arith

  -- what stands behind the DECL of an outer alias
  record Alias (f : Floor) (x : Located) (h : Head) : Type 0 where
    is_one_lem : is_inserted_outer form x.row ≡ true
    around : scope_of form (next_of x.row) ≡ f.row
    space : ℕ
    up : Index
    at : Index
    z : ℕ
    are : h.operands ≡ outer space up at z ∷ []
    is : Is form (next_of x.row) (Outer space up at z)

  alias_there : (f : Floor) (x : Located) (h : Head) → Inserted form f.row h x.standing.decl x.row → Is form x.row (decl_row_of x.standing.decl) → x.row < 65535 → h.code ≡ 11 → Alias f x h
  unfolding scope_of is_inserted any_fresh encode
  alias_there f x h I is low c =
      let J = I.just c in
      let D = one_only h.decls (I.single c) in
      let M = only_elem h.decls D.0 x.standing.decl I.m D.1 I.decl in
      let A = alias_rows h I.row D.0 J.space J.up J.at J.z [] I.own D.1 J.are in
      let is_at = I.is_at in
      let first = M.0 in
      let next : next_of x.row ≡ I.row + 1 + 1 = next_row x.row low ∙ omega (arith, is_at, first) in
      let fresh : is_fresh x.standing.decl.name ≡ true =
      ap (λ (c : Declaration). is_fresh c.name) M.1 ∙ or-false (is_fresh D.0.name) (sym (ap any_fresh D.1) ∙ I.new) in
      record {
        is_one_lem = is_alias_lem x.row x.standing.decl is fresh (ap (code_at form) next ∙ ap code_part A.1);
        around = ap (λ (k : ℕ). scope_above form k 0) next ∙ (up_even form (alias_even h D.0) I.row 0 A.0 ∙ I.around);
        space = J.space;
        up = J.up;
        at = J.at;
        z = J.z;
        are = J.are;
        is = subst (λ (k : ℕ). Is form k (Outer J.space J.up J.at J.z)) (sym next) A.1;
      }

  -- what its OUTER means
  alias_said : (f : Floor) (rest : List Floor) → Chain form (f ∷ rest) → DeclsAre form (f ∷ rest) → (x : Located) (h : Head) → Alias f x h
      → through_outer form (next_of x.row) ≡ said_out (f ∷ rest) h.operands (through_outer form (next_of x.row))
  unfolding said_out
  alias_said f rest C D x h A =
      go A.up A.at A.is ∙ ap (λ (os : List Operand). said_out (f ∷ rest) os (through_outer form (next_of x.row))) (sym A.are)
    where
      go : (up at : Index) → Is form (next_of x.row) (Outer A.space up at A.z)
          → through_outer form (next_of x.row) ≡ said_out (f ∷ rest) (outer A.space up at A.z ∷ []) (through_outer form (next_of x.row))
      go (Num d) (Num n) is = outer_said (f ∷ rest) (next_of x.row) A.space d n A.z C D A.around is
      go (Num d) (Id name) is = refl
      go (Id name) at is = refl

  module _ (rules : RuleSet) where
    -- what a spot's rows hold
    pub spot_is : (f : Floor) (beyond : ℕ) → Stands form f beyond → GoodOf rules f.level.fields → (space n : ℕ) (x : Located) → counted_row f space n ≡ some x
        → SpotIs form f.row (spot_of x) x.standing.decl x.row
    unfolding counted_row
    spot_is f beyond S G space n x q =
        all_at _ n x (of_space_all _ space (spots form f.row rules f.level.fields G.0 0 f.row G.1 S.fields (scope_behind form f beyond S [] nothing tt))) q

    behind_said : (f : Floor) (rest : List Floor) → Chain form (f ∷ rest) → DeclsAre form (f ∷ rest) → GoodOf rules f.level.fields → (space n out : ℕ) (x : Located) → counted_row f space n ≡ some x
        → behind form (said (some x) n out) ≡ said_behind (f ∷ rest) (spot_of x) (said (some x) n out) (through_outer form (next_of x.row))
    unfolding said said_behind when◌then◌else◌
    behind_said f rest C D G space n out x q =
        let here = D 0 f space n x refl q in
        go (spot_of x) (spot_is f (first_row rest) C.0 G space n x q) here.0 here.1
      where
        m : CodeOption Meaning
        m = said (some x) n out

        go : (spot : Spot) → SpotIs form f.row spot x.standing.decl x.row → Is form x.row (decl_row_of x.standing.decl) → x.row < 65535
            → behind form m ≡ said_behind (f ∷ rest) spot m (through_outer form (next_of x.row))
        go (original field at) old is low = behind_itself x.row n out x.standing.decl.name m (not_alias x.row x.standing.decl is old) refl
        go (inserted h) I is low = choose (eqb h.code 11) refl
          where
            choose : (b : Bool) → eqb h.code 11 ≡ b → behind form m ≡ (when b then said_out (f ∷ rest) h.operands (through_outer form (next_of x.row)) else m)
            choose true e =
                let A = alias_there f x h I is low (eqb-true h.code 11 e) in
                behind_alias x.row n out x.standing.decl.name m A.is_one_lem refl ∙ alias_said f rest C D x h A
            choose false e =
                behind_itself x.row n out x.standing.decl.name m (not_before x.row (ap (λ (k : ℕ). eqb (code_at form k) 5) (next_row x.row low) ∙ I.before_other e)) refl

    behind_end : (f : Floor) (rest : List Floor) → Chain form (f ∷ rest) → DeclsAre form (f ∷ rest) → GoodOf rules f.level.fields → (space n out : ℕ)
        → behind form (said (counted_row f space n) n out) ≡ said_end (f ∷ rest) (λ x. through_outer form (next_of x.row)) (counted_row f space n) n out
    unfolding said said_end behind
    behind_end f rest C D G space n out = go (counted_row f space n) refl
      where
        go : (o : Option Located) → counted_row f space n ≡ o → behind form (said o n out) ≡ said_end (f ∷ rest) (λ x. through_outer form (next_of x.row)) o n out
        go none q = refl
        go (some x) q = behind_said f rest C D G space n out x q

    behind_from_lem : (fs : List Floor) → Chain form fs → DeclsAre form fs → All (λ (f : Floor). GoodOf rules f.level.fields) fs → (d space n out : ℕ)
        → behind form (said_in (get_elem? fs d) out space n) ≡ said_from fs (λ x. through_outer form (next_of x.row)) d space n out
    unfolding said_in said_from behind
    behind_from_lem [] C D G d space n out = refl
    behind_from_lem (f ∷ fs) C D (g & G) zero space n out = behind_end f fs C D g space n out
    behind_from_lem (f ∷ fs) C D (g & G) (suc d) space n out = behind_from_lem fs C.1 (λ k. D (suc k)) G d space n out

-- ---- the theorem

-- what stands behind an inserted outer alias, where its OUTER has a name in it
abbrev pub named : (form : List ℕ) → Located → CodeOption Meaning
named form x = through_outer form (next_of x.row)

-- for a row in a scope, whether its field is inserted or not
module _ (form : List ℕ) (s : Scope) (rules : RuleSet) (good : GoodScope rules s) (R : Rows form s) (way : List ℕ) (f : Floor) (rest : List Floor) (are : floors_at s way ≡ some (f ∷ rest)) (r : ℕ) (within : scope_of form r ≡ f.row) where
  chain : Chain form (f ∷ rest)
  chain = floors_chain form s way (f ∷ rest) R.stand R.fit are

  decls_are : DeclsAre form (f ∷ rest)
  decls_are = decls_stand form s R.stand R.fit way (f ∷ rest) are

  final : (d space n out : ℕ) → meaning_of form r ≡ said_in (get_elem? (f ∷ rest) d) out space n → final_meaning form r ≡ said_from (f ∷ rest) (named form) d space n out
  unfolding final_meaning
  final d space n out e = ap (behind form) e ∙ behind_from_lem form rules (f ∷ rest) chain decls_are (floors_good rules s way (f ∷ rest) good are) d space n out

  -- A REF by number: what it means, and what it means in the end.
  pub ref_at_lem : (space n paths z : ℕ) → Is form r (Ref space (Num n) paths z)
      → (meaning_of form r ≡ said_in (some f) 0 (sought space paths) n) × (final_meaning form r ≡ said_from (f ∷ rest) (named form) 0 (sought space paths) n 0)
  unfolding said_in
  ref_at_lem space n paths z is =
      let means = number_meaning form r space n paths z is
      ∙ (ap (λ (k : ℕ). in_scope form k 0 (sought space paths) (Number n)) within ∙ said_in_lem form f (first_row rest) 0 (sought space paths) n chain.0 (λ x q. (decls_are 0 f (sought space paths) n x refl q).0)) in
      (means, final 0 (sought space paths) n 0 means)

  -- an OUTER of two numbers
  pub outer_at_lem : (space d n z : ℕ) → Is form r (Outer space (Num d) (Num n) z)
      → (meaning_of form r ≡ said_in (get_elem? (f ∷ rest) d) d space n) × (final_meaning form r ≡ said_from (f ∷ rest) (named form) d space n d)
  outer_at_lem space d n z is =
      let means = outer_meaning form r space (Num d) (Num n) z is ∙ outer_said form (f ∷ rest) r space d n z chain decls_are within is in
      (means, final d space n d means)

-- for every place
module _ (form : List ℕ) (s : Scope) (rules : RuleSet) (good : GoodScope rules s) (R : Rows form s) (p : Place) (r : ℕ) (at : row_of_operand s p ≡ some r) where
  abbrev U : Used form s p r
  U = use_there form s R p r at

  operand_is : (o : Operand) → operand_at s p ≡ some o → Is form r (operand_row_of o)
  operand_is o e = subst (λ (o : Operand). Is form r (operand_row_of o)) (operand_used form s p r U o e) U.is

  pub ref_row : (space n : ℕ) (paths : List ℕ) (z : ℕ) → operand_at s p ≡ some (ref space (Num n) paths z)
      → (meaning_of form r ≡ said_in (get_elem? (around form s R p r at) 0) 0 (sought space (length paths)) n)
      × (final_meaning form r ≡ said_from (around form s R p r at) (named form) 0 (sought space (length paths)) n 0)
  ref_row space n paths z e = ref_at_lem form s rules good R p.way U.f U.rest U.are r U.around space n (length paths) z (operand_is (ref space (Num n) paths z) e)

  pub outer_row_lem : (space d n z : ℕ) → operand_at s p ≡ some (outer space (Num d) (Num n) z)
      → (meaning_of form r ≡ said_in (get_elem? (around form s R p r at) d) d space n) × (final_meaning form r ≡ said_from (around form s R p r at) (named form) d space n d)
  outer_row_lem space d n z e = outer_at_lem form s rules good R p.way U.f U.rest U.are r U.around space d n z (operand_is (outer space (Num d) (Num n) z) e)
