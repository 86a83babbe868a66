-- At every place of a member the row's name means, by the rows of the member and the prelude, what it means by the rules.
use Rattle.std.specs.Prelude.{◌≡◌, Bool, ◌&&◌, ℕ, suc, length, Option as CodeOption, Some, None}
use Rattle.std.proofs.Math.Path.{refl, ap, subst}
use Rattle.std.proofs.Common.{sym, ◌∙◌}
use Rattle.std.proofs.Math.Bool.{true, false, not}
use Rattle.std.proofs.Math.Option.{Option, none, some, map}
use mathlib.Core.List.{List, [], ◌∷◌, ◌++◌}
use Rattle.std.proofs.Math.Dec.{eqb}
use Rattle.kit.specs.Pick.{pick}
use Rattle.kit.proofs.Laws.{tests}
use Rattle.rules.specs.Tools.{when◌then◌else◌, only, ◌then◌, ◌or_else◌}
use Rattle.rules.specs.Rows.{Index, Num, Id, Ref, Outer, Case, encode, flag, number}
use Rattle.rules.specs.Tree.{Operand, ref, outer, case, Scope, head_of}
use Rattle.rules.specs.Shapes.{here_only}
use Rattle.rules.specs.Good.{name_of}
use Rattle.rules.specs.Readings
use Rattle.rules.specs.Readings.{Place, Level, declared, outward, walked, walked_at, outward_reading}
use Rattle.rules.specs.Laws.ToolLaws.{All}
use Rattle.rules.specs.Laws.Results.{no_option}
use Rattle.rules.specs.Laws.Meaning.Names.{LowScope, LowOperand}
use Rattle.places.specs.PlaceRows.{Floor, row_of_decl, row_of_operand}
use Rattle.places.specs.Counting.{levels}
use Rattle.places.proofs.RowAt.{operand_row_of, all_at}
use Rattle.places.proofs.LocatedAt.{AtItsWay, all_at_own_way}
use Rattle.moving.specs.Moved.{names_to, instance_space}
use Rattle.batching.specs.BatchReadings.{Meant, in_member, in_prelude, seat, meant_by, member_outward, declared_out, name_in, member_means}
use Rattle.batching.proofs.Laws.Seated.{behind_all, outward_meant, scope_meant_lem, means_is, means_walked}
use Rattle.row_parts.specs.Parts.{code_at, b_at, e_at, x_at, y_at, field_of}
use Rattle.scopes.specs.Scopes.{find_in}
use Rattle.scopes.specs.declared.Key.TheVariants.{Name}
use Rattle.readings.specs.Meaning.{is_walked, reading_of, meaning_of, in_scope, meant}
use Rattle.reading_laws.specs.Stand.{Is, code_part, b_part, e_part, x_part, y_part}
use Rattle.reading_laws.specs.Outward.{row_meant, NoneInserted}
use Rattle.reading_laws.specs.Operands.{Used}
use Rattle.reading_laws.specs.Said.{sought}
use Rattle.reading_laws.specs.Meant.{Rows, use_there, low_use, none_inserted_around, outward_row, outward_found}
use Rattle.reading_laws.specs.LookedUp.{here_meaning}
use Rattle.moved_laws.specs.Named.{NamesAre, names_at}
use Rattle.moved_laws.specs.AtPlace.{instance_space_lem}
use Rattle.meant.specs.Names.{in_root, member_found, or_root, walked_meant_t, by_reading, ref_meant_t, index_meant_t, name_meant_t}
use Rattle.meant.specs.Names as names_of
use Rattle.meant_laws.specs.Told.{Told, nothing, in_member_lem, found_in_member}
use Rattle.meant_laws.specs.Declares.{declares, root_chain, root_declares}
use Rattle.meant_laws.specs.Asks.{index_told}
use Rattle.readings.specs.declared.Meaning.{Meaning}
use Rattle.scopes.specs.declared.Found.{Found}

-- ---- rows

module _ (P M : List ℕ) (r : ℕ) where
  number_row : (space n paths z : ℕ) → Is M r (Ref space (Num n) paths z) → name_meant_t P M r ≡ None
  unfolding name_meant_t ref_meant_t by_reading reading_of encode flag pick
  number_row space n paths z is =
      let c : code_at M r ≡ 3 = ap code_part is in
      let e : e_at M r ≡ 0 = ap e_part is in
      rw (c, e)

  case_row : (name z : ℕ) → Is M r (Case name z) → name_meant_t P M r ≡ None
  unfolding name_meant_t encode pick
  case_row name z is = let c : code_at M r ≡ 6 = ap code_part is in rw c

  index_number : (space n z : ℕ) (up : Index) → Is M r (Outer space up (Num n) z) → name_meant_t P M r ≡ None
  unfolding name_meant_t encode flag pick
  index_number space n z (Num d) is =
      let c : code_at M r ≡ 5 = ap code_part is in
      let e : e_at M r ≡ 0 = ap e_part is in
      rw (c, e)
  index_number space n z (Id x) is =
      let c : code_at M r ≡ 5 = ap code_part is in
      let e : e_at M r ≡ 1 = ap e_part is in
      rw (c, e)

  index_name : (space name z : ℕ) (up : Index) → Is M r (Outer space up (Id name) z) → name_meant_t P M r ≡ index_meant_t P M r
  unfolding name_meant_t encode flag pick
  index_name space name z (Num d) is =
      let c : code_at M r ≡ 5 = ap code_part is in
      let e : e_at M r ≡ 2 = ap e_part is in
      rw (c, e)
  index_name space name z (Id x) is =
      let c : code_at M r ≡ 5 = ap code_part is in
      let e : e_at M r ≡ 3 = ap e_part is in
      rw (c, e)

  -- a walked name, and one that is not
  walked_name : (space name z : ℕ) → Is M r (Ref space (Id name) 0 z) → here_only (b_at M (field_of M r)) ≡ false → name_meant_t P M r ≡ or_root (meaning_of M r) P space name
  unfolding name_meant_t ref_meant_t by_reading walked_meant_t reading_of is_walked encode flag number pick
  walked_name space name z is here =
      let c : code_at M r ≡ 3 = ap code_part is in
      let b : b_at M r ≡ space = ap b_part is in
      let e : e_at M r ≡ 1 = ap e_part is in
      let x : x_at M r ≡ name = ap x_part is in
      let y : y_at M r ≡ 0 = ap y_part is in
      rw (c, e, y, here, b, x)

  looked_up_lem : (space name paths z : ℕ) → Is M r (Ref space (Id name) paths z) → (eqb paths 0 && not (here_only (b_at M (field_of M r)))) ≡ false → name_meant_t P M r ≡ names_of.in_member (meaning_of M r)
  unfolding name_meant_t ref_meant_t by_reading reading_of is_walked encode flag pick
  looked_up_lem space name paths z is here =
      let c : code_at M r ≡ 3 = ap code_part is in
      let e : e_at M r ≡ 1 = ap e_part is in
      let y : y_at M r ≡ paths = ap y_part is in
      rw (c, e, y, here)

found_meant : (form : List ℕ) (out : ℕ) (f : CodeOption Found) → names_of.in_member (meant form f out) ≡ member_found f
unfolding meant names_of.in_member member_found
found_meant form out (Some found) = refl
found_meant form out None = refl

sought_path : (space n : ℕ) → sought space (suc n) ≡ instance_space space
unfolding sought
sought_path space n = instance_space_lem space n

-- ---- the theorem

module _ (P M : List ℕ) (s m : Scope) (RP : Rows P s) (RM : Rows M m) (low-s : LowScope s) (low-m : LowScope m) (p : Place) (r : ℕ) (at : row_of_operand m p ≡ some r) where
  abbrev U : Used M m p r
  U = use_there M m RM p r at

  abbrev fs : List Floor
  fs = U.f ∷ U.rest

  abbrev code : ℕ
  code = (head_of U.x.item).code

  own : All (AtItsWay m) fs
  own = all_at_own_way m p.way fs U.are

  originals : All NoneInserted fs
  originals = none_inserted_around m low-m p.way fs U.are

  known : (names : List ℕ) × (names_to p.way m [] ≡ some names) × NamesAre M fs names
  known = names_at M m p.way fs RM.stand U.are (root_chain M m RM).0

  abbrev all : List Level
  all = behind_all (seat s) (Readings.root s ∷ []) (levels fs)

  -- what the operand's name means by the rules
  abbrev means : Operand → Option Meant
  means o = map meant_by (name_in code (known.0 ++ (name_of s ∷ [])) all o)

  -- in its own scope
  here_told : (space name paths z : ℕ) → Is M r (Ref space (Id name) paths z) → eqb name 0 ≡ false → (eqb paths 0 && not (here_only (b_at M (field_of M r)))) ≡ false
      → Told s m (map meant_by (declared_out all 0 (sought space paths) name)) (name_meant_t P M r)
  unfolding in_scope
  here_told space name paths z is is_name here =
      let found : name_meant_t P M r ≡ member_found (find_in M U.f.row (sought space paths) (Name name)) =
      looked_up_lem P M r space name paths z is here
      ∙ (ap names_of.in_member (here_meaning M r space name paths z is here ∙ ap (λ (k : ℕ). in_scope M k 0 (sought space paths) (Name name)) U.around) ∙ found_meant M 0 (find_in M U.f.row (sought space paths) (Name name))) in
      subst (Told s m (map meant_by (declared_out all 0 (sought space paths) name))) (sym found)
      (subst (λ (o : Option Meant). Told s m o (member_found (find_in M U.f.row (sought space paths) (Name name)))) (sym (scope_meant_lem s (levels fs) (sought space paths) name 0 U.f.level refl))
      (found_in_member s m _ _ (declares M m U.f _ U.chain.0 (all_at fs 0 U.f own refl) (all_at fs 0 U.f originals refl) (sought space paths) name is_name)))

  -- outward
  outward_told : (space name z : ℕ) → walked_at m p ≡ some (space, name) → Is M r (Ref space (Id name) 0 z) → eqb name 0 ≡ false → here_only (b_at M (field_of M r)) ≡ false
      → outward_reading m p ≡ outward (levels fs) space name → Told s m (map meant_by (outward all space name)) (name_meant_t P M r)
  unfolding or_root row_meant ◌then◌ ◌or_else◌
  outward_told space name z walks is is_name here reads =
      subst (Told s m (map meant_by (outward all space name))) (sym (walked_name P M r space name z is here))
      (subst (λ (o : Option Meant). Told s m o (or_root (meaning_of M r) P space name)) (sym (outward_meant s (levels fs) space name)) (go (outward (levels fs) space name) (reads)))
    where
      no_row : (x : CodeOption Meaning) → row_meant x ≡ none → or_root x P space name ≡ in_root P space name
      no_row (Some meaning) e = no_option meaning.row (sym e)
      no_row None e = refl

      go : (o : Option Place) → outward_reading m p ≡ o → Told s m (map in_member o or_else map in_prelude (declared (Readings.root s) space name)) (or_root (meaning_of M r) P space name)
      go none q =
          subst (Told s m (map in_prelude (declared (Readings.root s) space name))) (sym (no_row (meaning_of M r) (outward_row M m RM p r at low-m (space, name) walks ∙ ap (λ (o : Option Place). o then row_of_decl m) q)))
          (root_declares P s RP low-s m space name is_name)
      go (some d) q =
          let D = outward_found M m RM p r at low-m (space, name) walks d q in
          subst (λ (x : CodeOption Meaning). Told s m (some (in_member d)) (or_root x P space name)) (sym D.is) (in_member_lem D.is_row)

  walks : (space name z : ℕ) → U.operand ≡ ref space (Id name) [] z → here_only code ≡ false → (walked_at m p ≡ some (space, name)) × (outward_reading m p ≡ outward (levels fs) space name)
  unfolding Readings.walked_inside Readings.outward_inside walked only ◌then◌
  walks space name z q here = (rw (U.used_as, q, here), rw (U.used_as, q, here))

  bare_told : (space name z : ℕ) → U.operand ≡ ref space (Id name) [] z → Is M r (Ref space (Id name) 0 z) → eqb name 0 ≡ false → Told s m (means (ref space (Id name) [] z)) (name_meant_t P M r)
  unfolding name_in sought when◌then◌else◌ pick
  bare_told space name z q is is_name = go (here_only code) refl
    where
      go : (b : Bool) → here_only code ≡ b → Told s m (map meant_by (when b then declared_out all 0 space name else outward all space name)) (name_meant_t P M r)
      go true here = here_told space name 0 z is is_name (ap (λ (c : ℕ). not (here_only c)) U.of_field ∙ ap not here)
      go false here = let W = walks space name z q here in outward_told space name z W.0 is is_name (ap here_only U.of_field ∙ here) W.1

  is : {o : Operand} → U.operand ≡ o → Is M r (operand_row_of o)
  is q = subst (λ (x : Operand). Is M r (operand_row_of x)) q U.is

  low : {o : Operand} → U.operand ≡ o → LowOperand o
  low q = subst LowOperand q (low_use M m RM p r at low-m)

  operand_told : (o : Operand) → U.operand ≡ o → Told s m (means o) (name_meant_t P M r)
  unfolding name_in
  operand_told (ref space (Num n) paths z) q = subst (Told s m none) (sym (number_row P M r space n (length paths) z (is q))) nothing
  operand_told (ref space (Id name) [] z) q = bare_told space name z q (is q) (let l : LowOperand (ref space (Id name) [] z) = low q in omega (tests, l.0))
  operand_told (ref space (Id name) (x ∷ xs) z) q =
      let with-paths : (eqb (suc (length xs)) 0 && not (here_only (b_at M (field_of M r)))) ≡ false = (let there : eqb (suc (length xs)) 0 ≡ false = omega tests in ap (λ (b : Bool). b && not (here_only (b_at M (field_of M r)))) there) in
      let is_name : eqb name 0 ≡ false = (let l : LowOperand (ref space (Id name) (x ∷ xs) z) = low q in omega (tests, l.0)) in
      subst (λ (k : ℕ). Told s m (map meant_by (declared_out all 0 k name)) (name_meant_t P M r)) (sought_path space (length xs)) (here_told space name (suc (length xs)) z (is q) is_name with-paths)
  operand_told (outer space up (Num n) z) q = subst (Told s m none) (sym (index_number P M r space n z up (is q))) nothing
  operand_told (outer space up (Id name) z) q =
      let is_name : eqb name 0 ≡ false = (let l : LowOperand (outer space up (Id name) z) = low q in omega (tests, l.1.0)) in
      let row = is q in
      subst (Told s m (means (outer space up (Id name) z))) (sym (index_name P M r space name z up row))
      (index_told P M s m RP low-s U.f U.rest U.chain own originals known.0 known.2 r space name is_name U.around (unfold encode in ap b_part row) (unfold encode number in ap y_part row) up z row)
  operand_told (case name z) q = subst (Told s m none) (sym (case_row P M r name z (is q))) nothing

  -- THE ROW OF EVERY NAME at a place of the member: that of the declaration that the rules give, in the member or in the prelude.
  pub name_told : Told s m (member_means s m p) (name_meant_t P M r)
  name_told = subst (λ (o : Option Meant). Told s m o (name_meant_t P M r)) (sym (means_is s m p _ U.used_as known.0 known.1)) (operand_told U.operand refl)

  -- Of a walked name it is the one that the outward reading gives.
  pub walked_told : (w : ℕ × ℕ) → walked_at m p ≡ some w → Told s m (member_outward s m p) (name_meant_t P M r)
  walked_told w e = subst (λ (o : Option Meant). Told s m o (name_meant_t P M r)) (means_walked s m p _ U.used_as known.0 known.1 w e) name_told
