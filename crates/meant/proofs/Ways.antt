-- The ways through the code: each law is one unfolding of a definition, with the facts in the form in which the code gives them.
use Rattle.std.specs.Prelude.{Option, Some, None, is_some}
use mathlib.Core.Path.{◌≡◌, refl, sym, ◌∙◌}
use mathlib.Core.Bool.{Bool, true, false}
use mathlib.Core.List.{List, []}
use native.Mathlib.Omega.{arith}
use Prim.Native.Nat.{ℕ, ◌+◌, ◌*◌, ◌-◌, ◌%◌, ◌≤◌, ◌<◌}
use borrow.Author.Rules.{rules}
use borrow.Author.Tests.{le-leb, lt-leb, ne_eqb}
use lib.Dec.{eqb}
use lib.ListN.{length, get_or, take, drop, length-drop}
use lib.Seq.{take_all}
use Rattle.kit.proofs.Laws.{yes!, no!, tests}
use Rattle.row_parts.specs.Parts.{code_at, b_at, e_at, x_at, y_at}
use Rattle.scopes.specs.Scopes.{scope_of, find_in, scope_outward}
use Rattle.scopes.specs.declared.Key.TheVariants.{Name}
use Rattle.scopes.specs.declared.Wanted.{Wanted}
use Rattle.scopes.specs.declared.Wanted.TheVariants.{Out, Named, Declaring}
use Rattle.readings.specs.Meaning.{reading_of, meaning_of}
use Rattle.readings.specs.declared.Reading.{Reading}
use Rattle.readings.specs.declared.Reading.TheVariants.{Outward, LookedUp, Counting}
use Rattle.meant.specs.Names.{in_member, root_found, member_found, in_root, scope_meant, or_root, walked_meant_t, by_reading, ref_meant_t, outer_wanted_t, has_scope, is_root_t, meant_behind_t, in_outer_t, index_meant_t, name_meant_t}
use Rattle.meant.specs.Part.{part_of, meant_t, row_part, chosen}
use Rattle.meant.specs.declared.Declared.TheVariants.{Member, Prelude}
use Rattle.meant.specs.declared.Declared.{Declared}
use Rattle.readings.specs.declared.Meaning.{Meaning}
use Rattle.scopes.specs.declared.Found.{Found}
use Rattle.scopes.specs.declared.Outer.{Outer}

-- ---- in_member, in_root, in_scope_lem

module _ (m : Option Meaning) where
  pub member_at : (found : Meaning) → m ≡ Some found → Some (Member found.row) ≡ in_member m
  unfolding in_member
  member_at found e = rw e

  pub member_nowhere : m ≡ None → (d : Option Declared) → d ≡ None → d ≡ in_member m
  unfolding in_member
  member_nowhere e d h = h ∙ rw e

module _ (form : List ℕ) (space name : ℕ) (f : Option Found) where
  pub root_found_lem : (found : Found) → f ≡ find_in form 1 space (Name name) → f ≡ Some found → Some (Prelude found.row) ≡ in_root form space name
  unfolding in_root root_found
  root_found_lem found got e = rw (← got, e)

  pub root_not : f ≡ find_in form 1 space (Name name) → f ≡ None → (d : Option Declared) → d ≡ None → d ≡ in_root form space name
  unfolding in_root root_found
  root_not got e d h = h ∙ rw (← got, e)

  pub scope_found : (scope : ℕ) (found : Found) → f ≡ find_in form scope space (Name name) → f ≡ Some found → Some (Member found.row) ≡ scope_meant form scope space name
  unfolding scope_meant member_found
  scope_found scope found got e = rw (← got, e)

  pub scope_not : (scope : ℕ) → f ≡ find_in form scope space (Name name) → f ≡ None → (d : Option Declared) → d ≡ None → d ≡ scope_meant form scope space name
  unfolding scope_meant member_found
  scope_not scope got e d h = h ∙ rw (← got, e)

pub ruleset found_ways = (member_at, member_nowhere, root_found_lem, root_not, scope_found, scope_not, rules)

-- ---- walked, ref_meant

module _ (prelude member : List ℕ) (r : ℕ) (m : Option Meaning) (got : m ≡ meaning_of member r) where
  pub walked_at_lem : (found : Meaning) → m ≡ Some found → Some (Member found.row) ≡ walked_meant_t prelude member r
  unfolding walked_meant_t or_root
  walked_at_lem found e = rw (← got, e)

  pub walked_root : (b x : ℕ) (d : Option Declared) → m ≡ None → b ≡ b_at member r → x ≡ x_at member r → d ≡ in_root prelude b x → d ≡ walked_meant_t prelude member r
  unfolding walked_meant_t or_root
  walked_root b x d e f g h = h ∙ rw (← got, e, f, g)

module _ (prelude member : List ℕ) (r : ℕ) (how : Reading) (got : how ≡ reading_of member r) where
  pub ref_outward : (d : Option Declared) → how ≡ Outward → d ≡ walked_meant_t prelude member r → d ≡ ref_meant_t prelude member r
  unfolding ref_meant_t by_reading
  ref_outward d e f = f ∙ rw (← got, e)

  pub ref_looked : (d : Option Declared) (m : Option Meaning) → how ≡ LookedUp → m ≡ meaning_of member r → d ≡ in_member m → d ≡ ref_meant_t prelude member r
  unfolding ref_meant_t by_reading
  ref_looked d m e f g = g ∙ rw (← got, e, f)

  pub ref_number_lem : how ≡ Counting → None ≡ ref_meant_t prelude member r
  unfolding ref_meant_t by_reading
  ref_number_lem e = rw (← got, e)

pub ruleset ref_ways = (walked_at_lem, walked_root, ref_outward, ref_looked, ref_number_lem, rules)

-- ---- outer_wanted, has_scope, is_root

module _ (e x : ℕ) where
  pub wanted_named : e % 2 ≡ 1 → Named x ≡ outer_wanted_t e x
  unfolding outer_wanted_t
  wanted_named h = yes! _ (omega tests) refl

  pub wanted_out : (e % 2 ≡ 1 → ⊥) → Out x ≡ outer_wanted_t e x
  unfolding outer_wanted_t
  wanted_out h = no! _ (ne_eqb _ _ h) refl

module _ (member : List ℕ) (r s : ℕ) (wanted : Wanted) (o : Option Outer) where
  pub scope_found_lem : s ≡ scope_of member r → o ≡ scope_outward member s wanted → is_some o ≡ has_scope member r wanted
  unfolding has_scope
  scope_found_lem f got = rw (← f, ← got)

module _ (prelude member : List ℕ) (r : ℕ) (wanted : Wanted) where
  pub root_none : (count : ℕ) → wanted ≡ Out count → count ≡ 0 → false ≡ is_root_t prelude member r wanted
  unfolding is_root_t
  root_none count e h = rw e (yes! _ (omega tests) refl)

  pub root_out : (count : ℕ) (b : Bool) → wanted ≡ Out count → (count ≡ 0 → ⊥) → b ≡ has_scope member r (Out (count - 1)) → b ≡ is_root_t prelude member r wanted
  unfolding is_root_t
  root_out count b e h f = rw e (no! _ (ne_eqb _ _ h) f)

  pub root_named : (name x : ℕ) → wanted ≡ Named name → x ≡ x_at prelude 0 → eqb x name ≡ is_root_t prelude member r wanted
  unfolding is_root_t
  root_named name x e f = rw (e, f)

  pub root_declaring : (space name : ℕ) → wanted ≡ Declaring space name → false ≡ is_root_t prelude member r wanted
  unfolding is_root_t
  root_declaring space name e = rw e

  -- ---- behind, index_meant

  pub behind_root : (t : Bool) (b y : ℕ) (d : Option Declared) → t ≡ is_root_t prelude member r wanted → t ≡ true → b ≡ b_at member r → y ≡ y_at member r → d ≡ in_root prelude b y → d ≡ meant_behind_t prelude member r wanted
  unfolding meant_behind_t
  behind_root t b y d got e f g h = yes! _ (sym got ∙ e) (h ∙ rw (f, g))

  pub behind_not : (t : Bool) → t ≡ is_root_t prelude member r wanted → t ≡ false → None ≡ meant_behind_t prelude member r wanted
  unfolding meant_behind_t
  behind_not t got e = no! _ (sym got ∙ e) refl

pub ruleset root_ways = (wanted_named, wanted_out, scope_found_lem, root_none, root_out, root_named, root_declaring, behind_root, behind_not, rules)

module _ (prelude member : List ℕ) (r e x : ℕ) (is-e : e ≡ e_at member r) (is_x : x ≡ x_at member r) (wanted : Wanted) (is-w : wanted ≡ outer_wanted_t e x) (s : ℕ) (is-s : s ≡ scope_of member r) (o : Option Outer) (got : o ≡ scope_outward member s wanted) where
  abbrev W : Wanted
  W = outer_wanted_t (e_at member r) (x_at member r)

  same : wanted ≡ W
  same = is-w ∙ rw (is-e, is_x)

  there : o ≡ scope_outward member (scope_of member r) W
  there = got ∙ rw (is-s, same)

  pub index_scope : (outer : Outer) (b y : ℕ) (d : Option Declared) → o ≡ Some outer → b ≡ b_at member r → y ≡ y_at member r → d ≡ scope_meant member outer.scope b y → d ≡ index_meant_t prelude member r
  unfolding index_meant_t in_outer_t
  index_scope outer b y d q f g h = h ∙ rw (← there, q, f, g)

  pub index_behind : (d : Option Declared) → o ≡ None → d ≡ meant_behind_t prelude member r wanted → d ≡ index_meant_t prelude member r
  unfolding index_meant_t in_outer_t
  index_behind d q h = h ∙ rw (← there, q, same)

pub ruleset index_ways = (index_scope, index_behind, rules)

-- ---- name_meant, meant_at

module _ (prelude member : List ℕ) (r c : ℕ) (is_c : c ≡ code_at member r) where
  pub name_number : (e : ℕ) → c ≡ 5 → e ≡ e_at member r → e < 2 → None ≡ name_meant_t prelude member r
  unfolding name_meant_t
  name_number e h f g = yes! _ (rw (← is_c) (omega tests)) (yes! _ (rw (← f) (omega tests)) refl)

  pub name_index : (e : ℕ) (d : Option Declared) → c ≡ 5 → e ≡ e_at member r → 2 ≤ e → d ≡ index_meant_t prelude member r → d ≡ name_meant_t prelude member r
  unfolding name_meant_t
  name_index e d h f g k = yes! _ (rw (← is_c) (omega tests)) (no! _ (rw (← f) (omega tests)) k)

  pub name_ref : (d : Option Declared) → (c ≡ 5 → ⊥) → c ≡ 3 → d ≡ ref_meant_t prelude member r → d ≡ name_meant_t prelude member r
  unfolding name_meant_t
  name_ref d h g k = no! _ (rw (← is_c) (omega tests)) (yes! _ (rw (← is_c) (omega tests)) k)

  pub name_none : (c ≡ 5 → ⊥) → (c ≡ 3 → ⊥) → None ≡ name_meant_t prelude member r
  unfolding name_meant_t
  name_none h g = no! _ (rw (← is_c) (omega tests)) (no! _ (rw (← is_c) (omega tests)) refl)

pub meant_in_lem : (prelude member P M : List ℕ) (r : ℕ) (d : Option Declared) → P ≡ part_of prelude → M ≡ part_of member → d ≡ name_meant_t P M r → d ≡ meant_t prelude member r
unfolding meant_t
meant_in_lem prelude member P M r d e f g = g ∙ rw (e, f)

pub ruleset name_ways = (name_number, name_index, name_ref, name_none, meant_in_lem, rules)

-- ---- part_of, row_part, meant

module _ (form : List ℕ) where
  pub part_short : length form < 8 → form ≡ part_of form
  unfolding part_of
  part_short h = yes! _ (omega tests) refl

  pub part_second : 8 ≤ length form → get_or form 3 0 ≡ 2 → take (length form - 8) (drop 8 form) ≡ part_of form
  unfolding part_of
  part_second h g = no! _ (omega tests) (yes! _ (omega tests) (take_all (length form - 8) (drop 8 form) (omega (arith, length-drop 8 form))))

  pub part_first : 8 ≤ length form → (get_or form 3 0 ≡ 2 → ⊥) → form ≡ part_of form
  unfolding part_of
  part_first h g = no! _ (omega tests) (no! _ (ne_eqb _ _ g) refl)

module _ (form P : List ℕ) (is-p : P ≡ part_of form) (row a : ℕ) (is-a : a ≡ 8 + 16 * row) (e : ℕ) (is-e : e ≡ a + 16) where
  pub row_there : e ≤ length P → take (e - a) (drop a P) ≡ row_part form row
  unfolding row_part
  row_there h =
      let n : e - a ≡ 16 = omega arith in
      let g : 8 + 16 * row + 16 ≤ length (part_of form) = rw (← is-p) (omega arith) in
      rw (n, is-a, is-p) (yes! _ (le-leb _ _ g) refl)

  pub row_not : length P < e → [] ≡ row_part form row
  unfolding row_part
  row_not h =
      let g : length (part_of form) < 8 + 16 * row + 16 = rw (← is-p) (omega arith) in
      no! _ (lt-leb _ _ g) refl

module _ (prelude member : List ℕ) (r : ℕ) (m : Option Declared) (got : m ≡ meant_t prelude member r) where
  pub meant_member : (x : Declared) (row : ℕ) (p : List ℕ) → m ≡ Some x → x ≡ Member row → p ≡ row_part member row → p ≡ chosen (meant_t prelude member r) prelude member
  unfolding chosen
  meant_member x row p e g f = f ∙ rw (← got, e, g)

  pub meant_prelude : (x : Declared) (row : ℕ) (p : List ℕ) → m ≡ Some x → x ≡ Prelude row → p ≡ row_part prelude row → p ≡ chosen (meant_t prelude member r) prelude member
  unfolding chosen
  meant_prelude x row p e g f = f ∙ rw (← got, e, g)

  pub meant_nowhere : m ≡ None → [] ≡ chosen (meant_t prelude member r) prelude member
  unfolding chosen
  meant_nowhere e = rw (← got, e)

pub ruleset part_ways = (part_short, part_second, part_first, row_there, row_not, meant_member, meant_prelude, meant_nowhere, rules)
