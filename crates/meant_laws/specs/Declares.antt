-- What one scope declares by a name: on rows as in the tree.
use Rattle.std.specs.Prelude.{◌≡◌, false, ℕ, ◌+◌, eqb, Some}
use Rattle.std.proofs.Math.Path.{refl, ap, subst}
use Rattle.std.proofs.Common.{sym, ◌∙◌}
use Rattle.std.proofs.Math.Option
use Rattle.std.proofs.Math.Option.{Option, none, some}
use mathlib.Core.List.{List, [], ◌∷◌, map}
use native.Mathlib.Omega.{arith}
use Rattle.rules.specs.Tools.{◌then◌}
use Rattle.rules.specs.Tree.{Scope}
use Rattle.rules.specs.Readings
use Rattle.rules.specs.Readings.{Spot, original, inserted, standings, first_named, place, declared}
use Rattle.rules.specs.Laws.ToolLaws.{All, ◌&◌}
use Rattle.rules.specs.Laws.Meaning.Names.{LowScope}
use Rattle.places.specs.PlaceRows.{Floor, floor, floors_at, floors, Located, located, counted_row}
use Rattle.places.specs.Counting.{standing, located_standings}
use Rattle.places.proofs.RowAt.{all_at}
use Rattle.places.proofs.LocatedAt.{AtItsWay, located_place, all_at_own_way}
use Rattle.scopes.specs.Scopes.{find_in}
use Rattle.scopes.specs.declared.Key.TheVariants.{Name}
use Rattle.reading_laws.specs.Find.{search, find_in_lem}
use Rattle.reading_laws.specs.Floors.{Stands, Chain, floors_chain}
use Rattle.reading_laws.specs.Outward.{named_none, named_some, IsOriginal, NoneInserted}
use Rattle.reading_laws.specs.Meant.{Rows, none_inserted_around}
use Rattle.meant.specs.Names.{in_root}
use Rattle.batching.specs.BatchReadings.{in_prelude}
use Rattle.meant_laws.specs.Told.{Told, Finds, no_row, at_row, found_in_root}

module _ (form : List ℕ) (t : Scope) (f : Floor) (outer : ℕ) (S : Stands form f outer) (own : AtItsWay t f) (low : NoneInserted f) (space name : ℕ) (is_name : eqb name 0 ≡ false) where
  abbrev xs : List Located
  xs = located f.row 0 f.level.fields

  names_are : first_named (map standing xs) space name ≡ first_named (standings 0 f.level.fields) space name
  names_are = ap (λ (l : List Readings.Standing). first_named l space name) (located_standings f.row 0 f.level.fields)

  searched : find_in form f.row space (Name name) ≡ search space (Name name) 0 xs
  searched = find_in_lem form space (Name name) f.level.fields f.row S.fields S.fits

  at_spot : (x : Located) (count : ℕ) (spot : Spot) → counted_row f space count ≡ some x → x.standing.spot ≡ spot → IsOriginal spot → Finds t (place f.level spot) (Some (record { row = x.row; number = count }))
  unfolding place
  at_spot x count (inserted h) counts is o = absurd o
  at_spot x count (original field at) counts is o = at_row (located_place t f space count x _ own counts (ap (place f.level) is)).1

  -- In a scope of an input: the first declaration of that name, with its row.
  pub declares : Finds t (declared f.level space name) (find_in form f.row space (Name name))
  unfolding declared ◌then◌ counted_row
  declares = go (first_named (standings 0 f.level.fields) space name) refl
    where
      go : (o : Option Spot) → first_named (standings 0 f.level.fields) space name ≡ o → Finds t (o then place f.level) (find_in form f.row space (Name name))
      go none q = subst (Finds t none) (sym (searched ∙ named_none space name is_name xs 0 (names_are ∙ q))) no_row
      go (some spot) q =
          let H = named_some space name is_name xs 0 spot (names_are ∙ q) in
          let zeroth : 0 + H.count ≡ H.count = omega arith in
          let orig : IsOriginal spot = subst IsOriginal H.is (all_at xs H.k H.x low H.at) in
          subst (Finds t (place f.level spot)) (sym (searched ∙ (H.finds ∙ ap (λ (n : ℕ). Some (record { row = H.x.row; number = n })) zeroth))) (at_spot H.x H.count spot H.counts H.is orig)

-- ---- the prelude's root

module _ (form : List ℕ) (s : Scope) (R : Rows form s) where
  root_there : floors_at s [] ≡ some (floor (Readings.root s) 1 ∷ [])
  unfolding floors_at floors
  root_there = refl

  pub root_chain : Chain form (floor (Readings.root s) 1 ∷ [])
  root_chain = floors_chain form s [] (floor (Readings.root s) 1 ∷ []) R.stand R.fit root_there

  -- What it declares by a name.
  pub root_declares : LowScope s → (m : Scope) (space name : ℕ) → eqb name 0 ≡ false → Told s m (Option.map in_prelude (declared (Readings.root s) space name)) (in_root form space name)
  unfolding in_root
  root_declares low m space name is_name =
      found_in_root s m _ _ (declares form s (floor (Readings.root s) 1) 0 root_chain.0 (first (all_at_own_way s [] _ root_there)) (first (none_inserted_around s low [] _ root_there)) space name is_name)
    where
      first : {P : Floor → Type 0} → All P (floor (Readings.root s) 1 ∷ []) → P (floor (Readings.root s) 1)
      first (h & rest) = h
