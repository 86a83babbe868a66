-- Every written number: its declaration in the input has a place, and it stays there, or is on one of the two lists.
use Rattle.std.specs.Prelude.{◌≡◌, refl, Bool, true, false, [], ℕ}
use Rattle.std.proofs.Common.{ap, sym, ◌∙◌}
use Rattle.std.proofs.Math.Option.{Option, none, some}
use Rattle.rules.specs.Tools.{◌then◌}
use Rattle.rules.specs.Versions.{RuleSet}
use Rattle.rules.specs.Tree.{Scope, scope, Fields, end, ◌▸◌, Item, plain, holds, head_of}
use Rattle.rules.specs.Rules.{ok, resolve}
use Rattle.rules.specs.Readings
use Rattle.rules.specs.Readings.{Place, fields_of, Spot, original, inserted, standings, of_space, place, counted}
use Rattle.places.specs.PlaceRows.{Floor, floors_at, row_of_decl, counted_row}
use Rattle.moving.specs.Moved.{Written, written_at, counted_in, Denoted, denoted, same_place, moved, apart}
use Rattle.rules.specs.Laws.ToolLaws.{then_some, done}
use Rattle.rules.specs.Laws.Results.{some_same}
use Rattle.places.proofs.RowAt.{all_at}
use Rattle.places.proofs.LocatedAt.{all_at_own_way, located_place}
use Rattle.moving.proofs.Laws.Lists.{In, Counts, entry, moves_listed, apart_listed, floor_level, denoted_counted, item_stays, NoneInserted, NoneInFields, NoneInItem, none_around, none_spots, spots_original, OnOriginal}
use Rattle.rules.specs.Laws.Meaning.Names.{LowScope, LowFields, LowItem}
use Rattle.rules.proofs.Laws.Meaning.Lookups

-- ---- an input has no inserted field

mutual
  pub low_none : (s : Scope) → LowScope s → NoneInserted s
  low_none (scope kind name fs) low = low_fields fs low.1

  low_fields : (fs : Fields) → LowFields fs → NoneInFields fs
  low_fields end low = tt
  low_fields (i ▸ fs) low = (Lookups.low_original (head_of i) low.0.decls, low_item i low.1, low_fields fs low.2)

  low_item : (i : Item) → LowItem i → NoneInItem i
  low_item (plain h) low = tt
  low_item (holds h s) low = low_none s low

pub fields_none : (s : Scope) → NoneInserted s → NoneInFields (fields_of s)
fields_none (scope kind name fs) h = h

-- What a number counts to in the input has a place.
pub was_placed : (s : Scope) (p : Place) (w : Written) (f : Floor) (was : Denoted) → LowScope s → counted_in s p w ≡ some f → denoted f w ≡ some was → (d : Place) × (was.place ≡ some d)
unfolding Readings.root counted place
was_placed s p w f was low e₁ e₂ =
    let C = denoted_counted f w was e₂ in
    let t = then_some (Readings.around p.way (Readings.root s) []) _ _ (floor_level s p w f e₁) in
    let fields = all_at t.0 w.out f.level (none_around p.way (Readings.root s) [] t.0 t.1 (fields_none s (low_none s low)) done) t.2 in
    let on = all_at (of_space (standings 0 f.level.fields) w.space) w.number C.0 (spots_original (standings 0 f.level.fields) w.space (none_spots 0 f.level.fields fields)) C.1 in
    go C.0 on C.2
  where
    go : (x : Spot) → OnOriginal x → place f.level x ≡ was.place → (d : Place) × (was.place ≡ some d)
    go (original field at) o e = (_, sym e)
    go (inserted h) o e = absurd o

-- The row of what a number counts to is the row of its place, where it has one: in the input and in the output.
pub row_of_place : (s : Scope) (p : Place) (w : Written) (f : Floor) (x : Denoted) (d : Place) → counted_in s p w ≡ some f → denoted f w ≡ some x → x.place ≡ some d → row_of_decl s d ≡ some x.row
unfolding counted_in denoted
row_of_place s p w f x d e₁ e₂ e₃ =
    let s₁ = then_some (floors_at s p.way) _ f e₁ in
    let s₂ = then_some (counted_row f w.space w.number) _ x e₂ in
    let is = some_same _ x s₂.2 in
    let L = located_place s f w.space w.number s₂.0 d (all_at s₁.0 w.out f (all_at_own_way s p.way s₁.0 s₁.1) s₁.2) s₂.1 (ap (λ (y : Denoted). y.place) is ∙ e₃) in
    L.1 ∙ ap {B = Option ℕ} (λ (y : Denoted). some y.row) is

-- ---- every written number

pub data Fate (before after : Scope) (p : Place) (w : Written) : Type 0 where
  -- it counts to the same declaration in both
  stays : (was now : Denoted) → Counts before after p w was now → same_place was.place now.place ≡ true → Fate before after p w
  -- it is on the first list, with the rows of the two
  moves : (was now : Denoted) → Counts before after p w was now → same_place was.place now.place ≡ false → In (entry w was now) (moved before after) → Fate before after p w
  -- it had no item, and is on the second
  no_item_lem : In (record { z = w.z; space = w.space; number = w.number }) (apart before) → Fate before after p w

-- In an accepted run each written number whose scope is there has one of these fates.
pub every_number : (rules : RuleSet) (s : Scope) (r : Scope × ℕ) (p : Place) (w : Written) (f : Floor) → LowScope s → resolve rules s ≡ ok r → written_at s p ≡ some w → counted_in s p w ≡ some f → Fate s r.0 p w
every_number rules s r p w f low eq number e = by_item (denoted f w) refl
  where
    by_place : (was now : Denoted) → Counts s r.0 p w was now → (b : Bool) → same_place was.place now.place ≡ b → Fate s r.0 p w
    by_place was now C true q = stays was now C q
    by_place was now C false q = moves was now C q (moves_listed s r.0 (entry w was now) (record { p = p; w = w; was = was; now = now; counts = C; differ = q; is_entry = refl }))

    by_item : (o : Option Denoted) → denoted f w ≡ o → Fate s r.0 p w
    by_item none q = no_item_lem (apart_listed s _ (record { p = p; w = w; number = number; floor = f; in_scope_lem = e; nothing = q; is_entry = refl }))
    by_item (some was) q = let I = item_stays rules s r p w f was low eq number e q in by_place was I.0 I.1 _ refl
