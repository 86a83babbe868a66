-- A number in a scope of the input and in the same scope of the output, on the rows of both.
use Rattle.std.specs.Prelude.{◌≡◌, refl, Bool, true, false, ◌||◌, not, ℕ, suc, ◌+◌, None}
use Rattle.std.proofs.Math.Path.{ap}
use Rattle.std.proofs.Common.{sym, ◌∙◌, subst}
use Rattle.std.proofs.Math.Option
use Rattle.std.proofs.Math.Option.{none, some}
use mathlib.Core.List.{List, [], ◌∷◌, ◌++◌}
use native.Mathlib.Omega.{arith}
use Rattle.std.proofs.Math.ListN.{get_elem?}
use Rattle.kit.proofs.Laws.{tests}
use Rattle.rules.specs.Tools.{when◌then◌else◌, ◌then◌}
use Rattle.rules.specs.Tree.{Declaration, Scope, scope, Fields, end, ◌▸◌, Item, plain, holds, head_of}
use Rattle.rules.specs.Rules.{fresh}
use Rattle.rules.specs.Readings
use Rattle.rules.specs.Readings.{is_fresh, any_fresh, is_inserted, Spot, original, inserted, Standing, in_original, in_inserted, standings, place, fields_of}
use Rattle.rules.specs.Laws.ToolLaws.{All, done, ◌&◌, all_append}
use Rattle.rules.specs.Laws.Results.{some_same, no_option}
use Rattle.rules.proofs.Laws.Output.Kept.{IsAlias, AliasesScope, AliasesFields, AliasesItem}
use Rattle.places.specs.PlaceRows.{Floor, floors_at, Located, located, located_of, counted_row}
use Rattle.places.specs.Counting.{elem_map, standing, located_standings}
use Rattle.moving.specs.Moved.{same_place}
use Rattle.moving.proofs.Laws.Lists.{Same, NoneInFields}
use Rattle.scopes.specs.Scopes.{find_in}
use Rattle.scopes.specs.declared.Key.TheVariants.{Number, Inserted}
use Rattle.numbers.specs.Entries.{numbered, reaches, is_pushed}
use Rattle.reading_laws.specs.Find.{search, find_in_lem}
use Rattle.reading_laws.specs.Floors.{Stands}
use Rattle.reading_laws.specs.Everywhere.{of_floors}
use Rattle.reading_laws.specs.Number.{number_none}
use Rattle.moved_laws.specs.Pushed.{of_one, located_one, kin_one, all_one, fresh_to, first_inserted, rise_standings, rise_one, Marked, moves}

-- ---- which declarations of the output have fresh names

or_none : (a b : Bool) → a || b ≡ false → (a ≡ false) × (b ≡ false)
or_none true b e = let no_way : ◌≡◌ {A = ℕ} 0 1 = cc in absurd (omega arith)
or_none false b e = (refl, e)

abbrev IsMarked : Standing → Type 0
IsMarked x = Marked x.spot x.decl.name

marked_original : (n at : ℕ) (ds : List Declaration) → any_fresh ds ≡ false → All IsMarked (in_original n at ds)
unfolding any_fresh in_original
marked_original n at [] e = done
marked_original n at (d ∷ ds) e = let N = or_none (is_fresh d.name) (any_fresh ds) e in N.0 & marked_original n (suc at) ds N.1

fresh_name : (k : ℕ) → is_fresh (fresh k) ≡ true
unfolding is_fresh fresh
fresh_name k = omega tests

marked_inserted : (i : Item) → IsAlias i → All IsMarked (in_inserted (head_of i) (head_of i).decls)
unfolding in_inserted head_of
marked_inserted (plain h) a =
    subst (λ (ds : List Declaration). All IsMarked (in_inserted h ds)) (sym a.alone) ((ap is_fresh a.named ∙ fresh_name a.number) & done)
marked_inserted (holds h s) a = absurd a

marks : (n : ℕ) (fs : Fields) → AliasesFields fs → All IsMarked (standings n fs)
unfolding standings when◌then◌else◌ is_inserted
marks n end a = done
marks n (i ▸ fs) a = go (any_fresh (head_of i).decls) refl (λ m. marks m fs a.2)
  where
    go : (b : Bool) → any_fresh (head_of i).decls ≡ b → ((m : ℕ) → All IsMarked (standings m fs))
        → All IsMarked ((when b then in_inserted (head_of i) (head_of i).decls else in_original n 0 (head_of i).decls) ++ standings (when b then n else suc n) fs)
    go true e below = all_append _ _ (marked_inserted i (a.0 e)) (below n)
    go false e below = all_append _ _ (marked_original n 0 (head_of i).decls e) (below (suc n))

-- the fields of every scope around a place
aliases_held : (i : Item) (gs : Fields) → AliasesItem i → Readings.held i ≡ some gs → AliasesFields gs
unfolding Readings.held
aliases_held (plain h) gs a e = no_option gs e
aliases_held (holds h (scope kind name fs)) gs a e = subst AliasesFields (some_same fs gs e) a

pub floors_aliases : (s : Scope) (way : List ℕ) (fs : List Floor) → AliasesScope s → floors_at s way ≡ some fs → All (λ (f : Floor). AliasesFields f.level.fields) fs
floors_aliases (scope kind name gs) way fs a e =
    of_floors AliasesFields AliasesItem (λ i fs p. p.1) (λ i fs p. p.2) aliases_held (scope kind name gs) way fs a e

-- ---- counting on rows

module _ (form : List ℕ) (f : Floor) (beyond : ℕ) (S : Stands form f beyond) (space n : ℕ) where
  -- a number without an item
  pub none_found : counted_row f space n ≡ none → find_in form f.row space (Number n) ≡ None
  unfolding counted_row
  none_found e =
      let same : 0 + n ≡ n = omega arith in
      find_in_lem form space (Number n) f.level.fields f.row S.fields S.fits
      ∙ (ap (λ (k : ℕ). search space (Number k) 0 (located f.row 0 f.level.fields)) (sym same) ∙ number_none space (located f.row 0 f.level.fields) n 0 e)

  -- the first inserted one
  pushed_is : (z : ℕ) → is_pushed form f.row (numbered z space n) ≡ fresh_to (of_one space (standings 0 f.level.fields)) n
  unfolding is_pushed
  pushed_is z =
      let same : n ≡ 0 + n = omega arith in
      let xs = located f.row 0 f.level.fields in
      ap (λ (x : _). reaches x n) (find_in_lem form space Inserted f.level.fields f.row S.fields S.fits)
      ∙ (ap (reaches (search space Inserted 0 xs)) same
      ∙ (first_inserted space xs 0 n ∙ ap (λ (l : List Standing). fresh_to l n) (located_one space xs ∙ ap (of_one space) (located_standings f.row 0 f.level.fields))))

-- what is counted stands at its number among those of its space
counted_standing : (f : Floor) (space n : ℕ) (x : Located) → counted_row f space n ≡ some x → get_elem? (of_one space (standings 0 f.level.fields)) n ≡ some x.standing
unfolding counted_row
counted_standing f space n x e =
    let xs = located f.row 0 f.level.fields in
    ap (λ (l : List Standing). get_elem? l n) (sym (located_one space xs ∙ ap (of_one space) (located_standings f.row 0 f.level.fields)))
    ∙ (elem_map standing (located_of xs space) n ∙ ap (Option.map standing) e)

-- A number moves exactly if an inserted declaration has it or a lower one.
pub pushed_moves : (out : List ℕ) (f g : Floor) (beyond : ℕ) → Stands out g beyond → Same f.level g.level → NoneInFields f.level.fields → AliasesFields g.level.fields
    → (z space n : ℕ) (x y : Located) → counted_row f space n ≡ some x → counted_row g space n ≡ some y
    → same_place (place f.level x.standing.spot) (place g.level y.standing.spot) ≡ not (is_pushed out g.row (numbered z space n))
pushed_moves out f g beyond S same originals aliases z space n x y ex ey =
    moves f.level g.level same.way (kin_one space same.kin) (rise_one space (rise_standings 0 f.level.fields originals)) (all_one space _ (marks 0 g.level.fields aliases)) n x.standing y.standing
    (counted_standing f space n x ex) (counted_standing g space n y ey)
    ∙ ap not (sym (pushed_is out g beyond S space n z))
