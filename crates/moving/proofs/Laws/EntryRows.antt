-- Moved numbers, on rows: an entry names two DECL rows of its space, the lists are in row order, and the answer is that of the rules.
use Rattle.std.specs.Prelude.{◌≡◌, refl, Bool, true, false, ◌||◌, not, List, [], ◌∷◌, ℕ, ◌+◌, ◌*◌, eqb, ltb, length}
use Rattle.std.proofs.Common.{ap, sym, ◌∙◌, subst}
use Rattle.std.proofs.Math.Option.{some}
use Rattle.std.proofs.Math.ListN.{get_elem?}
use Rattle.rules.specs.Tools.{when◌then◌else◌, between}
use Rattle.rules.specs.Versions.{RuleSet, Setting}
use Rattle.rules.specs.Tree.{Declaration, Scope, flatten, RowsRead, bad, deep, form}
use Rattle.rules.specs.Reader.{read}
use Rattle.rules.specs.Rules.{resolve}
use Rattle.rules.specs.Answer
use Rattle.rules.specs.Answer.{AnswerOf, refused, accepted, map_answer, answer_in, form_in, row_count, rows_in}
use Rattle.rules.specs.Readings.{Place, place}
use Rattle.places.specs.PlaceRows.{Floor, floors_at, Located, located_of, counted_row}
use Rattle.moving.specs.Moved.{Written, counted_in, Denoted, denoted, MovedNumber}
use Rattle.moving.specs.MovedAnswer
use Rattle.moving.specs.MovedAnswer.{MovedAnswer, Rooms, moved_in, plainly}
use Rattle.rules.specs.Laws.ToolLaws.{eqb-true, then_some, All, done, ◌&◌}
use Rattle.rules.specs.Laws.Results.{some_same}
use Rattle.places.proofs.RowAt.{all_at, decl_row_of, counted_row_is}
use Rattle.moving.proofs.Laws.Lists.{Moves}

-- ---- an entry names two DECLs of its space

of_that_space : (xs : List Located) (space : ℕ) → All (λ (x : Located). x.standing.decl.space ≡ space) (located_of xs space)
unfolding located_of when◌then◌else◌
of_that_space [] space = done
of_that_space (x ∷ xs) space = go (eqb x.standing.decl.space space) refl (of_that_space xs space)
  where
    go : (b : Bool) → eqb x.standing.decl.space space ≡ b → All (λ (x : Located). x.standing.decl.space ≡ space) (located_of xs space)
        → All (λ (x : Located). x.standing.decl.space ≡ space) (when b then x ∷ located_of xs space else located_of xs space)
    go true e a = eqb-true _ space e & a
    go false e a = a

-- a DECL of that space at that row
abbrev pub DeclAtRow : Scope → (space row : ℕ) → Type 0
DeclAtRow s space row = (d : Declaration) × (get_elem? (flatten s) row ≡ some (decl_row_of d)) × (d.space ≡ space)

denoted_row : (s : Scope) (p : Place) (w : Written) (f : Floor) (d : Denoted) → counted_in s p w ≡ some f → denoted f w ≡ some d → DeclAtRow s w.space d.row
unfolding counted_in denoted counted_row
denoted_row s p w f d e₁ e₂ =
    let s₁ = then_some (floors_at s p.way) _ f e₁ in
    let s₂ = then_some (counted_row f w.space w.number) _ d e₂ in
    let same : s₂.0.row ≡ d.row = ap (λ (x : Denoted). x.row) (some_same _ d s₂.2) in (
      s₂.0.standing.decl,
      ap (get_elem? (flatten s)) (sym same) ∙ counted_row_is s p.way s₁.0 w.out f w.space w.number s₂.0 s₁.1 s₁.2 s₂.1,
      all_at _ w.number s₂.0 (of_that_space _ w.space) s₂.1,
    )

-- What a listed number meant is a DECL row of the input, and what it gets is one of the output, both of the entry's space.
pub entry_rows_lem : (before after : Scope) (m : MovedNumber) → Moves before after m → DeclAtRow before m.space m.meant × DeclAtRow after m.space m.gets
entry_rows_lem before after m M =
    let C = M.counts in
    subst (λ (x : MovedNumber). DeclAtRow before x.space x.meant × DeclAtRow after x.space x.gets) M.is_entry
    (denoted_row before M.p M.w C.scope_was M.was C.in_was C.counted_was, denoted_row after M.p M.w C.scope_now M.now C.in_now C.counted_now)

-- ---- the answer without the lists is that of the rules

of_reading_lem : (rules : RuleSet) (r : RowsRead) → plainly (MovedAnswer.of_reading rules r) ≡ map_answer flatten (Answer.after_reading [] rules r)
unfolding MovedAnswer.of_reading MovedAnswer.listed plainly Answer.after_reading map_answer resolve
of_reading_lem rules (bad place) = refl
of_reading_lem rules (deep place) = refl
of_reading_lem rules (form s) = go (Answer.resolved (resolve rules s))
  where
    go : (a : AnswerOf Scope) → plainly (map_answer (MovedAnswer.listed s) a) ≡ map_answer flatten a
    go (refused number place carried) = refl
    go (accepted t) = refl

-- With room for the lists it is what `answer_in` says.
pub same_answer : (v : Setting) (input : List ℕ) (rooms : Rooms)
    → (ltb rooms.moved (16 * row_count v.version input) || ltb rooms.apart (12 * row_count v.version input)) ≡ false
    → plainly (moved_in v input rooms) ≡ answer_in [] v input rooms.out
unfolding moved_in answer_in form_in MovedAnswer.too_short when◌then◌else◌ plainly map_answer
same_answer v input rooms e =
    rw e (go (not (between 1 v.version.rows (row_count v.version input)) || not (eqb (length input) (v.version.header + 16 * row_count v.version input)))
    (ltb rooms.out (v.version.header + 64 * row_count v.version input)) (read v.rules v.version.scopes (rows_in v input)))
  where
    go : (a b : Bool) (r : RowsRead)
        → plainly (when a then refused 2 0 [] else when b || false then refused 3 0 [] else MovedAnswer.of_reading v.rules r)
        ≡ map_answer flatten (when a then refused 2 0 [] else when b then refused 3 0 [] else Answer.after_reading [] v.rules r)
    go true b r = refl
    go false true r = refl
    go false false r = of_reading_lem v.rules r
