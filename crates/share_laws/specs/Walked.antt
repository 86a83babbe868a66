-- The walk over the marked rows of a form writes what the rules propose for it: under any setting that the walk is able to take, in
-- tables of any size that is enough.
use Rattle.std.specs.Prelude.{◌≡◌, refl, ℕ, ◌*◌, ◌/◌, ◌≤◌, length, replicate}
use Rattle.std.proofs.Common.{sym, ap₂, ◌∙◌}
use Rattle.std.proofs.Math.Path.{subst}
use Rattle.std.proofs.Math.Bool.{false}
use Rattle.std.proofs.Math.Option.{some}
use mathlib.Core.List.{List, [], map, append-nil}
use native.Mathlib.Omega.{arith}
use Rattle.std.proofs.Math.ListN.{length-replicate}
use Rattle.rules.specs.Versions.{Version, Setting}
use Rattle.rules.specs.Tree.{Scope, scope, flatten}
use Rattle.rules.specs.Good.{GoodScope, height}
use Rattle.rules.specs.Readings.{fields_of}
use Rattle.rules.specs.Rules.{Result, ok, resolve}
use Rattle.rules.specs.Answer.{rows_bytes, rows_of}
use Rattle.rules.specs.Laws.ToolLaws.{All, false_not}
use Rattle.rules.specs.Laws.RowLaws.{Written}
use Rattle.rules.specs.Laws.Meaning.Names.{LowScope, low_scope}
use Rattle.rules.proofs.Laws.Meaning.Stricter.{relaxed_rules}
use Rattle.rules.proofs.Laws.Output.OutFits.{out_name}
use Rattle.rules.proofs.Laws.Read.BeginsWritten.{rows_again}
use Rattle.read_form.proofs.Laws.OutputLength.{rows_length}
use Rattle.unresolving.proofs.Laws.Answered.{rows_low}
use Rattle.sharing.specs.Sharing.{mark, propose}
use Rattle.sharing.proofs.Laws.Marks
use Rattle.sharing.proofs.Laws.Marks.{marked_like}
use Rattle.form.specs.MarkEnds.{ends_to}
use Rattle.form.specs.Ends.{Ends, EndsIn}
use Rattle.form.proofs.EndsStorey.{ends_to_right}
use Rattle.names.specs.Table.{Slot, no_scope}
use Rattle.agree.specs.Tables.Sizes.{Sizes, Fits, Sized}
use Rattle.agree.specs.Rows.At.{At}
use Rattle.agree.specs.Rows.AtLaws.{at_form}
use Rattle.agree.specs.Walk.RootAgrees.{inside_agrees, begun_alone}
use Rattle.resolver.specs.Run.{walk_in}
use Rattle.resolver.proofs.Root.{Able, Walks, Rooms, seen}
use Rattle.share_laws.specs.Relaxed.{relaxed, proposed_relaxed, good_relaxed}

module _ (by : Setting) (able : Able by) (ends : List ℕ) (entered names : List Slot) (rooms : Rooms by.version ends entered names) where
  abbrev v : Version
  v = by.version

  sizes : Sizes
  sizes = record { entered = length entered; names = length names; scopes = v.scopes }

  sized : Sized sizes entered names (replicate v.scopes no_scope)
  unfolding sizes
  sized = record { room = refl; size = refl; depths = length-replicate v.scopes no_scope }

  module _ (t : Scope) (few : length (flatten t) ≤ v.rows) (good : GoodScope by.rules t) (low : LowScope t) (shallow : height t ≤ v.scopes) (fit : All (Written out_name) (flatten t)) where
    abbrev rows : List ℕ
    rows = rows_bytes (flatten (mark t))

    -- there are as many of them
    many : length (flatten (mark t)) ≡ length (flatten t)
    many = Marks.like_rows _ t (mark t) (marked_like t)

    pub marked_count : length rows / 16 ≡ length (flatten t)
    marked_count =
        let e = rows_length (flatten (mark t)) in
        let m = many in
        omega arith

    -- and they are read, where the names of inserted fields are
    again : rows_of out_name (length rows / 16) rows ≡ map some (flatten (mark t))
    again =
        let fits = Marks.like_fits _ (omega (arith, able.few)) t (mark t) (marked_like t) fit in
        ap₂ (λ (k : ℕ) (l : List ℕ). rows_of out_name k l) (marked_count ∙ sym many) (sym (append-nil rows)) ∙ rows_again out_name (flatten (mark t)) [] fits

    stands : At rows 0 (flatten (mark t))
    stands = (at_form out_name rows (rows_low (flatten (mark t))) (omega arith) (flatten (mark t)) again).0

    fits : Fits sizes rows
    unfolding sizes
    fits =
        let a = able.shallow in
        let n = marked_count in
        record { short = omega (arith, rooms.entered); entered = rooms.entered_narrow; names = rooms.names_narrow; scopes = omega arith }

    deep : height (mark t) ≤ v.scopes
    deep = omega (arith, Marks.like_height _ t (mark t) (marked_like t))

    ends_in_lem : EndsIn (mark t) (ends_to v.scopes rows ends) 0
    unfolding EndsIn
    ends_in_lem = go (mark t) (ends_to_right v.scopes out_name rows ends (mark t) (sym again) deep (omega (arith, rooms.ends, marked_count)) (omega (arith, able.few, marked_count)))
      where
        go : (s : Scope) → Ends (fields_of s) (ends_to v.scopes rows ends) 1 → EndsIn s (ends_to v.scopes rows ends) 0
        go (scope kind name fs) h = h

    -- THE WALK OVER THE MARKED ROWS of a form for which something is proposed, with four times the room
    pub marked_walks : (q : Scope × ℕ) → propose by.rules t ≡ ok q → (out : List ℕ) → 64 * length (flatten t) ≤ length out → Walks (ok q) out (walk_in (relaxed by) rows ends entered names out)
    unfolding walk_in sizes resolve
    marked_walks q e out room =
        let loose = relaxed_rules by.rules in
        let L = marked_like t in
        subst (λ (m : Result (Scope × ℕ)). Walks m out (walk_in (relaxed by) rows ends entered names out)) (proposed_relaxed by.rules t q e)
        (seen (resolve loose (mark t)) out _
        (inside_agrees loose able.heap sizes rows (ends_to v.scopes rows ends) (mark t) fits stands ends_in_lem (Marks.like_well _ loose t (mark t) L (good_relaxed by.rules t good)) (Marks.like_declared _ t (mark t) L (low_scope t low)) (λ e. false_not e) [] v.scopes 0 0 entered names (replicate v.scopes no_scope) deep
        (begun_alone sizes rows (ends_to v.scopes rows ends) (mark t) fits (omega (arith, rooms.names, marked_count)) deep entered names (replicate v.scopes no_scope) sized false stands) out (omega (arith, many))))
