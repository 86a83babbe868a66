-- On the rows of an input and of its output the entries, as the code makes them, are those of the rules' two lists.
use Rattle.std.specs.Prelude.{◌≡◌, ℕ, ◌+◌, ◌<◌}
use Rattle.std.proofs.Math.Path.{refl, ap}
use Rattle.std.proofs.Common.{sym, ◌∙◌, subst}
use mathlib.Core.List.{List, [], ◌∷◌, ◌++◌, append-nil}
use native.Mathlib.Omega.{arith}
use Rattle.std.proofs.Math.ListN.{length, length-append}
use Rattle.rules.specs.Versions.{RuleSet}
use Rattle.rules.specs.Rows.{Open, Close, encode}
use Rattle.rules.specs.Tree.{Scope, scope, Fields, flatten, fields_rows}
use Rattle.rules.specs.Rules.{ok, resolve}
use Rattle.rules.specs.Readings
use Rattle.rules.specs.Readings.{fields_of}
use Rattle.rules.specs.Laws.Meaning.Names.{LowScope}
use Rattle.places.specs.PlaceRows.{floor}
use Rattle.moving.specs.Moved.{places_in, places, moved_at, apart_at, collect, moved, apart}
use Rattle.moving.proofs.Laws.RowOrder.{all_fields}
use Rattle.row_parts.specs.Parts.{rows_in}
use Rattle.scopes.specs.Scopes.{scope_of, scope_above}
use Rattle.moved_list.specs.Listing.{behind_next, entries_from, entries_in, moved_of, apart_of}
use Rattle.reading_laws.specs.Stand.{Is, At, code_part, behind_length, at_left, at_right}
use Rattle.reading_laws.specs.Even.{up_open}
use Rattle.reading_laws.specs.Meant.{Rows}
use Rattle.moved_laws.specs.Pairs.{run_pairs}
use Rattle.moved_laws.specs.Span.{Span, span_append, bound_row, next_is}
use Rattle.moved_laws.specs.Walk.{span_is, Here, Gone, fields_go}

module _ (form out : List ℕ) (rules : RuleSet) where
  -- the root's fields and its CLOSE
  module _ (kind name kind' name' k : ℕ) (fs gs : Fields) (low : LowScope (scope kind name fs)) (resolves : resolve rules (scope kind name fs) ≡ ok (scope kind' name' gs, k))
      (R : Rows form (scope kind name fs)) (R' : Rows out (scope kind' name' gs)) where
    abbrev before : Scope
    before = scope kind name fs

    abbrev run : Scope × ℕ
    run = (scope kind' name' gs, k)

    rows_before : At form 0 (Open kind name ∷ (fields_rows fs ++ (Close ∷ [])))
    unfolding flatten
    rows_before = R.stand

    rows_after_lem : At out 0 (Open kind' name' ∷ (fields_rows gs ++ (Close ∷ [])))
    unfolding flatten
    rows_after_lem = R'.stand

    fits_after : 1 + length (fields_rows gs) < rows_in out
    unfolding flatten
    fits_after = let n = length-append (fields_rows gs) (Close ∷ []) in let fit = R'.fit in omega (arith, n, fit)

    into : behind_next out 0 ≡ 1
    unfolding encode
    into = next_is out 0 (Open kind' name') rows_after_lem.0 refl (omega (arith, fits_after)) ∙ omega arith

    in_root_lem : scope_of out 1 ≡ 1
    unfolding scope_of encode
    in_root_lem =
        let one : 0 + 1 ≡ 1 = omega arith in
        ap (λ (r : ℕ). scope_above out r 0) (sym one) ∙ (up_open out 0 (ap code_part rows_after_lem.0) ∙ one)

    starts : Here form out before run rules low resolves R R' (floor (Readings.root before) 1) (floor (Readings.root run.0) 1) 0 1 1 (behind_next out 0) fs gs
    unfolding Readings.root
    starts =
        record {
          was = all_fields before;
          now = all_fields run.0;
          ways = refl;
          stand = at_left form 1 (fields_rows fs) (Close ∷ []) rows_before.1;
          stand' = at_left out 1 (fields_rows gs) (Close ∷ []) rows_after_lem.1;
          fits = fits_after;
          scope' = in_root_lem;
          in_scope_lem = ap (scope_of out) into ∙ in_root_lem;
          near = ap (behind_next out) into;
        }

    goes : Gone form out before run rules low resolves R R' (floor (Readings.root run.0) 1) 1 (length (fields_rows fs)) (behind_next out 0) (collect (moved_at before run.0) (places_in [] 0 fs)) (collect (apart_at before) (places_in [] 0 fs)) (1 + length (fields_rows gs))
    unfolding Readings.root
    goes = fields_go form out before run rules low resolves R R' (run_pairs rules before run low resolves) (floor (Readings.root before) 1) (floor (Readings.root run.0) 1) 0 1 1 (behind_next out 0) starts

    whole : Span form out 0 (length (flatten before)) 0 (moved before run.0) (apart before) (behind_next out goes.to)
    unfolding flatten moved apart places places_in encode
    whole =
        let m = length (fields_rows fs) in
        let n = length-append (fields_rows fs) (Close ∷ []) in
        let last = behind_length 1 (fields_rows fs) in
        let open_row = bound_row form out 0 0 (Open kind name) rows_before.0 (record { not_ref = refl; not_outer = refl }) refl in
        let close_row = bound_row form out (1 + m) goes.to Close (subst (λ (r : ℕ). Is form r Close) last (at_right form 1 (fields_rows fs) (Close ∷ []) rows_before.1).0) (record { not_ref = refl; not_outer = refl }) refl in
        span_is (span_append form out 0 1 (m + 1) 0 _ _ _ _ _ _ open_row (span_append form out 1 m 1 _ _ _ _ _ _ _ goes.span close_row)) (omega (arith, n))
        (append-nil _) (append-nil _)

  -- The entries of an accepted input's rows are those of the two lists, in their order.
  pub lists_agree : (before after : Scope) (k : ℕ) → LowScope before → resolve rules before ≡ ok (after, k) → Rows form before → Rows out after → rows_in form ≡ length (flatten before)
      → (moved_of (entries_in form out) ≡ moved before after) × (apart_of (entries_in form out) ≡ apart before)
  unfolding entries_in entries_from
  lists_agree (scope kind name fs) (scope kind' name' gs) k low resolves R R' size =
      let W = whole kind name kind' name' k fs gs low resolves R R' in
      let all : rows_in form ≡ length (flatten (scope kind name fs)) + 0 = omega (arith, size) in
      let entries : entries_from form out 0 (rows_in form) 0 ≡ W.entries = ap (λ (n : ℕ). entries_from form out 0 n 0) all ∙ (W.are 0 ∙ append-nil W.entries) in
      (ap moved_of entries ∙ W.first, ap apart_of entries ∙ W.second)
