-- How long a list can be: in terms of the rows of both forms.
use Rattle.std.specs.Prelude.{◌≡◌, ℕ, ◌+◌, ◌*◌, ◌≤◌}
use Rattle.std.proofs.Common.{ap}
use mathlib.Core.List.{List, [], ◌∷◌, ◌++◌}
use native.Mathlib.Omega.{arith}
use Rattle.std.proofs.Math.ListN.{length, length-append}
use Rattle.rules.specs.Rows.{bytes, Row, Open, Close}
use Rattle.rules.specs.Tree.{Scope, scope, flatten, fields_rows}
use Rattle.comparing.specs.Compare.{Choice, same, Pair, alike, differs, opening, items, field_pairs, open_pair, form_pairs, Entry, entries, differences, entry_bytes, list_bytes}
use Rattle.rules.specs.Laws.ToolLaws.{All, done, ◌&◌}
use Rattle.rules.specs.Laws.Results.{if_both}
use Rattle.read_form.proofs.Laws.OutputLength.{rows_length}
use Rattle.comparing.proofs.Laws.Sides.{lefts, rights, Filled, fields_filled, fields_sides}

entry_size_lem : (e : Entry) → length (entry_bytes e) ≡ 20 + 16 * length e.rows
unfolding entry_bytes bytes
entry_size_lem e = omega (arith, rows_length e.rows)

-- this many bytes at most for pairs with these rows
abbrev room : List Pair → ℕ
room ps = 20 * (length (lefts ps) + length (rights ps)) + 16 * length (rights ps)

-- The last pair is that of the CLOSE rows, which are always alike.
module _ (x y : List Row) where
  pairs_size : (i j : ℕ) (ps : List Pair) → All Filled ps → length (list_bytes (entries i j (ps ++ (alike x y ∷ [])))) ≤ room ps
  unfolding entries list_bytes lefts rights
  pairs_size i j [] done = omega arith
  pairs_size i j (alike l r ∷ ps) (h & a) =
      omega (arith, pairs_size (i + length l) (j + length r) ps a, length-append l (lefts ps), length-append r (rights ps))
  pairs_size i j (differs k l r ∷ ps) (h & a) =
      let e : Entry = record { kind = k; left = i; count = length l; right = j; rows = r } in
      omega (
        arith,
        pairs_size (i + length l) (j + length r) ps a,
        length-append l (lefts ps),
        length-append r (rights ps),
        entry_size_lem e,
        length-append (entry_bytes e) (list_bytes (entries (i + length l) (j + length r) (ps ++ (alike x y ∷ [])))),
      )

-- An entry for each row but the CLOSE rows, the OPEN rows sharing one, and all rows of the right but its CLOSE.
pub list_size : (c : Choice) (a b : Scope)
    → length (list_bytes (differences c a b)) + 76 ≤ 20 * (length (flatten a) + length (flatten b)) + 16 * length (flatten b)
unfolding differences form_pairs open_pair flatten entries list_bytes
list_size c (scope kind name fs) (scope kind' name' fs') =
    let ps = field_pairs c (items fs) (items fs') in
    let qs : List Pair = ps ++ (alike (Close ∷ []) (Close ∷ []) ∷ []) in
    let s = fields_sides c fs fs' in
    let fields = pairs_size (Close ∷ []) (Close ∷ []) 1 1 ps (fields_filled c (items fs) (items fs')) in
    let l = Open kind name ∷ [] in
    let r = Open kind' name' ∷ [] in
    let e : Entry = record { kind = opening; left = 0; count = 1; right = 0; rows = r } in
    let first : length (list_bytes (entries 0 0 (open_pair c l r ∷ qs))) ≤ 36 + length (list_bytes (entries 1 1 qs)) =
    if_both (λ (p : Pair). length (list_bytes (entries 0 0 (p ∷ qs))) ≤ 36 + length (list_bytes (entries 1 1 qs))) (same c l r) (alike l r) (differs opening l r)
    (omega arith) (omega (arith, entry_size_lem e, length-append (entry_bytes e) (list_bytes (entries 1 1 qs)))) in
    omega (
      arith,
      first,
      fields,
      ap length s.all_left,
      ap length s.all_right,
      length-append (fields_rows fs) (Close ∷ []),
      length-append (fields_rows fs') (Close ∷ []),
    )
