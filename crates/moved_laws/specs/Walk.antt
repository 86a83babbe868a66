-- The walk through the rows of an input and its output: the entries are those of the operands' places, in their order.
use Rattle.std.specs.Prelude.{◌≡◌, true, false}
use Rattle.std.proofs.Math.Path.{refl, ap, sym, subst}
use Rattle.std.proofs.Common.{◌∙◌}
use Rattle.std.proofs.Math.Option.{Option, some}
use mathlib.Core.List.{List, [], ◌∷◌, ◌++◌, append_assoc, append-nil}
use native.Mathlib.Omega.{arith}
use Prim.Native.Nat.{ℕ, suc, ◌+◌, ◌<◌}
use Rattle.std.proofs.Math.ListN.{length, get_elem?, length-append}
use Rattle.rules.specs.Tools.{when◌then◌else◌}
use Rattle.rules.specs.Versions.{RuleSet}
use Rattle.rules.specs.Rows.{Row, Field, Open, Close, encode}
use Rattle.rules.specs.Tree.{Operand, Head, Scope, scope, Fields, end, ◌▸◌, Item, plain, holds, head_of, flatten, fields_rows, item_rows, head_rows, decl_rows, operand_row, operand_rows, export_rows}
use Rattle.rules.specs.Rules.{ok, resolve}
use Rattle.rules.specs.Readings
use Rattle.rules.specs.Readings.{is_inserted, Place, level, fields_of}
use Rattle.rules.specs.Laws.ToolLaws.{All, done, ◌&◌, all_append, all_map}
use Rattle.rules.specs.Laws.Meaning.Names.{LowScope}
use Rattle.places.specs.PlaceRows
use Rattle.places.specs.PlaceRows.{Placed, originals_from, Floor, floor, floors_at, field_at, operand_row_at}
use Rattle.places.proofs.RowAt.{decls_length, operand_row_of}
use Rattle.moving.specs.Moved.{places_at, places_in, places_inside, MovedNumber, NoItem, moved_at, apart_at, collect}
use Rattle.moving.proofs.Laws.Lists.{any_append, collect_append}
use Rattle.moving.proofs.Laws.RowOrder.{row_is, operand_on, Rest, place_field, rest_inserted, rest_original, first_is, held_rest}
use Rattle.row_parts.specs.Parts.{rows_in}
use Rattle.scopes.specs.Scopes.{scope_of, scope_above}
use Rattle.moved_list.specs.Listing.{behind_next}
use Rattle.reading_laws.specs.Stand.{Is, At, code_part, behind_length, at_left, at_right}
use Rattle.reading_laws.specs.Even.{Flat, Even, head_even, item_even, up_even, up_open}
use Rattle.reading_laws.specs.Floors.{first_row}
use Rattle.reading_laws.specs.Meant.{Rows}
use Rattle.moved_laws.specs.AtPlace.{says_place}
use Rattle.moved_laws.specs.Pairs.{PairedFields, ends, comes, stays, PairedItems, plains, hold}
use Rattle.moved_laws.specs.Span.{Span, no_rows_lem, span_append, quiet_rows, bound_row, listed_row, field_quiet, decls_quiet, export_quiet, operand_flat, operand_rows_lem, next_behind, next_is}

pub span_is : {form out : List ℕ} {row n m at to : ℕ} {ms ms' : List MovedNumber} {ns ns' : List NoItem} → Span form out row n at ms ns to → n ≡ m → ms ≡ ms' → ns ≡ ns' → Span form out row m at ms' ns' to
span_is S e₁ e₂ e₃ = rw (← e₁, ← e₂, ← e₃) S

operands_flat : (os : List Operand) → All Flat (operand_rows os)
unfolding operand_rows
operands_flat [] = done
operands_flat (o ∷ os) = let O = operand_rows_lem o in all_append (operand_row o) _ (subst (All Flat) (sym O.1) (operand_flat o & all_map _ (λ r q. q.flat) O.2)) (operands_flat os)

module _ (form out : List ℕ) (before : Scope) (run : Scope × ℕ) (rules : RuleSet) (low : LowScope before) (resolves : resolve rules before ≡ ok run) (R : Rows form before) (R' : Rows out run.0) where
  abbrev after : Scope
  after = run.0

  abbrev moving : List Place → List MovedNumber
  moving ps = collect (moved_at before after) ps

  abbrev missing : List Place → List NoItem
  missing ps = collect (apart_at before) ps

  -- ---- the operands of a field

  module _ (w : List ℕ) (n at : ℕ) (gs : List Floor) (around : floors_at after w ≡ some gs) (in_scope_lem : scope_of out at ≡ first_row gs) (x : Placed) (field : (j : ℕ) → field_at before (record { way = w; field = n; at = j }) ≡ some x) where
    operands_span : (k : ℕ) (os : List Operand) (row : ℕ) → ((j : ℕ) → get_elem? (head_of x.item).operands (k + j) ≡ get_elem? os j) → row ≡ operand_row_at x k → At form row (operand_rows os)
        → Span form out row (length (operand_rows os)) at (moving (places_at w n k os)) (missing (places_at w n k os)) at
    unfolding places_at operand_rows collect
    operands_span k [] row same there a = no_rows_lem form out row at
    operands_span k (o ∷ os) row same there a =
        let p : Place = record { way = w; field = n; at = k } in
        let e : get_elem? (head_of x.item).operands k ≡ some o = ap (get_elem? (head_of x.item).operands) (omega arith) ∙ same 0 in
        let O = operand_rows_lem o in
        let split : operand_row o ++ operand_rows os ≡ (operand_row_of o ∷ O.0) ++ operand_rows os = ap (λ (l : List Row). l ++ operand_rows os) O.1 in
        let all : At form row ((operand_row_of o ∷ O.0) ++ operand_rows os) = subst (At form row) split a in
        let own = at_left form row (operand_row_of o ∷ O.0) (operand_rows os) all in
        let last = behind_length row (operand_row_of o ∷ O.0) in
        let others : At form (row + 1 + length O.0) (operand_rows os) = subst (λ (r : ℕ). At form r (operand_rows os)) (last ∙ omega arith) (at_right form row (operand_row_of o ∷ O.0) (operand_rows os) all) in
        let says = says_place form out before run rules low resolves R R' p row (row_is before p x o (field k) e ∙ ap {B = Option ℕ} some (sym there)) at gs around in_scope_lem in
        let long : length (operand_row o) ≡ suc (length O.0) = ap length O.1 in
        let next : row + 1 + length O.0 ≡ operand_row_at x (suc k) = operand_on x k o row (length O.0) e there long in
        let first = listed_row form out row at (operand_row_of o) _ _ own.0 (operand_flat o) says in
        let paths = quiet_rows form out (row + 1) at O.0 O.2 own.1 in
        let rest = operands_span (suc k) os (row + 1 + length O.0) (λ j. ap (get_elem? (head_of x.item).operands) (omega arith) ∙ same (suc j)) next others in
        let size = length-append (operand_row o) (operand_rows os) in
        span_is (span_append form out row 1 (length O.0 + length (operand_rows os)) at at at _ _ _ _ first (span_append form out (row + 1) (length O.0) (length (operand_rows os)) at at at _ _ _ _ paths rest))
        (omega (arith, size, long)) (sym (any_append (moved_at before after p) _)) (sym (any_append (apart_at before p) _))

    -- all of a field's own rows
    head_span : At form x.row (head_rows (head_of x.item))
        → Span form out x.row (length (head_rows (head_of x.item))) at (moving (places_at w n 0 (head_of x.item).operands)) (missing (places_at w n 0 (head_of x.item).operands)) at
    unfolding head_rows operand_row_at operand_rows
    head_span a =
        let h = head_of x.item in
        let start = Field h.code h.builtin h.z in
        let ds = decl_rows h.decls in
        let os = operand_rows h.operands in
        let export = export_rows h.export in
        let front = at_left form (x.row + 1) ds (os ++ export) a.1 in
        let back = at_right form (x.row + 1) ds (os ++ export) a.1 in
        let b₁ = behind_length (x.row + 1) ds in
        let n₁ = decls_length h.decls in
        let n₂ = length-append ds (os ++ export) in
        let n₃ = length-append os export in
        let at-os : At form (x.row + suc (length ds)) (os ++ export) = subst (λ (r : ℕ). At form r (os ++ export)) (omega (arith, b₁)) back in
        let b₂ = behind_length (x.row + suc (length ds)) os in
        let quiet = quiet_rows form out x.row at (start ∷ ds) (field_quiet h.code h.builtin h.z & decls_quiet h.decls) (a.0, front) in
        let operands = operands_span 0 h.operands (x.row + suc (length ds)) (λ j. ap (get_elem? h.operands) (omega arith)) (omega (arith, n₁)) (at_left form (x.row + suc (length ds)) os export at-os) in
        let exports = quiet_rows form out (x.row + suc (length ds) + length os) at export (export_quiet h.export) (subst (λ (r : ℕ). At form r export) b₂ (at_right form (x.row + suc (length ds)) os export at-os)) in
        span_is (span_append form out x.row (suc (length ds)) (length os + length export) at at at _ _ _ _ quiet (span_append form out (x.row + suc (length ds)) (length os) (length export) at at at _ _ _ _ operands exports))
        (omega (arith, n₂, n₃)) (append-nil (moving (places_at w n 0 h.operands))) (append-nil (missing (places_at w n 0 h.operands)))

  -- ---- where the walk is

  -- before the fields `fs` of a scope of the input, and `gs` of the same scope of the output; `at` is in that scope, and no OPEN or CLOSE lies between it and `row'`
  pub record Here (f f' : Floor) (n row row' at : ℕ) (fs gs : Fields) : Type 0 where
    pub was : Rest before f n row fs
    pub now : Rest after f' n row' gs
    pub ways : f'.level.way ≡ f.level.way
    pub stand : At form row (fields_rows fs)
    pub stand' : At out row' (fields_rows gs)
    pub fits : row' + length (fields_rows gs) < rows_in out
    pub scope' : scope_of out row' ≡ f'.row
    pub in_scope_lem : scope_of out at ≡ f'.row
    pub near : behind_next out at ≡ behind_next out row'

  -- it has gone through rows, and is in that scope again, before `row'`
  pub record Gone (f' : Floor) (row n at : ℕ) (ms : List MovedNumber) (ns : List NoItem) (row' : ℕ) : Type 0 where
    pub to : ℕ
    pub span : Span form out row n at ms ns to
    pub in_scope_lem : scope_of out to ≡ f'.row
    pub near : behind_next out to ≡ behind_next out row'

  head_flat : (h : Head) → All Flat (head_rows h)
  unfolding head_rows
  head_flat h = (field_quiet h.code h.builtin h.z).flat & all_append _ _ (all_map _ (λ r q. q.flat) (decls_quiet h.decls)) (all_append _ _ (operands_flat h.operands) (all_map _ (λ r q. q.flat) (export_quiet h.export)))

  -- the scope of what stands behind even rows
  scope_on : (row' base : ℕ) (rs : List Row) → Even rs → At out row' rs → scope_of out row' ≡ base → scope_of out (row' + length rs) ≡ base
  unfolding scope_of
  scope_on row' base rs e a s = ap (λ (r : ℕ). scope_above out r 0) (sym (behind_length row' rs)) ∙ (up_even out e row' 0 a ∙ s)

  -- ---- no fields

  none_left : {f f' : Floor} {n row row' at : ℕ} → Here f f' n row row' at end end → Gone f' row 0 at [] [] (row' + 0)
  none_left {row = row} {row' = row'} {at = at} H = record { to = at; span = no_rows_lem form out row at; in_scope_lem = H.in_scope_lem; near = H.near ∙ ap (behind_next out) (omega arith) }

  -- ---- an inserted field

  module _ {f f' : Floor} {n row row' at : ℕ} {fs gs : Fields} (h : Head) (new : is_inserted h ≡ true) (H : Here f f' n row row' at fs (plain h ▸ gs)) where
    past_inserted : Here f f' n row (row' + length (head_rows h)) at fs gs
    unfolding flatten head_of
    past_inserted =
        let own = at_left out row' (head_rows h) (fields_rows gs) H.stand' in
        let rest = subst (λ (r : ℕ). At out r (fields_rows gs)) (behind_length row' (head_rows h)) (at_right out row' (head_rows h) (fields_rows gs) H.stand') in
        let size = length-append (head_rows h) (fields_rows gs) in
        let fits = H.fits in
        record {
          was = H.was;
          now = rest_inserted new H.now;
          ways = H.ways;
          stand = H.stand;
          stand' = rest;
          fits = omega (arith, size, fits);
          scope' = scope_on row' f'.row (head_rows h) (head_even h) own H.scope';
          in_scope_lem = H.in_scope_lem;
          near = H.near ∙ next_behind out row' (head_rows h) (head_flat h) own (omega (arith, size, fits));
        }

    inserted_goes : {m : ℕ} {ms : List MovedNumber} {ns : List NoItem} → Gone f' row m at ms ns (row' + length (head_rows h) + length (fields_rows gs)) → Gone f' row m at ms ns (row' + length (head_rows h ++ fields_rows gs))
    inserted_goes G =
        let size = length-append (head_rows h) (fields_rows gs) in
        record { to = G.to; span = G.span; in_scope_lem = G.in_scope_lem; near = G.near ∙ ap (behind_next out) (omega (arith, size)) }

  -- ---- an original field

  module _ {f f' : Floor} {n row row' at : ℕ} {i j : Item} {fs gs : Fields} (old : is_inserted (head_of i) ≡ false) (old' : is_inserted (head_of j) ≡ false) (H : Here f f' n row row' at (i ▸ fs) (j ▸ gs)) where
    abbrev x : Placed
    x = record { row = row; item = i }

    own : At form row (item_rows i)
    unfolding flatten
    own = at_left form row (item_rows i) (fields_rows fs) H.stand

    own' : At out row' (item_rows j)
    unfolding flatten
    own' = at_left out row' (item_rows j) (fields_rows gs) H.stand'

    own_fits : row' + length (item_rows j) + length (fields_rows gs) < rows_in out
    unfolding flatten
    own_fits = let size = length-append (item_rows j) (fields_rows gs) in let fits = H.fits in omega (arith, size, fits)

    -- its own rows
    own_span : At form row (head_rows (head_of i))
        → Span form out row (length (head_rows (head_of i))) at (moving (places_at f.level.way n 0 (head_of i).operands)) (missing (places_at f.level.way n 0 (head_of i).operands)) at
    own_span a =
        head_span f.level.way n at (f' ∷ H.now.own.0) (ap (floors_at after) (sym H.ways) ∙ H.now.own.1) H.in_scope_lem x (place_field H.was x (first_is row i fs old)) a

    -- behind it
    past_original : (to : ℕ) → scope_of out to ≡ f'.row → behind_next out to ≡ behind_next out (row' + length (item_rows j)) → Here f f' (suc n) (row + length (item_rows i)) (row' + length (item_rows j)) to fs gs
    unfolding flatten
    past_original to in_scope_lem near =
        record {
          was = rest_original old H.was;
          now = rest_original old' H.now;
          ways = H.ways;
          stand = subst (λ (r : ℕ). At form r (fields_rows fs)) (behind_length row (item_rows i)) (at_right form row (item_rows i) (fields_rows fs) H.stand);
          stand' = subst (λ (r : ℕ). At out r (fields_rows gs)) (behind_length row' (item_rows j)) (at_right out row' (item_rows j) (fields_rows gs) H.stand');
          fits = own_fits;
          scope' = scope_on row' f'.row (item_rows j) (item_even j) own' H.scope';
          in_scope_lem = in_scope_lem;
          near = near;
        }

    abbrev ItemGone : Type 0
    ItemGone =
        Gone f' row (length (item_rows i)) at (moving (places_at f.level.way n 0 (head_of i).operands ++ places_inside (f.level.way ++ (n ∷ [])) i))
        (missing (places_at f.level.way n 0 (head_of i).operands ++ places_inside (f.level.way ++ (n ∷ [])) i)) (row' + length (item_rows j))

    -- it and those behind it
    original_goes : (G : ItemGone)
        → Gone f' (row + length (item_rows i)) (length (fields_rows fs)) G.to (moving (places_in f.level.way (suc n) fs)) (missing (places_in f.level.way (suc n) fs)) (row' + length (item_rows j) + length (fields_rows gs))
        → Gone f' row (length (item_rows i ++ fields_rows fs)) at (moving (places_in f.level.way n (i ▸ fs))) (missing (places_in f.level.way n (i ▸ fs))) (row' + length (item_rows j ++ fields_rows gs))
    unfolding places_in when◌then◌else◌
    original_goes G Q =
        let here = places_at f.level.way n 0 (head_of i).operands in
        let inside = places_inside (f.level.way ++ (n ∷ [])) i in
        let rest = places_in f.level.way (suc n) fs in
        let size = length-append (item_rows i) (fields_rows fs) in
        let size' = length-append (item_rows j) (fields_rows gs) in
        let all = append_assoc here inside rest in
        record {
          to = Q.to;
          span = rw old (span_is (span_append form out row (length (item_rows i)) (length (fields_rows fs)) at G.to Q.to _ _ _ _ G.span Q.span) (sym size)
              (sym (collect_append (moved_at before after) (here ++ inside) rest) ∙ ap moving all) (sym (collect_append (apart_at before) (here ++ inside) rest) ∙ ap missing all));
          in_scope_lem = Q.in_scope_lem;
          near = Q.near ∙ ap (behind_next out) (omega (arith, size'));
        }

  -- a field that holds no scope
  plain_goes : {f f' : Floor} {n row row' at : ℕ} {h k : Head} {fs gs : Fields} (old : is_inserted (head_of (plain h)) ≡ false) (old' : is_inserted (head_of (plain k)) ≡ false) (H : Here f f' n row row' at (plain h ▸ fs) (plain k ▸ gs)) → ItemGone old old' H
  unfolding flatten head_of places_in
  plain_goes {f} {f'} {n} {row} {row'} {at} {h} {k} {fs} {gs} old old' H =
      let fits = own_fits old old' H in
      let here = places_at f.level.way n 0 h.operands in
      record {
        to = at;
        span = span_is (own_span old old' H (own old old' H)) refl (ap moving (sym (append-nil here))) (ap missing (sym (append-nil here)));
        in_scope_lem = H.in_scope_lem;
        near = H.near ∙ next_behind out row' (head_rows k) (head_flat k) (own' old old' H) (omega (arith, fits));
      }

  -- a field that holds one
  module _ {f f' : Floor} {n row row' at : ℕ} {h k : Head} {kind name kind' name' : ℕ} {fs₁ gs₁ fs gs : Fields} (old : is_inserted (head_of (holds h (scope kind name fs₁))) ≡ false) (old' : is_inserted (head_of (holds k (scope kind' name' gs₁))) ≡ false)
      (H : Here f f' n row row' at (holds h (scope kind name fs₁) ▸ fs) (holds k (scope kind' name' gs₁) ▸ gs)) where
    abbrev rows_in_lem : List Row
    rows_in_lem = fields_rows fs₁ ++ (Close ∷ [])

    abbrev rows_in' : List Row
    rows_in' = fields_rows gs₁ ++ (Close ∷ [])

    own_all : At form row (head_rows h ++ (Open kind name ∷ rows_in_lem))
    unfolding flatten
    own_all = own old old' H

    own_all' : At out row' (head_rows k ++ (Open kind' name' ∷ rows_in'))
    unfolding flatten
    own_all' = own' old old' H

    fits_all : row' + length (head_rows k ++ (Open kind' name' ∷ rows_in')) < rows_in out
    unfolding flatten
    fits_all = let f = own_fits old old' H in omega (arith, f)

    abbrev first : ℕ
    first = row + length (head_rows h)

    abbrev first' : ℕ
    first' = row' + length (head_rows k)

    opened : At form first (Open kind name ∷ rows_in_lem)
    opened = subst (λ (r : ℕ). At form r (Open kind name ∷ rows_in_lem)) (behind_length row (head_rows h)) (at_right form row (head_rows h) (Open kind name ∷ rows_in_lem) own_all)

    opened' : At out first' (Open kind' name' ∷ rows_in')
    opened' = subst (λ (r : ℕ). At out r (Open kind' name' ∷ rows_in')) (behind_length row' (head_rows k)) (at_right out row' (head_rows k) (Open kind' name' ∷ rows_in') own_all')

    sizes : length (head_rows k ++ (Open kind' name' ∷ rows_in')) ≡ length (head_rows k) + (length (fields_rows gs₁) + 2)
    sizes = let a = length-append (head_rows k) (Open kind' name' ∷ rows_in') in let b = length-append (fields_rows gs₁) (Close ∷ []) in omega (arith, a, b)

    -- the output's row goes behind the OPEN
    into : behind_next out at ≡ first' + 1
    unfolding encode
    into =
        let head = at_left out row' (head_rows k) (Open kind' name' ∷ rows_in') own_all' in
        H.near ∙ (next_behind out row' (head_rows k) (head_flat k) head (omega (arith, sizes, fits_all)) ∙ next_is out first' (Open kind' name') opened'.0 refl (omega (arith, sizes, fits_all)))

    scope_in : scope_of out (first' + 1) ≡ first' + 1
    unfolding scope_of encode
    scope_in = up_open out first' (ap code_part opened'.0)

    abbrev inner : Floor
    inner = floor (level (f.level.way ++ (n ∷ [])) fs₁) (PlaceRows.inside_of (record { row = row; item = holds h (scope kind name fs₁) }))

    abbrev inner' : Floor
    inner' = floor (level (f'.level.way ++ (n ∷ [])) gs₁) (PlaceRows.inside_of (record { row = row'; item = holds k (scope kind' name' gs₁) }))

    inside : inner.row ≡ first + 1
    unfolding PlaceRows.inside_of head_of
    inside = omega arith

    inside' : inner'.row ≡ first' + 1
    unfolding PlaceRows.inside_of head_of
    inside' = omega arith

    -- inside it
    goes_in : Here inner inner' 0 inner.row inner'.row (behind_next out at) fs₁ gs₁
    unfolding Readings.held
    goes_in =
        record {
          was = held_rest fs₁ old refl H.was;
          now = held_rest gs₁ old' refl H.now;
          ways = ap (λ (w : List ℕ). w ++ (n ∷ [])) H.ways;
          stand = subst (λ (r : ℕ). At form r (fields_rows fs₁)) (sym inside) (at_left form (first + 1) (fields_rows fs₁) (Close ∷ []) opened.1);
          stand' = subst (λ (r : ℕ). At out r (fields_rows gs₁)) (sym inside') (at_left out (first' + 1) (fields_rows gs₁) (Close ∷ []) opened'.1);
          fits = omega (arith, inside', sizes, fits_all);
          scope' = ap (scope_of out) inside' ∙ (scope_in ∙ sym inside');
          in_scope_lem = ap (scope_of out) into ∙ (scope_in ∙ sym inside');
          near = ap (behind_next out) (into ∙ sym inside');
        }

    -- and out again
    hold_goes : Gone inner' inner.row (length (fields_rows fs₁)) (behind_next out at) (moving (places_in (f.level.way ++ (n ∷ [])) 0 fs₁)) (missing (places_in (f.level.way ++ (n ∷ [])) 0 fs₁)) (inner'.row + length (fields_rows gs₁))
        → ItemGone old old' H
    unfolding places_in flatten head_of encode
    hold_goes G =
        let here = places_at f.level.way n 0 h.operands in
        let within = places_in (f.level.way ++ (n ∷ [])) 0 fs₁ in
        let m = length (fields_rows fs₁) in
        let last = behind_length (first + 1) (fields_rows fs₁) in
        let last' = behind_length (first' + 1) (fields_rows gs₁) in
        let closes = (at_right form (first + 1) (fields_rows fs₁) (Close ∷ []) opened.1).0 in
        let closes' = (at_right out (first' + 1) (fields_rows gs₁) (Close ∷ []) opened'.1).0 in
        let a = length-append (head_rows h) (Open kind name ∷ rows_in_lem) in
        let b = length-append (fields_rows fs₁) (Close ∷ []) in
        let shut : Is out (inner'.row + length (fields_rows gs₁)) Close = subst (λ (r : ℕ). Is out r Close) (omega (arith, last', inside')) closes' in
        let behind-it : behind_next out G.to ≡ row' + length (head_rows k ++ (Open kind' name' ∷ rows_in')) =
        G.near ∙ (next_is out (inner'.row + length (fields_rows gs₁)) Close shut refl (omega (arith, inside', sizes, fits_all)) ∙ omega (arith, inside', sizes)) in
        let head = own_span old old' H (at_left form row (head_rows h) (Open kind name ∷ rows_in_lem) own_all) in
        let open_row = bound_row form out first at (Open kind name) opened.0 (record { not_ref = refl; not_outer = refl }) refl in
        let fields = subst (λ (r : ℕ). Span form out r m (behind_next out at) (moving within) (missing within) G.to) inside G.span in
        let close_row = bound_row form out (first + 1 + m) G.to Close (subst (λ (r : ℕ). Is form r Close) last closes) (record { not_ref = refl; not_outer = refl }) refl in
        let whole = span_append form out row (length (head_rows h)) (1 + (m + 1)) at at _ _ _ _ _ head
        (span_append form out first 1 (m + 1) at _ _ _ _ _ _ open_row (span_append form out (first + 1) m 1 _ _ _ _ _ _ _ fields close_row)) in
        record {
          to = behind_next out G.to;
          span = span_is whole (omega (arith, a, b)) (ap (λ (l : List MovedNumber). moving here ++ l) (append-nil (moving within)) ∙ sym (collect_append (moved_at before after) here within))
              (ap (λ (l : List NoItem). missing here ++ l) (append-nil (missing within)) ∙ sym (collect_append (apart_at before) here within));
          in_scope_lem = ap (scope_of out) behind-it ∙ scope_on row' f'.row (head_rows k ++ (Open kind' name' ∷ rows_in')) (item_even (holds k (scope kind' name' gs₁))) own_all' H.scope';
          near = ap (behind_next out) behind-it;
        }

  -- ---- the whole walk

  mutual
    unfolding flatten places_in collect

    pub fields_go : {fs gs : Fields} → PairedFields fs gs → (f f' : Floor) (n row row' at : ℕ) → Here f f' n row row' at fs gs
        → Gone f' row (length (fields_rows fs)) at (moving (places_in f.level.way n fs)) (missing (places_in f.level.way n fs)) (row' + length (fields_rows gs))
    fields_go ends f f' n row row' at H = none_left H
    fields_go (comes {h = h} new P) f f' n row row' at H = inserted_goes h new H (fields_go P f f' n row (row' + length (head_rows h)) at (past_inserted h new H))
    fields_go (stays {i = i} {j = j} old old' I P) f f' n row row' at H =
        let G = items_go I f f' n row row' at old old' H in
        original_goes old old' H G (fields_go P f f' (suc n) (row + length (item_rows i)) (row' + length (item_rows j)) G.to (past_original old old' H G.to G.in_scope_lem G.near))

    items_go : {i j : Item} → PairedItems i j → {fs gs : Fields} (f f' : Floor) (n row row' at : ℕ) (old : is_inserted (head_of i) ≡ false) (old' : is_inserted (head_of j) ≡ false) (H : Here f f' n row row' at (i ▸ fs) (j ▸ gs)) → ItemGone old old' H
    items_go plains f f' n row row' at old old' H = plain_goes old old' H
    items_go (hold P) f f' n row row' at old old' H = hold_goes old old' H (fields_go P (inner old old' H) (inner' old old' H) 0 _ _ _ (goes_in old old' H))
