-- The walk over a whole form: it writes the rows that the rules make of the form, or it refuses with the same number and place.
use Rattle.std.specs.Prelude.{◌≡◌, Bool, true, ℕ, suc, ◌+◌, ◌*◌, ◌/◌, ◌≤◌, ◌<◌, length, drop, Ok, Err}
use Rattle.std.proofs.Math.Path.{refl}
use Rattle.std.proofs.Common.{sym, ap, ◌∙◌, arith, add-zero, zero-add, length-append, length-drop, drop-drop}
use Rattle.std.proofs.Math.Option.{Option, none, some}
use mathlib.Core.List.{List, [], ◌∷◌, ◌++◌, append_assoc, append-nil}
use Rattle.kit.specs.Out.{◌&◌}
use Rattle.kit.proofs.Laws.{yes!, tests, sets_seam}
use Rattle.rules.specs.Versions.{RuleSet, top_name}
use Rattle.rules.specs.Rows.{Row, Raw, raw, bytes, raw_bytes, encode, encode_row}
use Rattle.rules.specs.Answer.{rows_bytes, rows_of}
use Rattle.rules.specs.Tree.{Scope, flatten}
use Rattle.rules.specs.Begins.{IsForm}
use Rattle.rules.specs.Good.{GoodScope, height}
use Rattle.rules.specs.Rules.{at_root, Result, refused, ok, resolve, Env, resolve_inside}
use Rattle.rules.specs.Laws.Results.{OkR}
use Rattle.rules.specs.Laws.RowLaws.{Bytes}
use Rattle.rules.proofs.Laws.Read.ReadRight.{reads_form}
use Rattle.rules.specs.Laws.Meaning.Names.{LowScope, DeclScope, low_scope}
use Rattle.rules.proofs.Laws.Meaning.ReadNames.{read_low}
use Rattle.rules.proofs.Laws.Output.FourTimes.{four_times}
use Rattle.rows.specs.RowAt.{taken}
use Rattle.put.specs.Put.{row_bytes, bytes_of, put_row}
use Rattle.refusal.specs.declared.Refusal.{Refusal as Said}
use Rattle.refusal.specs.declared.Told.{Told}
use Rattle.names.specs.Table.{Slot}
use Rattle.names.specs.Stands.{Envs, Below}
use Rattle.write.specs.declared.alias.WriteState.{WriteState}
use Rattle.write.specs.WriteState.{put_then}
use Rattle.walk.specs.Scopes.{Wrote₃, scope_walk_t, start_in}
use Rattle.agree.specs.Refusals.Carried.{said_of, told_of}
use Rattle.agree.specs.Tables.Sizes.{Sizes, Fits, Sized}
use Rattle.agree.specs.Rows.At.{At, put_all}
use Rattle.agree.specs.Rows.AtLaws.{at_fits, at_form}
use Rattle.form.specs.Ends.{EndsIn}
use Rattle.agree.specs.StepC.WriteAgrees.{row_taken}
use Rattle.agree.specs.Refusals.Answers.{Says, says_also}
use Rattle.agree.specs.Tables.Earlier.{Earlier}
use Rattle.agree.specs.Walk.WalkStates.{Ready, Gone}
use Rattle.agree.specs.Walk.WalkAgrees.{scope_goes}

-- ---- rows written where there is room

row_size : (row : Row) → length (encode_row row) ≡ 16
unfolding encode_row
row_size row = go (encode row)
  where
    go : (r : Raw) → length (raw_bytes r) ≡ 16
    go (raw code b e x y z) = unfold raw_bytes bytes in refl

one_more_lem : (pre old : List ℕ) (row : Row) (to : ℕ) → length pre ≡ 16 * to → 16 ≤ length old → put_row (pre ++ old) to (taken (some row)) ≡ (to + 1 & (pre ++ encode_row row) ++ drop 16 old)
unfolding put_row row_bytes bytes_of
one_more_lem pre old row to e h =
    let n = length-append pre old in
    let r = row_size row in
    sym (yes! _ (omega tests) (sym (rw (row_taken row) (ap (λ (l : List ℕ). to + 1 & l) (sets_seam pre old (encode_row row) (16 * to) e (omega arith) ∙ rw r)))))

-- the rows, and then what was there
pub all_written_lem : (pre old : List ℕ) (rs : List Row) (to : ℕ) → length pre ≡ 16 * to → 16 * length rs ≤ length old → put_all (pre ++ old) to rs ≡ (to + length rs & (pre ++ rows_bytes rs) ++ drop (16 * length rs) old)
unfolding put_all rows_bytes put_then
all_written_lem pre old [] to e h = simp (add-zero, append-nil)
all_written_lem pre old (r ∷ rs) to e h =
    let x : to + 1 + length rs ≡ to + suc (length rs) = omega arith in
    let z : 16 + 16 * length rs ≡ 16 * suc (length rs) = omega arith in
    let m = length-append pre (encode_row r) in
    let d = row_size r in
    let c = length-drop 16 old in
    rw (one_more_lem pre old r to e (omega arith))
    (all_written_lem (pre ++ encode_row r) (drop 16 old) rs (to + 1) (omega arith) (omega arith) ∙ rw (append_assoc pre (encode_row r) (rows_bytes rs), drop-drop, x, z))

-- ---- the walk over a form

-- these rows are written from the output's begin, and what stood behind them stays
pub record Written (out : List ℕ) (rows : List Row) (w : Wrote₃) : Type 0 where
  pub state : WriteState
  pub entered : List Slot
  pub names : List Slot
  pub after : List ℕ
  pub is : w ≡ (Ok state & entered & names & after)
  pub count : state.to ≡ length rows
  pub holds : after ≡ rows_bytes rows ++ drop (16 * length rows) out

-- the refusal with which a walk ended, if it did
unfoldable pub refusal_of : Wrote₃ → Option (Said × Told)
refusal_of (Ok s & tables) = none
refusal_of (Err why & tables) = some (why.refusal, why.told)

-- and the rules' refusal
unfoldable pub refused_by : {A : Type 0} → Result A → Option (Said × Told)
refused_by (refused why z) = some (said_of why z, told_of why)
refused_by (ok a) = none

-- the tables have these sizes, the scopes around stand in them, and there is room for the form
abbrev pub Begun : (sizes : Sizes) (entered names : List Slot) (scopes : List (List ℕ)) (used depth : ℕ) (early : Bool) (around : List Env) → Scope → Type 0
Begun sizes entered names scopes used depth early around t = Ready sizes entered names scopes (start_in used depth early) around (height t) (length (flatten t)) 0

module _ (rules : RuleSet) (heap : rules.heap < 13) (sizes : Sizes) (rows ends : List ℕ) (t : Scope) (short : Fits sizes rows) (at : At rows 0 (flatten t)) (noted : EndsIn t ends 0) (good : GoodScope rules t) (low : DeclScope t) (low_names : rules.early ≡ true → LowScope t) where
  -- THE WALK in lent tables, of a form inside given scopes, which stand in the tables, whatever room the output has
  pub inside_goes : (around : List Env) (allowed used depth : ℕ) (entered names : List Slot) (scopes : List (List ℕ)) (out : List ℕ) → height t ≤ allowed → Begun sizes entered names scopes used depth rules.early around t
      → Says (resolve_inside rules around t) (λ r w. Gone sizes (start_in used depth rules.early) names out (length (flatten t)) r.1 (flatten r.0) w) (scope_walk_t rows ends allowed entered names scopes out (start_in used depth rules.early))
  inside_goes around allowed used depth entered names scopes out shallow ready =
      says_also (resolve_inside rules around t) _ _ _ (scope_goes rules heap sizes rows ends short t allowed 0 (at_root rules around) entered names scopes out (start_in used depth rules.early) refl refl refl shallow at noted good low low_names ready) (λ r G. rw zero-add at G.0)

  module _ (around : List Env) (allowed used depth : ℕ) (entered names : List Slot) (scopes : List (List ℕ)) (shallow : height t ≤ allowed) (ready : Begun sizes entered names scopes used depth rules.early around t) where
    fits_four : (out : List ℕ) (r : Result (Scope × ℕ)) (w : Wrote₃) → 64 * length (flatten t) ≤ length out → OkR (λ x. length (flatten x.0) ≤ 4 * length (flatten t)) r
        → Says r (λ x w. Gone sizes (start_in used depth rules.early) names out (length (flatten t)) x.1 (flatten x.0) w) w → Says r (λ x w. Written out (flatten x.0) w) w
    fits_four out (refused n z) w room four G = G
    fits_four out (ok x) w room four G =
        let e : (G.state.to & G.after) ≡ (0 + length (flatten x.0) & rows_bytes (flatten x.0) ++ drop (16 * length (flatten x.0)) out) = G.wrote ∙ all_written_lem [] out (flatten x.0) 0 refl (omega arith) in
        let n : G.state.to ≡ 0 + length (flatten x.0) = cc in
        record { state = G.state; entered = G.entered'; names = G.names'; after = G.after; is = G.is; count = omega arith; holds = cc }

    -- with four times the room of the form
    pub inside_agrees : (out : List ℕ) → 64 * length (flatten t) ≤ length out → Says (resolve_inside rules around t) (λ r w. Written out (flatten r.0) w) (scope_walk_t rows ends allowed entered names scopes out (start_in used depth rules.early))
    inside_agrees out room = fits_four out (resolve_inside rules around t) _ room (four_times rules around t) (inside_goes around allowed used depth entered names scopes out shallow ready)

    said : (r : Result (Scope × ℕ)) (out : List ℕ) (w : Wrote₃) → Says r (λ x w. Gone sizes (start_in used depth rules.early) names out (length (flatten t)) x.1 (flatten x.0) w) w → refusal_of w ≡ refused_by r
    unfolding refusal_of refused_by
    said (refused n z) out w (tables, e) = rw e
    said (ok x) out w G = rw G.is

    -- whether the steps refuse, and with what, does not hang on the room: a caller who wants no more lends an output of no bytes
    pub inside_refusal : (out : List ℕ) → refusal_of (scope_walk_t rows ends allowed entered names scopes out (start_in used depth rules.early)) ≡ refused_by (resolve_inside rules around t)
    inside_refusal out = said (resolve_inside rules around t) out _ (inside_goes around allowed used depth entered names scopes out shallow ready)

-- ---- a form by itself, in tables of these sizes, whatever stands in them

module _ (sizes : Sizes) (rows ends : List ℕ) (t : Scope) (short : Fits sizes rows) (room : length rows / 16 ≤ sizes.names) (shallow : height t ≤ sizes.scopes) (entered names : List Slot) (scopes : List (List ℕ)) (sized : Sized sizes entered names scopes) where
  -- no scope is around it
  pub begun_alone : (early : Bool) → At rows 0 (flatten t) → Begun sizes entered names scopes 0 0 early [] t
  unfolding Envs Below Earlier
  begun_alone early at =
      let fits = at_fits rows 0 (flatten t) (omega arith) at in
      record { room = sized.room; size = sized.size; depths = sized.depths; envs = tt; below = tt; deep = omega arith; slots = omega arith; numbers = omega arith; fresh = refl; earlier = λ t. tt }

  module _ (rules : RuleSet) (heap : rules.heap < 13) (all : Bytes rows) (f : IsForm rules (rows_of top_name (length rows / 16) rows) t) (noted : EndsIn t ends 0) where
    stands : At rows 0 (flatten t) × (length rows / 16 ≡ length (flatten t))
    stands = at_form top_name rows all (omega arith) (flatten t) (sym f.of_tree)

    low : LowScope t
    low = read_low rules sizes.scopes top_name (length rows / 16) rows t (omega arith) (reads_form rules sizes.scopes (rows_of top_name (length rows / 16) rows) t f shallow)

    -- THE WALK over the bytes of a form: with four times the room, the code writes what the rules make of the form, or refuses with the same number and place
    pub root_agrees : (out : List ℕ) → 64 * (length rows / 16) ≤ length out → Says (resolve rules t) (λ r w. Written out (flatten r.0) w) (scope_walk_t rows ends sizes.scopes entered names scopes out (start_in 0 0 rules.early))
    unfolding resolve
    root_agrees out four =
        let count = stands.1 in
        inside_agrees rules heap sizes rows ends t short stands.0 noted f.good (low_scope t low) (λ e. low) [] sizes.scopes 0 0 entered names scopes shallow (begun_alone rules.early stands.0) out (omega arith)

    -- and whatever room there is, it refuses as the rules do
    pub root_refusal : (out : List ℕ) → refusal_of (scope_walk_t rows ends sizes.scopes entered names scopes out (start_in 0 0 rules.early)) ≡ refused_by (resolve rules t)
    unfolding resolve
    root_refusal out = inside_refusal rules heap sizes rows ends t short stands.0 noted f.good (low_scope t low) (λ e. low) [] sizes.scopes 0 0 entered names scopes shallow (begun_alone rules.early stands.0) out
