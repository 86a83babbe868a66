-- The conditions on the bytes of an input that is accepted and of a claim that is read: each is tried by the code as the rules say.
use Rattle.std.specs.Prelude.{◌≡◌, refl, Bool, true, false, ℕ, zero, suc, ◌+◌, ◌*◌, ◌<◌, ◌≤◌, length, drop}
use Rattle.std.proofs.Common.{sym, ap, ◌∙◌, arith}
use Rattle.std.proofs.Math.Option.{Option, none, some}
use mathlib.Core.List.{List, [], ◌∷◌}
use Rattle.std.proofs.Math.ListN.{get_elem?}
use Rattle.rules.specs.Versions.{Setting, as_claimed}
use Rattle.rules.specs.Tree.{Scope, flatten, form}
use Rattle.rules.specs.Good.{height}
use Rattle.rules.specs.Reader.{read}
use Rattle.rules.specs.Rules.{ok, resolve}
use Rattle.rules.specs.Answer.{accepted, row_count, rows_in}
use Rattle.rules.specs.Laws.RowLaws.{Bytes, bytes_drop}
use Rattle.rules.specs.Laws.Results.{no_option}
use Rattle.rules.proofs.Laws.InputLaws.{Usual}
use Rattle.rules.proofs.Laws.Output.Well.{well}
use Rattle.rules.proofs.Laws.Output.Numbers.{numbers}
use Rattle.rules.proofs.Laws.Output.Kept.{kept}
use Rattle.rules.specs.Laws.Meaning.Names.{LowScope, low_scope}
use Rattle.rules.proofs.Laws.Meaning.ReadNames.{read_low}
use Rattle.read_form.specs.ReadForm.{read_form}
use Rattle.read_form.proofs.Laws.ReadFormLaws.{ReadAs, read_exactly, read_read}
use Rattle.checking.specs.Check.{Claimed, scope_claimed, condition2, condition3, condition4}
use Rattle.checking.proofs.Laws.SameFields.{SameFields, same_fields, numbered_scope_bare, scope_length}
use Rattle.checking.proofs.Laws.AddedFields.{AddedScope, scope_added_lem}
use Rattle.checking.proofs.Laws.RowsNamed.{row_2, row_3, row_4, RowIs}
use Rattle.claim_rows.specs.Left.{rows_at}
use Rattle.claim_rows.specs.Same.{differs_t}
use Rattle.claim_aliases.specs.Aliases.{try_aliases_t}
use Rattle.claim_numbers.specs.Enter.{entries_t}
use Rattle.claim_operands.specs.Operands.{try_operands_t}
use Rattle.claim_laws.specs.RowParts.{all_parts}
use Rattle.claim_laws.specs.SameRows.{tried, same_rows}
use Rattle.claim_laws.specs.NewNames.{answer_in, new_names}
use Rattle.claim_laws.specs.Slots.{scope_slots, entered_slots}
use Rattle.claim_laws.specs.Few.{few_slots}
use Rattle.claim_laws.specs.Operands.{right_operands}
use Rattle.claim_laws.specs.OnBytes.{rows_few, rows_stand, rows_are, narrow_rows}

get_below : {A : Type 0} (xs : List A) (k : ℕ) (x : A) → get_elem? xs k ≡ some x → k < length xs
get_below [] k x e = no_option x e
get_below (y ∷ xs) zero x e = omega arith
get_below (y ∷ xs) (suc k) x e = let l = get_below xs k x e in omega arith

row_below : (P : Claimed → Type 0) (c : Scope) (r : ℕ) → RowIs P c r → r < length (flatten c)
row_below P c r R = let l = get_below (scope_claimed c) r R.0 R.1 in let e = scope_length c in omega arith

module _ (v : Setting) (u : Usual v) (shallow : v.version.scopes ≤ 64) (few : v.version.rows ≤ 16383) (input claim : List ℕ) (bytes : Bytes input) (s c : Scope) (r : Scope × ℕ)
    (reads : read_form v input ≡ accepted s) (resolves : resolve v.rules s ≡ ok r) (claims : read_form (as_claimed v) claim ≡ accepted c) where
  abbrev input_body : List ℕ
  input_body = drop v.version.header input

  abbrev claim_body : List ℕ
  claim_body = drop v.version.header claim

  abbrev room : ℕ
  room = 2 * v.version.rows

  input_is : ReadAs v input s
  input_is = (read_exactly v input s).0 reads

  claim_is : ReadAs (as_claimed v) claim c
  claim_is = (read_exactly (as_claimed v) claim c).0 claims

  claim_rows : rows_at claim_body 0 ≡ all_parts (flatten c)
  claim_rows = rows_are (as_claimed v) claim c claims

  input_rows : rows_at input_body 0 ≡ all_parts (flatten s)
  input_rows = rows_are v input s reads

  claim_few : length (flatten c) ≤ 4 * v.version.rows
  claim_few = rows_few (as_claimed v) claim c claims

  claim_low : height c ≤ 64
  claim_low = let h = claim_is.low in omega arith

  low : LowScope s
  low = read_low v.rules v.version.scopes v.version.names (row_count v.version input) input_body s u.low (read_read v input s reads)

  pub second_is : differs_t 0 0 (rows_at claim_body 0) (rows_at input_body 0) ≡ tried (condition2 s c)
  second_is = rw (claim_rows, input_rows) (same_rows s c)

  pub second_row : (row : ℕ) → condition2 s c ≡ some row → row < 4294967296
  second_row row e = let l = row_2 s c row e in let h = claim_few in omega arith

  pub third_is : answer_in (try_aliases_t room 0 false [] [] (rows_at claim_body 0)) ≡ tried (condition3 c)
  third_is = let h = claim_few in rw claim_rows (new_names v.rules room c claim_is.is_form.good (omega arith) (omega arith) claim_low)

  pub third_row : (row : ℕ) → condition3 c ≡ some row → row < 4294967296
  third_row row e = let l = row_below _ c row (row_3 c row e) in let h = claim_few in omega arith

  module _ (passes2 : condition2 s c ≡ none) (passes3 : condition3 c ≡ none) where
    beside : SameFields v.rules s c
    unfolding resolve
    beside =
        let W = well v.rules u.heap [] s r input_is.is_form.good resolves in
        same_fields v.rules s r.0 c (W.kind ∙ input_is.is_form.component) W.good (numbered_scope_bare r.0 (numbers v.rules [] s r input_is.is_form.good resolves))
        (kept v.rules [] s r (low_scope s low) resolves).same claim_is.is_form.component claim_is.is_form.good passes2

    added : AddedScope c
    unfolding condition3
    added = scope_added_lem v.rules 0 c claim_is.is_form.good passes3

    slots_are : entries_t room 0 false [] [] [] (rows_at claim_body 0) ≡ scope_slots 0 c
    slots_are =
        rw claim_rows
        (entered_slots v.rules room c claim_is.is_form.good added claim_low (few_slots v.rules v.version.rows c s claim_is.is_form.good added beside.same claim_few (rows_few v input s reads)))

    pub fourth_is : (used : ℕ) → try_operands_t (entries_t room 0 false [] [] [] (rows_at claim_body 0)) claim_body used 0 false [] (rows_at claim_body 0) (rows_at input_body 0) ≡ tried (condition4 s c)
    fourth_is used =
        let h = claim_few in
        rw (slots_are, claim_rows, input_rows)
        (right_operands v.rules claim_body used s c claim_is.is_form.good added beside.bare beside.same low (narrow_rows input_body s (bytes_drop v.version.header input bytes) (rows_stand v input s reads)) (rows_stand (as_claimed v) claim c claims) (omega arith) claim_low)

    pub fourth_row : (row : ℕ) → condition4 s c ≡ some row → row < 4294967296
    fourth_row row e = let l = row_below _ c row (row_4 s c row beside.bare beside.same e) in let h = claim_few in omega arith
