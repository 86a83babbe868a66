-- The output buffer keeps its length: what is written lies within it.
use Rattle.std.specs.Prelude.{◌≡◌, Bool, ◌||◌, ◌⊎◌, ℕ, suc, ◌+◌, ◌*◌, ◌-◌, ◌≤◌, ◌<◌, eqb, ltb, drop, replicate}
use Rattle.std.proofs.Math.Path.{refl}
use Rattle.std.proofs.Common.{ap, sym, ◌∙◌, inl, arith, length-append, length-drop}
use Rattle.std.proofs.Math.Bool.{true, false, not}
use Rattle.std.proofs.Math.Option.{Option, none, some}
use Rattle.std.proofs.Math.Logic.{inr}
use mathlib.Core.List.{List, [], ◌∷◌, ◌++◌}
use Rattle.std.proofs.Math.Dec.{leb}
use Rattle.std.proofs.Math.ListN.{length}
use Rattle.std.proofs.lemmas.List.{length-replicate}
use Rattle.rules.specs.Tools.{when◌then◌else◌, between}
use Rattle.rules.specs.Versions.{Setting}
use Rattle.rules.specs.Rows.{Row, Raw, raw, raw_bytes, bytes, encode, encode_row}
use Rattle.rules.specs.Tree.{Scope, flatten, RowsRead, bad, deep, form}
use Rattle.rules.specs.Reader.{read}
use Rattle.rules.specs.Rules.{Result, ok, Env, resolve_inside}
use Rattle.rules.specs.Answer
use Rattle.rules.specs.Answer.{AnswerOf, refused, accepted, map_answer, Answer, setting_of, scopes_left, form_in, after_reading, row_count, rows_in, rows_bytes, form_bytes, written, output_after, output_for, output_inside}
use Rattle.rules.specs.Laws.ToolLaws.{Ok, leb_lt}
use Rattle.rules.proofs.Laws.Output.OutBytes.{header_length}
use Rattle.rules.proofs.Laws.InputLaws.{Usual, AllUsual, setting_usual, four_out}

-- ---- how much is written

pub row_length : (r : Row) → length (encode_row r) ≡ 16
unfolding encode_row
row_length r = go (encode r)
  where
    go : (parts : Raw) → length (raw_bytes parts) ≡ 16
    go (raw code b e x y z) = unfold raw_bytes bytes in refl

pub rows_length : (rs : List Row) → length (rows_bytes rs) ≡ 16 * length rs
unfolding rows_bytes
rows_length [] = refl
rows_length (r ∷ rs) = omega (arith, length-append (encode_row r) (rows_bytes rs), row_length r, rows_length rs)

pub form_length : (v : Setting) (rs : List Row) → Usual v → length (form_bytes v rs) ≡ v.version.header + 16 * length rs
unfolding form_bytes
form_length v rs u = omega (arith, length-append (Answer.header_bytes v (length rs)) (rows_bytes rs), header_length v (length rs) [] u.header, rows_length rs)

written_length : (size : ℕ) (new old : List ℕ) → length new ≤ size → size ≤ length old → length (written size new old) ≡ length old
unfolding written
written_length size new old a b =
    omega (
      arith,
      length-append new (replicate (size - length new) 0 ++ drop size old),
      length-append (replicate {A = ℕ} (size - length new) 0) (drop size old),
      length-replicate {A = ℕ} (size - length new) 0,
      length-drop size old,
    )

-- ---- and that there is room

module _ (outside : List Env) (v : Setting) (input : List ℕ) (room : ℕ) (u : Usual v) where
  -- the form's part of the buffer
  size : ℕ
  size = v.version.header + 64 * row_count v.version input

  -- what is not refused with 1 to 5 has room, and is at most four times as long as the input
  abbrev Fits : AnswerOf Scope → Type 0
  Fits (refused n p c) = (n ≤ 5) ⊎ (size ≤ room)
  Fits (accepted t) = (size ≤ room) × (length (flatten t) ≤ 4 * row_count v.version input)

  form_fits : Fits (form_in outside v input room)
  unfolding form_in after_reading when◌then◌else◌ size
  form_fits = counted (not (between 1 v.version.rows (row_count v.version input)) || not (eqb (length input) (v.version.header + 16 * row_count v.version input)))
    where
      stepped : (t : Scope) → read v.rules (scopes_left v.version.scopes outside) (rows_in v input) ≡ form t → size ≤ room → (m : Result (Scope × ℕ)) → resolve_inside v.rules outside t ≡ m → Fits (Answer.resolved m)
      stepped t e l (Result.refused why p) q = unfold Answer.resolved in inr l
      stepped t e l (ok r) q = unfold Answer.resolved in (l, four_out outside v input t r u e q)

      read_then : (r : RowsRead) → read v.rules (scopes_left v.version.scopes outside) (rows_in v input) ≡ r → size ≤ room → Fits (after_reading outside v.rules r)
      read_then (bad p) e l = inl (omega arith)
      read_then (deep p) e l = inl (omega arith)
      read_then (form t) e l = stepped t e l (resolve_inside v.rules outside t) refl

      roomy : (b : Bool) → ltb room size ≡ b → Fits (when b then refused 3 0 [] else after_reading outside v.rules (read v.rules (scopes_left v.version.scopes outside) (rows_in v input)))
      roomy true e = inl (omega arith)
      roomy false e =
          let l : size < suc room = leb_lt (suc room) size e in
          read_then (read v.rules (scopes_left v.version.scopes outside) (rows_in v input)) refl (omega (arith, l))

      counted : (b : Bool)
          → Fits (when b then refused 2 0 [] else (when ltb room size then refused 3 0 [] else after_reading outside v.rules (read v.rules (scopes_left v.version.scopes outside) (rows_in v input))))
      counted true = inl (omega arith)
      counted false = roomy (ltb room size) refl

  after_length : (old : List ℕ) → length old ≡ room → (m : AnswerOf Scope) → Fits m → length (output_after v (map_answer flatten m) size old) ≡ length old
  unfolding output_after map_answer when◌then◌else◌
  after_length old e (refused n p c) f = go (leb n 5) refl f
    where
      go : (b : Bool) → leb n 5 ≡ b → (n ≤ 5) ⊎ (size ≤ room) → length (when b then old else written size [] old) ≡ length old
      go true q f = refl
      go false q (inl l) = let high : 5 < n = leb_lt n 5 q in absurd (omega (arith, high, l))
      go false q (inr l) = written_length size [] old (omega arith) (omega arith)
  after_length old e (accepted t) f =
      unfold size in written_length size (form_bytes v (flatten t)) old (omega (arith, form_length v (flatten t) u, f.1)) (omega (arith, f.0))

-- Whatever the input is, and whatever lies around it.
pub output_length : (outside : List Env) (settings : List Setting) → AllUsual settings → (input old : List ℕ) → length (output_inside outside settings input old) ≡ length old
unfolding output_inside output_for Answer.answer_in size
output_length outside settings l input old = go (setting_of settings input) (setting_usual settings input l)
  where
    go : (o : Option Setting) → Ok Usual o → length (output_for outside o input old) ≡ length old
    go none h = refl
    go (some v) h = after_length outside v input (length old) h old refl (form_in outside v input (length old)) (form_fits outside v input (length old) h)
