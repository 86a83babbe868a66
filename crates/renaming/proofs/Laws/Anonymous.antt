-- What `anonymous` accepts and writes is a renaming: the rules answer for it what they answer for the input, but for the names.
use Rattle.std.specs.Prelude.{◌≡◌, Bool, ◌&&◌, ◌||◌, not, List, [], ◌∷◌, ◌++◌, map, ℕ, suc, ◌+◌, ◌*◌, ◌≤◌, ◌<◌, eqb, leb, ltb, drop}
use Rattle.std.proofs.Math.Path.{refl, ap}
use Rattle.std.proofs.Common.{sym, ◌∙◌, subst, take_at}
use Rattle.std.proofs.Math.Bool.{true, false}
use Rattle.std.proofs.Math.Option.{Option, none, some}
use native.Mathlib.Omega.{arith}
use Rattle.std.proofs.Math.ListN.{length, take, length-append, length-drop}
use Rattle.std.proofs.Math.Seq.{length-take-le}
use Rattle.rules.specs.Tools.{when◌then◌else◌, between}
use Rattle.rules.specs.Versions.{Setting, top_name}
use Rattle.rules.specs.Rows.{Row}
use Rattle.rules.specs.Tree.{Scope, RowsRead, bad, deep, form}
use Rattle.rules.specs.Reader.{read}
use Rattle.rules.specs.Answer.{AnswerOf, refused, accepted, map_answer, setting_of, row_count, rows_in, answer, output_after, output}
use Rattle.rules.specs.Laws.ToolLaws.{and_right, eqb-true, leb_le}
use Rattle.rules.specs.Laws.RowLaws.{Bytes}
use Rattle.renaming.specs.Renaming.{KeepsOn, renamed_row, renamed_rows, renamed, renamed_in, renamed_for, renamed_bytes, names_of, firsts, place_of, by_first}
use Rattle.renaming.specs.Anonymous.{key_in, after_reading, anonymous_in, anonymous_for, anonymous, anonymous_after, anonymous_output}
use Rattle.headers.specs.Laws.Settings.{InForce, found_in, headed}
use Rattle.renaming.proofs.Laws.Bytes.{rows_long}
use Rattle.renaming.proofs.Laws.OwnNames.{counting, in_order}
use Rattle.renaming.proofs.Laws.OfForms.{first_names, names_answer, names_output}

-- ---- what is accepted

-- the setting that was asked for, and the key by it
record Taken (s : Setting) (input key : List ℕ) : Type 0 where
  few : row_count s.version input ≤ s.version.rows
  long : length input ≡ s.version.header + 16 * row_count s.version input
  tree : Scope
  reads : read s.rules s.version.scopes (rows_in s input) ≡ form tree
  is_key : key ≡ key_in s input

no_refusal : {X A : Type 0} {n p : ℕ} {c : List ℕ} {a : A} → refused n p c ≡ accepted a → X
no_refusal e = let no_way : ◌≡◌ {A = ℕ} 0 1 = cc in absurd (omega arith)

neither : (a b : Bool) → not a || not b ≡ false → (a ≡ true) × (b ≡ true)
neither true true e = (refl, refl)
neither true false e = (refl, sym e)
neither false b e = (sym e, absurd (let no_way : ◌≡◌ {A = ℕ} 0 1 = cc in omega arith))

taken_in : (s : Setting) (input key : List ℕ) (room : ℕ) → anonymous_in s input room ≡ accepted key → Taken s input key
unfolding anonymous_in after_reading when◌then◌else◌
taken_in s input key room e =
    counted (not (between 1 s.version.rows (row_count s.version input)) || not (eqb (length input) (s.version.header + 16 * row_count s.version input))) refl e
  where
    whole : (r : RowsRead) → read s.rules s.version.scopes (rows_in s input) ≡ r → not (between 1 s.version.rows (row_count s.version input)) || not (eqb (length input) (s.version.header + 16 * row_count s.version input)) ≡ false
        → after_reading r (key_in s input) ≡ accepted key → Taken s input key
    whole (bad p) q c e = no_refusal e
    whole (deep p) q c e = no_refusal e
    whole (form t) q c e =
        let both = neither (between 1 s.version.rows (row_count s.version input)) (eqb (length input) (s.version.header + 16 * row_count s.version input)) c in
        let same : accepted (key_in s input) ≡ accepted key = e in
        record {
          few = leb_le (row_count s.version input) s.version.rows (and_right (leb 1 (row_count s.version input)) (leb (row_count s.version input) s.version.rows) both.0);
          long = eqb-true (length input) (s.version.header + 16 * row_count s.version input) both.1;
          tree = t;
          reads = q;
          is_key = cc;
        }

    roomy : (b : Bool) → not (between 1 s.version.rows (row_count s.version input)) || not (eqb (length input) (s.version.header + 16 * row_count s.version input)) ≡ false
        → (when b then refused 3 0 [] else after_reading (read s.rules s.version.scopes (rows_in s input)) (key_in s input)) ≡ accepted key → Taken s input key
    roomy true c e = no_refusal e
    roomy false c e = whole (read s.rules s.version.scopes (rows_in s input)) refl c e

    counted : (b : Bool) → not (between 1 s.version.rows (row_count s.version input)) || not (eqb (length input) (s.version.header + 16 * row_count s.version input)) ≡ b
        → (when b then refused 2 0 [] else (when ltb room (length input) then refused 3 0 [] else after_reading (read s.rules s.version.scopes (rows_in s input)) (key_in s input))) ≡ accepted key
        → Taken s input key
    counted true c e = no_refusal e
    counted false c e = roomy (ltb room (length input)) c e

record Asked (settings : List Setting) (input key : List ℕ) : Type 0 where
  setting : Setting
  asks : setting_of settings input ≡ some setting
  taken : Taken setting input key

asked : (settings : List Setting) (input key : List ℕ) (room : ℕ) → anonymous settings input room ≡ accepted key → Asked settings input key
unfolding anonymous anonymous_for
asked settings input key room e = go (setting_of settings input) refl e
  where
    go : (o : Option Setting) → setting_of settings input ≡ o → anonymous_for o input room ≡ accepted key → Asked settings input key
    go none q e = no_refusal e
    go (some s) q e = record { setting = s; asks = q; taken = taken_in s input key room e }

-- ---- what is written

module _ (settings : List Setting) (l : InForce settings) (input : List ℕ) (bs : Bytes input) (key old : List ℕ) (e : anonymous settings input (length old) ≡ accepted key) where
  it : Asked settings input key
  it = asked settings input key (length old) e

  few_names : 2 * row_count it.setting.version input < top_name
  few_names = omega (arith, it.taken.few, (found_in settings input it.setting l it.asks).plain.few)

  by_key : place_of key ≡ by_first (rows_in it.setting input)
  unfolding by_first key_in
  by_key = ap place_of it.taken.is_key

  keeps : KeepsOn (names_of (rows_in it.setting input)) (place_of key)
  keeps = rw by_key (first_names settings l input bs it.setting it.asks few_names)

  -- The names of the form stay names, and different ones different.
  pub key_keeps : (s : Setting) → setting_of settings input ≡ some s → KeepsOn (names_of (rows_in s input)) (place_of key)
  key_keeps s q =
      let two : some it.setting ≡ some s = sym it.asks ∙ q in
      let same : it.setting ≡ s = cc in
      subst (λ (x : Setting). KeepsOn (names_of (rows_in x input)) (place_of key)) same keeps

  -- They become 1, 2, 3, … in the order of the key.
  pub key_counts : map (place_of key) key ≡ counting 1 (length key)
  unfolding by_first key_in
  key_counts = rw it.taken.is_key (in_order (rows_in it.setting input))

  -- As many bytes are written as the form has.
  pub as_long : length (renamed_bytes (place_of key) settings input) ≡ length input
  unfolding renamed_bytes renamed_for renamed_in when◌then◌else◌
  as_long = rw it.asks (go (eqb (length input) (it.setting.version.header + 16 * row_count it.setting.version input)))
    where
      go : (b : Bool) → length (when b then take it.setting.version.header input ++ renamed_rows (renamed (place_of key)) (row_count it.setting.version input) (drop it.setting.version.header input) else input) ≡ length input
      go true =
          omega (
            arith,
            length-append (take it.setting.version.header input) (renamed_rows (renamed (place_of key)) (row_count it.setting.version input) (drop it.setting.version.header input)),
            length-take-le it.setting.version.header input (omega (arith, it.taken.long)),
            rows_long (renamed (place_of key)) (row_count it.setting.version input) (drop it.setting.version.header input) (omega (arith, length-drop it.setting.version.header input, it.taken.long)),
            length-drop it.setting.version.header input,
            it.taken.long,
          )
      go false = refl

  -- They are the form with its new names.
  pub written_form : take (length input) (anonymous_output settings input old) ≡ renamed_bytes (place_of key) settings input
  unfolding anonymous_output anonymous_after
  written_form = rw e (take_at (renamed_bytes (place_of key) settings input) (drop (length input) old) (length input) as_long)

  -- What is written is answered as the input is: the same refusal at the same place, with what it carries, or the same rows but for the names.
  pub written_answer : (room : ℕ)
      → answer settings (take (length input) (anonymous_output settings input old)) room ≡ map_answer (map (renamed_row (renamed (place_of key)))) (answer settings input room)
  written_answer room = rw written_form (names_answer settings l input bs it.setting it.asks (place_of key) keeps room)
