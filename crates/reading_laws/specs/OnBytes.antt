-- The rows of an accepted input and of its output stand in their bytes, under any setting: from eight bytes before the first row on, these
-- look like a form with a header of eight bytes, which is what the readings on rows take.
use Rattle.std.specs.Prelude.{◌≡◌, refl, Bool, true, false, ◌||◌, not, ℕ, ◌+◌, ◌-◌, ◌*◌, ◌/◌, ◌≤◌, ◌^◌, ◌<◌, eqb, ltb, length, drop}
use Rattle.std.proofs.Math.Path.{ap}
use Rattle.std.proofs.Common.{sym, ◌∙◌, arith, length-append, length-drop, drop-drop, ltb-false}
use Rattle.std.proofs.Math.Option.{Option, some}
use mathlib.Core.List.{List, [], ◌∷◌, ◌++◌, map, append-nil}
use Rattle.std.proofs.lemmas.List.{length-map}
use Rattle.kit.specs.Pick.{pick}
use Rattle.kit.proofs.Laws.{yes!, no!, pick_has}
use Rattle.rules.specs.Tools.{when◌then◌else◌, between, only, ◌or_else◌}
use Rattle.rules.specs.Versions.{Setting, base, all, as_claimed}
use Rattle.rules.specs.Rows.{Row, encode, Raw, raw, raw_bytes, bytes, encode_row}
use Rattle.rules.specs.Tree.{Scope, flatten, form as tree}
use Rattle.rules.specs.Good.{GoodScope}
use Rattle.rules.specs.Answer
use Rattle.rules.specs.Answer.{AnswerOf, refused, accepted, map_answer, answer, answer_in, form_in, output, row_count, rows_in, rows_bytes, form_bytes, written, setting_of}
use Rattle.rules.specs.Laws.ToolLaws.{Ok, ok_at, eqb-true}
use Rattle.rules.specs.Laws.RowLaws.{Bytes}
use Rattle.rules.proofs.Laws.Read.BeginsWritten.{rows_length}
use Rattle.rules.proofs.Laws.Read.ReadRight.{read_right}
use Rattle.rules.proofs.Laws.Output.OutBytes.{header_length, out_rows}
use Rattle.rules.proofs.Laws.InputLaws.{AllUsual, Accepted, readings}
use Rattle.row_parts.specs.Parts as parts
use Rattle.reading_laws.specs.Stand.{At, rows_stand}
use Rattle.reading_laws.specs.Meant.{Rows}

-- ---- settings whose rows can be numbered in 16 bits

pub record Within (v : Setting) : Type 0 where
  pub header : 8 ≤ v.version.header
  pub rows : 4 * v.version.rows ≤ 65535

abbrev pub AllWithin : List Setting → Type 0
AllWithin [] = Unit {0}
AllWithin (v ∷ vs) = Within v × AllWithin vs

pub base_within : AllWithin base
base_within = (record { header = omega arith; rows = omega arith }, tt)

pub all_within : AllWithin all
all_within = (record { header = omega arith; rows = omega arith }, (record { header = omega arith; rows = omega arith }, (record { header = omega arith; rows = omega arith }, tt)))

pub setting_within : (settings : List Setting) (input : List ℕ) → AllWithin settings → Ok Within (setting_of settings input)
unfolding setting_of only ◌or_else◌
setting_within [] input l = tt
setting_within (v ∷ vs) input l = go (Answer.has_header v input) (setting_within vs input l.1)
  where
    go : (b : Bool) → Ok Within (setting_of vs input) → Ok Within (only b v or_else setting_of vs input)
    go true h = l.0
    go false h = h

-- ---- bytes

-- from eight bytes before the first row on
abbrev pub body : Setting → List ℕ → List ℕ
body v bs = drop (v.version.header - 8) bs

-- as many rows as stand behind the header, if there is room for them
pub rows_fit : (form : List ℕ) (n : ℕ) → 8 + 16 * n ≤ length form → n ≤ 65535 → n ≤ parts.rows_in form
unfolding parts.rows_in
rows_fit form n long low = least ((length form - 8) / 16) (omega (arith, long))
  where
    least : (m : ℕ) → n ≤ m → n ≤ pick (ltb m 65535) m 65535
    least m h = pick_has (λ (k : ℕ). n ≤ k) (ltb m 65535) h low

-- just as many
pub rows_just : (form : List ℕ) (n : ℕ) → length form ≡ 8 + 16 * n → n ≤ 65535 → parts.rows_in form ≡ n
unfolding parts.rows_in
rows_just form n long low = picked ((length form - 8) / 16) (omega (arith, long)) (ltb ((length form - 8) / 16) 65535) refl
  where
    picked : (m : ℕ) → m ≡ n → (b : Bool) → ltb m 65535 ≡ b → pick b m 65535 ≡ n
    picked m e true q = sym (yes! _ refl (sym e))
    picked m e false q = let last : 65535 ≤ m = ltb-false m 65535 q in sym (no! _ refl (omega (arith, e, last, low)))

row_length : (r : Row) → length (encode_row r) ≡ 16
unfolding encode_row raw_bytes bytes
row_length r = sixteen (encode r)
  where
    sixteen : (parts : Raw) → length (raw_bytes parts) ≡ 16
    sixteen (raw code b e x y z) = refl

bytes_length : (rs : List Row) → length (rows_bytes rs) ≡ 16 * length rs
unfolding rows_bytes
bytes_length [] = refl
bytes_length (r ∷ rs) = omega (arith, length-append (encode_row r) (rows_bytes rs), row_length r, bytes_length rs)

pub form_long : (v : Setting) (rs : List Row) → 6 + v.version.counting ≤ v.version.header → length (form_bytes v rs) ≡ v.version.header + 16 * length rs
unfolding form_bytes
form_long v rs h = omega (arith, length-append (Answer.header_bytes v (length rs)) (rows_bytes rs), header_length v (length rs) [] h, bytes_length rs)

-- an accepted input has the length that its header says
long_enough : (v : Setting) (input : List ℕ) (room : ℕ) (t : Scope) → form_in [] v input room ≡ accepted t → length input ≡ v.version.header + 16 * row_count v.version input
unfolding form_in when◌then◌else◌
long_enough v input room t e = go (between 1 v.version.rows (row_count v.version input)) (eqb (length input) (v.version.header + 16 * row_count v.version input)) refl _ e
  where
    go : (a b : Bool) → eqb (length input) (v.version.header + 16 * row_count v.version input) ≡ b → (rest : AnswerOf Scope) → (when not a || not b then refused 2 0 [] else rest) ≡ accepted t
        → length input ≡ v.version.header + 16 * row_count v.version input
    go true true q rest e = eqb-true _ _ q
    go true false q rest e = let no_way : ◌≡◌ {A = ℕ} 0 1 = cc in absurd (omega arith)
    go false b q rest e = let no_way : ◌≡◌ {A = ℕ} 0 1 = cc in absurd (omega arith)

-- rows that are read behind a header stand there
pub body_stands : (v : Setting) (bs : List ℕ) (top count : ℕ) (rs : List Row) → 8 ≤ v.version.header → Answer.rows_of top count (drop v.version.header bs) ≡ map some rs → At (body v bs) 0 rs
body_stands v bs top count rs h e =
    let to-rows : v.version.header - 8 + 8 ≡ v.version.header = omega (arith, h) in
    rows_stand (body v bs) 0 top count rs (ap (Answer.rows_of top count) (drop-drop 8 (v.version.header - 8) bs ∙ ap (λ (n : ℕ). drop n bs) to-rows) ∙ e)

body_long : (v : Setting) (bs : List ℕ) (n : ℕ) → 8 ≤ v.version.header → v.version.header + 16 * n ≤ length bs → 8 + 16 * n ≤ length (body v bs)
body_long v bs n h long = let l = length-drop (v.version.header - 8) bs in omega (arith, l, h, long)

-- the output begins with the form's bytes
pub begins : (settings : List Setting) (input old : List ℕ) (v : Setting) (t : Scope) → setting_of settings input ≡ some v → form_in [] v input (length old) ≡ accepted t
    → (rest : List ℕ) × (output settings input old ≡ form_bytes v (flatten t) ++ rest)
unfolding output Answer.output_inside Answer.output_for Answer.output_after written answer_in map_answer
begins settings input old v t e f = (
  _,
  ap (λ (o : Option Setting). Answer.output_for [] o input old) e
      ∙ ap (λ (x : AnswerOf Scope). Answer.output_after v (map_answer flatten x) (v.version.header + 64 * row_count v.version input) old) f,
)

-- ---- an accepted input

module _ (settings : List Setting) (usual : AllUsual settings) (within : AllWithin settings) (input old : List ℕ) (bs : Bytes input) (out : List Row) (e : answer settings input (length old) ≡ accepted out) where
  -- the input's tree and the output's
  pub trees : Accepted settings input old out
  trees = readings settings usual input old bs out e

  abbrev pub v : Setting
  v = trees.setting

  inside : Within v
  inside = ok_at Within (setting_of settings input) v (setting_within settings input within) trees.asked_for

  of_input_lem : map some (flatten trees.before) ≡ rows_in v input
  of_input_lem = ((read_right v.rules _ (rows_in v input) (tree trees.before)).0 trees.reads).0.of_tree

  pub good_before : GoodScope v.rules trees.before
  good_before = ((read_right v.rules _ _ (tree trees.before)).0 trees.reads).0.good

  pub good_after : GoodScope v.rules trees.after
  good_after = ((read_right v.rules _ _ (tree trees.after)).0 trees.reads_out).0.good

  pub count_is : length (flatten trees.before) ≡ row_count v.version input
  count_is = sym (length-map (flatten trees.before) some) ∙ (ap length of_input_lem ∙ rows_length v.version.names (row_count v.version input) (drop v.version.header input))

  -- the input has its tree's rows and nothing behind them
  pub just_these : length (body v input) ≡ 8 + 16 * length (flatten trees.before)
  just_these =
      let long = long_enough v input (length old) trees.after trees.forms in
      let l = length-drop (v.version.header - 8) input in
      let h = inside.header in
      omega (arith, long, l, h, count_is)

  pub rows_before : Rows (body v input) trees.before
  rows_before =
      let few = trees.few in
      let most = inside.rows in
      record {
        stand = body_stands v input v.version.names (row_count v.version input) (flatten trees.before) inside.header (sym of_input_lem);
        fit = rows_fit (body v input) (length (flatten trees.before)) (omega (arith, just_these)) (omega (arith, few, most));
      }

  pub rows_are : parts.rows_in (body v input) ≡ length (flatten trees.before)
  rows_are = let few = trees.few in let most = inside.rows in rows_just (body v input) (length (flatten trees.before)) just_these (omega (arith, few, most))

  few_after : length (flatten trees.after) ≤ 65535
  few_after =
      let n = ap length trees.of_tree in
      let four = trees.four in
      let counted = trees.counted in
      let most = inside.rows in
      omega (arith, n, four, counted, most)

  -- bytes that begin with the form's
  begin_rows : (written-bytes rest : List ℕ) → written-bytes ≡ form_bytes v out ++ rest → rows_in (as_claimed v) written-bytes ≡ map some out → Rows (body v written-bytes) trees.after
  begin_rows written-bytes rest b rows =
      let n = form_long v out trees.usual.header in
      let m = ap length b ∙ length-append (form_bytes v out) rest in
      let k = ap length trees.of_tree in
      record {
        stand = body_stands v written-bytes _ _ (flatten trees.after) inside.header (rows ∙ ap (map some) (sym trees.of_tree));
        fit = rows_fit (body v written-bytes) (length (flatten trees.after)) (body_long v written-bytes (length (flatten trees.after)) inside.header (omega (arith, n, m, k))) few_after;
      }

  -- the output
  pub rows_after_lem : Rows (body v (output settings input old)) trees.after
  unfolding output
  rows_after_lem =
      let B = begins settings input old v trees.after trees.asked_for trees.forms in
      begin_rows (output settings input old) B.0 (B.1 ∙ ap (λ (rs : List Row). form_bytes v rs ++ B.0) trees.of_tree) trees.rows_out

  -- the form's bytes alone
  pub rows_of_file : Rows (body v (form_bytes v out)) trees.after
  rows_of_file =
      let whole = append-nil (form_bytes v out) in
      let low = few_after in
      let n = ap length trees.of_tree in
      let four = trees.four in
      let counted = trees.counted in
      let countable = trees.usual.countable in
      let few : length out < 256 ^ v.version.counting = omega (arith, four, counted, countable) in
      begin_rows (form_bytes v out) [] (sym whole) (ap (rows_in (as_claimed v)) (sym whole) ∙ out_rows v out [] trees.usual.header few trees.fit)

  pub rows_of_file_are : parts.rows_in (body v (form_bytes v out)) ≡ length (flatten trees.after)
  rows_of_file_are =
      let long = form_long v out trees.usual.header in
      let l = length-drop (v.version.header - 8) (form_bytes v out) in
      let h = inside.header in
      let n = ap length trees.of_tree in
      rows_just (body v (form_bytes v out)) (length (flatten trees.after)) (omega (arith, long, l, h, n)) few_after
