-- Ways through the settings, and through the code that reads a form by itself.
use Rattle.std.specs.Prelude.{Result, Ok, Err, IsErrAnd, ⊤}
use Rattle.std.proofs.lemmas.Result.{err_from_is_err_and}
use mathlib.Core.Path.{◌≡◌, refl, sym, ap, ◌∙◌}
use mathlib.Core.Bool.{Bool, true, false, ◌||◌, not}
use mathlib.Core.Option.{Option, some}
use mathlib.Core.List.{List, []}
use native.Mathlib.Omega.{arith}
use Prim.Native.Nat.{ℕ, ◌+◌, ◌*◌, ◌-◌, ◌/◌, ◌%◌, ◌≤◌, ◌<◌}
use lib.Dec.{eqb, leb}
use lib.ListN.{length, take, drop, length-drop, length-map, drop_of_length-le}
use lib.Seq.{take_all}
use borrow.Author.Rules.{rules}
use borrow.Author.Tests.{leb-true, eqb-true}
use Rattle.kit.specs.Pick.{pick}
use Rattle.kit.proofs.Laws.{drop_next}
use Rattle.rules.specs.Tools.{when◌then◌else◌, between, only}
use Rattle.rules.specs.Versions.{Setting, version1, today, all, as_claimed}
use Rattle.rules.specs.Rows.{Row}
use Rattle.rules.specs.Tree.{flatten}
use Rattle.rules.specs.Tree as tree
use Rattle.rules.specs.Begins.{Right}
use Rattle.rules.specs.Reader.{read}
use Rattle.rules.specs.Answer.{refused, has_header, row_count, rows_in}
use Rattle.rules.specs.Laws.ToolLaws.{false_not, and_left, and_right}
use Rattle.rules.proofs.Laws.Read.ReadRight.{read_right}
use Rattle.rules.proofs.Laws.Read.BeginsWritten.{rows_length}
use Rattle.read_form.specs.ReadForm.{as_answer, read_form}
use Rattle.limits.specs.declared.Limits.{Limits}
use Rattle.limits.specs.Held.{setting_in, limits_of, setting}
use Rattle.limits.proofs.Laws.{stand_for, stand_claimed, few_rows}
use Rattle.form.specs.Header.{header_in, header_for, header_to, refusal_of}
use Rattle.form.specs.declared.header.BadHeader.TheVariants.{Wrong, Count}
use Rattle.reader.specs.ReadTo.{answer_of, read_to}
use Rattle.whole_form.specs.Asked.{or_next, held_as, asked_from, asked_of, claimed_of}
use Rattle.whole_form.specs.Whole.{refused_t, form_of, read_t, body_t, head_t, held_t}
use Rattle.reader.specs.declared.BadRows.TheVariants as rows_read
use Rattle.form.specs.declared.header.BadHeader.{BadHeader}
use Rattle.reader.specs.declared.BadRows.{BadRows}
use Rattle.refusal.specs.declared.Refusal.{Refusal}
use Rattle.whole_form.specs.declared.asked.Asked.{Asked}

-- ---- what a header says

-- the header of this setting, with this many rows, which are there
pub record Headed (s : Setting) (input : List ℕ) (rows : ℕ) : Type 0 where
  pub headed : has_header s input ≡ true
  pub counted : row_count s.version input ≡ rows
  pub some_rows : 1 ≤ rows
  pub few : rows ≤ s.version.rows
  pub long : length input ≡ s.version.header + 16 * rows

pub header_rows : (s : Setting) (input : List ℕ) (rows : ℕ) → Ok rows ≡ header_for (only (has_header s input) s) input → Headed s input rows
unfolding header_in
header_rows s input rows e =
    let a = only_rows (has_header s input) s input rows e in
    let m = row_count s.version input in
    let b = counted_rows (not (between 1 s.version.rows m) || not (eqb (length input) (s.version.header + 16 * m))) rows m a.1 in
    let d = neither (between 1 s.version.rows m) (eqb (length input) (s.version.header + 16 * m)) b.0 in
    let low = leb-true 1 m (and_left (leb 1 m) (leb m s.version.rows) d.0) in
    let high = leb-true m s.version.rows (and_right (leb 1 m) (leb m s.version.rows) d.0) in
    let sized = eqb-true (length input) (s.version.header + 16 * m) d.1 in
    record { headed = a.0; counted = sym b.1; some_rows = omega (arith, b.1); few = omega (arith, b.1); long = omega (arith, b.1) }
  where
    only_rows : (b : Bool) (s : Setting) (input : List ℕ) (n : ℕ) → Ok n ≡ header_for (only b s) input → (b ≡ true) × (Ok n ≡ header_in s.version input)
    only_rows true s input n e = unfold only header_for in (refl, e)
    only_rows false s input n e = unfold only header_for in (let z : ◌≡◌ {A = ℕ} 0 1 = cc in absurd (omega arith))

    counted_rows : (b : Bool) (n m : ℕ) → Ok n ≡ (when b then Err Count else Ok m) → (b ≡ false) × (n ≡ m)
    counted_rows true n m e = unfold when◌then◌else◌ in (let z : ◌≡◌ {A = ℕ} 0 1 = cc in absurd (omega arith))
    counted_rows false n m e = unfold when◌then◌else◌ in (refl, cc)

    neither : (a b : Bool) → not a || not b ≡ false → (a ≡ true) × (b ≡ true)
    neither true true e = (refl, refl)
    neither true false e = (refl, sym e)
    neither false b e = false_not (sym e)

-- ---- which setting

-- the limits at a place stand for the setting there
held_at : (claim : Bool) (i : ℕ) → setting_in (limits_of (held_as claim (setting i))) ≡ held_as claim (setting i)
unfolding held_as pick
held_at true i = stand_claimed i
held_at false i = stand_for i

module _ (claim : Bool) (i : ℕ) (l : Limits) where
  pub limits_claim : claim ≡ true → l ≡ limits_of (as_claimed (setting i)) → l ≡ limits_of (held_as claim (setting i))
  unfolding held_as pick
  limits_claim h e = rw h e

  pub limits_input : claim ≡ false → l ≡ limits_of (setting i) → l ≡ limits_of (held_as claim (setting i))
  unfolding held_as pick
  limits_input h e = rw h e

module _ (claim : Bool) (input : List ℕ) (i : ℕ) (T : Result Asked BadHeader) (inv : asked_from claim i (drop i all) input ≡ T) where
  pub asked_end : 3 ≤ i → Err Wrong ≡ T
  unfolding asked_from
  asked_end h = rw (drop_of_length-le all h) at inv

  module _ (h : i < 3) (l : Limits) (e : l ≡ limits_of (held_as claim (setting i))) (said : Result ℕ BadHeader) (q : said ≡ header_to l input) where
    turn : or_next i said (asked_from claim (i + 1) (drop (i + 1) all) input) ≡ T
    unfolding asked_from
    turn =
        let is : said ≡ header_for (only (has_header (held_as claim (setting i)) input) (held_as claim (setting i))) input = q ∙ rw e (unfold header_to in rw (held_at claim i)) in
        rw is (rw (drop_next all i (record { version = version1; rules = today }) h) at inv)

    pub asked_rows : (rows : ℕ) → said ≡ Ok rows → Ok (record { setting = i; rows = rows }) ≡ T
    unfolding or_next
    asked_rows rows w = rw w at turn

    pub asked_count : said ≡ Err Count → Err Count ≡ T
    unfolding or_next
    asked_count w = rw w at turn

    pub asked_on : said ≡ Err Wrong → asked_from claim (i + 1) (drop (i + 1) all) input ≡ T
    unfolding or_next
    asked_on w = rw w at turn

pub ruleset asked_ways = (limits_claim, limits_input, asked_end, asked_rows, asked_count, asked_on, rules)

module _ (a : Result Asked BadHeader) (input : List ℕ) where
  pub asked_input : a ≡ asked_from false 0 all input → a ≡ asked_of input
  unfolding asked_of
  asked_input e = e

  pub asked_claim : a ≡ asked_from true 0 all input → a ≡ claimed_of input
  unfolding claimed_of
  asked_claim e = e

-- ---- a form by itself

-- the limits stand for their setting
held_header : (l : Limits) → (setting_in l).version.header ≡ l.header
unfolding setting_in
held_header l = refl

held_rows : (l : Limits) → (setting_in l).version.rows ≡ l.rows
unfolding setting_in
held_rows l = refl

-- this many rows
module _ (rows : List ℕ) (l : Limits) (count : ℕ) (r : Result ⊤ BadRows) (e : r ≡ read_to l rows) where
  pub rows_broken : (row : ℕ) (v : Result ℕ Refusal) → r ≡ Err (rows_read.Broken row) → v ≡ refused_t 4 (row % 4294967296) → v ≡ read_t (read_to l rows) count
  unfolding read_t
  rows_broken row v q w = rw (← e, q) w

  pub rows_deep : (row : ℕ) (v : Result ℕ Refusal) → r ≡ Err (rows_read.Deep row) → v ≡ refused_t 5 (row % 4294967296) → v ≡ read_t (read_to l rows) count
  unfolding read_t
  rows_deep row v q w = rw (← e, q) w

  pub rows_whole : r ≡ Ok tt → Ok count ≡ read_t (read_to l rows) count
  unfolding read_t
  rows_whole q = rw (← e, q)

module _ (l : Limits) (input : List ℕ) where
  pub body_read : (rows h : ℕ) → h ≡ l.header → (v : Result ℕ Refusal) → v ≡ read_t (read_to l (take (length input - h) (drop h input))) rows → v ≡ body_t l rows input
  unfolding body_t
  body_read rows h is v e = let whole = take_all (length input - h) (drop h input) (omega (arith, length-drop h input)) in rw (whole, is) at e

  -- the rows behind a header
  reading_is : (rows : ℕ) (rs : List (Option Row)) → length rs ≡ rows → rows < 4294967296 → (x : tree.RowsRead) → Right (setting_in l).rules (setting_in l).version.scopes rs x → read_t (answer_of x) rows ≡ form_of (as_answer x)
  unfolding read_t answer_of as_answer form_of
  reading_is rows rs n h (tree.bad p) w = let k : p % 4294967296 ≡ p = omega (arith, w.in_range) in rw k
  reading_is rows rs n h (tree.deep p) w = let k : p % 4294967296 ≡ p = omega (arith, w.in_range) in rw k
  reading_is rows rs n h (tree.form t) w = ap Ok (sym n ∙ ap length (sym w.0.of_tree) ∙ length-map (flatten t) some)

  body_is : (rows : ℕ) → Headed (setting_in l) input rows → l.rows ≤ 4294967295 → body_t l rows input ≡ form_of (as_answer (read (setting_in l).rules (setting_in l).version.scopes (rows_in (setting_in l) input)))
  unfolding body_t read_to setting_in
  body_is rows h low =
      let s = setting_in l in
      let c = h.counted in
      let m = h.long in
      let few = h.few in
      let k : length (drop l.header input) / 16 ≡ row_count s.version input = omega (arith, length-drop l.header input, held_header l) in
      let size : length (rows_in s input) ≡ rows = rows_length s.version.names (row_count s.version input) (drop s.version.header input) ∙ c in
      rw k (reading_is rows (rows_in s input) size (omega (arith, held_rows l)) (read s.rules s.version.scopes (rows_in s input)) ((read_right s.rules s.version.scopes (rows_in s input) (read s.rules s.version.scopes (rows_in s input))).0 refl))

  held_is : l.rows ≤ 4294967295 → held_t l input ≡ form_of (read_form (setting_in l) input)
  unfolding held_t header_to read_form header_for header_in only head_t form_of when◌then◌else◌
  held_is low = go (has_header s input) refl
    where
      s : Setting
      s = setting_in l

      m : Bool
      m = not (between 1 (setting_in l).version.rows (row_count (setting_in l).version input)) || not (eqb (length input) ((setting_in l).version.header + 16 * row_count (setting_in l).version input))

      inner : (b : Bool) → m ≡ b → has_header (setting_in l) input ≡ true
          → head_t l (when b then Err Count else Ok (row_count (setting_in l).version input)) input ≡ form_of (when b then refused 2 0 [] else as_answer (read (setting_in l).rules (setting_in l).version.scopes (rows_in (setting_in l) input)))
      inner true e h = refl
      inner false e h = body_is (row_count (setting_in l).version input) (header_rows (setting_in l) input (row_count (setting_in l).version input) (sym (rw (h, e)))) low

      go : (b : Bool) → has_header (setting_in l) input ≡ b
          → head_t l (header_for (only b (setting_in l)) input) input ≡ form_of (when not b then refused 1 0 [] else when m then refused 2 0 [] else as_answer (read (setting_in l).rules (setting_in l).version.scopes (rows_in (setting_in l) input)))
      go false e = refl
      go true e = inner m refl e

  module _ (h : Result ℕ BadHeader) (e : h ≡ header_to l input) where
    pub head_long_lem : (rows : ℕ) → h ≡ Ok rows → l.header ≤ length input
    unfolding header_to
    head_long_lem rows q = let n = (header_rows (setting_in l) input rows (sym q ∙ e)).long in omega (arith, held_header l)

    module _ (low : l.rows ≤ 4294967295) (v : Result ℕ Refusal) where
      pub head_bad : (why : BadHeader) → h ≡ Err why → IsErrAnd v (λ refusal. refusal ≡ refusal_of why) → v ≡ form_of (read_form (setting_in l) input)
      unfolding held_t head_t
      head_bad why q w = let p = err_from_is_err_and v w in p.1 ∙ ap Err p.2 ∙ rw (← e, q) at (held_is low)

      pub head_rows_lem : (rows : ℕ) → h ≡ Ok rows → v ≡ body_t l rows input → v ≡ form_of (read_form (setting_in l) input)
      unfolding held_t head_t
      head_rows_lem rows q w = w ∙ rw (← e, q) at (held_is low)

-- by the place of the setting
module _ (i : ℕ) (l : Limits) where
  module _ (e : l ≡ limits_of (setting i)) where
    pub input_rows : l.rows ≤ 4294967295
    input_rows = let h = few_rows i in rw e (omega arith)

    pub input_read : (input : List ℕ) (v : Result ℕ Refusal) → v ≡ form_of (read_form (setting_in l) input) → v ≡ form_of (read_form (setting i) input)
    input_read input v w = rw (e, stand_for i) at w

  module _ (e : l ≡ limits_of (as_claimed (setting i))) where
    pub claim_rows : l.rows ≤ 4294967295
    claim_rows = let h = few_rows i in rw e (omega arith)

    pub claim_read : (input : List ℕ) (v : Result ℕ Refusal) → v ≡ form_of (read_form (setting_in l) input) → v ≡ form_of (read_form (as_claimed (setting i)) input)
    claim_read input v w = rw (e, stand_claimed i) at w

pub ruleset read_ways = (rows_broken, rows_deep, rows_whole, body_read, head_long_lem, head_bad, head_rows_lem, input_rows, input_read, claim_rows, claim_read, rules)
