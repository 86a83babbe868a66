-- The ways through a conversion: what each refusal and each acceptance of the code is in the rules.
use Rattle.std.specs.Prelude.{Result, Ok, Err, IsErrAnd}
use Rattle.std.proofs.lemmas.Result.{err_from_is_err_and}
use mathlib.Core.Path.{◌≡◌, refl, ap, sym, ◌∙◌}
use mathlib.Core.Bool.{Bool, true, false, ◌&&◌}
use mathlib.Core.Option.{Option, none, some}
use mathlib.Core.List.{List, []}
use native.Mathlib.Omega.{arith}
use Prim.Native.Nat.{ℕ, zero, suc, ◌+◌, ◌*◌, ◌-◌, ◌/◌, ◌%◌, ◌≤◌, ◌<◌}
use lib.Dec.{eqb, ltb}
use lib.ListN.{length, take, drop, length-drop}
use lib.Seq.{take_all, sets, sets-eq}
use borrow.Author.Rules.{rules}
use borrow.Author.Tests.{lt-ltb, le-leb, eq-eqb, ne_eqb}
use mir.Syntax.{w32, w64}
use mir.Val.{Fits}
use Rattle.kit.specs.Pick.{pick}
use Rattle.kit.proofs.Laws.{sets_append}
use Rattle.rules.specs.Tools.{when◌then◌else◌, only, ◌or_else◌}
use Rattle.rules.specs.Versions.{Version, Setting, all}
use Rattle.rules.specs.Tree as tree
use Rattle.rules.specs.Tree.{Scope}
use Rattle.rules.specs.Begins.{Right}
use Rattle.rules.specs.Reader.{read}
use Rattle.rules.specs.Answer.{AnswerOf, refused, accepted, map_answer, setting_of, row_count, rows_in, header_bytes}
use Rattle.rules.specs.Laws.ToolLaws.{false_not}
use Rattle.rules.proofs.Laws.Read.ReadRight.{read_right}
use Rattle.rules.proofs.Laws.Read.BeginsWritten.{rows_length}
use Rattle.rules.proofs.Laws.Output.OutBytes.{header_length}
use Rattle.headers.specs.Laws.Settings.{headed, all_in_force, setting_is}
use Rattle.read_form.specs.ReadForm.{read_form}
use Rattle.converting.specs.Convert.{version_of, setting_with, recast, within_scopes, converted_in, converted_for, converted, buffer_after, converted_output, said_by, rows_said}
use Rattle.converting.proofs.Laws.Numbered.{all_coherent}
use Rattle.converting.proofs.Laws.Converter.{recast_header, recast_count, recast_length, other_rules, too_many, limited, refused_alike}
use Rattle.refusal.specs.declared.Refusal.{Refusal}
use Rattle.limits.specs.declared.Limits.{Limits}
use Rattle.limits.specs.Held.{setting_in, limits_of, setting}
use Rattle.limits.proofs.Laws.{stand_for, few_rows}
use Rattle.reader.specs.ReadTo.{answer_of, read_to}
use Rattle.whole_form.specs.Asked.{asked_of}
use Rattle.whole_form.specs.Whole.{form_of, read_t}
use Rattle.whole_form.proofs.Laws.{among, plain_at, unsized, asked_for, asked_wrong, asked_count, whole_read, refused_read}
use Rattle.convert.specs.Meaning.{meaning, Says}
use Rattle.convert.specs.Run.{refused_t, place_of_t, lacks_t, Sized, Sound}
use Rattle.form.specs.Header.{refusal_of}
use Rattle.form.specs.declared.header.BadHeader.TheVariants.{Wrong, Count}
use Rattle.form.specs.declared.header.BadHeader.{BadHeader}
use Rattle.whole_form.specs.declared.asked.Asked.{Asked}

-- ---- answers

says_refused : (x : AnswerOf (List ℕ)) (number place : ℕ) (out : List ℕ) → x ≡ refused number place [] → Says x out (refused_t number place) out
unfolding meaning map_answer buffer_after
says_refused x number place out e = rw e (record { answers = refl; leaves = refl })

-- ---- the settings by their place

short_header : (i : ℕ) → (setting i).version.header ≤ 16
short_header zero = omega arith
short_header (suc zero) = omega arith
short_header (suc (suc zero)) = omega arith
short_header (suc (suc (suc i))) = omega arith

-- one of the two versions, and one of the three settings
module _ (P : ℕ → ℕ → Type 0) (p₁₀ : P 1 0) (p₁₁ : P 1 1) (p₁₂ : P 1 2) (p₂₀ : P 2 0) (p₂₁ : P 2 1) (p₂₂ : P 2 2) where
  each : (version from : ℕ) → 1 ≤ version → version ≤ 2 → from < 3 → P version from
  each zero from h g f = absurd (omega arith)
  each (suc zero) zero h g f = p₁₀
  each (suc zero) (suc zero) h g f = p₁₁
  each (suc zero) (suc (suc zero)) h g f = p₁₂
  each (suc zero) (suc (suc (suc from))) h g f = absurd (omega arith)
  each (suc (suc zero)) zero h g f = p₂₀
  each (suc (suc zero)) (suc zero) h g f = p₂₁
  each (suc (suc zero)) (suc (suc zero)) h g f = p₂₂
  each (suc (suc zero)) (suc (suc (suc from))) h g f = absurd (omega arith)
  each (suc (suc (suc version))) from h g f = absurd (omega arith)

-- the setting at the place of a version has that version,
number_placed : (version from : ℕ) → 1 ≤ version → version ≤ 2 → from < 3 → (setting (place_of_t version from)).version.number ≡ version
unfolding place_of_t pick
number_placed = each (λ v f. (setting (place_of_t v f)).version.number ≡ v) refl refl refl refl refl refl

version_placed : (version from : ℕ) → 1 ≤ version → version ≤ 2 → from < 3 → version_of all version ≡ some (setting (place_of_t version from)).version
unfolding place_of_t pick version_of only ◌or_else◌
version_placed = each (λ v f. version_of all v ≡ some (setting (place_of_t v f)).version) refl refl refl refl refl refl

-- and the rules of the form, or no setting has both
rules_placed : (version from : ℕ) → 1 ≤ version → version ≤ 2 → from < 3 → lacks_t version from ≡ false → (setting (place_of_t version from)).rules.number ≡ (setting from).rules.number
unfolding place_of_t lacks_t pick
rules_placed =
    each (λ v f. lacks_t v f ≡ false → (setting (place_of_t v f)).rules.number ≡ (setting f).rules.number) (λ e. refl) (λ e. refl) (λ e. false_not (sym e)) (λ e. refl) (λ e. refl) (λ e. refl)

rules_lacking : (version from : ℕ) → 1 ≤ version → version ≤ 2 → from < 3 → lacks_t version from ≡ true → setting_with all version (setting from).rules.number ≡ none
unfolding lacks_t setting_with only ◌or_else◌
rules_lacking =
    each (λ v f. lacks_t v f ≡ true → setting_with all v (setting f).rules.number ≡ none) (λ e. false_not e) (λ e. false_not e) (λ e. refl) (λ e. false_not e) (λ e. false_not e) (λ e. false_not e)

-- ---- the rows of a form, and what is written of them

module _ (from : ℕ) (form : List ℕ) (rows : ℕ) (S : Sized from form rows) (header : ℕ) (is : header ≡ (setting from).version.header) where
  abbrev body : List ℕ
  body = drop (setting from).version.header form

  behind : take (length form - header) (drop header form) ≡ body
  behind = take_all (length form - header) (drop header form) (omega (arith, length-drop header form)) ∙ ap (λ n. drop n form) is

  module _ (to : ℕ) (l : Limits) (e : l ≡ limits_of (setting to)) where
    pub rows_read_lem : (r : Result ℕ Refusal) → r ≡ read_t (read_to l (take (length form - header) (drop header form))) rows → r ≡ read_t (answer_of (read (setting to).rules (setting to).version.scopes (rows_in (setting from) form))) rows
    unfolding read_to
    rows_read_lem r q =
        let long = S.long in
        let many : length body / 16 ≡ row_count (setting from).version form = omega (arith, length-drop (setting from).version.header form, S.counted) in
        let names : (setting to).version.names ≡ (setting from).version.names = (plain_at to).top ∙ sym (plain_at from).top in
        rw (behind, e, stand_for to, names, many) at q

    pub rows_put : (out out₁ out₂ : List ℕ) (h : ℕ) → out₁ ≡ sets out 0 (header_bytes (setting_in l) rows) → h ≡ (setting to).version.header → out₂ ≡ sets out₁ h (take (length form - header) (drop header form))
        → out₂ ≡ sets out 0 (recast (setting from) (setting to) form)
    unfolding recast
    rows_put out out₁ out₂ h e₁ g e₂ =
        let t = setting to in
        let H = header_bytes t rows in
        let first : out₁ ≡ sets out 0 H = rw (e, stand_for to) at e₁ in
        let at : h ≡ 0 + length H = g ∙ omega (arith, header_length t rows body (plain_at to).usual.header) in
        rw S.counted (rw (behind, first, at) at e₂ ∙ sym (sets_append out 0 H body))

pub ruleset rows_ways = (rows_read_lem, rows_put, rules)

-- ---- convert_to

pub to_fits : (from : ℕ) (form : List ℕ) (rows : ℕ) → Sound from form rows → Fits w32 rows
to_fits from form rows S = let few = S.sized.few in let most = few_rows from in omega arith

module _ (from : ℕ) (form : List ℕ) (rows : ℕ) (S : Sound from form rows) (to : ℕ) (same : (setting to).rules.number ≡ (setting from).rules.number) (few : rows ≤ (setting to).version.rows)
    (out : List ℕ) (roomy : (setting to).version.header + 16 * rows ≤ length out) where
  abbrev s : Setting
  s = setting from

  abbrev t : Setting
  t = setting to

  abbrev x : tree.RowsRead
  x = read t.rules t.version.scopes (rows_in s form)

  abbrev Said : Result ℕ Refusal → List ℕ → Type 0
  Said = Says (converted all t.version.number form (length out)) out

  count : row_count s.version form ≡ rows
  count = S.sized.counted

  few_to : row_count s.version form ≤ t.version.rows
  few_to = omega (arith, count)

  low : rows < 4294967296
  low = let h = few_rows to in omega arith

  many : length (rows_in s form) ≡ rows
  many = rows_length s.version.names (row_count s.version form) (drop s.version.header form) ∙ count

  -- what is read decides
  answer : (y : tree.RowsRead) → x ≡ y → converted all t.version.number form (length out) ≡ within_scopes s t form y
  answer y p =
      limited all all_coherent s form S.tree (among from) S.reads t (among to) same (length out) few_to (omega (arith, count)) ∙ ap (within_scopes s t form) p

  module _ (r : Result ℕ Refusal) (e : r ≡ read_t (answer_of x) rows) where
    -- its place has four bytes
    place_of : (y : tree.RowsRead) → x ≡ y → Right t.rules t.version.scopes (rows_in s form) y
    place_of y i = (read_right t.rules t.version.scopes (rows_in s form) y).0 i

    pub to_refused : (why : Refusal) → r ≡ Err why → (v : Result ℕ Refusal) → IsErrAnd v (λ refusal. refusal ≡ why) → Said v out
    unfolding read_t answer_of within_scopes
    to_refused why q v w = let p = err_from_is_err_and v w in rw (p.1, p.2) (go x refl (sym q ∙ e))
      where
        go : (y : tree.RowsRead) → x ≡ y → Err why ≡ read_t (answer_of y) rows → Said (Err why) out
        go (tree.bad p) i z =
            let at : why ≡ record { number = 4; place = p % 4294967296 } = cc in
            let place : p % 4294967296 ≡ p = omega (arith, many, low, (place_of (tree.bad p) i).in_range) in
            rw at (says_refused _ 4 (p % 4294967296) out (answer (tree.bad p) i ∙ rw place))
        go (tree.deep p) i z =
            let at : why ≡ record { number = 5; place = p % 4294967296 } = cc in
            let place : p % 4294967296 ≡ p = omega (arith, many, low, (place_of (tree.deep p) i).in_range) in
            rw at (says_refused _ 5 (p % 4294967296) out (answer (tree.deep p) i ∙ rw place))
        go (tree.form y) i z = let no_way : ◌≡◌ {A = ℕ} 0 1 = cc in absurd (omega arith)

    accepts : (n : ℕ) → r ≡ Ok n → converted all t.version.number form (length out) ≡ accepted (recast s t form)
    unfolding read_t answer_of within_scopes
    accepts n q = go x refl (sym q ∙ e)
      where
        go : (y : tree.RowsRead) → x ≡ y → Ok n ≡ read_t (answer_of y) rows → converted all t.version.number form (length out) ≡ accepted (recast s t form)
        go (tree.bad p) i z = let no_way : ◌≡◌ {A = ℕ} 0 1 = cc in absurd (omega arith)
        go (tree.deep p) i z = let no_way : ◌≡◌ {A = ℕ} 0 1 = cc in absurd (omega arith)
        go (tree.form y) i z = answer (tree.form y) i

    -- the header of the converted form says as many rows
    said : rows_said all (recast s t form) ≡ rows
    unfolding rows_said said_by
    said =
        let has = recast_header s t (plain_at from) (plain_at to) form few_to in
        let asks = setting_is all (recast s t form) t all_in_force (among to) (headed t (recast s t form) has).marked has in
        rw asks (recast_count s t (plain_at from) (plain_at to) form few_to ∙ count)

    long : length (recast s t form) ≡ t.version.header + 16 * rows
    long = let e = recast_length s t (plain_at from) (plain_at to) form few_to (omega (arith, S.sized.long, count)) in omega (arith, count)

    pub to_whole : (n : ℕ) (new : List ℕ) → r ≡ Ok n → new ≡ sets out 0 (recast s t form) → Said (Ok rows) new
    unfolding meaning map_answer buffer_after
    to_whole n new q w =
        let none_before : 0 + length (recast s t form) ≡ length (recast s t form) = omega arith in
        rw (accepts n q) (record { answers = ap accepted (sym said); leaves = w ∙ sets-eq (recast s t form) out 0 (omega (arith, long)) ∙ rw none_before })

pub ruleset to_ways = (to_fits, to_refused, to_whole, rules)

-- ---- the place of a version, and whether it has the rules

module _ (version from : ℕ) where
  pub place_one : version ≡ 1 → 0 ≡ place_of_t version from
  unfolding place_of_t pick
  place_one h = rw h

  module _ (n : version ≡ 1 → ⊥) where
    pub place_newer : from ≡ 2 → 2 ≡ place_of_t version from
    unfolding place_of_t pick
    place_newer h = rw (ne_eqb version 1 n, h)

    pub place_two : (from ≡ 2 → ⊥) → 1 ≡ place_of_t version from
    unfolding place_of_t pick
    place_two h = rw (ne_eqb version 1 n, ne_eqb from 2 h)

  pub lacks_is : eqb version 1 && eqb from 2 ≡ lacks_t version from
  unfolding lacks_t
  lacks_is = refl

pub ruleset place_ways = (place_one, place_newer, place_two, lacks_is, rules)

-- ---- convert_form

module _ (version : ℕ) (one : 1 ≤ version) (two : version ≤ 2) (from : ℕ) (form : List ℕ) (rows : ℕ) where
  module _ (S : Sound from form rows) (out : List ℕ) (roomy : (setting (place_of_t version from)).version.header + 16 * rows ≤ length out) (b : Bool) (lacks : b ≡ lacks_t version from) where
    pub form_lacks : (v : Result ℕ Refusal) → b ≡ true → v ≡ refused_t 1 0 → Says (converted all version form (length out)) out v out
    form_lacks v e w =
        let k = S.sized.known in
        let count = S.sized.counted in
        rw w (says_refused _ 1 0 out (other_rules all all_coherent (setting from) form S.tree (among from) S.reads version (setting (place_of_t version from)).version (version_placed version from one two k) (rules_lacking version from one two k (sym lacks ∙ e)) (length out) (omega (arith, count))))

    module _ (e : b ≡ false) (to : ℕ) (p : to ≡ place_of_t version from) (l : Limits) (q : l ≡ limits_of (setting to)) where
      pub same_rules : (setting to).rules.number ≡ (setting from).rules.number
      same_rules = rw p (rules_placed version from one two S.sized.known (sym lacks ∙ e))

      is_version : (setting to).version.number ≡ version
      is_version = rw p (number_placed version from one two S.sized.known)

      pub form_many : (v : Result ℕ Refusal) → l.rows < rows → v ≡ refused_t 2 0 → Says (converted all version form (length out)) out v out
      form_many v h w =
          let count = S.sized.counted in
          let more : (setting to).version.rows < rows = rw q at h in
          let many : (setting to).version.rows < row_count (setting from).version form = omega (arith, count) in
          let room : (setting to).version.header + 16 * row_count (setting from).version form ≤ length out = rw p (omega (arith, count)) in
          let is = too_many all all_coherent (setting from) form S.tree (among from) S.reads (setting to) (among to) same_rules (length out) many room in
          rw w (says_refused _ 2 0 out (rw is_version at is))

      pub form_few : rows ≤ l.rows → rows ≤ (setting to).version.rows
      form_few h = rw q at h

      pub form_room : (setting to).version.header + 16 * rows ≤ length out
      form_room = rw p roomy

      pub form_done : (v : Result ℕ Refusal) (out₁ : List ℕ) → Says (converted all (setting to).version.number form (length out)) out v out₁ → Says (converted all version form (length out)) out v out₁
      form_done v out₁ w = rw is_version at w

pub ruleset form_ways = (form_lacks, form_many, same_rules, form_few, form_room, form_done, rules)

-- ---- convert_sized

module _ (version : ℕ) (one : 1 ≤ version) (two : version ≤ 2) (from : ℕ) (form : List ℕ) (rows : ℕ) (S : Sized from form rows) (to : ℕ) (p : to ≡ place_of_t version from)
    (header : ℕ) (q : header ≡ (setting to).version.header) (out : List ℕ) where
  abbrev v : Version
  v = (setting (place_of_t version from)).version

  header_to_lem : header ≡ v.header
  header_to_lem = rw p at q

  asked_version : version_of all version ≡ some v
  asked_version = version_placed version from one two S.known

  pub sized_room : (a : Result ℕ Refusal) → length out < header + 16 * rows → a ≡ refused_t 3 0 → Says (converted all version form (length out)) out a out
  sized_room a h w = rw w (says_refused _ 3 0 out is)
    where
      fits : unsized (setting from) form ≡ false
      fits =
          let few = S.few in
          let some_rows = S.some_rows in
          let long = S.long in
          rw (S.counted, le-leb 1 rows some_rows, le-leb rows (setting from).version.rows few, eq-eqb (length form) ((setting from).version.header + 16 * rows) long)

      short : ltb (length out) (v.header + 16 * row_count (setting from).version form) ≡ true
      short = lt-ltb (length out) (v.header + 16 * row_count (setting from).version form) (omega (arith, S.counted, header_to_lem))

      is : converted all version form (length out) ≡ refused 3 0 []
      is = unfold converted converted_for converted_in when◌then◌else◌ in rw (S.asks, asked_version, fits, short)

  module _ (roomy : header + 16 * rows ≤ length out) where
    room_said : v.header + 16 * row_count (setting from).version form ≤ length out
    room_said = omega (arith, S.counted, header_to_lem)

    module _ (f : Result ℕ Refusal) (e : f ≡ form_of (read_form (setting from) form)) where
      pub sized_refused : (why : Refusal) → f ≡ Err why → (a : Result ℕ Refusal) → IsErrAnd a (λ refusal. refusal ≡ why) → Says (converted all version form (length out)) out a out
      sized_refused why g a w =
          let is = refused_read (setting from) form why (sym g ∙ e) in
          let p = err_from_is_err_and a w in
          rw (p.1, p.2) (says_refused _ why.number why.place out (refused_alike all all_coherent (setting from) form why.number why.place S.asks is version v asked_version (length out) room_said))

      pub sized_sound : (n : ℕ) → f ≡ Ok n → Sound from form rows
      sized_sound n g = let r = whole_read (setting from) form n (sym g ∙ e) in record { sized = S; tree = r.0; reads = r.1 }

    pub sized_fits : v.header + 16 * rows ≤ length out
    sized_fits = omega (arith, header_to_lem)

-- the bytes of the converted form are a number
pub sized_low : (from : ℕ) (form : List ℕ) (rows : ℕ) → Sized from form rows → (to header : ℕ) → header ≡ (setting to).version.header → Fits w64 (header + 16 * rows)
sized_low from form rows S to header q = let few = S.few in let most = few_rows from in let h = short_header to in omega arith

pub ruleset sized_ways = (sized_low, sized_room, sized_refused, sized_sound, sized_fits, rules)

-- ---- convert

module _ (version : ℕ) (form out : List ℕ) where
  abbrev Told : Result ℕ Refusal → List ℕ → Type 0
  Told = Says (converted all version form (length out)) out

  pub says : (a : Result ℕ Refusal) (new : List ℕ) → Told a new → (meaning a ≡ map_answer (rows_said all) (converted all version form (length out))) × (new ≡ converted_output all version form out)
  unfolding converted_output
  says a new w = (w.answers, w.leaves)

  -- no such version
  no_version : version_of all version ≡ none → converted all version form (length out) ≡ refused 1 0 []
  unfolding converted
  no_version e = go (setting_of all form)
    where
      go : (o : Option Setting) → converted_for all o (version_of all version) version form (length out) ≡ refused 1 0 []
      go none = unfold converted_for in refl
      go (some s) = unfold converted_for in rw e

  other_version : version < 1 → version_of all version ≡ none
  other_version h = let e : version ≡ 0 = omega arith in rw e (unfold version_of only ◌or_else◌ in refl)

  later_version : 2 < version → version_of all version ≡ none
  unfolding version_of only ◌or_else◌
  later_version h = rw (ne_eqb 1 version (λ e. omega arith), ne_eqb 2 version (λ e. omega arith))

  pub version_none : (a : Result ℕ Refusal) → version < 1 → a ≡ refused_t 1 0 → Told a out
  version_none a h w = rw w (says_refused _ 1 0 out (no_version (other_version h)))

  pub version_later : (a : Result ℕ Refusal) → 2 < version → a ≡ refused_t 1 0 → Told a out
  version_later a h w = rw w (says_refused _ 1 0 out (no_version (later_version h)))

  module _ (k : Result Asked BadHeader) (e : k ≡ asked_of form) where
    none_is : k ≡ Err Wrong → converted all version form (length out) ≡ refused 1 0 []
    none_is h = unfold converted converted_for in rw (asked_wrong form (sym h ∙ e))

    module _ (one : 1 ≤ version) (two : version ≤ 2) where
      pub asked_sized : (asked : Asked) → k ≡ Ok asked → Sized asked.setting form asked.rows
      asked_sized asked h =
          let g = asked_for form asked.setting asked.rows (sym h ∙ e) in
          let said = g.said in
          record { known = g.known; asks = g.asks; counted = said.counted; some_rows = said.some_rows; few = said.few; long = said.long }

      unsized_is : k ≡ Err Count → converted all version form (length out) ≡ refused 2 0 []
      unsized_is h = let g = asked_count form (sym h ∙ e) in counts g.0 g.1 g.2
        where
          counts : (s : Setting) → setting_of all form ≡ some s → unsized s form ≡ true → converted all version form (length out) ≡ refused 2 0 []
          counts s x y = unfold converted converted_for converted_in when◌then◌else◌ in rw (x, version_placed version 0 one two (omega arith), y)

      pub asked_bad : (why : BadHeader) → k ≡ Err why → (a : Result ℕ Refusal) → IsErrAnd a (λ refusal. refusal ≡ refusal_of why) → Told a out
      asked_bad why h a w = let p = err_from_is_err_and a w in rw (p.1, p.2) (go why h)
        where
          go : (bad : BadHeader) → k ≡ Err bad → Told (Err (refusal_of bad)) out
          go Wrong q = says_refused _ 1 0 out (none_is q)
          go Count q = says_refused _ 2 0 out (unsized_is q)

pub ruleset ways = (version_none, version_later, asked_sized, asked_bad, rules)
