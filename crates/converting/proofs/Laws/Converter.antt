-- The converter: the same rows, the same answer, and there and back the same bytes.
use Rattle.std.proofs.Math.Path.{◌≡◌, refl, ap, sym}
use Rattle.std.proofs.Common.{ap₂, ◌∙◌, subst, arith}
use Rattle.std.specs.Prelude.{Bool, ◌||◌, ◌↔◌, ℕ, suc, ◌+◌, ◌*◌, ◌^◌, ◌≤◌, ◌<◌, leb, length}
use Rattle.std.proofs.Math.Bool.{true, false, not}
use Rattle.std.proofs.Math.Option.{Option, none, some}
use mathlib.Core.List.{List, [], ◌++◌}
use Rattle.std.proofs.Math.Dec.{eqb, ltb}
use Rattle.std.proofs.Math.ListN.{drop, take-append-drop, length-append, length-drop}
use Rattle.rules.specs.Tools.{when◌then◌else◌, between, only, ◌or_else◌}
use Rattle.rules.specs.Versions.{RuleSet, Version, Setting, version1, version2, today, newer, all}
use Rattle.rules.specs.Rows.{Row}
use Rattle.rules.specs.Tree.{Scope, flatten, RowsRead, bad, deep, form}
use Rattle.rules.specs.Good.{height}
use Rattle.rules.specs.Begins.{IsForm, Deep}
use Rattle.rules.specs.Reader.{read}
use Rattle.rules.specs.Rules.{resolve_inside}
use Rattle.rules.specs.Answer
use Rattle.rules.specs.Answer.{AnswerOf, refused, accepted, map_answer, has_header, setting_of, row_count, rows_of, rows_in, answer, header_bytes}
use Rattle.rules.specs.Laws.ToolLaws.{and_left, and_right, eqb-true, eqb_same, leb-true, leb_le, leb_lt, leb-false}
use Rattle.rules.specs.Laws.RowLaws.{Bytes}
use Rattle.rules.proofs.Laws.Read.ReadRight.{read_right, reads_form}
use Rattle.rules.proofs.Laws.AnswerLaws.{Sized, answer_resolved}
use Rattle.rules.proofs.Laws.Output.OutBytes.{header_count, header_drop, header_length}
use Rattle.headers.specs.Laws.Written.{written_header, header_bytes_lem}
use Rattle.headers.specs.Laws.Settings.{headed, Plain, Among, here, there, among_plain, asked_among, setting_is, found_in}
use Rattle.read_form.specs.ReadForm.{as_answer, read_form}
use Rattle.read_form.proofs.Laws.ReadFormLaws.{no_answer, not_refused, past, neither, ReadAs, read_exactly, read_read}
use Rattle.converting.specs.Convert.{version_of, setting_with, recast, within_scopes, within_limits, if_form, converted_in, converted_for, converted, said_by, rows_said}
use Rattle.converting.proofs.Laws.Numbered.{Numbered, with_numbers, with_is, Coherent, version_is, all_coherent}

-- ---- a recast form

module _ (s t : Setting) (ps : Plain s) (pt : Plain t) (input : List ℕ) (few : row_count s.version input ≤ t.version.rows) where
  abbrev count : ℕ
  count = row_count s.version input

  abbrev rest : List ℕ
  rest = drop s.version.header input

  countable : count < 256 ^ t.version.counting
  countable = omega (arith, few, pt.usual.countable)

  pub recast_header : has_header t (recast s t input) ≡ true
  unfolding recast
  recast_header = written_header t count rest pt.usual.header

  pub recast_count : row_count t.version (recast s t input) ≡ count
  unfolding recast row_count
  recast_count = header_count t count rest countable

  recast_rest : drop t.version.header (recast s t input) ≡ rest
  unfolding recast
  recast_rest = header_drop t count rest pt.usual.header

  pub recast_length : length input ≡ s.version.header + 16 * count → length (recast s t input) ≡ t.version.header + 16 * count
  unfolding recast
  recast_length e = omega (arith, length-append (header_bytes t count) rest, header_length t count rest pt.usual.header, length-drop s.version.header input, e)

  -- the rows are the same
  recast_rows : rows_in t (recast s t input) ≡ rows_in s input
  recast_rows =
      ap₂ (λ (k : ℕ) (bs : List ℕ). rows_of t.version.names k bs) recast_count recast_rest
      ∙ ap (λ (n : ℕ). rows_of n count rest) (pt.top ∙ sym ps.top)

-- ---- what an acceptance says

-- two readings of the same rows as a form are the same
one_tree : (rules : RuleSet) (m n : ℕ) (rows : List (Option Row)) (a b : Scope) → read rules m rows ≡ form a → read rules n rows ≡ form b → a ≡ b
one_tree rules m n rows a b p q =
    let f = (read_right rules m rows (form a)).0 p in
    let g = (read_right rules n rows (form b)).0 q in
    let x = reads_form rules (m + n) rows a f.0 (omega (arith, f.1)) in
    let y = reads_form rules (m + n) rows b g.0 (omega (arith, g.1)) in
    let same : form a ≡ form b = sym x ∙ y in
    cc

-- ---- a form within the limits is converted

module _ (settings : List Setting) (w : Coherent settings) where
  -- a form of one of the settings asks for it
  asks_own : (s : Setting) (input : List ℕ) (tree : Scope) → Among s settings → read_form s input ≡ accepted tree → setting_of settings input ≡ some s
  asks_own s input tree a g =
      let h = ((read_exactly s input tree).0 g).headed in
      setting_is settings input s w.in_force a (headed s input h).marked h

  -- From one version to another of the same rules: every form within the limits of both, in a buffer that it fits.
  pub converts : (s t : Setting) (input : List ℕ) (tree : Scope) → Among s settings → Among t settings → t.rules.number ≡ s.rules.number → read_form s input ≡ accepted tree
      → row_count s.version input ≤ t.version.rows → height tree ≤ t.version.scopes
      → (room : ℕ) → t.version.header + 16 * row_count s.version input ≤ room
      → converted settings t.version.number input room ≡ accepted (recast s t input)
  unfolding converted converted_for converted_in if_form within_limits within_scopes when◌then◌else◌
  converts s t input tree among-s a same g few low room roomy =
      let r = (read_exactly s input tree).0 g in
      let rules : t.rules ≡ s.rules = w.one_rules t s a among-s same in
      let get : setting_with settings t.version.number s.rules.number ≡ some t =
      ap (setting_with settings t.version.number) (sym same) ∙ with_is settings t w.in_force a in
      let again : read t.rules t.version.scopes (rows_in s input) ≡ form tree =
      ap (λ (r : RuleSet). read r t.version.scopes (rows_in s input)) rules ∙ reads_form s.rules t.version.scopes (rows_in s input) tree r.is_form low in
      let fits : ltb room (t.version.header + 16 * row_count s.version input) ≡ false = leb-false (suc room) (t.version.header + 16 * row_count s.version input) (omega (arith, roomy)) in
      let within : ltb t.version.rows (row_count s.version input) ≡ false = leb-false (suc t.version.rows) (row_count s.version input) (omega (arith, few)) in
      rw (asks_own s input tree among-s g, version_is settings t w a, get, r.counted, r.long, fits, read_read s input tree g, within, again)

  -- What was converted: a form within the limits of both versions, which has the rules of the version asked for.
  pub record Converted (version : ℕ) (input new : List ℕ) (room : ℕ) : Type 0 where
    pub from : Setting
    pub to : Setting
    pub tree : Scope
    pub among_from : Among from settings
    pub among_to : Among to settings
    pub is_version : to.version.number ≡ version
    pub same_rules : to.rules ≡ from.rules
    pub reads : read_form from input ≡ accepted tree
    pub few : row_count from.version input ≤ to.version.rows
    pub low : height tree ≤ to.version.scopes
    pub roomy : to.version.header + 16 * row_count from.version input ≤ room
    pub is_new : recast from to input ≡ new

  pub was_converted : (version : ℕ) (input new : List ℕ) (room : ℕ) → converted settings version input room ≡ accepted new → Converted version input new room
  unfolding converted converted_in
  was_converted version input new room e = go (setting_of settings input) refl (version_of settings version) refl e
    where
      at_end : (s t : Setting) (v : Version) (tree tree' : Scope) → setting_of settings input ≡ some s → version_of settings version ≡ some v → Numbered settings version s.rules.number t
          → between 1 s.version.rows (row_count s.version input) ≡ true → eqb (length input) (s.version.header + 16 * row_count s.version input) ≡ true
          → ltb room (v.header + 16 * row_count s.version input) ≡ false → ltb t.version.rows (row_count s.version input) ≡ false
          → read s.rules s.version.scopes (rows_in s input) ≡ form tree → read t.rules t.version.scopes (rows_in s input) ≡ form tree'
          → recast s t input ≡ new → Converted version input new room
      at_end s t v tree tree' e q n c l roomy few r r' i =
          let among-s = asked_among settings input s e in
          let rules : t.rules ≡ s.rules = w.one_rules t s n.among among-s n.is_rules in
          let same_version : t.version ≡ v =
          let x : some t.version ≡ some v = sym (version_is settings t w n.among) ∙ (ap (version_of settings) n.is_version ∙ q) in cc in
          let header : t.version.header ≡ v.header = ap (λ (x : Version). x.header) same_version in
          let r'' : read s.rules t.version.scopes (rows_in s input) ≡ form tree' = ap (λ (x : RuleSet). read x t.version.scopes (rows_in s input)) (sym rules) ∙ r' in
          let same : tree ≡ tree' = one_tree s.rules s.version.scopes t.version.scopes (rows_in s input) tree tree' r r'' in
          let below = ((read_right s.rules t.version.scopes (rows_in s input) (form tree')).0 r'').1 in
          let is_form = (read_right s.rules s.version.scopes (rows_in s input) (form tree)).0 r in
          record {
            from = s;
            to = t;
            tree = tree;
            among_from = among-s;
            among_to = n.among;
            is_version = n.is_version;
            same_rules = rules;
            reads = (read_exactly s input tree).1 (record { headed = (found_in settings input s w.in_force e).has; counted = c; long = l; is_form = is_form.0; low = is_form.1 });
            few = omega (arith, leb_lt (suc t.version.rows) (row_count s.version input) few);
            low = rw same below;
            roomy = omega (arith, leb_lt (suc room) (v.header + 16 * row_count s.version input) roomy, header);
            is_new = i;
          }

      scoped : (s t : Setting) (r : RowsRead) → within_scopes s t input r ≡ accepted new → (tree : Scope) × (r ≡ form tree) × (recast s t input ≡ new)
      scoped s t (bad p) e = unfold within_scopes in no_answer 4 p [] new e
      scoped s t (deep p) e = unfold within_scopes in no_answer 5 p [] new e
      scoped s t (form tree) e = unfold within_scopes in (tree, refl, cc)

      limited : (s : Setting) (o : Option Setting) → within_limits s o input ≡ accepted new
          → (t : Setting) × (o ≡ some t) × (ltb t.version.rows (row_count s.version input) ≡ false) × (within_scopes s t input (read t.rules t.version.scopes (rows_in s input)) ≡ accepted new)
      limited s none e = unfold within_limits in no_answer 1 0 [] new e
      limited s (some t) e = unfold within_limits in
          let r = past (ltb t.version.rows (row_count s.version input)) 2 0 [] (within_scopes s t input (read t.rules t.version.scopes (rows_in s input))) new e in
          (t, refl, r.0, r.1)

      formed : (s : Setting) (o : Option Setting) (r : RowsRead) → if_form s o input r ≡ accepted new → (tree : Scope) × (r ≡ form tree) × (within_limits s o input ≡ accepted new)
      formed s o (bad p) e = unfold if_form in no_answer 4 p [] new e
      formed s o (deep p) e = unfold if_form in no_answer 5 p [] new e
      formed s o (form tree) e = unfold if_form in (tree, refl, e)

      sized : (s : Setting) (v : Version) → setting_of settings input ≡ some s → version_of settings version ≡ some v → converted_in s (setting_with settings version s.rules.number) v.header input room ≡ accepted new
          → Converted version input new room
      sized s v q z e =
          let a = past (not (between 1 s.version.rows (row_count s.version input)) || not (eqb (length input) (s.version.header + 16 * row_count s.version input))) 2 0 [] _ new e in
          let b = past (ltb room (v.header + 16 * row_count s.version input)) 3 0 [] _ new a.1 in
          let n = neither (between 1 s.version.rows (row_count s.version input)) (eqb (length input) (s.version.header + 16 * row_count s.version input)) a.0 in
          let f = formed s (setting_with settings version s.rules.number) (read s.rules s.version.scopes (rows_in s input)) b.1 in
          let l = limited s (setting_with settings version s.rules.number) f.2 in
          let c = scoped s l.0 (read l.0.rules l.0.version.scopes (rows_in s input)) l.3 in
          at_end s l.0 v f.0 c.0 q z (with_numbers settings version s.rules.number l.0 l.1) n.0 n.1 b.0 l.2 f.1 c.1 c.2

      go : (o : Option Setting) → setting_of settings input ≡ o → (x : Option Version) → version_of settings version ≡ x → converted_for settings o x version input room ≡ accepted new → Converted version input new room
      go none q x z e = unfold converted_for in no_answer 1 0 [] new e
      go (some s) q none z e = unfold converted_for in no_answer 1 0 [] new e
      go (some s) q (some v) z e = sized s v q z (unfold converted_for in e)

  -- ---- the same rows, and the same answer

  module _ (version : ℕ) (input new : List ℕ) (room : ℕ) (x : Converted version input new room) where
    abbrev s : Setting
    s = x.from

    abbrev t : Setting
    t = x.to

    plain_from : Plain s
    plain_from = among_plain settings s w.in_force x.among_from

    plain_to : Plain t
    plain_to = among_plain settings t w.in_force x.among_to

    as_read : ReadAs s input x.tree
    as_read = (read_exactly s input x.tree).0 x.reads

    header_new : has_header t new ≡ true
    header_new = ap (has_header t) (sym x.is_new) ∙ recast_header s t plain_from plain_to input x.few

    pub asks_new : setting_of settings new ≡ some t
    asks_new = setting_is settings new t w.in_force x.among_to (headed t new header_new).marked header_new

    count_new : row_count t.version new ≡ row_count s.version input
    count_new = ap (row_count t.version) (sym x.is_new) ∙ recast_count s t plain_from plain_to input x.few

    -- The header says as many rows.
    pub rows_said_lem : rows_said settings new ≡ row_count s.version input
    unfolding rows_said said_by
    rows_said_lem = rw asks_new count_new

    -- The rows are the same.
    pub rows_new : rows_in t new ≡ rows_in s input
    rows_new = ap (rows_in t) (sym x.is_new) ∙ recast_rows s t plain_from plain_to input x.few

    rest_new : drop t.version.header new ≡ drop s.version.header input
    rest_new = ap (drop t.version.header) (sym x.is_new) ∙ recast_rest s t plain_from plain_to input x.few

    form_again : IsForm t.rules (rows_in t new) x.tree
    form_again = subst (λ (r : RuleSet). IsForm r (rows_in t new) x.tree) (sym x.same_rules) (subst (λ (rs : List (Option Row)). IsForm s.rules rs x.tree) (sym rows_new) as_read.is_form)

    -- It is read as the same tree.
    pub reads_new : read_form t new ≡ accepted x.tree
    reads_new =
        let c = row_count s.version input in
        let positive : 1 ≤ c = leb_le 1 c (and_left (leb 1 c) (leb c s.version.rows) as_read.counted) in
        let size : length new ≡ t.version.header + 16 * c =
        ap length (sym x.is_new) ∙ recast_length s t plain_from plain_to input x.few (eqb-true (length input) (s.version.header + 16 * c) as_read.long) in
        (read_exactly t new x.tree).1 (record {
          headed = header_new;
          counted = rw (count_new, leb-true positive, leb-true x.few);
          long = rw (count_new, size) (eqb_same (t.version.header + 16 * c));
          is_form = form_again;
          low = x.low;
        })

    -- The answer is the same, whenever both have room: the rows that are written are, and refusals 6 to 13 with their places.
    pub same_answer : (room₁ room₂ : ℕ) → s.version.header + 64 * row_count s.version input ≤ room₁ → t.version.header + 64 * row_count s.version input ≤ room₂
        → answer settings new room₂ ≡ answer settings input room₁
    unfolding answer Answer.answer_inside Answer.answer_for
    same_answer room₁ room₂ a b =
        let c = row_count s.version input in
        let again = (read_exactly t new x.tree).0 reads_new in
        let sized : Sized [] s input room₁ =
        record { counted = as_read.counted; long = as_read.long; roomy = leb-false (suc room₁) (s.version.header + 64 * c) (omega (arith, a)) } in
        let sized_new : Sized [] t new room₂ =
        record { counted = again.counted; long = again.long; roomy = leb-false (suc room₂) (t.version.header + 64 * row_count t.version new) (omega (arith, b, count_new)) } in
        rw (asks_new, asks_own s input x.tree x.among_from x.reads)
        (answer_resolved [] t new room₂ sized_new x.tree form_again x.low
        ∙ (ap (λ (r : RuleSet). map_answer flatten (Answer.resolved (resolve_inside r [] x.tree))) x.same_rules
        ∙ sym (answer_resolved [] s input room₁ sized x.tree as_read.is_form as_read.low)))

    -- There and back gives the same bytes.
    pub there_and_back : Bytes input → (room' : ℕ) → length input ≤ room' → converted settings s.version.number new room' ≡ accepted input
    there_and_back b room' roomy =
        let c = row_count s.version input in
        let size = eqb-true (length input) (s.version.header + 16 * c) as_read.long in
        let few : c ≤ s.version.rows = leb_le c s.version.rows (and_right (leb 1 c) (leb c s.version.rows) as_read.counted) in
        let back = converts t s new x.tree x.among_to x.among_from (ap (λ (r : RuleSet). r.number) (sym x.same_rules)) reads_new (rw count_new few) as_read.low room' (rw count_new (omega (arith, size, roomy))) in
        let same : recast t s new ≡ input =
        unfold recast in rw (count_new, rest_new) (ap (λ (l : List ℕ). l ++ drop s.version.header input) (header_bytes_lem s input b plain_from.usual.header as_read.headed) ∙ take-append-drop s.version.header input) in
        back ∙ ap accepted same

  -- A form that has the version asked for is given back.
  pub given_back : (s : Setting) (input : List ℕ) (tree : Scope) → Bytes input → Among s settings → read_form s input ≡ accepted tree → (room : ℕ) → length input ≤ room
      → converted settings s.version.number input room ≡ accepted input
  given_back s input tree b a g room roomy =
      let r = (read_exactly s input tree).0 g in
      let c = row_count s.version input in
      let size = eqb-true (length input) (s.version.header + 16 * c) r.long in
      let few : c ≤ s.version.rows = leb_le c s.version.rows (and_right (leb 1 c) (leb c s.version.rows) r.counted) in
      let plain = among_plain settings s w.in_force a in
      let same : recast s s input ≡ input =
      unfold recast in ap (λ (l : List ℕ). l ++ drop s.version.header input) (header_bytes_lem s input b plain.usual.header r.headed) ∙ take-append-drop s.version.header input in
      converts s s input tree a a refl g few r.low room (omega (arith, size, roomy)) ∙ ap accepted same

  -- ---- what is refused besides the form as it is

  module _ (s : Setting) (input : List ℕ) (tree : Scope) (among-s : Among s settings) (g : read_form s input ≡ accepted tree) where
    own : setting_of settings input ≡ some s
    own = asks_own s input tree among-s g

    sound : ReadAs s input tree
    sound = (read_exactly s input tree).0 g

    tree_read : read s.rules s.version.scopes (rows_in s input) ≡ form tree
    tree_read = read_read s input tree g

    -- 1: the version asked for lacks its rules
    pub other_rules : (version : ℕ) (v : Version) → version_of settings version ≡ some v → setting_with settings version s.rules.number ≡ none
        → (room : ℕ) → v.header + 16 * row_count s.version input ≤ room → converted settings version input room ≡ refused 1 0 []
    unfolding converted converted_for converted_in if_form within_limits when◌then◌else◌
    other_rules version v a b room roomy =
        let fits : ltb room (v.header + 16 * row_count s.version input) ≡ false = leb-false (suc room) (v.header + 16 * row_count s.version input) (omega (arith, roomy)) in
        rw (own, a, b, sound.counted, sound.long, fits, tree_read)

    module _ (t : Setting) (a : Among t settings) (same : t.rules.number ≡ s.rules.number) (room : ℕ) where
      get : setting_with settings t.version.number s.rules.number ≡ some t
      get = ap (setting_with settings t.version.number) (sym same) ∙ with_is settings t w.in_force a

      -- 2: it allows fewer rows
      pub too_many : t.version.rows < row_count s.version input → t.version.header + 16 * row_count s.version input ≤ room
          → converted settings t.version.number input room ≡ refused 2 0 []
      unfolding converted converted_for converted_in if_form within_limits when◌then◌else◌
      too_many many roomy =
          let fits : ltb room (t.version.header + 16 * row_count s.version input) ≡ false = leb-false (suc room) (t.version.header + 16 * row_count s.version input) (omega (arith, roomy)) in
          rw (own, version_is settings t w a, get, sound.counted, sound.long, fits, tree_read, leb-true many)

      -- what the reading by its limits says
      pub limited : row_count s.version input ≤ t.version.rows → t.version.header + 16 * row_count s.version input ≤ room
          → converted settings t.version.number input room ≡ within_scopes s t input (read t.rules t.version.scopes (rows_in s input))
      unfolding converted converted_for converted_in if_form within_limits when◌then◌else◌
      limited few roomy =
          let fits : ltb room (t.version.header + 16 * row_count s.version input) ≡ false = leb-false (suc room) (t.version.header + 16 * row_count s.version input) (omega (arith, roomy)) in
          let within : ltb t.version.rows (row_count s.version input) ≡ false = leb-false (suc t.version.rows) (row_count s.version input) (omega (arith, few)) in
          rw (own, version_is settings t w a, get, sound.counted, sound.long, fits, tree_read, within)

      -- 5: at the OPEN while all scopes of that version are open, and only there
      pub too_deep : row_count s.version input ≤ t.version.rows → t.version.header + 16 * row_count s.version input ≤ room
          → (p : ℕ) → (converted settings t.version.number input room ≡ refused 5 p []) ↔ Deep t.rules t.version.scopes (rows_in s input) p
      too_deep few roomy p = (
        λ q. go (read t.rules t.version.scopes (rows_in s input)) refl (sym (limited few roomy) ∙ q),
        λ d. limited few roomy ∙ ap (within_scopes s t input) ((read_right t.rules t.version.scopes (rows_in s input) (deep p)).1 d) ∙ deep_is,
      )
        where
          deep_is : within_scopes s t input (deep p) ≡ refused 5 p []
          deep_is = unfold within_scopes in refl

          place_same : (q : ℕ) → ◌≡◌ {A = AnswerOf (List ℕ)} (refused 5 q []) (refused 5 p []) → q ≡ p
          place_same q y = cc

          go : (r : RowsRead) → read t.rules t.version.scopes (rows_in s input) ≡ r → within_scopes s t input r ≡ refused 5 p [] → Deep t.rules t.version.scopes (rows_in s input) p
          go (bad q) z y = unfold within_scopes in (let no_way : ◌≡◌ {A = ℕ} 4 5 = cc in absurd (omega arith))
          go (deep q) z y =
              let at : q ≡ p = place_same q (unfold within_scopes in y) in
              (read_right t.rules t.version.scopes (rows_in s input) (deep p)).0 (z ∙ ap deep at)
          go (form x) z y = unfold within_scopes in no_answer 5 p [] (recast s t input) (sym y)

  -- ---- and the form as it is, first of all

  -- Whatever is asked for, a form that is refused by itself is refused so, if the version asked for is one and there is room.
  pub refused_alike : (s : Setting) (input : List ℕ) (number place : ℕ) → setting_of settings input ≡ some s → read_form s input ≡ refused number place []
      → (version : ℕ) (v : Version) → version_of settings version ≡ some v → (room : ℕ) → v.header + 16 * row_count s.version input ≤ room
      → converted settings version input room ≡ refused number place []
  unfolding converted converted_for converted_in read_form when◌then◌else◌
  refused_alike s input number place e g version v a room roomy =
      let fits : ltb room (v.header + 16 * row_count s.version input) ≡ false = leb-false (suc room) (v.header + 16 * row_count s.version input) (omega (arith, roomy)) in
      rw (e, a) (go (not (between 1 s.version.rows (row_count s.version input)) || not (eqb (length input) (s.version.header + 16 * row_count s.version input))) fits (rw (found_in settings input s w.in_force e).has at g))
    where
      at_rows : (r : RowsRead) → as_answer r ≡ refused number place [] → if_form s (setting_with settings version s.rules.number) input r ≡ refused number place []
      at_rows (bad p) y = unfold as_answer if_form in (let n-is : ◌≡◌ {A = ℕ} 4 number = cc in let p-is : p ≡ place = cc in rw (n-is, p-is))
      at_rows (deep p) y = unfold as_answer if_form in (let n-is : ◌≡◌ {A = ℕ} 5 number = cc in let p-is : p ≡ place = cc in rw (n-is, p-is))
      at_rows (form t) y = unfold as_answer in not_refused t number place [] y

      go : (b : Bool) → ltb room (v.header + 16 * row_count s.version input) ≡ false → (when b then refused 2 0 [] else as_answer (read s.rules s.version.scopes (rows_in s input))) ≡ refused number place []
          → (when b then refused 2 0 [] else when ltb room (v.header + 16 * row_count s.version input) then refused 3 0 [] else if_form s (setting_with settings version s.rules.number) input (read s.rules s.version.scopes (rows_in s input))) ≡ refused number place []
      go true fits y = unfold when◌then◌else◌ in (let n-is : ◌≡◌ {A = ℕ} 2 number = cc in let p-is : ◌≡◌ {A = ℕ} 0 place = cc in rw (n-is, p-is))
      go false fits y = unfold when◌then◌else◌ in rw fits (at_rows (read s.rules s.version.scopes (rows_in s input)) y)

-- ---- the two versions

abbrev pub first : Setting
first = record { version = version1; rules = today }

abbrev pub second : Setting
second = record { version = version2; rules = today }

-- From 1 to 2 always: every form that version 1 reads.
pub one_to_two : (input : List ℕ) (tree : Scope) → read_form first input ≡ accepted tree → (room : ℕ) → 16 + 16 * row_count version1 input ≤ room
    → converted all 2 input room ≡ accepted (recast first second input)
one_to_two input tree g room roomy =
    let r = (read_exactly first input tree).0 g in
    let c = row_count version1 input in
    let few : c ≤ 1023 = leb_le c 1023 (and_right (leb 1 c) (leb c 1023) r.counted) in
    converts all all_coherent first second input tree here (there here) refl g (omega (arith, few)) (omega (arith, r.low)) room roomy

-- From 2 to 1 exactly if the limits of version 1 hold.
pub two_to_one : (input : List ℕ) (tree : Scope) → read_form second input ≡ accepted tree → (room : ℕ) → 8 + 16 * row_count version2 input ≤ room
    → ((row_count version2 input ≤ 1023) × (height tree ≤ 32)) ↔ (converted all 1 input room ≡ accepted (recast second first input))
two_to_one input tree g room roomy = (
  λ l. converts all all_coherent second first input tree (there here) here refl g l.0 l.1 room roomy,
  λ q. limits (was_converted all all_coherent 1 input (recast second first input) room q),
)
  where
    limits : Converted all all_coherent 1 input (recast second first input) room → (row_count version2 input ≤ 1023) × (height tree ≤ 32)
    limits x =
        let asks = asks_own all all_coherent x.from input x.tree x.among_from x.reads in
        let from : x.from ≡ second = let y : some x.from ≡ some second = sym asks ∙ asks_own all all_coherent second input tree (there here) g in cc in
        let to : x.to.version ≡ version1 = all_coherent.one_version x.to first x.among_to here x.is_version in
        let same_tree : x.tree ≡ tree = let y : accepted x.tree ≡ accepted tree = sym (rw from at x.reads) ∙ g in cc in
        let few : row_count x.from.version input ≤ x.to.version.rows = x.few in
        let low : height x.tree ≤ x.to.version.scopes = x.low in
        (rw (from, to) at few, rw (same_tree, to) at low)

abbrev pub under_newer : Setting
under_newer = record { version = version2; rules = newer }

-- What has rule set 1 does not go back.
pub newer_stays : (input : List ℕ) (tree : Scope) → read_form under_newer input ≡ accepted tree → (room : ℕ) → 8 + 16 * row_count version2 input ≤ room
    → converted all 1 input room ≡ refused 1 0 []
unfolding version_of setting_with only ◌or_else◌
newer_stays input tree g room roomy = other_rules all all_coherent under_newer input tree (there (there here)) g 1 version1 refl refl room roomy
