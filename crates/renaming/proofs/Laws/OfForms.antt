-- A mapping that keeps different the names that stand in a form: the same refusal, or the same output but for the names.
use Rattle.std.specs.Prelude.{◌≡◌, Bool, ◌&&◌, ℕ, zero, suc, ◌+◌, ◌*◌, ◌≤◌, ◌<◌, eqb, leb, length, take, drop, replicate}
use Rattle.std.proofs.Math.Path.{refl, ap, sym}
use Rattle.std.proofs.Common.{ap₂, ◌∙◌, subst, arith}
use Rattle.std.proofs.Math.Bool.{true, false}
use Rattle.std.proofs.Math.Option.{Option, none, some}
use mathlib.Core.List.{List, [], ◌∷◌, ◌++◌, map}
use Rattle.std.proofs.lemmas.List.{length-replicate}
use Rattle.rules.specs.Tools.{when◌then◌else◌, is_in, between}
use Rattle.rules.specs.Versions.{Setting, top_name}
use Rattle.rules.specs.Rows.{Index, Num, Id, Row, Field, Decl, Ref, Path, Outer, Case, Open, Close, Export}
use Rattle.rules.specs.Tree.{Scope, flatten, RowsRead, form}
use Rattle.rules.specs.Begins.{IsForm}
use Rattle.rules.specs.Rules.{fresh}
use Rattle.rules.specs.Answer
use Rattle.rules.specs.Answer.{AnswerOf, refused, accepted, map_answer, setting_of, row_count, rows_of, rows_in, form_in, answer_in, answer, output_after, output}
use Rattle.renaming.specs.Renaming.{KeepsOn, renamed_index, renamed_row, renamed_rows, renamed, renamed_in, renamed_for, renamed_bytes, name_in, index_names, row_names, names_of, by_first}
use Rattle.rules.specs.Laws.ToolLaws.{All, done, ◌&◌, false_not, and_left, and_right, eqb_same, eqb-false, leb_le}
use Rattle.rules.specs.Laws.RowLaws.{Bytes}
use Rattle.rules.proofs.Laws.Read.ReadRight.{read_right}
use Rattle.rules.proofs.Laws.Read.BeginsWritten.{rows_length}
use Rattle.rules.proofs.Laws.InputLaws.{Usual, AllUsual, readings}
use Rattle.headers.specs.Laws.Settings.{Plain, InForce, found_in}
use Rattle.renaming.proofs.Laws.Bytes.{renaming_answer, renaming_buffer, buffer_for}
use Rattle.renaming.proofs.Laws.OwnNames.{InRange, Extended, extend, in_left, in_right, rows_agree, rows_range, by_first_keeps}
use Rattle.renaming.proofs.Laws.OutNames.{RowHas, ScopeHas, scope_from, scope_to, out_has}

all_usual_of : (settings : List Setting) → InForce settings → AllUsual settings
all_usual_of [] l = tt
all_usual_of (s ∷ ss) l = (l.0.usual, all_usual_of ss l.2)

-- ---- names among these, or no names of an input

module _ (ns : List ℕ) where
  abbrev Known : ℕ → Type 0
  Known n = 1 ≤ n → n ≤ top_name → is_in n ns ≡ true

  fresh_known : (k : ℕ) → Known (fresh k)
  unfolding fresh
  fresh_known k l h = absurd (omega (arith, h))

  own_name : (n : ℕ) → ¬ (n ≡ 0) → is_in n (name_in n) ≡ true
  unfolding name_in when◌then◌else◌
  own_name n h = rw (eqb-false n 0 h, eqb_same n)

  name_known : (n : ℕ) → ((m : ℕ) → is_in m (name_in n) ≡ true → is_in m ns ≡ true) → Known n
  name_known n a l h = a n (own_name n (λ e. omega (arith, l, e)))

  index_known : (i : Index) → ((m : ℕ) → is_in m (index_names i) ≡ true → is_in m ns ≡ true) → RowHas Known (Ref 0 i 0 0)
  index_known (Num n) a = tt
  index_known (Id n) a = name_known n a

  row_known : (row : Row) → ((m : ℕ) → is_in m (row_names row) ≡ true → is_in m ns ≡ true) → RowHas Known row
  unfolding row_names
  row_known (Field code builtin z) a = tt
  row_known (Decl space name z) a = name_known name a
  row_known (Ref space at paths z) a = index_known at a
  row_known (Path name) a = tt
  row_known (Outer space up at z) a =
      (index_known up (λ m i. a m (in_left m (index_names up) (index_names at) i)), index_known at (λ m i. a m (in_right m (index_names up) (index_names at) i)))
  row_known (Case name z) a = name_known name a
  row_known (Open kind name) a = name_known name a
  row_known Close a = tt
  row_known (Export name) a = tt

  rows_known : (rows : List Row) → ((m : ℕ) → is_in m (names_of (map some rows)) ≡ true → is_in m ns ≡ true) → All (RowHas Known) rows
  unfolding names_of
  rows_known [] a = done
  rows_known (row ∷ rows) a =
      row_known row (λ m i. a m (in_left m (row_names row) (names_of (map some rows)) i))
      & rows_known rows (λ m i. a m (in_right m (row_names row) (names_of (map some rows)) i))

  -- two mappings that agree on them
  module _ (f g : ℕ → ℕ) (agree : (n : ℕ) → is_in n ns ≡ true → f n ≡ g n) where
    name_same : (n : ℕ) → Known n → renamed f n ≡ renamed g n
    unfolding renamed
    name_same n k = go (between 1 top_name n) refl
      where
        go : (b : Bool) → between 1 top_name n ≡ b → (when b then f n else n) ≡ (when b then g n else n)
        go true e = unfold when◌then◌else◌ in agree n (k (leb_le 1 n (and_left (leb 1 n) (leb n top_name) e)) (leb_le n top_name (and_right (leb 1 n) (leb n top_name) e)))
        go false e = unfold when◌then◌else◌ in refl

    index_same : (i : Index) → RowHas Known (Ref 0 i 0 0) → renamed_index (renamed f) i ≡ renamed_index (renamed g) i
    index_same (Num n) k = refl
    index_same (Id n) k = ap Id (name_same n k)

    row_same : (row : Row) → RowHas Known row → renamed_row (renamed f) row ≡ renamed_row (renamed g) row
    unfolding renamed_row
    row_same (Field code builtin z) k = refl
    row_same (Decl space name z) k = rw (name_same name k)
    row_same (Ref space at paths z) k = rw (index_same at k)
    row_same (Path name) k = refl
    row_same (Outer space up at z) k = rw (index_same up k.0, index_same at k.1)
    row_same (Case name z) k = rw (name_same name k)
    row_same (Open kind name) k = rw (name_same name k)
    row_same Close k = refl
    row_same (Export name) k = refl

    rows_same : (rows : List Row) → All (RowHas Known) rows → map (renamed_row (renamed f)) rows ≡ map (renamed_row (renamed g)) rows
    rows_same [] a = refl
    rows_same (row ∷ rows) (k & a) = ap₂ (λ (x : Row) (xs : List Row). x ∷ xs) (row_same row k) (rows_same rows a)

-- ---- an input and its names

module _ (settings : List Setting) (l : InForce settings) (input : List ℕ) (bs : Bytes input) (s : Setting) (asks : setting_of settings input ≡ some s) where
  abbrev pub names : List ℕ
  names = names_of (rows_in s input)

  same_rows : rows_in s input ≡ rows_of top_name (row_count s.version input) (drop s.version.header input)
  same_rows = ap (λ (n : ℕ). rows_of n (row_count s.version input) (drop s.version.header input)) (found_in settings input s l asks).plain.top

  -- every name in the rows that are written is one of them, or fresh
  out_known : (room : ℕ) (out : List Row) → answer settings input room ≡ accepted out → All (RowHas (Known names)) out
  out_known room out e =
      let old : List ℕ = replicate room 0 in
      let size : length old ≡ room = length-replicate {A = ℕ} room 0 in
      let a = readings settings (all_usual_of settings l) input old bs out (ap (answer settings input) size ∙ e) in
      let same_setting : a.setting ≡ s = let two : some a.setting ≡ some s = sym a.asked_for ∙ asks in cc in
      let f = ((read_right a.setting.rules a.setting.version.scopes (rows_in a.setting input) (form a.before)).0 a.reads).0 in
      let rows : map some (flatten a.before) ≡ rows_in s input = f.of_tree ∙ ap (λ (x : Setting). rows_in x input) same_setting in
      let known_in : All (RowHas (Known names)) (flatten a.before) =
      rows_known names (flatten a.before) (λ m i. subst (λ (x : List (Option Row)). is_in m (names_of x) ≡ true) rows i) in
      let after = out_has (Known names) (fresh_known names) a.setting.rules [] a.before (a.after, a.next) (scope_from (Known names) a.before known_in) a.resolves in
      let is-out : flatten a.after ≡ out = written_out old out a.setting a.after a.asked_for a.forms (ap (answer settings input) size ∙ e) in
      subst (All (RowHas (Known names))) is-out (scope_to (Known names) a.after after)
    where
      written_out : (old : List ℕ) (out : List Row) (v : Setting) (t : Scope) → setting_of settings input ≡ some v → form_in [] v input (length old) ≡ accepted t
          → answer settings input (length old) ≡ accepted out → flatten t ≡ out
      written_out old out v t q g e =
          let whole : answer settings input (length old) ≡ accepted (flatten t) = unfold answer Answer.answer_inside Answer.answer_for answer_in map_answer in rw (q, g) in
          let both : accepted (flatten t) ≡ accepted out = sym whole ∙ e in
          cc

  module _ (f : ℕ → ℕ) (k : KeepsOn names f) where
    all_of : Extended names f
    all_of = extend names f k (rw same_rows (rows_range (row_count s.version input) (drop s.version.header input)))

    bytes_same : renamed_bytes f settings input ≡ renamed_bytes all_of.whole settings input
    unfolding renamed_bytes renamed_for renamed_in
    bytes_same =
        let rows = rows_agree f all_of.whole (row_count s.version input) (drop s.version.header input) (λ n i. sym (all_of.agrees n (rw same_rows i))) in
        rw (asks, rows)

    rows_mapped : (room : ℕ) (a : AnswerOf (List Row)) → answer settings input room ≡ a
        → map_answer (map (renamed_row (renamed all_of.whole))) a ≡ map_answer (map (renamed_row (renamed f))) a
    unfolding map_answer
    rows_mapped room (refused n p c) e = refl
    rows_mapped room (accepted out) e = ap accepted (rows_same names all_of.whole f all_of.agrees out (out_known room out e))

    -- The refusal, its place and what it carries are the same, or the rows are but for the names.
    pub names_answer : (room : ℕ) → answer settings (renamed_bytes f settings input) room ≡ map_answer (map (renamed_row (renamed f))) (answer settings input room)
    names_answer room =
        ap (λ (x : List ℕ). answer settings x room) bytes_same
        ∙ (renaming_answer all_of.whole all_of.keeps settings l input bs room ∙ rows_mapped room (answer settings input room) refl)

    -- And the output buffer holds what it would hold after that refusal, or after those rows.
    pub names_output : (old : List ℕ)
        → output settings (renamed_bytes f settings input) old
        ≡ output_after s (map_answer (map (renamed_row (renamed f))) (answer settings input (length old))) (s.version.header + 64 * row_count s.version input) old
    names_output old =
        let same : answer_in [] s input (length old) ≡ answer settings input (length old) = unfold answer Answer.answer_inside Answer.answer_for in rw asks in
        let buffer : output settings (renamed_bytes all_of.whole settings input) old ≡ buffer_for all_of.whole all_of.keeps [] (setting_of settings input) input old =
        unfold output in renaming_buffer all_of.whole all_of.keeps [] settings l input old bs in
        ap (λ (x : List ℕ). output settings x old) bytes_same
        ∙ (buffer ∙ (ap (λ (o : Option Setting). buffer_for all_of.whole all_of.keeps [] o input old) asks
        ∙ ap (λ (a : AnswerOf (List Row)). output_after s a (s.version.header + 64 * row_count s.version input) old)
        (ap (map_answer (map (renamed_row (renamed all_of.whole)))) same ∙ rows_mapped (length old) (answer settings input (length old)) refl)))

  -- The mapping by first appearance is one of them.
  pub first_names : 2 * row_count s.version input < top_name → KeepsOn names (by_first (rows_in s input))
  first_names few = by_first_keeps (rows_in s input) (rw (rows_length s.version.names (row_count s.version input) (drop s.version.header input)) few)

  pub anonymous_answer : 2 * row_count s.version input < top_name → (room : ℕ)
      → answer settings (renamed_bytes (by_first (rows_in s input)) settings input) room ≡ map_answer (map (renamed_row (renamed (by_first (rows_in s input))))) (answer settings input room)
  anonymous_answer few room = names_answer (by_first (rows_in s input)) (first_names few) room
