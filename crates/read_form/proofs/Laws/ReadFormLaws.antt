-- What is read is exactly a form of its setting; refusals 4 and 5 are said of trees alone. What the resolver takes and what it writes are read.
use Rattle.std.specs.Prelude.{◌≡◌, refl, Bool, true, false, ◌&&◌, ◌||◌, ◌↔◌, ℕ, ◌+◌, ◌*◌, ◌^◌, ◌≤◌, ◌<◌, eqb, length}
use Rattle.std.proofs.Math.Path.{ap}
use Rattle.std.proofs.Common.{sym, ◌∙◌, subst, arith}
use Rattle.std.proofs.Math.Bool.{not}
use Rattle.std.proofs.Math.Option.{some}
use mathlib.Core.List.{List, [], ◌∷◌, map, append-nil}
use Rattle.rules.specs.Tools.{when◌then◌else◌, between, only, ◌or_else◌}
use Rattle.rules.specs.Versions.{Setting, as_claimed, claimed}
use Rattle.rules.specs.Rows.{Row}
use Rattle.rules.specs.Tree.{Scope, scope, flatten, RowsRead, bad, deep, form}
use Rattle.rules.specs.Good.{height}
use Rattle.rules.specs.Begins.{IsForm, Bad, Deep}
use Rattle.rules.specs.Reader.{read}
use Rattle.rules.specs.Answer.{AnswerOf, refused, accepted, mark, has_header, setting_of, row_count, rows_in, form_in, rows_bytes, form_bytes}
use Rattle.headers.specs.Laws.Written.{written_header}
use Rattle.read_form.specs.ReadForm.{◌and_then◌, as_answer, read_form}
use Rattle.rules.specs.Laws.ToolLaws.{Ok, false_not, eqb_same, leb-true, All, all_map}
use Rattle.rules.specs.Laws.RowLaws.{Written, legal_wider, Bytes, bytes_drop}
use Rattle.rules.specs.Laws.Results.{no_option, some_same}
use Rattle.rules.proofs.Laws.Read.ReadRight.{read_right}
use Rattle.rules.proofs.Laws.Read.BeginsWritten.{rows_written_lem, all_some}
use Rattle.rules.proofs.Laws.Output.OutFits.{out_name}
use Rattle.rules.proofs.Laws.Output.OutBytes.{header_count, out_rows}
use Rattle.rules.proofs.Laws.InputLaws.{Usual, Accepted}
use Rattle.read_form.proofs.Laws.OutputLength.{form_length}

-- ---- answers

pub no_answer : {X A : Type 0} (n z : ℕ) (c : List ℕ) (a : A) → refused n z c ≡ accepted a → X
no_answer n z c a e = let no_way : ◌≡◌ {A = ℕ} 0 1 = cc in absurd (omega arith)

pub not_refused : {X A : Type 0} (a : A) (n z : ℕ) (c : List ℕ) → accepted a ≡ refused n z c → X
not_refused a n z c e = let no_way : ◌≡◌ {A = ℕ} 0 1 = cc in absurd (omega arith)

pub accepted_same : {A : Type 0} (a b : A) → accepted a ≡ accepted b → a ≡ b
accepted_same a b e = cc

pub then_inv : {A B : Type 0} (m : AnswerOf A) (f : A → AnswerOf B) (b : B) → (m and_then f) ≡ accepted b → (a : A) × (m ≡ accepted a) × (f a ≡ accepted b)
unfolding ◌and_then◌
then_inv (refused n z c) f b e = no_answer n z c b e
then_inv (accepted a) f b e = (a, refl, e)

-- a test that refuses
pub past : {A : Type 0} (b : Bool) (n z : ℕ) (c : List ℕ) (m : AnswerOf A) (a : A) → (when b then refused n z c else m) ≡ accepted a → (b ≡ false) × (m ≡ accepted a)
unfolding when◌then◌else◌
past true n z c m a e = no_answer n z c a e
past false n z c m a e = (refl, e)

not-true : (b : Bool) → not b ≡ false → b ≡ true
not-true true e = refl
not-true false e = false_not (sym e)

pub neither : (p q : Bool) → not p || not q ≡ false → (p ≡ true) × (q ≡ true)
neither true true e = (refl, refl)
neither true false e = false_not (sym e)
neither false q e = false_not (sym e)

-- ---- exactly a form

pub record ReadAs (s : Setting) (input : List ℕ) (t : Scope) : Type 0 where
  pub headed : has_header s input ≡ true
  pub counted : between 1 s.version.rows (row_count s.version input) ≡ true
  pub long : eqb (length input) (s.version.header + 16 * row_count s.version input) ≡ true
  pub is_form : IsForm s.rules (rows_in s input) t
  pub low : height t ≤ s.version.scopes

as_form : (r : RowsRead) (t : Scope) → as_answer r ≡ accepted t → r ≡ form t
unfolding as_answer
as_form (bad p) t e = no_answer 4 p [] t e
as_form (deep p) t e = no_answer 5 p [] t e
as_form (form t') t e = ap form (accepted_same t' t e)

as_bad : (r : RowsRead) (p : ℕ) → as_answer r ≡ refused 4 p [] → r ≡ bad p
unfolding as_answer
as_bad (bad q) p e = cc
as_bad (deep q) p e = let no_way : ◌≡◌ {A = ℕ} 5 4 = cc in absurd (omega arith)
as_bad (form t) p e = not_refused t 4 p [] e

as_deep : (r : RowsRead) (p : ℕ) → as_answer r ≡ refused 5 p [] → r ≡ deep p
unfolding as_answer
as_deep (bad q) p e = let no_way : ◌≡◌ {A = ℕ} 4 5 = cc in absurd (omega arith)
as_deep (deep q) p e = cc
as_deep (form t) p e = not_refused t 5 p [] e

module _ (s : Setting) (input : List ℕ) where
  abbrev reading : RowsRead
  reading = read s.rules s.version.scopes (rows_in s input)

  read_is : has_header s input ≡ true → between 1 s.version.rows (row_count s.version input) ≡ true → eqb (length input) (s.version.header + 16 * row_count s.version input) ≡ true
      → read_form s input ≡ as_answer reading
  unfolding read_form when◌then◌else◌
  read_is headed counted long = rw (headed, counted, long)

  -- What is read is exactly such a form.
  pub read_exactly : (t : Scope) → (read_form s input ≡ accepted t) ↔ ReadAs s input t
  unfolding read_form
  read_exactly t = (
    λ e.
        let p₁ = past (not (has_header s input)) 1 0 [] _ t e in
        let p₂ = past (not (between 1 s.version.rows (row_count s.version input)) || not (eqb (length input) (s.version.header + 16 * row_count s.version input))) 2 0 [] _ t p₁.1 in
        let sized = neither _ _ p₂.0 in
        let r = (read_right s.rules s.version.scopes (rows_in s input) (form t)).0 (as_form _ t p₂.1) in
        record { headed = not-true _ p₁.0; counted = sized.0; long = sized.1; is_form = r.0; low = r.1 },
    λ h. unfold as_answer in (read_is h.headed h.counted h.long ∙ ap as_answer ((read_right s.rules s.version.scopes (rows_in s input) (form t)).1 (h.is_form, h.low))),
  )

  -- the tree that is read
  pub read_read : (t : Scope) → read_form s input ≡ accepted t → read s.rules s.version.scopes (rows_in s input) ≡ form t
  read_read t e = let h = (read_exactly t).0 e in (read_right s.rules s.version.scopes (rows_in s input) (form t)).1 (h.is_form, h.low)

  -- ---- refusals 4 and 5, of trees alone

  module _ (headed : has_header s input ≡ true) (counted : between 1 s.version.rows (row_count s.version input) ≡ true)
      (long : eqb (length input) (s.version.header + 16 * row_count s.version input) ≡ true) where
    -- Refusal 4 at the first row which with those before it begins no form, and only there.
    pub read_4 : (p : ℕ) → (read_form s input ≡ refused 4 p []) ↔ Bad s.rules s.version.scopes (rows_in s input) p
    unfolding as_answer
    read_4 p = (
      λ e. (read_right s.rules s.version.scopes (rows_in s input) (bad p)).0 (as_bad _ p (sym (read_is headed counted long) ∙ e)),
      λ h. read_is headed counted long ∙ ap as_answer ((read_right s.rules s.version.scopes (rows_in s input) (bad p)).1 h),
    )

    -- Refusal 5 at the OPEN while all scopes are open, if no row up to it breaks the form, and only there.
    pub read_5 : (p : ℕ) → (read_form s input ≡ refused 5 p []) ↔ Deep s.rules s.version.scopes (rows_in s input) p
    unfolding as_answer
    read_5 p = (
      λ e. (read_right s.rules s.version.scopes (rows_in s input) (deep p)).0 (as_deep _ p (sym (read_is headed counted long) ∙ e)),
      λ h. read_is headed counted long ∙ ap as_answer ((read_right s.rules s.version.scopes (rows_in s input) (deep p)).1 h),
    )

-- ---- an input

pub asks_header : (settings : List Setting) (input : List ℕ) (s : Setting) → setting_of settings input ≡ some s → has_header s input ≡ true
unfolding setting_of only ◌or_else◌
asks_header [] input s e = no_option s e
asks_header (v ∷ vs) input s e = go (has_header v input) refl (λ h. asks_header vs input s h) e
  where
    go : (b : Bool) → has_header v input ≡ b → (setting_of vs input ≡ some s → has_header s input ≡ true) → (only b v or_else setting_of vs input) ≡ some s → has_header s input ≡ true
    go true q rec h = rw (some_same v s h) at q
    go false q rec h = rec h

-- what is resolved is read
pub input_read : (s : Setting) (input : List ℕ) (room : ℕ) (t r : Scope) → has_header s input ≡ true → form_in [] s input room ≡ accepted r
    → read s.rules s.version.scopes (rows_in s input) ≡ form t → read_form s input ≡ accepted t
unfolding form_in as_answer
input_read s input room t r headed e q =
    let p = past (not (between 1 s.version.rows (row_count s.version input)) || not (eqb (length input) (s.version.header + 16 * row_count s.version input))) 2 0 [] _ r e in
    let sized = neither _ _ p.0 in
    read_is s input headed sized.0 sized.1 ∙ ap as_answer q

-- ---- what is written

and_both : (a b : Bool) → a ≡ true → b ≡ true → a && b ≡ true
and_both true b p q = q
and_both false b p q = p

rows_some : (t : Scope) → 1 ≤ length (flatten t)
unfolding flatten
rows_some (scope kind name fs) = omega arith

-- the header of an output is that of its input's setting
pub claimed_header : (s : Setting) (input : List ℕ) → has_header s input ≡ true → has_header (as_claimed s) input ≡ true
unfolding has_header mark
claimed_header s input e = e

-- the rows of a form that is read can be written
pub read_written : (v : Setting) (input : List ℕ) (t : Scope) → Usual v → Bytes input → read_form v input ≡ accepted t → All (Written out_name) (flatten t)
read_written v input t u bs e =
    let F = ((read_exactly v input t).0 e).is_form in
    let w : All (Ok (Written v.version.names)) (map some (flatten t)) =
    subst (All (Ok (Written v.version.names))) (sym F.of_tree) (rows_written_lem v.version.names (row_count v.version input) _ (bytes_drop v.version.header input bs)) in
    let low = u.low in
    all_map (flatten t) (λ row h. record { fits = h.fits; legal = legal_wider v.version.names out_name row (omega arith) h.legal }) (all_some v.version.names (flatten t) w)

-- A tree within the limits of a claim whose rows can be written, and are read as it: what is written is read as that tree.
pub written_read : (v : Setting) (c : Scope) → Usual v → length (flatten c) ≤ 4 * v.version.rows → All (Written out_name) (flatten c) → read v.rules v.version.scopes (map some (flatten c)) ≡ form c
    → read_form (as_claimed v) (form_bytes v (flatten c)) ≡ accepted c
unfolding form_bytes row_count
written_read v c u four-rows fit reads_rows =
    let out = flatten c in
    let bytes-out = form_bytes v out in
    let low : length out < 256 ^ v.version.counting = omega (arith, u.countable) in
    let count : row_count (claimed v.version) bytes-out ≡ length out = header_count v (length out) (rows_bytes out) low in
    let long : length bytes-out ≡ v.version.header + 16 * length out = form_length v out u in
    let rows : rows_in (as_claimed v) bytes-out ≡ map some out = ap (rows_in (as_claimed v)) (sym (append-nil bytes-out)) ∙ out_rows v out [] u.header low fit in
    let reads = ap (read v.rules v.version.scopes) rows ∙ reads_rows in
    let is_form = (read_right v.rules v.version.scopes (rows_in (as_claimed v) bytes-out) (form c)).0 reads in
    (read_exactly (as_claimed v) bytes-out c).1 (record {
      headed = claimed_header v bytes-out (written_header v (length out) (rows_bytes out) u.header);
      counted = subst (λ (k : ℕ). between 1 (4 * v.version.rows) k ≡ true) (sym count) (and_both _ _ (leb-true (rows_some c)) (leb-true four-rows));
      long = subst (λ (k : ℕ). eqb (length bytes-out) (v.version.header + 16 * k) ≡ true) (sym count)
          (subst (λ (k : ℕ). eqb k (v.version.header + 16 * length out) ≡ true) (sym long) (eqb_same (v.version.header + 16 * length out)));
      is_form = is_form.0;
      low = is_form.1;
    })

-- Of every accepted input: the form that is written is read, as the tree that it is read as.
pub ours_read : (settings : List Setting) (input old : List ℕ) (out : List Row) (a : Accepted settings input old out)
    → read_form (as_claimed a.setting) (form_bytes a.setting out) ≡ accepted a.after
ours_read settings input old out a =
    let v = a.setting in
    let same : length (flatten a.after) ≡ length out = ap length a.of_tree in
    subst (λ (rs : List Row). read_form (as_claimed v) (form_bytes v rs) ≡ accepted a.after) a.of_tree
    (written_read v a.after a.usual (omega (arith, same, a.four, a.counted)) (subst (All (Written out_name)) (sym a.of_tree) a.fit)
    (ap (λ (rs : List Row). read v.rules v.version.scopes (map some rs)) a.of_tree ∙ (ap (read v.rules v.version.scopes) (sym a.rows_out) ∙ a.reads_out)))
