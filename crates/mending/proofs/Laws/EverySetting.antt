-- What holds of mending, for all usual settings that a spoilt header tells apart.
use Rattle.std.specs.Prelude.{◌≡◌, refl, Bool, true, false, ◌&&◌, ◌||◌, ℕ, ◌+◌, ◌≤◌, ◌<◌, leb, length, take, drop, get_or}
use Rattle.std.proofs.Common.{ap, sym, ◌∙◌, arith}
use Rattle.std.proofs.Math.Path.{subst}
use Rattle.std.proofs.Math.Option.{Option, none, some}
use mathlib.Core.List.{List, [], ◌∷◌}
use Rattle.std.proofs.Math.Dec.{eqb}
use Rattle.rules.specs.Tools.{only, ◌or_else◌}
use Rattle.rules.specs.Versions.{Setting, base, all}
use Rattle.rules.specs.Rows.{bytes}
use Rattle.rules.specs.Tree.{Scope}
use Rattle.rules.specs.Answer
use Rattle.rules.specs.Answer.{accepted, has_header, setting_of, same_numbers}
use Rattle.read_form.specs.ReadForm.{read_form}
use Rattle.mending.specs.Mend
use Rattle.mending.specs.Mend.{Change, undo, Mending, mended, mend_in, asks_for, setting_for, mend}
use Rattle.rules.specs.Laws.ToolLaws.{Ok, ok_at, false_not, leb_le, or-true, All, done, ◌&◌}
use Rattle.rules.specs.Laws.RowLaws.{Bytes}
use Rattle.rules.specs.Laws.Results.{some_same}
use Rattle.rules.proofs.Laws.InputLaws.{Usual, AllUsual, setting_usual}
use Rattle.read_form.proofs.Laws.ReadFormLaws.{read_exactly, asks_header}
use Rattle.mending.proofs.Laws.Pieces.{Outside, same_lists, lists_same}
use Rattle.mending.proofs.Laws.Undone
use Rattle.mending.proofs.Laws.Undone.{mended_is}
use Rattle.mending.proofs.Laws.SoundRows.{take_within}
use Rattle.mending.proofs.Laws.SoundStays
use Rattle.mending.proofs.Laws.SoundStays.{three}

-- ---- which setting a form is mended under

-- the first five bytes of a header, and byte 5
first_five : (s : Setting) (input : List ℕ) → 6 + s.version.counting ≤ s.version.header → Bytes input → has_header s input ≡ true → take 5 input ≡ take 5 (Answer.mark s)
first_five s input h a e =
    let P = SoundStays.parted s input h a e in
    sym (take_within input 0 5 6 (omega arith)) ∙ ap (λ (l : List ℕ). take 5 l) (same_lists (take 6 input) (Answer.mark s) P.1)

-- a form with a setting's header asks for it
headed_asks : (s : Setting) (input : List ℕ) → 6 + s.version.counting ≤ s.version.header → Bytes input → has_header s input ≡ true → asks_for s input ≡ true
unfolding asks_for
headed_asks s input h a e =
    rw ((SoundStays.parted s input h a e).0, first_five s input h a e, lists_same (take 5 (Answer.mark s)), SoundStays.byte_5 s input h a e, lists_same (bytes 1 s.rules.number)) (or-true (eqb s.version.number 1))

-- does a header of `b` ask for `a`?
unfoldable pub asks_like : (a b : Setting) → Bool
asks_like a b = same_numbers (take 5 (Answer.mark b)) (take 5 (Answer.mark a)) && (eqb a.version.number 1 || same_numbers (bytes 1 b.rules.number) (bytes 1 a.rules.number))

-- none does for one that stands before its own
abbrev pub Apart : List Setting → Type 0
Apart [] = Unit {0}
Apart (v ∷ vs) = All (λ w. asks_like v w ≡ false) vs × Apart vs

pub base_apart : Apart base
base_apart = (done, tt)

pub all_apart : Apart all
unfolding asks_like Answer.mark bytes same_numbers
all_apart = (refl & (refl & done), (refl & done, (done, tt)))

asks_apart : (v w : Setting) (input : List ℕ) → 6 + w.version.counting ≤ w.version.header → Bytes input → has_header w input ≡ true → asks_like v w ≡ false → asks_for v input ≡ false
unfolding asks_like
asks_apart v w input h a e f = go (asks_for v input) refl
  where
    both : (p q : Bool) → p ≡ true → q ≡ true → p && q ≡ true
    both p q e₁ e₂ = rw (e₁, e₂)

    go : (b : Bool) → asks_for v input ≡ b → asks_for v input ≡ false
    go false q = q
    go true q =
        let T = three (leb v.version.header (length input)) (same_numbers (take 5 input) (take 5 (Answer.mark v))) (eqb v.version.number 1 || same_numbers (take 1 (drop 5 input)) (bytes 1 v.rules.number)) (unfold asks_for in q) in
        let one = subst (λ (l : List ℕ). same_numbers l (take 5 (Answer.mark v)) ≡ true) (first_five w input h a e) T.1 in
        let two = subst (λ (l : List ℕ). eqb v.version.number 1 || same_numbers l (bytes 1 v.rules.number) ≡ true) (SoundStays.byte_5 w input h a e) T.2 in
        false_not (sym f ∙ both _ _ one two)

setting_all : (P : Setting → Type 0) (vs : List Setting) (input : List ℕ) → All P vs → Ok P (setting_of vs input)
unfolding setting_of only ◌or_else◌
setting_all P [] input done = tt
setting_all P (v ∷ vs) input (h & a) = go (has_header v input) (setting_all P vs input a)
  where
    go : (b : Bool) → Ok P (setting_of vs input) → Ok P (only b v or_else setting_of vs input)
    go true r = h
    go false r = r

for_all : (P : Setting → Type 0) (vs : List Setting) (input : List ℕ) → All P vs → Ok P (setting_for vs input)
unfolding setting_for only ◌or_else◌
for_all P [] input done = tt
for_all P (v ∷ vs) input (h & a) = go (asks_for v input) (for_all P vs input a)
  where
    go : (b : Bool) → Ok P (setting_for vs input) → Ok P (only b v or_else setting_for vs input)
    go true r = h
    go false r = r

-- the setting that is mended under is usual, and asked for
for_usual : (vs : List Setting) (input : List ℕ) → AllUsual vs → Ok (λ s. Usual s × (asks_for s input ≡ true)) (setting_for vs input)
unfolding setting_for only ◌or_else◌
for_usual [] input l = tt
for_usual (v ∷ vs) input l = go (asks_for v input) refl (for_usual vs input l.1)
  where
    go : (b : Bool) → asks_for v input ≡ b → Ok (λ (s : Setting). Usual s × (asks_for s input ≡ true)) (setting_for vs input) → Ok (λ (s : Setting). Usual s × (asks_for s input ≡ true)) (only b v or_else setting_for vs input)
    go true q r = (l.0, q)
    go false q r = r

-- a form is mended under the setting of its header
chooses : (vs : List Setting) → AllUsual vs → Apart vs → (input : List ℕ) → Bytes input → (s : Setting) → setting_of vs input ≡ some s → setting_for vs input ≡ some s
unfolding setting_of setting_for only ◌or_else◌
chooses [] l d input a s e = e
chooses (v ∷ vs) l d input a s e = go (has_header v input) refl e (λ f. chooses vs l.1 d.1 input a s f)
  where
    go : (b : Bool) → has_header v input ≡ b → (only b v or_else setting_of vs input) ≡ some s → (setting_of vs input ≡ some s → setting_for vs input ≡ some s) → (only (asks_for v input) v or_else setting_for vs input) ≡ some s
    go true q f r = rw (headed_asks v input l.0.header a q) f
    go false q f r =
        let u = ok_at Usual (setting_of vs input) s (setting_usual vs input l.1) f in
        let n = ok_at (λ (w : Setting). asks_like v w ≡ false) (setting_of vs input) s (setting_all (λ (w : Setting). asks_like v w ≡ false) vs input d.0) f in
        rw (asks_apart v s input u.header a (asks_header vs input s f) n) (r f)

-- and the mended form has that header
chosen_again : (vs : List Setting) → AllUsual vs → Apart vs → (input new : List ℕ) → Bytes new → (s : Setting) → setting_for vs input ≡ some s → has_header s new ≡ true → setting_of vs new ≡ some s
unfolding setting_of setting_for only ◌or_else◌
chosen_again [] l d input new a s e h = e
chosen_again (v ∷ vs) l d input new a s e h = go (asks_for v input) (has_header v new) refl e (λ f. chosen_again vs l.1 d.1 input new a s f h)
  where
    go : (b c : Bool) → has_header v new ≡ c → (only b v or_else setting_for vs input) ≡ some s → (setting_for vs input ≡ some s → setting_of vs new ≡ some s) → (only c v or_else setting_of vs new) ≡ some s
    go true true q f r = f
    go true false q f r = false_not (sym q ∙ (ap (λ (x : Setting). has_header x new) (some_same v s f) ∙ h))
    go false false q f r = r f
    go false true q f r =
        let u = (ok_at (λ (w : Setting). Usual w × (asks_for w input ≡ true)) (setting_for vs input) s (for_usual vs input l.1) f).0 in
        let n = ok_at (λ (w : Setting). asks_like v w ≡ false) (setting_for vs input) s (for_all (λ (w : Setting). asks_like v w ≡ false) vs input d.0) f in
        false_not (sym (asks_apart v s new u.header a h n) ∙ headed_asks v new l.0.header a q)

no_mended : {X : Type 0} (number place : ℕ) (new : List ℕ) (list : List Change) → Mending.refused number place ≡ mended new list → X
no_mended number place new list e = let z : ◌≡◌ {A = ℕ} 0 1 = cc in absurd (omega arith)

was_chosen : (vs : List Setting) (input : List ℕ) (room space : ℕ) (new : List ℕ) (list : List Change) → mend vs input room space ≡ mended new list
    → (s : Setting) × (setting_for vs input ≡ some s) × (mend_in s input room space ≡ mended new list)
unfolding mend Mend.mend_for
was_chosen vs input room space new list e = go (setting_for vs input) refl e
  where
    go : (o : Option Setting) → setting_for vs input ≡ o → Mend.mend_for o input room space ≡ mended new list → (s : Setting) × (setting_for vs input ≡ some s) × (mend_in s input room space ≡ mended new list)
    go none q f = no_mended 1 0 new list f
    go (some s) q f = (s, q, f)

mends_in : (vs : List Setting) (input : List ℕ) (room space : ℕ) (s : Setting) → setting_for vs input ≡ some s → mend vs input room space ≡ mend_in s input room space
unfolding mend Mend.mend_for
mends_in vs input room space s e = rw e

asks_long : (s : Setting) (input : List ℕ) → asks_for s input ≡ true → s.version.header ≤ length input
unfolding asks_for
asks_long s input e =
    leb_le s.version.header (length input)
    (three (leb s.version.header (length input)) (same_numbers (take 5 input) (take 5 (Answer.mark s))) (eqb s.version.number 1 || same_numbers (take 1 (drop 5 input)) (bytes 1 s.rules.number)) e).0

-- ---- the theorems

module _ (settings : List Setting) (l : AllUsual settings) where
  -- A form that 01 reads, and for which there is room, stays, with an empty list.
  pub sound_form_stays : Apart settings → (input : List ℕ) → Bytes input → (s : Setting) → setting_of settings input ≡ some s → (tree : Scope) → read_form s input ≡ accepted tree
      → (room space : ℕ) → length input ≤ room → mend settings input room space ≡ mended input []
  sound_form_stays d input a s asks tree e room space fits =
      let u = ok_at Usual (setting_of settings input) s (setting_usual settings input l) asks in
      mends_in settings input room space s (chooses settings l d input a s asks) ∙ SoundStays.sound_stays s input tree u.header a e room space fits

  module _ (input : List ℕ) (room space : ℕ) (new : List ℕ) (list : List Change) (e : mend settings input room space ≡ mended new list) where
    abbrev W : (s : Setting) × (setting_for settings input ≡ some s) × (mend_in s input room space ≡ mended new list)
    W = was_chosen settings input room space new list e

    abbrev U : Usual W.0 × (asks_for W.0 input ≡ true)
    U = ok_at (λ (s : Setting). Usual s × (asks_for s input ≡ true)) (setting_for settings input) W.0 (for_usual settings input l) W.1

    -- A mended form is one that 01 reads: none of refusals 1, 2, 4 and 5 strikes it.
    pub mended_form_reads : Apart settings → Bytes input → (s : Setting) × (setting_of settings new ≡ some s) × (tree : Scope) × (read_form s new ≡ accepted tree)
    mended_form_reads d a =
        let M = mended_is W.0 input room space new list W.2 in
        let few : Bytes new = subst Bytes M.is_form (SoundStays.form_few W.0 input a) in
        (W.0, chosen_again settings l d input new few W.0 W.1 ((read_exactly W.0 new M.tree).0 M.reads).headed, M.tree, M.reads)

    -- Mending again changes nothing.
    pub mended_form_stays : Apart settings → Bytes input → (room' space' : ℕ) → length new ≤ room' → mend settings new room' space' ≡ mended new []
    mended_form_stays d a room' space' fits =
        let M = mended_is W.0 input room space new list W.2 in
        let R = mended_form_reads d a in
        sound_form_stays d new (subst Bytes M.is_form (SoundStays.form_few W.0 input a)) R.0 R.1 R.2 R.3 room' space' fits

    -- Undoing the list gives the bytes back.
    pub mended_form_undone : undo 0 list new ≡ input
    mended_form_undone = Undone.undone W.0 input room space new list U.0.header W.2

    -- A byte of the mended form that no change names is the byte that stood there.
    pub unnamed_bytes_stay : (q : ℕ) → q < length new → Outside q list → get_or new q 0 ≡ get_or input q 0
    unnamed_bytes_stay q short out = Undone.as_it_was W.0 input room space new list U.0.header (asks_long W.0 input U.1) W.2 q short out
