-- The ways through the code.
use Rattle.std.specs.Prelude.{Result, ℕ}
use mathlib.Core.Path.{◌≡◌, refl, sym, ap, ◌∙◌, subst}
use mathlib.Core.Bool.{Bool, true, false, ◌||◌, not}
use mathlib.Core.Logic.{◌⊎◌, inl, inr}
use mathlib.Core.List.{List, [], ◌∷◌, ◌++◌}
use native.Mathlib.Omega.{arith}
use Prim.Native.Nat.{ℕ, zero, suc, ◌+◌, ◌-◌, ◌*◌, ◌/◌, ◌≤◌, ◌<◌}
use lib.Dec.{ltb}
use lib.ListN.{length, get_or, take, drop, replicate, length-append, length-drop, length-replicate, drop_of_length-le, take-append-drop}
use lib.Seq.{take_at, drop_at, take_all, length-take-le}
use borrow.Author.Tests.{ltb-false}
use mir.Syntax.{w8}
use mir.Val.{Fits}
use Rattle.kit.specs.Out.{◌&◌}
use Rattle.kit.proofs.Laws.{lt_or_le}
use Rattle.rules.specs.Tools.{when◌then◌else◌}
use Rattle.rules.specs.Versions.{Version, Setting, all}
use Rattle.rules.specs.Answer.{answer, output}
use Rattle.rules.proofs.Laws.InputLaws.{all_usual}
use Rattle.read_form.proofs.Laws.OutputLength.{output_length}
use Rattle.checking.specs.CheckAnswer.{slots_of, links_of}
use Rattle.sharing.specs.Sharing.{shared, shared_output}
use Rattle.limits.specs.declared.Limits.{Limits}
use Rattle.limits.specs.Held.{limits_of, setting}
use Rattle.limits.proofs.Laws.{few_rows}
use Rattle.form.specs.MarkEnds.{ends_to}
use Rattle.names.specs.Table.{Slot, empty_slot}
use Rattle.index.specs.Indexed.{Holds}
use Rattle.mark.specs.MarkedRows.{mark_rows_t}
use Rattle.resolver.specs.Meaning.{meaning, ruled}
use Rattle.resolver.specs.Run as resolver
use Rattle.resolver.specs.Run.{walk_in, fill_t, before}
use Rattle.resolver.proofs.Bytes.{all_bytes}
use Rattle.resolver.proofs.Starts.{served_new}
use Rattle.clearing.specs.Cleared.{cleared}
use Rattle.clearing.specs.Laws.{cleared_kept}
use Rattle.resolver_with.specs.Areas.{slots_for, links_for, Lent, lent_of, roomy, Cleared}
use Rattle.resolver_with.specs.Exact.{Suits}
use Rattle.resolver_with.specs.Asked.{asked}
use Rattle.resolver_with.specs.With as resolved
use Rattle.resolver_with.proofs.Zeros.{rows_are, rows_few}
use Rattle.claim_check.specs.Run.{Kept}
use Rattle.check_with.specs.With.{check_with}
use Rattle.check_with.specs.Large.{Large}
use Rattle.check_with.proofs.Ways.{areas_left}
use Rattle.check_with.proofs.Whole.{large_in}
use Rattle.share.specs.declared.Own.{Own}
use Rattle.share.specs.Run as share
use Rattle.share.specs.Run.{Roomy, is_yes, Resolved}
use Rattle.share.proofs.Agrees.{own_resolved}
use Rattle.share_laws.specs.Relaxed.{relaxed}
use Rattle.share_with.specs.With.{bytes_for, too_small, shared_with, output_with}
use Rattle.share_with.specs.Run.{walk_over, walked_in, propose_with, Linked, Fit}
use Rattle.share_with.proofs.Agrees as agrees
use Rattle.refusal.specs.declared.Refused.{Refused}

-- ---- mark_in

pub empty_index : (table : List Slot) (index k : List ℕ) → Linked (length table) (length index) → k ≡ replicate (length index) 0 → Holds table k 0
empty_index table index k L e =
    let few = L.few in
    rw e (served_new (length table) (omega arith) table table (length index) (length index) 0 L.links_are L.links_are (omega arith) (omega arith) refl).free

pub noted_in : (i : ℕ) (l : Limits) (rows ends noted : List ℕ) → l ≡ limits_of (setting i) → noted ≡ ends_to l.scopes rows ends → noted ≡ ends_to (setting i).version.scopes rows ends
noted_in i l rows ends noted e q = q ∙ ap (λ (x : Limits). ends_to x.scopes rows ends) e

-- ---- relaxed_at

module _ (i : ℕ) where
  pub relaxed_newer : i ≡ 2 → setting 1 ≡ relaxed (setting i)
  relaxed_newer e = rw e

  pub relaxed_other : (i ≡ 2 → ⊥) → setting i ≡ relaxed (setting i)
  relaxed_other h = go i h
    where
      go : (k : ℕ) → (k ≡ 2 → ⊥) → setting k ≡ relaxed (setting k)
      go zero n = refl
      go (suc zero) n = refl
      go (suc (suc zero)) n = absurd (n refl)
      go (suc (suc (suc k))) n = refl

-- ---- walk_marked

module _ (i : ℕ) (e n : List Slot) (k c m : List ℕ) (suits : Suits i e n k c m) where
  pub linked_in : Linked (length e) (length k)
  linked_in =
      let f = few_rows i in
      let a = suits.entered in
      let b = suits.known in
      record { links_are = omega arith; few = omega arith }

  -- the sizes go by the version
  pub suits_relaxed : (j : ℕ) → setting j ≡ relaxed (setting i) → (e₁ : List Slot) (k₁ m₁ : List ℕ) → length e₁ ≡ length e → length k₁ ≡ length k → length m₁ ≡ length m → Suits j e₁ n k₁ c m₁
  suits_relaxed j same e₁ k₁ m₁ p q r =
      let v : (setting i).version ≡ (setting j).version = sym (ap (λ (s : Setting). s.version) same) in
      let slots : slots_for (setting i).version ≡ slots_for (setting j).version = ap slots_for v in
      let links : links_for (setting i).version ≡ links_for (setting j).version = ap links_for v in
      record {
        entered = p ∙ (suits.entered ∙ slots);
        names = suits.names ∙ slots;
        known = q ∙ (suits.known ∙ links);
        chains = suits.chains ∙ links;
        ends = r ∙ (suits.ends ∙ slots);
      }

pub walked_in_lem : (i j : ℕ) → setting j ≡ relaxed (setting i) → (rows marked part ends noted front front' : List ℕ) (entered table names : List Slot) (r : Result ℕ Refused) → length rows ≤ length marked → noted ≡ ends_to (setting i).version.scopes rows ends
    → (table & part) ≡ mark_rows_t rows noted entered (take (length rows) marked) → length part ≡ length (take (length rows) marked)
    → (r & front') ≡ fill_t (setting i) (walk_in (setting j) (take (length rows) (part ++ drop (length rows) marked)) noted table names) front → (r & front') ≡ walked_in (setting i) rows marked ends entered names front
unfolding walked_in walk_over
walked_in_lem i j same rows marked part ends noted front front' entered table names r h n p l q =
    let whole : take (length rows) (part ++ drop (length rows) marked) ≡ part = take_at part (drop (length rows) marked) (length rows) (l ∙ length-take-le (length rows) marked h) in
    let over : (r & front') ≡ walk_over (setting i) noted names front (table & part) =
    q
    ∙ (ap (λ (s : Setting). fill_t (setting i) (walk_in s (take (length rows) (part ++ drop (length rows) marked)) noted table names) front) same
    ∙ ap (λ (x : List ℕ). fill_t (setting i) (walk_in (relaxed (setting i)) x noted table names) front) whole) in
    over
    ∙ (ap (walk_over (setting i) noted names front) p
    ∙ ap (λ (x : List ℕ). walk_over (setting i) x names front (mark_rows_t rows x entered (take (length rows) marked))) n)

-- ---- bytes_for

module _ (i : ℕ) (l : Limits) (e : l ≡ limits_of (setting i)) where
  pub bytes_are_lem : 16 * l.rows ≡ bytes_for (setting i).version
  bytes_are_lem = ap (λ (n : ℕ). 16 * n) (rows_are i l e)

  pub bytes_few : l.rows ≤ 16383
  bytes_few = rows_few i l e

-- ---- propose

module _ (i : ℕ) (form out : List ℕ) (R : Roomy (setting i) form out) (header : ℕ) (h : header ≡ (setting i).version.header) where
  pub form_long : header ≤ length form
  form_long = omega (arith, R.long)

  pub share_long : header + 64 * ((length form - header) / 16) ≤ length out
  share_long = omega (arith, R.long, R.room)

  pub rows_long : (marked : List ℕ) (bytes : ℕ) → bytes ≡ bytes_for (setting i).version → bytes_for (setting i).version ≤ length marked → length (take (length form - header) (drop header form)) ≤ length (take bytes marked)
  rows_long marked bytes e b =
      let d = length-drop header form in
      let a = length-take-le (length form - header) (drop header form) (omega arith) in
      let t = length-take-le bytes marked (omega arith) in
      omega (arith, R.long, R.few)

pub marked_long : (i bytes : ℕ) (marked : List ℕ) → bytes ≡ bytes_for (setting i).version → bytes_for (setting i).version ≤ length marked → bytes ≤ length marked
marked_long i bytes marked e h = omega arith

module _ (i : ℕ) (form out marked ends : List ℕ) (entered names : List Slot) where
  propose_by : (header size bytes slots : ℕ) → resolver.Ran
  propose_by header size bytes slots =
      before (walked_in (setting i) (drop header form) (take bytes marked) (take slots ends) (take slots entered) (take slots names) (take size out)) (drop size out)

  pub proposed_with : (front : List ℕ) (r : Result ℕ Refused) (header size bytes slots : ℕ) → header ≡ (setting i).version.header → size ≡ header + 64 * ((length form - header) / 16)
      → bytes ≡ bytes_for (setting i).version → slots ≡ slots_for (setting i).version
      → (r & front) ≡ walked_in (setting i) (take (length form - header) (drop header form)) (take bytes marked) (take slots ends) (take slots entered) (take slots names) (take size out)
      → (r & front ++ drop size out) ≡ propose_with (setting i) form out marked ends entered names
  unfolding propose_with before propose_by
  proposed_with front r header size bytes slots h z b s q =
      let v = (setting i).version in
      let d : length (drop header form) ≡ length form - header = length-drop header form in
      let each : take (length form - header) (drop header form) ≡ drop header form = take_all (length form - header) (drop header form) (omega arith) in
      let run : (r & front ++ drop size out) ≡ propose_by header size bytes slots =
      ap (λ (y : resolver.Ran). before y (drop size out)) (q ∙ ap (λ (x : List ℕ). walked_in (setting i) x (take bytes marked) (take slots ends) (take slots entered) (take slots names) (take size out)) each) in
      let long : size ≡ v.header + 64 * (length (drop v.header form) / 16) = z ∙ (ap (λ (n : ℕ). header + 64 * (n / 16)) (sym d) ∙ ap (λ (n : ℕ). n + 64 * (length (drop n form) / 16)) h) in
      run
      ∙ (ap (λ (n : ℕ). propose_by n size bytes slots) h
      ∙ (ap (λ (n : ℕ). propose_by v.header n bytes slots) long
      ∙ (ap (λ (n : ℕ). propose_by v.header (v.header + 64 * (length (drop v.header form) / 16)) n slots) b
      ∙ ap (λ (n : ℕ). propose_by v.header (v.header + 64 * (length (drop v.header form) / 16)) (bytes_for v) n) s)))

-- ---- is_small, and the areas

pub small_tests : (lent : Bool) (i bytes table index b s l : ℕ) → b ≡ bytes_for (setting i).version → s ≡ slots_of (setting i).version → l ≡ links_of (setting i).version
    → (not lent || (ltb bytes b || (ltb table s || ltb index l))) ≡ (not lent || (ltb bytes (bytes_for (setting i).version) || (ltb table (slots_of (setting i).version) || ltb index (links_of (setting i).version))))
small_tests lent i bytes table index b s l p q r = rw (p, q, r)

pub marked_cleared : (i size : ℕ) (l m : List ℕ) → size ≡ bytes_for (setting i).version → m ≡ cleared 0 size l → m ≡ cleared 0 (bytes_for (setting i).version) l
marked_cleared i size l m e q = q ∙ ap (λ (n : ℕ). cleared 0 n l) e

-- an area that was emptied, or whose front alone was written to, is emptied
kept_cleared : {A : Type 0} (size : ℕ) (z : A) (old mid new : List A) → Kept size old mid → new ≡ cleared z size mid → new ≡ cleared z size old
kept_cleared size z old mid new K e = e ∙ cleared_kept z size old mid K.long K.rest

-- ---- settle

module _ (i : ℕ) (form : List ℕ) (bytes slots links : ℕ) (e n : List Slot) (k c m : List ℕ) (F : Fit i form bytes slots links (lent_of e n k c m)) where
  pub fit_large : Large i e n k c m
  fit_large = large_in i e n k c m (subst (λ (s : Setting). roomy s.version (lent_of e n k c m) ≡ true) (sym F.asks) F.lent_large)

  pub fit_bytes : bytes_for (setting i).version ≤ bytes
  fit_bytes = F.bytes_large

  pub fit_lent : roomy (asked form).version (lent_of e n k c m) ≡ true
  fit_lent = F.lent_large

  module _ (now : List ℕ) (R : Resolved all form now) (each : (j : ℕ) → Fits w8 (get_or form j 0)) where
    pub left_roomy : Roomy (setting i) form now
    left_roomy = agrees.left_roomy i form F.asks now R (all_bytes form each)

    module _ (marked : List ℕ) (b : bytes ≡ length marked) (a : Result ℕ Refused) (l : List ℕ) (p : (a & l) ≡ propose_with (setting i) form now marked m e n) where
      large : bytes_for (setting i).version ≤ length marked
      large = omega (arith, F.bytes_large, b)

      pub shares_with : (meaning a ≡ ruled (shared all form (length R.old))) × (l ≡ shared_output all form R.old)
      shares_with = agrees.shares_served i form F.asks now R (all_bytes form each) marked m e n large fit_large.ends fit_large.entered fit_large.names a l p

      -- in areas as long as these
      pub never : (marked₁ : List ℕ) (e₁ n₁ : List Slot) (k₁ c₁ m₁ : List ℕ)
          → Kept (bytes_for (setting i).version) marked marked₁ × Kept (slots_for (setting i).version) e e₁ × Kept (slots_for (setting i).version) n n₁ × Kept (links_for (setting i).version) k k₁ × Kept (links_for (setting i).version) c c₁ × Kept (slots_for (setting i).version) m m₁
          → (rows : ℕ) (claim : List ℕ) (y : Bool) → rows ≡ (meaning a).plain.place → claim ≡ take ((setting i).version.header + 16 * rows) l → y ≡ is_yes (check_with form claim slots links (lent_of e₁ n₁ k₁ c₁ m₁)) → y ≡ false → ⊥
      never marked₁ e₁ n₁ k₁ c₁ m₁ K rows claim y r q f z =
          let still : roomy (asked form).version (lent_of e₁ n₁ k₁ c₁ m₁) ≡ true = rw (K.1.long, K.2.long, K.3.long, K.4.long, K.5.long) F.lent_large in
          agrees.refused_never i form F.asks now R (all_bytes form each) marked m e n large fit_large.ends fit_large.entered fit_large.names a l p slots links (lent_of e₁ n₁ k₁ c₁ m₁) F.slots_large F.links_large still rows claim y r q f z

pub marked_left : (size : ℕ) (marked marked₁ marked₂ : List ℕ) → Kept size marked marked₁ → marked₂ ≡ cleared 0 size marked₁ → marked₂ ≡ cleared 0 size marked
marked_left size marked marked₁ marked₂ K q = kept_cleared size 0 marked marked₁ marked₂ K q

pub settled_areas : (v : Version) (marked marked₁ : List ℕ) (e e₁ e₂ n n₁ n₂ : List Slot) (k k₁ k₂ c c₁ c₂ m m₁ m₂ : List ℕ)
    → Kept (bytes_for v) marked marked₁ × Kept (slots_for v) e e₁ × Kept (slots_for v) n n₁ × Kept (links_for v) k k₁ × Kept (links_for v) c c₁ × Kept (slots_for v) m m₁
    → (form : List ℕ) (i : ℕ) → v ≡ (setting i).version → setting i ≡ asked form → Cleared (asked form).version e₁ e₂ n₁ n₂ k₁ k₂ c₁ c₂ m₁ m₂ → Cleared v e e₂ n n₂ k k₂ c c₂ m m₂
settled_areas v marked marked₁ e e₁ e₂ n n₁ n₂ k k₁ k₂ c c₁ c₂ m m₁ m₂ K form i q asks C =
    areas_left v e e₁ e₂ n n₁ n₂ k k₁ k₂ c c₁ c₂ m m₁ m₂ (K.1, K.2, K.3, K.4, K.5)
    (subst (λ (x : Version). Cleared x e₁ e₂ n₁ n₂ k₁ k₂ c₁ c₂ m₁ m₂) (ap (λ (s : Setting). s.version) (sym asks) ∙ sym q) C)

-- ---- resolve_own

pub own_ran : (form old now : List ℕ) (lent : Lent) (o : Own) → roomy (asked form).version lent ≡ true → meaning o.answer ≡ ruled (resolved.answer_with form (length old) lent) → now ≡ resolved.output_with form old lent → o.number ≡ (meaning o.answer).plain.number
    → share.Ran all form old now o
unfolding resolved.answer_with resolved.output_with when◌then◌else◌
own_ran form old now lent o fits a l n = record { answers = rw fits at a; leaves = rw fits at l; numbered = n }

-- ---- share_in

cleared_long : {A : Type 0} (size : ℕ) (z : A) (l : List A) → length (cleared z size l) ≡ length l
unfolding cleared
cleared_long size z l =
    let n = length (take size l) in
    length-append (replicate n z) (drop size l) ∙ (ap (λ (k : ℕ). k + length (drop size l)) (length-replicate n z) ∙ (sym (length-append (take size l) (drop size l)) ∙ ap length (take-append-drop size l)))

cleared_rest : {A : Type 0} (size : ℕ) (z : A) (l : List A) → drop size (cleared z size l) ≡ drop size l
cleared_rest size z l = go (lt_or_le (length l) size)
  where
    go : (length l < size) ⊎ (size ≤ length l) → drop size (cleared z size l) ≡ drop size l
    go (inl h) = drop_of_length-le (cleared z size l) {i = size} (omega (arith, cleared_long size z l)) ∙ sym (drop_of_length-le l {i = size} (omega arith))
    go (inr h) = unfold cleared in drop_at (replicate (length (take size l)) z) (drop size l) size (length-replicate (length (take size l)) z ∙ length-take-le size l h)

kept_of : {A : Type 0} (size : ℕ) (z : A) (old new : List A) → new ≡ cleared z size old → Kept size old new
kept_of size z old new e = record { long = ap length e ∙ cleared_long size z old; rest = ap (drop size) e ∙ cleared_rest size z old }

module _ (v : Version) (e e₁ n n₁ : List Slot) (k k₁ c c₁ m m₁ : List ℕ) (C : Cleared v e e₁ n n₁ k k₁ c c₁ m m₁) where
  kept_all : Kept (slots_for v) e e₁ × Kept (slots_for v) n n₁ × Kept (links_for v) k k₁ × Kept (links_for v) c c₁ × Kept (slots_for v) m m₁
  kept_all = (
    kept_of (slots_for v) empty_slot e e₁ C.entered,
    kept_of (slots_for v) empty_slot n n₁ C.names,
    kept_of (links_for v) 0 k k₁ C.known,
    kept_of (links_for v) 0 c c₁ C.chains,
    kept_of (slots_for v) 0 m m₁ C.ends,
  )

  pub fit_still : (i : ℕ) (form : List ℕ) (bytes slots links : ℕ) → Fit i form bytes slots links (lent_of e n k c m) → Fit i form bytes slots links (lent_of e₁ n₁ k₁ c₁ m₁)
  fit_still i form bytes slots links F =
      let K = kept_all in
      record {
        asks = F.asks;
        bytes_large = F.bytes_large;
        slots_large = F.slots_large;
        links_large = F.links_large;
        lent_large = rw (K.0.long, K.1.long, K.2.long, K.3.long, K.4.long) F.lent_large;
      }

  pub cleared_again : (form : List ℕ) (i : ℕ) → v ≡ (asked form).version → setting i ≡ asked form → (e₂ n₂ : List Slot) (k₂ c₂ m₂ : List ℕ) → Cleared (setting i).version e₁ e₂ n₁ n₂ k₁ k₂ c₁ c₂ m₁ m₂ → Cleared v e e₂ n n₂ k k₂ c c₂ m m₂
  cleared_again form i q asks e₂ n₂ k₂ c₂ m₂ D =
      areas_left v e e₁ e₂ n n₁ n₂ k k₁ k₂ c c₁ c₂ m m₁ m₂ kept_all (subst (λ (x : Version). Cleared x e₁ e₂ n₁ n₂ k₁ k₂ c₁ c₂ m₁ m₂) (ap (λ (s : Setting). s.version) asks ∙ sym q) D)

pub marked_after : (form : List ℕ) (i : ℕ) → setting i ≡ asked form → (old new : List ℕ) → new ≡ cleared 0 (bytes_for (setting i).version) old → new ≡ cleared 0 (bytes_for (asked form).version) old
marked_after form i asks old new e = e ∙ ap (λ (s : Setting). cleared 0 (bytes_for s.version) old) asks

module _ (input old now : List ℕ) (o : Own) (Q : share.Ran all input old now o) (z : o.number ≡ 0) (each : (j : ℕ) → Fits w8 (get_or input j 0)) (i bytes slots links : ℕ) (e₀ e n₀ n : List Slot) (k₀ k c₀ c m₀ m : List ℕ)
    (v : Version) (C : Cleared v e₀ e n₀ n k₀ k c₀ c m₀ m) (F : Fit i input bytes slots links (lent_of e₀ n₀ k₀ c₀ m₀)) (marked : List ℕ) (b : bytes ≡ length marked) (a : Result ℕ Refused) (l : List ℕ) (p : (a & l) ≡ propose_with (setting i) input now marked m e n) where
  both : (meaning a ≡ ruled (shared all input (length old))) × (l ≡ shared_output all input old)
  unfolding own_resolved
  both = shares_with i input bytes slots links e n k c m (fit_still v e₀ e n₀ n k₀ k c₀ c m₀ m C i input bytes slots links F) now (own_resolved all input old now o Q z) each marked b a l p

  pub proposal_answers : meaning a ≡ ruled (shared all input (length old))
  proposal_answers = both.0

  pub proposal_leaves : l ≡ shared_output all input old
  proposal_leaves = both.1

-- ---- share_with

module _ (form : List ℕ) (i : ℕ) (asks : setting i ≡ asked form) (bytes slots links : ℕ) (lent : Lent) (fits : Bool) (f : fits ≡ roomy (setting i).version lent) (small : Bool)
    (is : small ≡ (not fits || (ltb bytes (bytes_for (setting i).version) || (ltb slots (slots_of (setting i).version) || ltb links (links_of (setting i).version))))) where
  tested : small ≡ too_small (asked form).version bytes slots links lent
  unfolding too_small
  tested = is ∙ rw (f, asks)

  module _ (t : small ≡ true) where
    too_small_lem : too_small (asked form).version bytes slots links lent ≡ true
    too_small_lem = sym tested ∙ t

    no_room : (b : Bool) → ◌≡◌ {A = ℕ} (when b then 0 else 0) 0
    unfolding when◌then◌else◌
    no_room true = refl
    no_room false = refl

    pub small_answers : (old : List ℕ) (r : Result ℕ Refused) → meaning r ≡ ruled (resolved.answer_with form (length (take 0 old)) lent) → meaning r ≡ ruled (shared_with form (length old) bytes slots links lent)
    unfolding shared_with resolved.answer_with when◌then◌else◌
    small_answers old r m =
        let q : meaning r ≡ ruled (answer all form 0) = m ∙ ap (λ (n : ℕ). ruled (answer all form n)) (no_room (roomy (asked form).version lent)) in
        rw too_small_lem (q ∙ agrees.none_shared i form asks)

    none_left : (l : List ℕ) → length l ≡ 0 → l ≡ []
    none_left [] e = refl
    none_left (x ∷ l) e = absurd (omega arith)

    nothing_left : (b : Bool) → length (when b then output all form [] else []) ≡ 0
    unfolding when◌then◌else◌
    nothing_left true = unfold output in output_length [] all all_usual form []
    nothing_left false = refl

    pub small_leaves : (old new : List ℕ) → new ≡ resolved.output_with form (take 0 old) lent → new ++ drop 0 old ≡ output_with form old bytes slots links lent
    unfolding output_with resolved.output_with when◌then◌else◌
    small_leaves old new e =
        let n : new ≡ [] = none_left new (ap length e ∙ nothing_left (roomy (asked form).version lent)) in
        rw (too_small_lem, n)

  module _ (t : small ≡ false) where
    not_small : too_small (asked form).version bytes slots links lent ≡ false
    not_small = sym tested ∙ t

    parts : (a b c d : Bool) → (not a || (b || (c || d))) ≡ false → (a ≡ true) × (b ≡ false) × (c ≡ false) × (d ≡ false)
    parts true false false false q = (refl, refl, refl, refl)
    parts true false false true q = let z : ◌≡◌ {A = ℕ} 0 1 = cc in absurd (omega arith)
    parts true false true d q = let z : ◌≡◌ {A = ℕ} 0 1 = cc in absurd (omega arith)
    parts true true c d q = let z : ◌≡◌ {A = ℕ} 0 1 = cc in absurd (omega arith)
    parts false b c d q = let z : ◌≡◌ {A = ℕ} 0 1 = cc in absurd (omega arith)

    pub fit_in : Fit i form bytes slots links lent
    fit_in =
        let p = parts _ _ _ _ (sym is ∙ t) in
        record {
          asks = asks;
          bytes_large = ltb-false bytes (bytes_for (setting i).version) p.1;
          slots_large = ltb-false slots (slots_of (setting i).version) p.2;
          links_large = ltb-false links (links_of (setting i).version) p.3;
          lent_large = subst (λ (s : Setting). roomy s.version lent ≡ true) asks (sym f ∙ p.0);
        }

    pub answers_with : (room : ℕ) (r : Result ℕ Refused) → meaning r ≡ ruled (shared all form room) → meaning r ≡ ruled (shared_with form room bytes slots links lent)
    unfolding shared_with when◌then◌else◌
    answers_with room r p = rw not_small p

    pub leaves_with : (old l : List ℕ) → l ≡ shared_output all form old → l ≡ output_with form old bytes slots links lent
    unfolding output_with when◌then◌else◌
    leaves_with old l p = rw not_small p
