-- Ways through a member's run.
use Rattle.std.specs.Prelude.{Result, Ok, Err, ℕ}
use mathlib.Core.Path.{◌≡◌, refl, sym, ap, ◌∙◌, subst}
use mathlib.Core.Bool.{Bool, true, false}
use mathlib.Core.Logic.{◌⊎◌, inl, inr}
use mathlib.Core.List.{List, [], ◌∷◌, ◌++◌}
use native.Mathlib.Omega.{arith}
use Prim.Native.Nat.{ℕ, zero, suc, ◌+◌, ◌-◌, ◌*◌, ◌≤◌, ◌<◌}
use mir.Syntax.{w8}
use mir.Val.{Fits}
use lib.Dec.{ltb}
use lib.ListN.{length, get_or, take, drop, length-drop, length-append, drop_of_length-le}
use lib.Seq.{take_all, length-take-le, drop-drop, drop-append-add}
use borrow.Author.Rules.{rules}
use borrow.Author.Tests.{lt-ltb, le-ltb, le-leb}
use Rattle.kit.proofs.Laws.{lt_or_le}
use Rattle.rules.specs.Tools.{when◌then◌else◌}
use Rattle.rules.specs.Versions.{Setting}
use Rattle.rules.specs.Rows.{Row}
use Rattle.rules.specs.Tree.{flatten}
use Rattle.rules.specs.Answer as rules
use Rattle.rules.specs.Answer.{AnswerOf, refused, accepted, map_answer, answer, output, output_inside}
use Rattle.read_form.proofs.Laws.OutputLength.{output_length}
use Rattle.batching.specs.Batch.{Prelude, root_of, inside_answer, inside_output, prelude_of, member_answer, member_output}
use Rattle.batching.specs.BatchBytes.{packed}
use Rattle.clearing.specs.Cleared.{cleared}
use Rattle.clearing.specs.Laws.{cleared_kept}
use Rattle.batching.specs.BatchCalls.{room_with}
use Rattle.batching.proofs.Laws.MemberLaws.{prelude_told}
use Rattle.batching.proofs.Laws.CallLaws.{short_prelude}
use Rattle.refusal.specs.declared.Refusal.{Refusal}
use Rattle.resolver.specs.Meaning.{Numbers, numbers, Said, meaning, ruled}
use Rattle.resolver.proofs.Bytes.{all_bytes}
use Rattle.resolver.proofs.Root.{Able}
use Rattle.moved.proofs.Agrees.{Counted, answer_counted}
use Rattle.names.specs.Table.{Slot}
use Rattle.limits.specs.Held.{setting}
use Rattle.resolver_with.specs.Areas.{slots_for, links_for, lent_of, roomy}
use Rattle.resolver_with.specs.With.{Ran}
use Rattle.resolver_with.proofs.Runs.{able_at}
use Rattle.inside.specs.Areas.{Suits, SuitsIf}
use Rattle.inside.specs.Run.{RootIn, Resolves}
use Rattle.member.proofs.Prelude.{prelude_answer_lem, Resolved, prelude_resolved}
use Rattle.refusal.specs.declared.Refused.{Refused}

-- ---- rows_of

either : {A B C : Type 0} → A ⊎ B → (A → C) → (B → C) → C
either (inl a) f g = f a
either (inr b) f g = g b

take_less : {A : Type 0} (n k : ℕ) (l : List A) → k ≡ n - (n - length l) → take k l ≡ take n l
take_less n k l e =
    either (lt_or_le (length l) n)
    (λ h. take_all k l (omega arith) ∙ sym (take_all n l (omega arith)))
    (λ h. let q : k ≡ n = omega arith in ap (λ (x : ℕ). take x l) q)

-- the lesser of two is one of them
less_first : (a b : ℕ) → a ≤ b → a - (a - b) ≡ a
less_first a b h = omega arith

less_second : (a b : ℕ) → b ≤ a → a - (a - b) ≡ b
less_second a b h = omega arith

less_low : (a b k : ℕ) → k ≤ a → k ≤ b → k ≤ a - (a - b)
less_low a b k h g = omega arith

-- `n` bytes behind a header of `h`
rows_long : (l : List ℕ) (h n : ℕ) → h ≤ length l → take (h + n - (h + n - length l) - h) (drop h l) ≡ take n (drop h l)
rows_long l h n g =
    let d = length-drop h l in
    let q : h + n - (h + n - length l) - h ≡ n - (n - length (drop h l)) = omega arith in
    take_less n (h + n - (h + n - length l) - h) (drop h l) q

rows_short : (l : List ℕ) (h n k : ℕ) → length l < h → take k (drop (length l) l) ≡ take n (drop h l)
rows_short l h n k g =
    let a : drop (length l) l ≡ [] = drop_of_length-le l {i = length l} (omega arith) in
    let b : drop h l ≡ [] = drop_of_length-le l {i = h} (omega arith) in
    rw (a, b) (none k ∙ sym (none n))
  where
    none : (n : ℕ) → take {A = ℕ} n [] ≡ []
    none n = take_all n [] (omega arith)

pub rows_in_lem : (l : List ℕ) (header h count to from : ℕ) → header ≡ h → to ≡ header + 16 * count - (header + 16 * count - length l) → from ≡ header - (header - to) → take (to - from) (drop from l) ≡ take (16 * count) (drop h l)
rows_in_lem l header h count to from is e f = rw (← is)
    (either (lt_or_le (length l) header)
    (λ g.
    let t : to ≡ length l = e ∙ less_second (header + 16 * count) (length l) (omega arith) in
    let q : from ≡ length l = f ∙ (ap (λ (x : ℕ). header - (header - x)) t ∙ less_second header (length l) (omega arith)) in
    rw q (rows_short l header (16 * count) (to - length l) g))
    (λ g.
    let t : header ≤ to = rw e (less_low (header + 16 * count) (length l) header (omega arith) g) in
    let q : from ≡ header = f ∙ less_first header to t in
    rw (q, e) (rows_long l header (16 * count) g)))

-- ---- said

module _ (a : Result ℕ Refused) where
  pub said_accepted : (rows : ℕ) → a ≡ Ok rows → numbers 0 rows ≡ (meaning a).plain
  said_accepted rows q = rw q

  pub said_refused : (r : Refused) → a ≡ Err r → numbers r.refusal.number r.refusal.place ≡ (meaning a).plain
  said_refused r q = rw q

-- ---- packed

pub packed_as : (a : rules.Answer) (n p : ℕ) → numbers n p ≡ (ruled a).plain → n * 4294967296 + p ≡ packed a
unfolding packed
packed_as (refused number place carried) n p e = ap (λ (q : Numbers). q.number * 4294967296 + q.place) e
packed_as (accepted rows) n p e = ap (λ (q : Numbers). q.number * 4294967296 + q.place) e ∙ (omega arith)

-- ---- resolve_member

is_refused : (a : rules.Answer) (n p : ℕ) → numbers n p ≡ (ruled a).plain → (n ≡ 0 → ⊥) → (c : List ℕ) × (a ≡ refused n p c)
is_refused (refused k z c) n p e h =
    let x : n ≡ k = ap (λ (q : Numbers). q.number) e in
    let y : p ≡ z = ap (λ (q : Numbers). q.place) e in
    (c, rw (x, y))
is_refused (accepted rs) n p e h = absurd (h (ap (λ (q : Numbers). q.number) e))

is_accepted : (a : rules.Answer) (n p : ℕ) → Counted a → numbers n p ≡ (ruled a).plain → n ≡ 0 → (rs : List Row) × (a ≡ accepted rs) × (p ≡ length rs)
is_accepted (refused k z c) n p h e q = let x : n ≡ k = ap (λ (y : Numbers). y.number) e in absurd (omega (arith, x, q, h))
is_accepted (accepted rs) n p h e q = (rs, refl, ap (λ (y : Numbers). y.place) e)

prelude_refused : (o : AnswerOf Prelude) (n p : ℕ) (c : List ℕ) → map_answer (λ (q : Prelude). flatten q.resolved) o ≡ refused n p c → o ≡ refused n p c
unfolding map_answer
prelude_refused (refused k z d) n p c e = cc
prelude_refused (accepted q) n p c e = let z : ◌≡◌ {A = ℕ} 0 1 = cc in absurd (omega arith)

module _ (s : Setting) (prelude area : List ℕ) (said : Refusal) (a : Result ℕ Refused) (told : numbers said.number said.place ≡ (meaning a).plain) (ran : meaning a ≡ ruled (answer (s ∷ []) prelude (length area))) where
  as_ruled : numbers said.number said.place ≡ (ruled (answer (s ∷ []) prelude (length area))).plain
  as_ruled = told ∙ ap (λ (x : Said). x.plain) ran

  module _ (h : said.number ≡ 0 → ⊥) where
    pub is_told : (c : List ℕ) × (prelude_of (s ∷ []) prelude (length area) ≡ refused said.number said.place c)
    is_told =
        let r = is_refused (answer (s ∷ []) prelude (length area)) said.number said.place as_ruled h in
        (r.0, prelude_refused (prelude_of (s ∷ []) prelude (length area)) said.number said.place r.0 (prelude_answer_lem (s ∷ []) prelude (length area) ∙ r.1))

    pub told_low : said.number ≤ 13
    told_low = (prelude_told (s ∷ []) prelude (length area) [] 0 said.number said.place is_told.0 is_told.1).1

    pub told_answers : (member : List ℕ) (room : ℕ) (r : Refusal) → r ≡ record { number = 200 + said.number; place = said.place } → numbers r.number r.place ≡ (ruled (member_answer (s ∷ []) prelude (length area) member room)).plain
    told_answers member room r e = rw e (sym (ap (λ (x : rules.Answer). (ruled x).plain) (prelude_told (s ∷ []) prelude (length area) member room said.number said.place is_told.0 is_told.1).0))

    pub told_stays : (member old : List ℕ) → old ≡ member_output (s ∷ []) prelude (length area) member old
    unfolding member_output
    told_stays member old = rw is_told.1

  module _ (able : Able s) (h : said.number ≡ 0) (all : (i : ℕ) → Fits w8 (get_or prelude i 0)) (area' : List ℕ) (left : area' ≡ output (s ∷ []) prelude area) (root : List ℕ) (rows : root ≡ take (16 * said.place) (drop s.version.header area')) where
    pub found : Resolved s prelude area said.place
    found =
        let r = is_accepted (answer (s ∷ []) prelude (length area)) said.number said.place (answer_counted (s ∷ []) prelude (length area)) as_ruled h in
        subst (Resolved s prelude area) (sym r.2) (prelude_resolved s able prelude area r.0 (all_bytes prelude all) r.1)

    module _ (member old new : List ℕ) (r : Result ℕ Refused) (resolves : Resolves s root member old new r) where
      inside : (meaning r ≡ ruled (inside_answer s (root_of found.tree) member (length old))) × (new ≡ inside_output s (root_of found.tree) member old)
      inside = resolves found.tree (subst (RootIn s.version found.tree) (sym (rows ∙ ap (λ (o : List ℕ). take (16 * said.place) (drop s.version.header o)) left)) found.root)

      pub inside_answers : (q : Refusal) → numbers q.number q.place ≡ (meaning r).plain → numbers q.number q.place ≡ (ruled (member_answer (s ∷ []) prelude (length area) member (length old))).plain
      unfolding member_answer
      inside_answers q e = rw found.is (e ∙ ap (λ (x : Said). x.plain) inside.0)

      pub inside_leaves : new ≡ member_output (s ∷ []) prelude (length area) member old
      unfolding member_output
      inside_leaves = rw found.is inside.1

-- ---- the prelude in tables that are lent

-- the tables that come back are as long as they were
pub suits_same : (i : ℕ) (e n e' n' : List Slot) (k c m k' c' m' : List ℕ) → Suits i e n k c m → length e' ≡ length e → length n' ≡ length n → length k' ≡ length k → length c' ≡ length c → length m' ≡ length m → Suits i e' n' k' c' m'
suits_same i e n e' n' k c m k' c' m' suits p q r s t =
    record { entered = p ∙ suits.entered; names = q ∙ suits.names; known = r ∙ suits.known; chains = s ∙ suits.chains; ends = t ∙ suits.ends }

pub none_long : (l : List ℕ) → length l ≡ 0 → l ≡ []
none_long [] e = refl
none_long (x ∷ l) e = absurd (omega arith)

suits_roomy : (i : ℕ) (e n : List Slot) (k c m : List ℕ) → Suits i e n k c m → roomy (setting i).version (lent_of e n k c m) ≡ true
unfolding roomy
suits_roomy i e n k c m s =
    let v = (setting i).version in
    rw (
      le-leb (slots_for v) (length e) (omega (arith, s.entered)),
      le-leb (slots_for v) (length n) (omega (arith, s.names)),
      le-leb (links_for v) (length k) (omega (arith, s.known)),
      le-leb (links_for v) (length c) (omega (arith, s.chains)),
      le-leb (slots_for v) (length m) (omega (arith, s.ends)),
    )

-- a prelude that is accepted had room
room_there : (s : Setting) (prelude area : List ℕ) (rows : ℕ) → Resolved s prelude area rows → 0 < length area
room_there s prelude area rows R = go (length area) R.is
  where
    go : (r : ℕ) → prelude_of (s ∷ []) prelude r ≡ accepted (record { setting = s; resolved = R.tree }) → 0 < r
    go zero e =
        let S = short_prelude (s ∷ []) prelude in
        let f : ◌≡◌ {A = AnswerOf Prelude} (AnswerOf.refused S.0 0 []) (accepted (record { setting = s; resolved = R.tree })) = sym S.2 ∙ e in
        let z : ◌≡◌ {A = ℕ} 0 1 = cc in
        absurd (omega arith)
    go (suc r) e = omega arith

module _ (i : ℕ) (prelude area : List ℕ) (e n : List Slot) (k c m : List ℕ) (suits : SuitsIf i (length area) e n k c m) (said : Refusal) (a : Result ℕ Refused) (told : numbers said.number said.place ≡ (meaning a).plain)
    (area' : List ℕ) (ran : Ran (setting i) (roomy (setting i).version (lent_of e n k c m)) prelude area area' a) where
  -- where there is no room it does not matter whether the tables are large enough
  abbrev enough : Bool
  enough = roomy (setting i).version (lent_of e n k c m)

  room_is : (when enough then length area else 0) ≡ length area
  room_is = go (length area) (λ h. suits_roomy i e n k c m (suits h))
    where
      both : (b : Bool) → ◌≡◌ {A = ℕ} (when b then 0 else 0) 0
      both true = unfold when◌then◌else◌ in refl
      both false = unfold when◌then◌else◌ in refl

      go : (r : ℕ) → (0 < r → enough ≡ true) → (when enough then r else 0) ≡ r
      go zero f = both enough
      go (suc r) f = rw (f (omega arith)) (unfold when◌then◌else◌ in refl)

  pub lent_ran : meaning a ≡ ruled (answer (setting i ∷ []) prelude (length area))
  lent_ran = ran.answers ∙ ap (λ (r : ℕ). ruled (answer (setting i ∷ []) prelude r)) room_is

  pub lent_left : area' ≡ output (setting i ∷ []) prelude area
  lent_left = ran.leaves ∙ go (lt_or_le 0 (length area))
    where
      same : (b : Bool) → area ≡ output (setting i ∷ []) prelude area → (when b then output (setting i ∷ []) prelude area else area) ≡ output (setting i ∷ []) prelude area
      same true h = unfold when◌then◌else◌ in refl
      same false h = unfold when◌then◌else◌ in h

      go : (0 < length area) ⊎ (length area ≤ 0) → (when enough then output (setting i ∷ []) prelude area else area) ≡ output (setting i ∷ []) prelude area
      go (inl h) = rw (suits_roomy i e n k c m (suits h)) (unfold when◌then◌else◌ in refl)
      go (inr h) =
          let b : area ≡ [] = none_long area (omega arith) in
          let l : length (output (setting i ∷ []) prelude area) ≡ length area = unfold output in output_length [] (setting i ∷ []) ((able_at i).usual, tt) prelude area in
          same enough (b ∙ sym (none_long (output (setting i ∷ []) prelude area) (omega arith)))

  module _ (h : said.number ≡ 0) (all : (j : ℕ) → Fits w8 (get_or prelude j 0)) where
    pub lent_found : Resolved (setting i) prelude area said.place
    lent_found = found (setting i) prelude area said a told lent_ran (able_at i) h all area' lent_left (take (16 * said.place) (drop (setting i).version.header area')) refl

    -- and so the tables have their sizes
    pub suits_left : (e' n' : List Slot) (k' c' m' : List ℕ) → length e' ≡ length e → length n' ≡ length n → length k' ≡ length k → length c' ≡ length c → length m' ≡ length m → Suits i e' n' k' c' m'
    suits_left e' n' k' c' m' = suits_same i e n e' n' k c m k' c' m' (suits (room_there (setting i) prelude area said.place lent_found))

-- ---- room_in

pub room_none : (area : ℕ) → area < 65480 → 0 ≡ room_with (ltb area 65480) 65480
unfolding room_with when◌then◌else◌
room_none area h = rw (lt-ltb area 65480 h)

pub room_whole : (area : ℕ) → 65480 ≤ area → 65480 ≡ room_with (ltb area 65480) 65480
unfolding room_with when◌then◌else◌
room_whole area h = rw (le-ltb area 65480 h)

-- ---- clear

module _ (size : ℕ) where
  -- what was written within the size does not matter
  cleared_same : (old area : List ℕ) (room : ℕ) → room ≤ length old → room ≤ size → length area ≡ room → cleared 0 size (area ++ drop room old) ≡ cleared 0 size old
  cleared_same old area room less fits long =
      let n : length (area ++ drop room old) ≡ length old = length-append area (drop room old) ∙ (omega (arith, length-drop room old)) in
      let q : size ≡ length area + (size - room) = omega arith in
      let k : room + (size - room) ≡ size = omega arith in
      let rest : drop size (area ++ drop room old) ≡ drop size old =
      ap (λ (x : ℕ). drop x (area ++ drop room old)) q ∙ (drop-append-add area (drop room old) (size - room) ∙ (drop-drop (size - room) room old ∙ ap (λ (x : ℕ). drop x old) k)) in
      cleared_kept 0 size old (area ++ drop room old) n rest

-- ---- member

-- the prelude is resolved in the first `room` bytes of the working area: all of its size, or none
module _ (settings : List Setting) (prelude member old work : List ℕ) (room size : ℕ) (short : Bool) (is : room ≡ room_with short size) (less : room ≤ length work) where
  front : length (take room work) ≡ room_with short size
  front = length-take-le room work less ∙ is

  pub as_answered : (r : Refusal) → numbers r.number r.place ≡ (ruled (member_answer settings prelude (length (take room work)) member (length old))).plain → numbers r.number r.place ≡ (ruled (member_answer settings prelude (room_with short size) member (length old))).plain
  as_answered r m = m ∙ ap (λ (n : ℕ). (ruled (member_answer settings prelude n member (length old))).plain) front

  pub as_left : (new : List ℕ) → new ≡ member_output settings prelude (length (take room work)) member old → new ≡ member_output settings prelude (room_with short size) member old
  as_left new e = e ∙ ap (λ (n : ℕ). member_output settings prelude n member old) front

pub as_cleared : (work area work' : List ℕ) (room size : ℕ) → room ≤ length work → room ≤ size → length area ≡ length (take room work) → work' ≡ cleared 0 size (area ++ drop room work) → work' ≡ cleared 0 size work
as_cleared work area work' room size less fits long e = e ∙ cleared_same size work area room less fits (long ∙ length-take-le room work less)

pub ruleset member_returns = (as_answered, as_left, as_cleared, rules)
