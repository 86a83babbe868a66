-- The ways through the code.
use Rattle.std.specs.Prelude.{Result}
use mathlib.Core.Path.{◌≡◌, refl, sym, ap, ◌∙◌, subst}
use mathlib.Core.Bool.{Bool, true, false, ◌||◌}
use mathlib.Core.Logic.{◌⊎◌, inl, inr}
use mathlib.Core.List.{List, [], ◌∷◌, ◌++◌}
use native.Mathlib.Omega.{arith}
use Prim.Native.Nat.{ℕ, zero, suc, ◌+◌, ◌-◌, ◌*◌, ◌≤◌, ◌<◌}
use mir.Syntax.{w8}
use mir.Val.{Fits}
use lib.Dec.{ltb}
use lib.ListN.{length, get_or, take, drop, replicate, length-append, length-drop, drop_of_length-le}
use lib.Seq.{length-take-le, drop_at}
use borrow.Author.Rules.{rules}
use borrow.Author.Tests.{ltb-false}
use Rattle.kit.proofs.Laws.{lt_or_le}
use Rattle.rules.specs.Tools.{when◌then◌else◌}
use Rattle.rules.specs.Versions.{Version, Setting, all}
use Rattle.rules.specs.Answer as rules
use Rattle.rules.specs.Answer.{answer, output}
use Rattle.batching.specs.Batch.{prelude_in, prelude_of, member_answer, member_output}
use Rattle.batching.specs.BatchCalls as calls
use Rattle.batching.specs.BatchCalls.{room_with}
use Rattle.refusal.specs.declared.Refusal.{Refusal}
use Rattle.limits.specs.Held.{setting}
use Rattle.names.specs.Table.{Slot, empty_slot}
use Rattle.resolver.specs.Meaning.{numbers, meaning, ruled}
use Rattle.resolver_with.specs.Asked.{asked}
use Rattle.resolver_with.specs.Areas as areas
use Rattle.clearing.specs.Cleared.{cleared}
use Rattle.clearing.specs.Laws.{cleared_kept}
use Rattle.resolver_with.specs.Areas.{slots_for, links_for, lent_of, roomy}
use Rattle.resolver_with.specs.With.{Ran}
use Rattle.resolver_with.proofs.Asked.{setting_asked}
use Rattle.resolver_with.proofs.Runs.{able_at}
use Rattle.inside.specs.Areas.{both_for, chains_for, SuitsIf, Same}
use Rattle.inside.specs.Run.{Resolves}
use Rattle.member.proofs.Ways.{told_low, told_answers, told_stays, inside_answers, inside_leaves, lent_ran, lent_left, as_answered, as_left, as_cleared}
use Rattle.member_with.specs.Areas.{area_for, is_small, short_with, TablesCleared, Large, SameArea}
use Rattle.refusal.specs.declared.Refused.{Refused}

-- ---- are_small, clear_tables

module _ (v : Version) (slots both links more : ℕ) (p : slots ≡ slots_for v) (q : both ≡ both_for v) (r : links ≡ links_for v) (s : more ≡ chains_for v) where
  pub small_tests : (a b c d e : ℕ) → (ltb a slots || (ltb b both || (ltb c links || (ltb d more || ltb e slots)))) ≡ is_small v (record { entered = a; names = b; known = c; chains = d; ends = e })
  unfolding is_small
  small_tests a b c d e = rw (p, q, r, s)

  pub tables_cleared : (e e' n n' : List Slot) (k k' c c' m m' : List ℕ) → e' ≡ cleared empty_slot slots e → n' ≡ cleared empty_slot both n → k' ≡ cleared 0 links k → c' ≡ cleared 0 more c → m' ≡ cleared 0 slots m → TablesCleared v e e' n n' k k' c c' m m'
  tables_cleared e e' n n' k k' c c' m m' f g h i j =
      record {
        entered = f ∙ ap (λ (x : ℕ). cleared empty_slot x e) p;
        names = g ∙ ap (λ (x : ℕ). cleared empty_slot x n) q;
        known = h ∙ ap (λ (x : ℕ). cleared 0 x k) r;
        chains = i ∙ ap (λ (x : ℕ). cleared 0 x c) s;
        ends = j ∙ ap (λ (x : ℕ). cleared 0 x m) p;
      }

-- ---- run_in

module _ (i : ℕ) (prelude area : List ℕ) (e n : List Slot) (k c m : List ℕ) (suits : SuitsIf i (length area) e n k c m) (said : Refusal) (a : Result ℕ Refused) (told : numbers said.number said.place ≡ (meaning a).plain)
    (area' : List ℕ) (ran : Ran (setting i) (roomy (setting i).version (lent_of e n k c m)) prelude area area' a) where
  ran_one : meaning a ≡ ruled (answer (setting i ∷ []) prelude (length area))
  ran_one = lent_ran i prelude area e n k c m suits said a told area' ran

  pub lent_low : (said.number ≡ 0 → ⊥) → said.number ≤ 13
  lent_low h = told_low (setting i) prelude area said a told ran_one h

  pub lent_answers : (said.number ≡ 0 → ⊥) → (member : List ℕ) (room : ℕ) (r : Refusal) → r ≡ record { number = 200 + said.number; place = said.place } → numbers r.number r.place ≡ (ruled (member_answer (setting i ∷ []) prelude (length area) member room)).plain
  lent_answers h member room r q = told_answers (setting i) prelude area said a told ran_one h member room r q

  pub lent_stays : (said.number ≡ 0 → ⊥) → (member old : List ℕ) → old ≡ member_output (setting i ∷ []) prelude (length area) member old
  lent_stays h member old = told_stays (setting i) prelude area said a told ran_one h member old

  module _ (h : said.number ≡ 0) (each : (j : ℕ) → Fits w8 (get_or prelude j 0)) where
    left_one : area' ≡ output (setting i ∷ []) prelude area
    left_one = lent_left i prelude area e n k c m suits said a told area' ran

    module _ (root : List ℕ) (rows : root ≡ take (16 * said.place) (drop (setting i).version.header area')) (member old new : List ℕ) (r : Result ℕ Refused) (resolves : Resolves (setting i) root member old new r) where
      pub lent_inside : (q : Refusal) → numbers q.number q.place ≡ (meaning r).plain → numbers q.number q.place ≡ (ruled (member_answer (setting i ∷ []) prelude (length area) member (length old))).plain
      lent_inside = inside_answers (setting i) prelude area said a told ran_one (able_at i) h each area' left_one root rows member old new r resolves

      pub lent_leaves : new ≡ member_output (setting i ∷ []) prelude (length area) member old
      lent_leaves = inside_leaves (setting i) prelude area said a told ran_one (able_at i) h each area' left_one root rows member old new r resolves

-- ---- run_lent

either_false : (a b : Bool) → (a || b) ≡ false → (a ≡ false) × (b ≡ false)
either_false false b e = (refl, e)
either_false true b e = let z : ◌≡◌ {A = ℕ} 0 1 = cc in absurd (omega arith)

-- the front of an area that is not too small has its size
front_is : {A : Type 0} (size s a : ℕ) (l : List A) → s ≡ size → a ≡ s - (s - length l) → ltb (length l) size ≡ false → length (take a l) ≡ size
front_is size s a l is e h = let g = ltb-false (length l) size h in length-take-le a l (omega arith) ∙ (omega arith)

-- an area whose front came back, and which is cleared then
recleared : {A : Type 0} (z : A) (size s a : ℕ) (l front new : List A) → s ≡ size → a ≡ s - (s - length l) → length front ≡ length (take a l) → new ≡ cleared z size (front ++ drop a l) → new ≡ cleared z size l
recleared z size s a l front new is e k q =
    let t = length-take-le a l (omega arith) in
    let d = length-drop a l in
    let long : length (front ++ drop a l) ≡ length l = length-append front (drop a l) ∙ (omega arith) in
    let rest : drop size (front ++ drop a l) ≡ drop size l = go (lt_or_le (length l) size) in
    q ∙ cleared_kept z size l (front ++ drop a l) long rest
  where
    go : (length l < size) ⊎ (size ≤ length l) → drop size (front ++ drop a l) ≡ drop size l
    go (inl h) =
        let t = length-take-le a l (omega arith) in
        let d = length-drop a l in
        let n = length-append front (drop a l) in
        drop_of_length-le (front ++ drop a l) {i = size} (omega arith) ∙ sym (drop_of_length-le l {i = size} (omega arith))
    go (inr h) =
        let t = length-take-le a l (omega arith) in
        let x : a ≡ size = omega arith in
        let y : length front ≡ size = omega arith in
        drop_at front (drop a l) size y ∙ ap (λ (j : ℕ). drop j l) x

module _ (i room : ℕ) (e n : List Slot) (k c m : List ℕ) (se sn sk sc sm a b d f g : ℕ)
    (pe : se ≡ slots_for (setting i).version) (pn : sn ≡ both_for (setting i).version) (pk : sk ≡ links_for (setting i).version) (pc : sc ≡ chains_for (setting i).version) (pm : sm ≡ slots_for (setting i).version)
    (ea : a ≡ se - (se - length e)) (eb : b ≡ sn - (sn - length n)) (ed : d ≡ sk - (sk - length k)) (ef : f ≡ sc - (sc - length c)) (eg : g ≡ sm - (sm - length m)) where
  pub fronts : Large i room (lent_of e n k c m) → SuitsIf i room (take a e) (take b n) (take d k) (take f c) (take g m)
  unfolding is_small
  fronts large h =
      let p = either_false _ _ (large h) in
      let q = either_false _ _ p.1 in
      let r = either_false _ _ q.1 in
      let s = either_false _ _ r.1 in
      record {
        entered = front_is _ se a e pe ea p.0;
        names = front_is _ sn b n pn eb q.0;
        known = front_is _ sk d k pk ed r.0;
        chains = front_is _ sc f c pc ef s.0;
        ends = front_is _ sm g m pm eg s.1;
      }

  pub tables_left : (e₁ e' n₁ n' : List Slot) (k₁ k' c₁ c' m₁ m' : List ℕ) → TablesCleared (setting i).version (e₁ ++ drop a e) e' (n₁ ++ drop b n) n' (k₁ ++ drop d k) k' (c₁ ++ drop f c) c' (m₁ ++ drop g m) m'
      → Same (take a e) e₁ (take b n) n₁ (take d k) k₁ (take f c) c₁ (take g m) m₁
      → TablesCleared (setting i).version e e' n n' k k' c c' m m'
  tables_left e₁ e' n₁ n' k₁ k' c₁ c' m₁ m' t same =
      record {
        entered = recleared empty_slot _ se a e e₁ e' pe ea same.entered t.entered;
        names = recleared empty_slot _ sn b n n₁ n' pn eb same.names t.names;
        known = recleared 0 _ sk d k k₁ k' pk ed same.known t.known;
        chains = recleared 0 _ sc f c c₁ c' pc ef same.chains t.chains;
        ends = recleared 0 _ sm g m m₁ m' pm eg same.ends t.ends;
      }

-- ---- room_in

module _ (i size work : ℕ) (is : size ≡ area_for (setting i).version) (small : Bool) where
  pub room_none : (ltb work size || small) ≡ true → 0 ≡ room_with (ltb work (area_for (setting i).version) || small) (area_for (setting i).version)
  unfolding room_with when◌then◌else◌
  room_none h = rw (← is, h)

  pub room_whole : (ltb work size || small) ≡ false → size ≡ room_with (ltb work (area_for (setting i).version) || small) (area_for (setting i).version)
  unfolding room_with when◌then◌else◌
  room_whole h = rw (← is, h)

  pub room_low : (ltb work size || small) ≡ false → size ≤ work
  room_low h = ltb-false work size (either_false (ltb work size) small h).0

-- ---- member_with

-- there is no room where a table is too small
pub not_small : (x small : Bool) (size : ℕ) → 0 < room_with (x || small) size → small ≡ false
unfolding room_with when◌then◌else◌
not_small true true size h = absurd (omega arith)
not_small false true size h = absurd (omega arith)
not_small x false size h = refl

-- a prelude asks for one setting
one_answer : (prelude : List ℕ) (work : ℕ) (member : List ℕ) (room : ℕ) → member_answer all prelude work member room ≡ member_answer (asked prelude ∷ []) prelude work member room
unfolding member_answer
one_answer prelude work member room = rw (setting_asked prelude)

one_writes : (prelude : List ℕ) (work : ℕ) (member old : List ℕ) → member_output all prelude work member old ≡ member_output (asked prelude ∷ []) prelude work member old
unfolding member_output
one_writes prelude work member old = rw (setting_asked prelude)

-- the tables go by what the prelude asks for
pub tables_asked : (i : ℕ) (prelude : List ℕ) → setting i ≡ asked prelude → (e e' n n' : List Slot) (k k' c c' m m' : List ℕ) → TablesCleared (setting i).version e e' n n' k k' c c' m m' → TablesCleared (asked prelude).version e e' n n' k k' c c' m m'
tables_asked i prelude asks e e' n n' k k' c c' m m' t = subst (λ (s : Setting). TablesCleared s.version e e' n n' k k' c c' m m') asks t

module _ (i : ℕ) (prelude : List ℕ) (asks : setting i ≡ asked prelude) (work : List ℕ) (e n : List Slot) (k c m : List ℕ) (small : Bool) (tested : small ≡ is_small (setting i).version (lent_of e n k c m)) (room : ℕ)
    (is : room ≡ room_with (ltb (length work) (area_for (setting i).version) || small) (area_for (setting i).version)) (less : room ≤ length work) where
  pub lent_in : Large i (length (take room work)) (lent_of e n k c m)
  lent_in h = sym tested ∙ not_small (ltb (length work) (area_for (setting i).version)) small (area_for (setting i).version) (subst (λ (x : ℕ). 0 < x) (length-take-le room work less ∙ is) h)

  room_asked : room_with (ltb (length work) (area_for (setting i).version) || small) (area_for (setting i).version) ≡ room_with (short_with prelude (length work) (lent_of e n k c m)) (area_for (asked prelude).version)
  room_asked =
      ap (λ (b : Bool). room_with (ltb (length work) (area_for (setting i).version) || b) (area_for (setting i).version)) tested
      ∙ ap (λ (s : Setting). room_with (ltb (length work) (area_for s.version) || is_small s.version (lent_of e n k c m)) (area_for s.version)) asks

  module _ (member old : List ℕ) where
    pub with_answers : (r : Refusal) → numbers r.number r.place ≡ (ruled (member_answer (setting i ∷ []) prelude (length (take room work)) member (length old))).plain
        → numbers r.number r.place ≡ (ruled (member_answer all prelude (room_with (short_with prelude (length work) (lent_of e n k c m)) (area_for (asked prelude).version)) member (length old))).plain
    with_answers r q =
        as_answered (setting i ∷ []) prelude member old work room (area_for (setting i).version) (ltb (length work) (area_for (setting i).version) || small) is less r q
        ∙ ap (λ (x : rules.Answer). (ruled x).plain)
        (ap (λ (x : ℕ). member_answer (setting i ∷ []) prelude x member (length old)) room_asked
        ∙ (ap (λ (s : Setting). member_answer (s ∷ []) prelude (room_with (short_with prelude (length work) (lent_of e n k c m)) (area_for (asked prelude).version)) member (length old)) asks
        ∙ sym (one_answer prelude (room_with (short_with prelude (length work) (lent_of e n k c m)) (area_for (asked prelude).version)) member (length old))))

    pub with_leaves : (new : List ℕ) → new ≡ member_output (setting i ∷ []) prelude (length (take room work)) member old
        → new ≡ member_output all prelude (room_with (short_with prelude (length work) (lent_of e n k c m)) (area_for (asked prelude).version)) member old
    with_leaves new q =
        as_left (setting i ∷ []) prelude member old work room (area_for (setting i).version) (ltb (length work) (area_for (setting i).version) || small) is less new q
        ∙ (ap (λ (x : ℕ). member_output (setting i ∷ []) prelude x member old) room_asked
        ∙ (ap (λ (s : Setting). member_output (s ∷ []) prelude (room_with (short_with prelude (length work) (lent_of e n k c m)) (area_for (asked prelude).version)) member old) asks
        ∙ sym (one_writes prelude (room_with (short_with prelude (length work) (lent_of e n k c m)) (area_for (asked prelude).version)) member old)))

  pub with_cleared : (area work' : List ℕ) (size : ℕ) → size ≡ area_for (setting i).version → room ≤ area_for (setting i).version → SameArea (take room work) area → work' ≡ cleared 0 size (area ++ drop room work)
      → work' ≡ cleared 0 (area_for (asked prelude).version) work
  with_cleared area work' size q fits same h =
      as_cleared work area work' room size less (omega (arith, q, fits)) same.long h ∙ ap (λ (x : ℕ). cleared 0 x work) (q ∙ ap (λ (s : Setting). area_for s.version) asks)
