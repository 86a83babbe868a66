-- Ways through the run.
use Rattle.std.specs.Prelude.{Result, Ok, Err, ℕ}
use mathlib.Core.Path.{◌≡◌, refl, sym, ap, ◌∙◌, subst}
use mathlib.Core.Bool.{Bool, true, false, ◌&&◌}
use mathlib.Core.List.{List, [], ◌∷◌, ◌++◌}
use native.Mathlib.Omega.{arith}
use Prim.Native.Nat.{ℕ, zero, suc, ◌+◌, ◌-◌, ◌*◌, ◌≤◌, ◌<◌}
use lib.Dec.{eqb}
use lib.ListN.{length, get_or, take, drop, replicate, length-drop, length-replicate}
use lib.Seq.{take_all}
use borrow.Author.Rules.{rules}
use borrow.Author.Tests.{eqb-true}
use mir.Syntax.{w8}
use mir.Val.{Fits}
use Rattle.kit.specs.Out.{◌&◌}
use Rattle.rules.specs.Tools.{when◌then◌else◌}
use Rattle.rules.specs.Versions.{Version, Setting, version2, newer}
use Rattle.rules.specs.Answer.{answer, output}
use Rattle.refusal.specs.declared.Refusal.{Refusal}
use Rattle.limits.specs.declared.Limits.{Limits}
use Rattle.limits.specs.Held.{limits_of, setting}
use Rattle.limits.proofs.Laws.{few_rows}
use Rattle.form.specs.MarkEnds.{ends_to}
use Rattle.names.specs.Table.{Slot, empty_slot, no_scope}
use Rattle.write.specs.declared.alias.WriteState.{WriteState}
use Rattle.walk.specs.Scopes.{scope_walk_t, start_in}
use Rattle.walk.specs.Open.{Served, Stacked}
use Rattle.whole_form.specs.Whole.{form_of}
use Rattle.refusal.specs.Refusals.{untold}
use Rattle.resolver.specs.Meaning.{meaning, ruled}
use Rattle.resolver.specs.Admit.{admit, Enough}
use Rattle.resolver.specs.Run.{seen_of, walk_in, fill_t}
use Rattle.resolver.proofs.Bytes.{all_bytes}
use Rattle.resolver.proofs.Starts.{served_new, stacked_start}
use Rattle.resolver.proofs.Root.{Able, able_1, able_2, Rooms}
use Rattle.resolver.proofs.Agrees.{answers_early, leaves_early, run_agrees}
use Rattle.clearing.specs.Cleared.{cleared}
use Rattle.resolver_with.specs.Areas.{slots_for, links_for, Lent, lent_of, roomy, Cleared}
use Rattle.resolver_with.specs.Exact.{exactly, Suits, Zeroed}
use Rattle.resolver_with.specs.Asked.{asked}
use Rattle.resolver_with.specs.With.{answer_with, output_with, Ran}
use Rattle.resolver_with.proofs.Asked.{answer_asked, output_asked}
use Rattle.resolver_with.proofs.Zeros.{exact_is, cleared_is}
use Rattle.refusal.specs.declared.Refused.{Refused}

-- ---- what is in force

able_newer : Able (record { version = version2; rules = newer })
able_newer =
    record { usual = record { low = omega arith; heap = refl; header = omega arith; countable = omega arith; few = omega arith }; heap = omega arith; top = refl; few = omega arith; shallow = omega arith }

-- the walk is able to take every setting that there is
pub able_at : (i : ℕ) → Able (setting i)
able_at zero = able_1
able_at (suc zero) = able_2
able_at (suc (suc zero)) = able_newer
able_at (suc (suc (suc i))) = able_1

header_in_lem : (i : ℕ) → 0 < (setting i).version.header
header_in_lem i = omega (arith, (able_at i).usual.header)

-- ---- is_early

pub early_is : (i : ℕ) (l : Limits) → l ≡ limits_of (setting i) → eqb l.rules 1 ≡ (setting i).rules.early
early_is i l e = ap (λ (x : Limits). eqb x.rules 1) e ∙ go i
  where
    go : (i : ℕ) → eqb (setting i).rules.number 1 ≡ (setting i).rules.early
    go zero = refl
    go (suc zero) = refl
    go (suc (suc zero)) = refl
    go (suc (suc (suc i))) = refl

-- ---- walk_in

take_copies : {A : Type 0} (n m : ℕ) (z : A) → n ≤ m → take n (replicate m z) ≡ replicate n z
take_copies zero m z h = refl
take_copies (suc n) zero z h = absurd (omega arith)
take_copies (suc n) (suc m) z h = ap (λ (l : List _). z ∷ l) (take_copies n m z (omega arith))

module _ (i : ℕ) (entered names : List Slot) (known chains ends : List ℕ) (suits : Suits i entered names known chains ends) where
  -- the indexes start empty
  pub served_in : (k c : List ℕ) (used : ℕ) → k ≡ replicate (length known) 0 → c ≡ replicate (length chains) 0 → used ≡ 0 → Served entered k names c used
  served_in k c used p q u =
      let f = few_rows i in
      rw (p, q) (served_new (slots_for (setting i).version) (omega arith) entered names (length known) (length chains) used (omega (arith, suits.known, suits.entered)) (omega (arith, suits.chains, suits.names)) (omega (arith, suits.entered)) (omega (arith, suits.names)) u)

  module _ (l : Limits) (limits : l ≡ limits_of (setting i)) (most : ℕ) (scopes-are : most ≡ l.scopes) where
    most_is : most ≡ (setting i).version.scopes
    most_is = scopes-are ∙ ap (λ (x : Limits). x.scopes) limits

    pub most_few : most ≤ 64
    most_few = omega (arith, most_is, (able_at i).shallow)

    stack_is : take most (replicate 64 no_scope) ≡ replicate (setting i).version.scopes no_scope
    stack_is = take_copies most 64 no_scope most_few ∙ ap (λ (n : ℕ). replicate n no_scope) most_is

    -- no scope is open
    pub stacked_in : (early : Bool) (s : WriteState) → s ≡ start_in 0 0 early → Stacked (take most (replicate 64 no_scope)) s
    stacked_in early s e = rw stack_is (stacked_start (setting i).version.scopes early s e)

    pub walk_whole : (rows noted out o : List ℕ) (e n : List Slot) (a : Result WriteState Refused) (early : Bool) (s : WriteState) (by : Limits) → early ≡ (setting i).rules.early → by ≡ limits_of (setting i) → s ≡ start_in 0 0 early → noted ≡ ends_to by.scopes rows ends
        → (a & e & n & o) ≡ scope_walk_t rows noted (length (take most (replicate 64 no_scope)) - s.depth) entered names (take most (replicate 64 no_scope)) out s → a & o ≡ walk_in (setting i) rows ends entered names out
    unfolding walk_in seen_of
    walk_whole rows noted out o e n a early s by f limits₂ b m w =
        let k : by.scopes ≡ (setting i).version.scopes = ap (λ (x : Limits). x.scopes) limits₂ in
        let d : length (replicate (setting i).version.scopes no_scope) - 0 ≡ (setting i).version.scopes = omega (arith, length-replicate (setting i).version.scopes no_scope) in
        let w' : (a & e & n & o) ≡ scope_walk_t rows (ends_to (setting i).version.scopes rows ends) (setting i).version.scopes entered names (replicate (setting i).version.scopes no_scope) out (start_in 0 0 early) = rw (b, stack_is, m, k, d) at w in
        rw (← f, ← w')

-- ---- is_exact, room_if

pub exact_tests : (v : Version) (slots links a b c d e : ℕ) → slots ≡ slots_for v → links ≡ links_for v
    → (eqb a slots && (eqb b slots && (eqb c links && (eqb d links && eqb e slots)))) ≡ exactly v (record { entered = a; names = b; known = c; chains = d; ends = e })
unfolding exactly
exact_tests v slots links a b c d e p q = rw (p, q)

pub room_yes : (enough : Bool) (room : ℕ) → enough ≡ true → room ≡ (when enough then room else 0)
unfolding when◌then◌else◌
room_yes enough room e = rw e

pub room_no : (enough : Bool) (room : ℕ) → enough ≡ false → 0 ≡ (when enough then room else 0)
unfolding when◌then◌else◌
room_no enough room e = rw e

-- ---- run_in

exact_parts : (a b c d e : Bool) → (a && (b && (c && (d && e)))) ≡ true → (a ≡ true) × (b ≡ true) × (c ≡ true) × (d ≡ true) × (e ≡ true)
exact_parts true true true true true q = (refl, refl, refl, refl, refl)
exact_parts true true true true false q = let z : ◌≡◌ {A = ℕ} 0 1 = cc in absurd (omega arith)
exact_parts true true true false e q = let z : ◌≡◌ {A = ℕ} 0 1 = cc in absurd (omega arith)
exact_parts true true false d e q = let z : ◌≡◌ {A = ℕ} 0 1 = cc in absurd (omega arith)
exact_parts true false c d e q = let z : ◌≡◌ {A = ℕ} 0 1 = cc in absurd (omega arith)
exact_parts false b c d e q = let z : ◌≡◌ {A = ℕ} 0 1 = cc in absurd (omega arith)

pub suits_exact : (i : ℕ) (entered names : List Slot) (known chains ends : List ℕ) → exactly (setting i).version (lent_of entered names known chains ends) ≡ true → Suits i entered names known chains ends
unfolding exactly
suits_exact i entered names known chains ends e =
    let p = exact_parts _ _ _ _ _ e in
    record { entered = eqb-true _ _ p.0; names = eqb-true _ _ p.1; known = eqb-true _ _ p.2; chains = eqb-true _ _ p.3; ends = eqb-true _ _ p.4 }

-- what is admitted has room, so the areas were not too small
enough_true : (enough : Bool) (room low : ℕ) → 0 < low → low ≤ (when enough then room else 0) → enough ≡ true
unfolding when◌then◌else◌
enough_true true room low p h = refl
enough_true false room low p h = absurd (omega arith)

-- behind a header, all that is there
all_behind : (k : ℕ) (l : List ℕ) → take (length l - k) (drop k l) ≡ drop k l
all_behind k l = take_all (length l - k) (drop k l) (simp length-drop (omega arith))

pub rooms_in : (i : ℕ) (entered names : List Slot) (known chains ends : List ℕ) → Suits i entered names known chains ends → Rooms (setting i).version ends entered names
rooms_in i entered names known chains ends suits =
    let f = few_rows i in
    let a = suits.entered in
    let b = suits.names in
    let c = suits.ends in
    record { ends = omega arith; entered = omega arith; names = omega arith; entered_narrow = omega arith; names_narrow = omega arith }

module _ (i : ℕ) (input old : List ℕ) (entered names : List Slot) (known chains ends : List ℕ) (enough : Bool) (exact : enough ≡ exactly (setting i).version (lent_of entered names known chains ends)) (room : ℕ) (roomy : room ≡ (when enough then length old else 0)) (f : Result ℕ Refusal) (said : f ≡ form_of (admit (setting i) input room)) where
  pub refuses_in : (why : Refusal) → f ≡ Err why → Ran (setting i) (exactly (setting i).version (lent_of entered names known chains ends)) input old old (Err (record { refusal = why; told = untold }))
  refuses_in why e =
      let q : Err why ≡ form_of (admit (setting i) input room) = sym e ∙ said in
      subst (λ (b : Bool). Ran (setting i) b input old old (Err (record { refusal = why; told = untold }))) exact
      (record { answers = answers_early (setting i) input room why q ∙ ap (λ (n : ℕ). ruled (answer (setting i ∷ []) input n)) roomy; leaves = go enough roomy q })
    where
      go : (b : Bool) → room ≡ (when b then length old else 0) → Err why ≡ form_of (admit (setting i) input room) → old ≡ (when b then output (setting i ∷ []) input old else old)
      go true r q = unfold when◌then◌else◌ in leaves_early (setting i) input room why q old (sym r)
      go false r q = unfold when◌then◌else◌ in refl

  module _ (fine : Enough f (setting i) input room) (rows : ℕ) (e : f ≡ Ok rows) where
    facts : ((setting i).version.header ≤ length input) × ((setting i).version.header + 64 * rows ≤ room) × (rows ≤ (setting i).version.rows)
    facts = rw e at fine

    is_enough : enough ≡ true
    is_enough = enough_true enough (length old) ((setting i).version.header + 64 * rows) (omega (arith, header_in_lem i)) (omega (arith, facts.1, roomy))

    is_room : room ≡ length old
    unfolding when◌then◌else◌
    is_room = rw is_enough at roomy

    pub has_suits : Suits i entered names known chains ends
    has_suits = suits_exact i entered names known chains ends (sym exact ∙ is_enough)

    pub has_few : rows ≤ 16383
    has_few = omega (arith, facts.2, few_rows i)

    pub has_header_lem : (setting i).version.header ≤ length input
    has_header_lem = facts.0

    pub has_room : (setting i).version.header + 64 * rows ≤ length old
    has_room = omega (arith, facts.1, is_room)

    pub runs_in : (header : ℕ) → header ≡ (setting i).version.header → ((j : ℕ) → Fits w8 (get_or input j 0)) → (a : Result ℕ Refused) (k : List ℕ)
        → a & k ≡ fill_t (setting i) (walk_in (setting i) (take (length input - header) (drop header input)) ends entered names) (take (header + 64 * rows) old)
        → Ran (setting i) (exactly (setting i).version (lent_of entered names known chains ends)) input old (k ++ drop (header + 64 * rows) old) a
    unfolding when◌then◌else◌
    runs_in header q all a k w =
        let w' : a & k ≡ fill_t (setting i) (walk_in (setting i) (drop (setting i).version.header input) ends entered names) (take ((setting i).version.header + 64 * rows) old) =
        subst (λ (n : ℕ). a & k ≡ fill_t (setting i) (walk_in (setting i) (drop n input) ends entered names) (take (n + 64 * rows) old)) q (rw (all_behind header input) at w) in
        let whole : Ok rows ≡ form_of (admit (setting i) input (length old)) = rw is_room at (sym e ∙ said) in
        let g = run_agrees (setting i) (able_at i) input old (all_bytes input all) rows whole ends entered names (rooms_in i entered names known chains ends has_suits) a k w' in
        let left : k ++ drop (header + 64 * rows) old ≡ output (setting i ∷ []) input old = subst (λ (n : ℕ). k ++ drop (n + 64 * rows) old ≡ output (setting i ∷ []) input old) (sym q) g.1 in
        subst (λ (b : Bool). Ran (setting i) b input old (k ++ drop (header + 64 * rows) old) a) (sym is_enough ∙ exact)
        (record { answers = g.0; leaves = left })

-- ---- run_cleared

pub ran_as : (s : Setting) (enough : Bool) (input old new : List ℕ) (a b : Result ℕ Refused) → a ≡ b → Ran s enough input old new a → Ran s enough input old new b
ran_as s enough input old new a b e r = subst (λ (x : Result ℕ Refused). Ran s enough input old new x) e r

pub zeroed_as : (e e₁ e' n n₁ n' : List Slot) (k k₁ k' c c₁ c' m m₁ m' : List ℕ) → length e₁ ≡ length e → length n₁ ≡ length n → length k₁ ≡ length k → length c₁ ≡ length c → length m₁ ≡ length m
    → Zeroed e₁ e' n₁ n' k₁ k' c₁ c' m₁ m' → Zeroed e e' n n' k k' c c' m m'
zeroed_as e e₁ e' n n₁ n' k k₁ k' c c₁ c' m m₁ m' p q r s t z =
    record {
      entered = z.entered ∙ ap (λ (x : ℕ). replicate x empty_slot) p;
      names = z.names ∙ ap (λ (x : ℕ). replicate x empty_slot) q;
      known = z.known ∙ ap (λ (x : ℕ). replicate x 0) r;
      chains = z.chains ∙ ap (λ (x : ℕ). replicate x 0) s;
      ends = z.ends ∙ ap (λ (x : ℕ). replicate x 0) t;
    }

-- ---- resolve_at

module _ (input old : List ℕ) (e n : List Slot) (k c m : List ℕ) (s : Setting) (slots links : ℕ) (ps : slots ≡ slots_for s.version) (pl : links ≡ links_for s.version)
    (a b d f g : ℕ) (ea : a ≡ slots - (slots - length e)) (eb : b ≡ slots - (slots - length n)) (ed : d ≡ links - (links - length k)) (ef : f ≡ links - (links - length c)) (eg : g ≡ slots - (slots - length m)) where
  exact : exactly s.version (lent_of (take a e) (take b n) (take d k) (take f c) (take g m)) ≡ roomy s.version (lent_of e n k c m)
  exact =
      exact_is s.version e n k c m a b d f g (ea ∙ ap (λ (x : ℕ). x - (x - length e)) ps) (eb ∙ ap (λ (x : ℕ). x - (x - length n)) ps) (ed ∙ ap (λ (x : ℕ). x - (x - length k)) pl) (ef ∙ ap (λ (x : ℕ). x - (x - length c)) pl)
      (eg ∙ ap (λ (x : ℕ). x - (x - length m)) ps)

  pub at_runs : (new : List ℕ) (r : Result ℕ Refused) → Ran s (exactly s.version (lent_of (take a e) (take b n) (take d k) (take f c) (take g m))) input old new r → Ran s (roomy s.version (lent_of e n k c m)) input old new r
  at_runs new r ran = subst (λ (x : Bool). Ran s x input old new r) exact ran

  pub at_clears : (e' n' : List Slot) (k' c' m' : List ℕ) → Zeroed (take a e) e' (take b n) n' (take d k) k' (take f c) c' (take g m) m'
      → Cleared s.version e (e' ++ drop a e) n (n' ++ drop b n) k (k' ++ drop d k) c (c' ++ drop f c) m (m' ++ drop g m)
  at_clears e' n' k' c' m' z =
      record {
        entered = cleared_is slots a e ea empty_slot e' z.entered ∙ ap (λ (x : ℕ). cleared empty_slot x e) ps;
        names = cleared_is slots b n eb empty_slot n' z.names ∙ ap (λ (x : ℕ). cleared empty_slot x n) ps;
        known = cleared_is links d k ed 0 k' z.known ∙ ap (λ (x : ℕ). cleared 0 x k) pl;
        chains = cleared_is links f c ef 0 c' z.chains ∙ ap (λ (x : ℕ). cleared 0 x c) pl;
        ends = cleared_is slots g m eg 0 m' z.ends ∙ ap (λ (x : ℕ). cleared 0 x m) ps;
      }

-- ---- resolve_with

module _ (input old new : List ℕ) (lent : Lent) (r : Result ℕ Refused) (s : Setting) (asks : s ≡ asked input) (ran : Ran s (roomy s.version lent) input old new r) where
  ran_asked : Ran (asked input) (roomy (asked input).version lent) input old new r
  ran_asked = subst (λ (x : Setting). Ran x (roomy x.version lent) input old new r) asks ran

  pub with_answers : meaning r ≡ ruled (answer_with input (length old) lent)
  unfolding answer_with
  with_answers = ran_asked.answers ∙ ap ruled (sym (answer_asked input (when roomy (asked input).version lent then length old else 0)))

  pub with_leaves : new ≡ output_with input old lent
  unfolding output_with
  with_leaves = ran_asked.leaves ∙ ap (λ (x : List ℕ). when roomy (asked input).version lent then x else old) (sym (output_asked input old))

-- the areas go by what is asked for
pub clears_as : (s t : Setting) → s ≡ t → (e e' n n' : List Slot) (k k' c c' m m' : List ℕ) → Cleared s.version e e' n n' k k' c c' m m' → Cleared t.version e e' n n' k k' c c' m m'
clears_as s t q e e' n n' k k' c c' m m' z = subst (λ (x : Setting). Cleared x.version e e' n n' k k' c c' m m') q z

pub ruleset ways = (exact_tests, room_yes, room_no, early_is, rules)
