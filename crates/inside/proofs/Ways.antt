-- Ways through the run inside a root.
use Rattle.std.specs.Prelude.{Result, Ok, Err, IsErrAnd, ℕ}
use mathlib.Core.Path.{◌≡◌, refl, sym, ap, ◌∙◌, subst}
use mathlib.Core.Bool.{Bool, false}
use mathlib.Core.List.{List, ◌∷◌, ◌++◌}
use native.Mathlib.Omega.{arith}
use Prim.Native.Nat.{ℕ, zero, suc, ◌+◌, ◌-◌, ◌*◌, ◌≤◌, ◌<◌}
use mir.Syntax.{w8}
use mir.Val.{Fits}
use lib.Dec.{ltb}
use lib.ListN.{length, get_or, take, drop, set, replicate, length-drop, length-replicate, length-set, replicate-append-replicate}
use lib.Seq.{take_all, take_at, get_or-set_other}
use borrow.Author.Rules.{rules}
use borrow.Author.Tests.{lt-ltb, le-ltb}
use Rattle.kit.specs.Out.{◌&◌}
use Rattle.kit.specs.Pick.{pick}
use Rattle.kit.proofs.Laws.{copies_at}
use Rattle.rules.specs.Tools.{only}
use Rattle.rules.specs.Versions.{Setting}
use Rattle.rules.specs.Tree.{flatten}
use Rattle.rules.specs.Answer.{has_header}
use Rattle.rules.specs.Laws.RowLaws.{Bytes}
use Rattle.batching.specs.Batch.{root_of, inside_answer, inside_output}
use Rattle.refusal.specs.declared.Refusal.{Refusal}
use Rattle.refusal.specs.Refusals.{untold_of}
use Rattle.parts.specs.PartsAt.{parts_at}
use Rattle.parts.specs.declared.Parts.{Parts}
use Rattle.limits.specs.declared.Limits.{Limits}
use Rattle.limits.specs.Held.{setting_in, limits_of, setting}
use Rattle.limits.proofs.Laws as limits
use Rattle.form.specs.Header.{header_for, header_to, refusal_of}
use Rattle.form.specs.MarkEnds.{ends_to}
use Rattle.reader.specs.ReadTo.{read_to}
use Rattle.names.specs.Table.{Slot, no_scope, scope_of, past_of, scope_at}
use Rattle.index.specs.Indexed.{Holds, Tiled}
use Rattle.write.specs.WriteState.{Wrote}
use Rattle.write.specs.declared.alias.WriteState.{WriteState}
use Rattle.walk.specs.Scopes.{scope_walk_t, start_in}
use Rattle.walk.specs.Open.{Served, Stacked}
use Rattle.claim_rows.specs.Left.{rows_at}
use Rattle.claim_laws.specs.RowParts.{all_parts}
use Rattle.form.specs.declared.header.BadHeader.TheVariants.{Wrong, Count}
use Rattle.whole_form.specs.Whole.{form_of, refused_t, read_t, body_t}
use Rattle.whole_form.proofs.Ways.{Headed, header_rows, head_bad, head_rows_lem}
use Rattle.prelude_root.specs.Root.{root_t}
use Rattle.resolver.specs.Meaning.{meaning, ruled}
use Rattle.resolver.specs.Admit.{is_short, admit, Enough}
use Rattle.resolver.specs.Run.{seen_of, fill_t}
use Rattle.resolver.proofs.Bytes.{all_bytes}
use Rattle.resolver.proofs.Starts.{served_new}
use Rattle.resolver.proofs.Root.{Able}
use Rattle.resolver.proofs.Admits.{wrong_short, count_short, rows_short, admit_short, admit_read, admit_enough}
use Rattle.resolver_with.specs.Areas.{slots_for}
use Rattle.resolver_with.proofs.Runs.{able_at}
use Rattle.member_laws.specs.Within.{inner, one_open, walk_inside}
use Rattle.member_laws.specs.RootEntered.{Around, root_come, root_entered}
use Rattle.member_laws.proofs.Inside.{inside_early, inside_stays, inside_agrees_all}
use Rattle.inside.specs.Areas.{both_for, Suits}
use Rattle.inside.specs.Run.{walk_behind, walk_around, Resolves}
use Rattle.form.specs.declared.header.BadHeader.{BadHeader}
use Rattle.refusal.specs.declared.Refused.{Refused}

-- ---- the settings

-- a scope may be open in each of them
some_scope : (i : ℕ) → 1 ≤ (setting i).version.scopes
some_scope zero = omega arith
some_scope (suc zero) = omega arith
some_scope (suc (suc zero)) = omega arith
some_scope (suc (suc (suc i))) = omega arith

-- limits with one scope fewer stand for their setting
stands : (i : ℕ) → setting_in (limits_of (inner (setting i))) ≡ inner (setting i)
unfolding setting_in pick
stands zero = refl
stands (suc zero) = refl
stands (suc (suc zero)) = refl
stands (suc (suc (suc i))) = refl

-- ---- held

module _ (i : ℕ) (l : Limits) (e : l ≡ limits_of (setting i)) where
  pub held_less : 1 ≤ l.scopes
  held_less = rw e (some_scope i)

  pub held_is : record { version = l.version; header = l.header; wide = l.wide; names = l.names; rows = l.rows; scopes = l.scopes - 1; rules = l.rules } ≡ limits_of (inner (setting i))
  held_is = rw e

-- ---- admitted_inside

all_behind : (k : ℕ) (l : List ℕ) → take (length l - k) (drop k l) ≡ drop k l
all_behind k l = take_all (length l - k) (drop k l) (simp length-drop (omega arith))

pub enough : (i : ℕ) (input : List ℕ) (room : ℕ) (v : Result ℕ Refusal) → v ≡ form_of (admit (inner (setting i)) input room) → Enough v (inner (setting i)) input room
enough i input room v e = admit_enough (inner (setting i)) input room v e

module _ (i : ℕ) (input : List ℕ) (room : ℕ) (l : Limits) (e : l ≡ limits_of (inner (setting i))) (h : Result ℕ BadHeader) (q : h ≡ header_to l input) where
  abbrev S : Setting
  S = inner (setting i)

  of_limits : h ≡ header_to (limits_of S) input
  of_limits = rw e at q

  of_setting : h ≡ header_for (only (has_header S input) S) input
  unfolding header_to
  of_setting = rw (stands i) at of_limits

  low : (limits_of S).rows ≤ 4294967295
  low = omega (arith, limits.few_rows i)

  pub refuses_header : (why : BadHeader) (v : Result ℕ Refusal) → h ≡ Err why → IsErrAnd v (λ refusal. refusal ≡ refusal_of why) → v ≡ form_of (admit S input room)
  refuses_header why v is w =
      admit_read S input room false (short why is) refl v (rw (stands i) at (head_bad (limits_of S) input h of_limits low v why is w))
    where
      short : (bad : BadHeader) → h ≡ Err bad → false ≡ is_short S input room
      short Wrong e = unfold is_short in wrong_short S input (has_header S input) _ (sym e ∙ of_setting)
      short Count e = unfold is_short in count_short S input (has_header S input) _ (sym e ∙ of_setting)

  module _ (rows : ℕ) (is : h ≡ Ok rows) where
    found : Headed S input rows
    found = header_rows S input rows (sym is ∙ of_setting)

    pub few_rows : rows ≤ 16383
    few_rows = omega (arith, found.few, limits.few_rows i)

    module _ (header : ℕ) (size : header ≡ (setting i).version.header) where
      pub long_enough : header ≤ length input
      long_enough = let n = found.long in omega arith

      said : ltb room (header + 64 * rows) ≡ is_short S input room
      said = rw size (rows_short S input room rows found)

      pub refuses_short : (v : Result ℕ Refusal) → room < header + 64 * rows → v ≡ refused_t 3 0 → v ≡ form_of (admit S input room)
      refuses_short v g w = (w ∙ admit_short S input room (ltb room (header + 64 * rows)) said (lt-ltb room (header + 64 * rows) g))

      pub reads_rows : (v : Result ℕ Refusal) → header + 64 * rows ≤ room → v ≡ read_t (read_to l (take (length input - header) (drop header input))) rows → v ≡ form_of (admit S input room)
      unfolding body_t
      reads_rows v g w =
          let w' : v ≡ read_t (read_to (limits_of S) (drop (setting i).version.header input)) rows = subst (λ (n : ℕ). v ≡ read_t (read_to (limits_of S) (drop n input)) rows) size (rw (all_behind header input, e) at w) in
          (admit_read S input room (ltb room (header + 64 * rows)) said (le-ltb room (header + 64 * rows) g) v (rw (stands i) at (head_rows_lem (limits_of S) input h of_limits low v rows is w')))

pub ruleset admits = (enough, refuses_header, few_rows, long_enough, refuses_short, reads_rows, rules)

-- ---- walk_behind, walk_inside

pub name_is : (root : List ℕ) (p : Parts) (r : ℕ) → p ≡ parts_at root 0 → r ≡ p.x → r ≡ (parts_at root 0).x
name_is root p r e q = q ∙ ap (λ (x : Parts). x.x) e

-- the first scope is open, of more than there may be
front_set : (n m : ℕ) (scope : List ℕ) → 1 ≤ n → n ≤ suc m → take n (set (replicate (suc m) no_scope) 0 scope) ≡ set (replicate n no_scope) 0 scope
front_set zero m scope h g = absurd (omega arith)
front_set (suc n) m scope h g =
    let apart : m ≡ n + (m - n) = omega arith in
    ap (λ (l : List (List ℕ)). scope ∷ l)
    (ap (λ (k : ℕ). take n (replicate k no_scope)) apart
    ∙ (ap (λ (l : List (List ℕ)). take n l) (sym (replicate-append-replicate n (m - n) no_scope)) ∙ take_at (replicate n no_scope) (replicate (m - n) no_scope) n (length-replicate n no_scope)))

-- one scope is open, of this many
stacked : (most name used : ℕ) (early : Bool) → 1 ≤ most → Stacked (set (replicate most no_scope) 0 (scope_of name 0 used 0)) (start_in used 1 early)
unfolding Tiled
stacked zero name used early h = absurd (omega arith)
stacked (suc most) name used early h = record { tiled = (refl, omega arith, tt); end = refl; below = below }
  where
    below : (k : ℕ) → past_of (scope_at (set (replicate (suc most) no_scope) 0 (scope_of name 0 used 0)) k) ≤ used
    below zero = omega arith
    below (suc k) = rw (get_or-set_other (replicate (suc most) no_scope) 0 (suc k) (scope_of name 0 used 0) no_scope (omega arith), copies_at (suc most) (suc k) no_scope) (omega arith)

module _ (i : ℕ) (entered names : List Slot) (known chains ends : List ℕ) (suits : Suits i entered names known chains ends) where
  -- the tables may hold anything where their indexes start empty
  pub names_free : (c : List ℕ) → c ≡ replicate (length chains) 0 → Holds names c 0
  names_free c q =
      let f = limits.few_rows i in
      let n = suits.names in
      let k = suits.chains in
      rw q (served_new (slots_for (setting i).version) (omega arith) names names (length chains) (length chains) 0 (omega arith) (omega arith) (omega arith) (omega arith) refl).held

  pub served_inside : (k : List ℕ) (used used' : ℕ) → k ≡ replicate (length known) 0 → Holds names chains used → used' ≡ used → Served entered k names chains used'
  served_inside k used used' q h e =
      let f = limits.few_rows i in
      let n = suits.entered in
      let m = suits.known in
      rw (q, e) (record { free = (served_new (slots_for (setting i).version) (omega arith) entered entered (length known) (length known) 0 (omega arith) (omega arith) (omega arith) (omega arith) refl).free; held = h })

  pub suits_kept : (n : List Slot) (c : List ℕ) → length n ≡ length names → length c ≡ length chains → Suits i entered n known c ends
  suits_kept n c p q =
      record { entered = suits.entered; names = p ∙ suits.names; known = suits.known; chains = q ∙ suits.chains; ends = suits.ends }

  module _ (l : Limits) (limits : l ≡ limits_of (setting i)) (most : ℕ) (scopes-are : most ≡ l.scopes) where
    most_is : most ≡ (setting i).version.scopes
    most_is = scopes-are ∙ ap (λ (x : Limits). x.scopes) limits

    pub most_few : most ≤ 64
    most_few = omega (arith, most_is, (able_at i).shallow)

    module _ (name used : ℕ) (scope : List ℕ) (is : scope ≡ scope_of name 0 used 0) (early : Bool) (s : WriteState) (starts : s ≡ start_in used 1 early) where
      stack_is : take most (set (replicate 64 no_scope) 0 scope) ≡ one_open (setting i).version.scopes name used
      stack_is =
          front_set most 63 scope (omega (arith, most_is, some_scope i)) most_few ∙ (ap (λ (n : ℕ). set (replicate n no_scope) 0 scope) most_is ∙ ap (λ (x : List ℕ). set (replicate (setting i).version.scopes no_scope) 0 x) is)

      pub stacked_inside : Stacked (take most (set (replicate 64 no_scope) 0 scope)) s
      stacked_inside = rw (stack_is, starts) (stacked (setting i).version.scopes name used early (some_scope i))

      pub walk_behind_lem : (rows noted out o : List ℕ) (e n : List Slot) (a : Result WriteState Refused) (by : Limits) → early ≡ (setting i).rules.early → by ≡ limits_of (setting i) → noted ≡ ends_to by.scopes rows ends
          → (a & e & n & o) ≡ scope_walk_t rows noted (length (take most (set (replicate 64 no_scope) 0 scope)) - s.depth) entered names (take most (set (replicate 64 no_scope) 0 scope)) out s → a & o ≡ walk_inside (setting i) name used rows ends entered names out
      unfolding walk_inside seen_of
      walk_behind_lem rows noted out o e n a by asked limits₂ m w =
          let k : by.scopes ≡ (setting i).version.scopes = ap (λ (x : Limits). x.scopes) limits₂ in
          let d : length (one_open (setting i).version.scopes name used) - 1 ≡ (setting i).version.scopes - 1 =
          ap (λ (n : ℕ). n - 1) (length-set (replicate (setting i).version.scopes no_scope) 0 (scope_of name 0 used 0) ∙ length-replicate (setting i).version.scopes no_scope) in
          let w' : (a & e & n & o) ≡ scope_walk_t rows (ends_to (setting i).version.scopes rows ends) ((setting i).version.scopes - 1) entered names (one_open (setting i).version.scopes name used) out (start_in used 1 early) = rw (stack_is, starts, m, k, d) at w in
          rw (← asked, ← w')

pub walk_is : (i : ℕ) (root rows ends out : List ℕ) (entered names names' : List Slot) (w : Wrote) (name used : ℕ) → (used & names') ≡ root_t names (rows_at root 0) → name ≡ (parts_at root 0).x
    → w ≡ walk_inside (setting i) name used rows ends entered names' out → w ≡ walk_around (setting i) root rows ends entered names out
unfolding walk_around walk_behind
walk_is i root rows ends out entered names names' w name used r m q = rw (← r, ← m) q

-- ---- resolve_around

-- a walk is asked once
fills_as : (s : Setting) (walk walk' : List ℕ → Wrote) (front : List ℕ) → walk (drop s.version.header front) ≡ walk' (drop s.version.header front) → fill_t s walk front ≡ fill_t s walk' front
unfolding fill_t
fills_as s walk walk' front e = rw e

-- under any setting that the walk is able to take
module _ (s : Setting) (able : Able s) (some-open : 1 ≤ s.version.scopes) (root input old ends : List ℕ) (entered names : List Slot) (en : length entered ≡ slots_for s.version) (nn : length names ≡ both_for s.version) (mn : length ends ≡ slots_for s.version) where
  resolves_by : Bytes input → (rows : ℕ) → Ok rows ≡ form_of (admit (inner s) input (length old)) → (a : Result ℕ Refused) (k : List ℕ)
      → a & k ≡ fill_t s (walk_around s root (drop s.version.header input) ends entered names) (take (s.version.header + 64 * rows) old)
      → Resolves s root input old (k ++ drop (s.version.header + 64 * rows) old) a
  resolves_by all rows whole a k r t R = go (root_entered t names R.spaces (omega (arith, nn, able.few)) (omega (arith, nn, R.few)) (omega (arith, R.short, able.few)))
    where
      front : List ℕ
      front = take (s.version.header + 64 * rows) old

      go : Around t names (root_t names (all_parts (flatten t))) → (meaning a ≡ ruled (inside_answer s (root_of t) input (length old))) × (k ++ drop (s.version.header + 64 * rows) old ≡ inside_output s (root_of t) input old)
      go A =
          let same : walk_around s root (drop s.version.header input) ends entered names (drop s.version.header front) ≡ walk_inside s (parts_at root 0).x A.used (drop s.version.header input) ends entered A.names' (drop s.version.header front) =
          unfold walk_around walk_behind in rw (R.rows, A.is) in
          inside_agrees_all s able some-open (root_of t) (parts_at root 0).x A.used ends entered A.names'
          (record { name_is = R.name; stands = A.stands; rows = A.rows; come = root_come t })
          (record {
            ends = omega (arith, mn);
            entered = omega (arith, en);
            names = omega (arith, A.size, nn, A.count_is, R.few);
            entered_narrow = omega (arith, en, able.few);
            names_narrow = omega (arith, A.size, nn, able.few);
          })
          input old all rows whole a k
          (r ∙ fills_as s (walk_around s root (drop s.version.header input) ends entered names) (walk_inside s (parts_at root 0).x A.used (drop s.version.header input) ends entered A.names') front same)

module _ (i : ℕ) (input old : List ℕ) (f : Result ℕ Refusal) (w : f ≡ form_of (admit (inner (setting i)) input (length old))) (entered names : List Slot) (known chains ends : List ℕ) (suits : Suits i entered names known chains ends) where
  pub resolves_early : (root : List ℕ) (why : Refusal) → f ≡ Err why → (a : Result ℕ Refused) → a ≡ Err (untold_of why) → Resolves (setting i) root input old old a
  resolves_early root why e a q t R = (ap meaning q ∙ inside_early (setting i) (root_of t) input (length old) why (sym e ∙ w), inside_stays (setting i) (root_of t) input (length old) why (sym e ∙ w) old refl)

  module _ (fine : Enough f (inner (setting i)) input (length old)) (rows : ℕ) (e : f ≡ Ok rows) where
    facts : ((setting i).version.header ≤ length input) × ((setting i).version.header + 64 * rows ≤ length old) × (rows ≤ (setting i).version.rows)
    facts = rw e at fine

    pub has_few : rows ≤ 16383
    has_few = omega (arith, facts.2, limits.few_rows i)

    module _ (header : ℕ) (size : header ≡ (setting i).version.header) where
      pub has_header_lem : header ≤ length input
      has_header_lem = omega (arith, facts.0)

      pub has_room : header + 64 * rows ≤ length old
      has_room = omega (arith, facts.1)

      pub resolves : (root : List ℕ) → ((j : ℕ) → Fits w8 (get_or input j 0)) → (a : Result ℕ Refused) (k : List ℕ)
          → a & k ≡ fill_t (setting i) (walk_around (setting i) root (take (length input - header) (drop header input)) ends entered names) (take (header + 64 * rows) old)
          → Resolves (setting i) root input old (k ++ drop (header + 64 * rows) old) a
      resolves root all a k r =
          subst (λ (n : ℕ). Resolves (setting i) root input old (k ++ drop (n + 64 * rows) old) a) (sym size)
          (resolves_by (setting i) (able_at i) (some_scope i) root input old ends entered names suits.entered suits.names suits.ends (all_bytes input all) rows (sym e ∙ w) a k
          (subst (λ (n : ℕ). a & k ≡ fill_t (setting i) (walk_around (setting i) root (drop n input) ends entered names) (take (n + 64 * rows) old)) size (rw (all_behind header input) at r)))
