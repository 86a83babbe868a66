-- The two readings of a walked name agree in every accepted tree.
-- Runs says what a run did at each field, Lookups what a name finds among declarations, StepB and StepC what becomes of one
-- operand, Frames that the tables of the scopes around it are those of the output. Here they come together: at a field, in a
-- scope, and along the way to the reference. The recursion is over the way, not over the tree.
use Rattle.std.specs.Prelude.{◌≡◌, false, List, [], ◌∷◌, ◌++◌, ℕ, zero, suc, ◌+◌, ◌≤◌}
use Rattle.std.proofs.Math.Path.{refl}
use Rattle.std.proofs.Common.{ap, sym, ◌∙◌, subst, add-one, arith}
use Rattle.std.proofs.Math.Option.{Option, none, some}
use Rattle.std.proofs.Math.ListN.{get_elem?}
use Rattle.rules.specs.Tools.{when◌then◌else◌, ◌then◌, ◌or_else◌}
use Rattle.rules.specs.Versions.{RuleSet, top_name}
use Rattle.rules.specs.Rows.{Num, Id}
use Rattle.rules.specs.Tree.{Declaration, Operand, ref, Head, Scope, scope, Fields, end, ◌▸◌, Item, plain, holds, head_of}
use Rattle.rules.specs.Shapes.{here_only}
use Rattle.rules.specs.Rules
use Rattle.rules.specs.Rules.{table_of, decls_in, Before, Entry, ok, Env, Outside, onward, at_root, inward, find, fresh, walk, Expanded, expand_head, expand_fields, declarations, prepare, resolve_head, resolve_inserted, resolve_scope, resolve_fields, resolve_item, resolve_inside}
use Rattle.rules.specs.Readings
use Rattle.rules.specs.Readings.{is_inserted, originals, Place, Level, level, Spot, original, inserted, in_original, standings, first_named, of_space, place, declared, outward, counted, meant, counting}
use Rattle.rules.specs.Laws.ToolLaws.{then_some}
use Rattle.rules.specs.Laws.Meaning.Names.{LowDecls, LowOperand, LowHead, LowScope, LowFields, LowItem, DeclFields, low_fields}
use Rattle.rules.proofs.Laws.Meaning.Runs
use Rattle.rules.proofs.Laws.Meaning.Runs.{seeing, Ran, ran, ran_end}
use Rattle.rules.proofs.Laws.Meaning.StepB.{Made, left, aliased, walked_ref, low_operand, head_made}
use Rattle.rules.proofs.Laws.Meaning.StepC.{Numbered, named_number, head_numbered, alias_resolved, inserted_first}
use Rattle.rules.proofs.Laws.Meaning.Frames.{Framed, Frames, inside, pushed, Meets, Walks, here_meets, walks}
use Rattle.rules.proofs.Laws.Meaning.Lookups
use Rattle.rules.proofs.Laws.Meaning.Lookups.{in_heads, first_past, first_within, Found, found}
use Rattle.rules.specs.Laws.Results.{holds_of, bind_inv, some_same, ok_same, no_option}

-- ---- one field of a run, as the readings see it

module _ {i : Item} {fs : Fields} {ds : List Declaration} {here : Env} {outside : Outside} {b k : ℕ} {r : Fields × ℕ} (R : Ran i fs ds here outside b k r) (low : LowDecls (head_of i).decls) where
  pub stays_original : is_inserted (head_of R.q.0) ≡ false
  stays_original = Lookups.low_original _ (subst LowDecls (sym (Runs.ran_decls R)) low)

  pub ran_standings : (n : ℕ) → standings n r.0 ≡ in_heads R.new ++ (in_original n 0 (head_of i).decls ++ standings (suc n) R.rs.0)
  ran_standings n =
      rw (
        ← R.result,
        Lookups.standings_before b R.e.k n R.new (R.q.0 ▸ R.rs.0) (Runs.ran_new R),
        Lookups.standings_original n R.q.0 R.rs.0 stays_original,
        Runs.ran_decls R,
      )

  pub ran_originals : originals r.0 ≡ R.q.0 ∷ originals R.rs.0
  ran_originals =
      rw (
        ← R.result,
        Lookups.originals_before b R.e.k R.new (R.q.0 ▸ R.rs.0) (Runs.ran_new R),
        Lookups.originals_original R.q.0 R.rs.0 stays_original,
      )

  -- a name of the input is not found among the insertions
  past_new : (space name : ℕ) → name ≤ top_name → first_named (in_heads R.new) space name ≡ none
  unfolding fresh
  past_new space name l = Lookups.first_in_heads b R.e.k R.new space name (Runs.ran_new R) (λ t p q. omega arith)

  -- a fresh name of a later field is not found here
  pub past_field : (n space j : ℕ) → R.e.k ≤ j → first_named (standings n r.0) space (fresh j) ≡ first_named (standings (suc n) R.rs.0) space (fresh j)
  unfolding fresh
  past_field n space j l =
      rw (ran_standings n)
      (first_past (in_heads R.new) _ space (fresh j)
      (Lookups.first_in_heads b R.e.k R.new space (fresh j) (Runs.ran_new R) (λ t p q. omega arith))
      ∙ first_past (in_original n 0 (head_of i).decls) _ space (fresh j) (Lookups.first_in_original n 0 (head_of i).decls space j low))

-- ---- a name of the input has the same first declaration in the output

pub first_same : (fs : Fields) (ds : List Declaration) (here : Env) (outside : Outside) (b k n : ℕ) (r : Fields × ℕ) (space name : ℕ)
    → DeclFields fs → name ≤ top_name → resolve_fields fs ds here outside b k ≡ ok r
    → first_named (standings n r.0) space name ≡ first_named (standings n fs) space name
first_same end ds here outside b k n r space name low l eq = rw (← ran_end ds here outside b k r eq)
first_same (i ▸ fs) ds here outside b k n r space name low l eq =
    let R = ran i fs ds here outside b k r eq in
    rw (
      ran_standings R low.0 n,
      first_past (in_heads R.new) (in_original n 0 (head_of i).decls ++ standings (suc n) R.rs.0) space name (past_new R low.0 space name l),
      Lookups.standings_original n i fs (Lookups.low_original (head_of i) low.0),
      Lookups.first_append (in_original n 0 (head_of i).decls) (standings (suc n) R.rs.0) space name,
      Lookups.first_append (in_original n 0 (head_of i).decls) (standings (suc n) fs) space name,
      first_same fs ds here (onward i outside) R.e.k R.q.1 (suc n) R.rs space name low.2 l R.goes_on_lem,
    )

-- ---- what happened at the field number `f`

pub record At (i : Item) (f n : ℕ) (ds : List Declaration) (here : Env) (outside : Outside) (b₀ : ℕ) (out : Fields) : Type 0 where
  pub b : ℕ
  pub k : ℕ
  pub e : Expanded Head
  pub new : List Head
  pub h : Head
  pub q : Item × ℕ
  -- the declarations of the fields before it
  pub seen : Before
  pub expands : expand_head ds (seeing outside seen) b (head_of i) ≡ ok e
  pub adds : resolve_inserted here (seeing outside seen) e.inserted ≡ ok new
  pub resolves : resolve_head here (seeing outside seen) e.now ≡ ok h
  pub items : resolve_item i h here (seeing outside seen) k ≡ ok q
  pub head : head_of q.0 ≡ h
  pub there : get_elem? (originals out) f ≡ some q.0
  pub later : b₀ ≤ b
  -- the declaration that was inserted here with a fresh name is the first of that name
  pub nearest : (space j : ℕ) (s : Spot) → b ≤ j → first_named (in_heads new) space (fresh j) ≡ some s → first_named (standings n out) space (fresh j) ≡ some s
  pub low_head : LowHead (head_of i)
  pub low_item : LowItem i

abbrev pub at_first : {i : Item} {fs : Fields} {ds : List Declaration} {here : Env} {outside : Outside} {b k : ℕ} {r : Fields × ℕ}
    → (n : ℕ) → LowFields (i ▸ fs) → Ran i fs ds here outside b k r → At i 0 n ds here outside b r.0
at_first {outside = outside} {b = b} {k = k} n low R =
    record {
      seen = outside.before;
      b = b;
      k = k;
      e = R.e;
      new = R.new;
      h = R.h;
      q = R.q;
      expands = R.expands;
      adds = R.adds;
      resolves = R.resolves;
      items = R.items;
      head = Runs.ran_head R;
      there = rw (ran_originals R low.0.decls);
      later = omega arith;
      nearest = λ space j s l e. rw (ran_standings R low.0.decls n) (first_within (in_heads R.new) _ space (fresh j) s e);
      low_head = low.0;
      low_item = low.1;
    }

abbrev pub at_later : {i₀ i : Item} {fs : Fields} {f n : ℕ} {ds : List Declaration} {here : Env} {outside : Outside} {b k : ℕ} {r : Fields × ℕ}
    → LowFields (i₀ ▸ fs) → (R : Ran i₀ fs ds here outside b k r) → At i f (suc n) ds here (onward i₀ outside) R.e.k R.rs.0 → At i (suc f) n ds here outside b r.0
at_later {n = n} low R A =
    record {
      seen = A.seen;
      b = A.b;
      k = A.k;
      e = A.e;
      new = A.new;
      h = A.h;
      q = A.q;
      expands = A.expands;
      adds = A.adds;
      resolves = A.resolves;
      items = A.items;
      head = A.head;
      there = rw (ran_originals R low.0.decls) A.there;
      later = omega (arith, A.later, Runs.ran_grows R);
      nearest = λ space j s l e. past_field R low.0.decls n space j (omega (arith, A.later)) ∙ A.nearest space j s l e;
      low_head = A.low_head;
      low_item = A.low_item;
    }

pub at_field : (fs : Fields) (f n : ℕ) (ds : List Declaration) (here : Env) (outside : Outside) (b k : ℕ) (r : Fields × ℕ) (i : Item)
    → LowFields fs → resolve_fields fs ds here outside b k ≡ ok r → get_elem? (originals fs) f ≡ some i → At i f n ds here outside b r.0
unfolding originals
at_field end f n ds here outside b k r i low eq ei = no_option i ei
at_field (i₀ ▸ fs) zero n ds here outside b k r i low eq ei =
    let e : get_elem? (i₀ ∷ originals fs) 0 ≡ some i = rw (Lookups.originals_original i₀ fs (Lookups.low_original (head_of i₀) low.0.decls)) at ei in
    subst (λ (x : Item). At x 0 n ds here outside b r.0) (some_same i₀ i e) (at_first n low (ran i₀ fs ds here outside b k r eq))
at_field (i₀ ▸ fs) (suc f) n ds here outside b k r i low eq ei =
    let e : get_elem? (originals fs) f ≡ some i = rw (Lookups.originals_original i₀ fs (Lookups.low_original (head_of i₀) low.0.decls)) at ei in
    let R = ran i₀ fs ds here outside b k r eq in
    at_later low R (at_field fs f (suc n) ds here (onward i₀ outside) R.e.k R.q.1 R.rs i low.2 R.goes_on_lem e)

-- ---- a scope of a run

-- a scope that has passed: its fields, the tables around it, its table of step C, and its output
pub record Ended (fs : Fields) (outside : Outside) (here : Env) (out : Fields) : Type 0 where
  pub low : LowFields fs
  pub t : List Entry × ℕ
  pub k : ℕ
  pub k' : ℕ
  pub k'' : ℕ
  pub expands : expand_fields (declarations fs) outside k fs ≡ ok t
  pub table : here.entries ≡ t.0
  pub resolves : resolve_fields fs (declarations fs) here outside k k' ≡ ok (out, k'')

pub ended : (kind name : ℕ) (fs : Fields) (outside : Outside) (k : ℕ) (q : Scope × ℕ) → LowFields fs → resolve_scope (scope kind name fs) outside k ≡ ok q
    → (here : Env) × (out : Fields) × Ended fs outside here out × (q.0 ≡ scope kind name out)
unfolding resolve_scope
ended kind name fs outside k q low eq =
    let s₁ = bind_inv (prepare name fs outside k) _ q eq in
    let s₂ = bind_inv (resolve_fields fs (declarations fs) s₁.0.0 outside k s₁.0.1) _ q s₁.2 in
    let P = Runs.prepared name fs outside k s₁.0 s₁.1 in (
      s₁.0.0,
      s₂.0.0,
      record { low = low; t = P.0; k = k; k' = s₁.0.1; k'' = s₂.0.1; expands = P.1; table = P.2; resolves = s₂.1 },
      ap (λ (p : Scope × ℕ). p.0) (sym (ok_same _ q s₂.2)),
    )

module _ {fs : Fields} {outside : Outside} {here : Env} {out : Fields} (E : Ended fs outside here out) where
  -- its three views belong together
  pub framed : (w : List ℕ) → Framed (level w fs) (level w out) here
  framed w =
      record {
        same_way = refl;
        same_first = λ space name l. first_same fs (declarations fs) here outside E.k E.k' 0 (out, E.k'') space name (low_fields fs E.low) l E.resolves;
        table = Runs.table_is_output fs (declarations fs) here outside E.k E.k' (out, E.k'') E.t E.resolves E.expands ∙ ap decls_in (sym E.table);
        low = E.low;
      }

  -- what happened at a field of it
  pub at_ended : (f : ℕ) (i : Item) → get_elem? (originals fs) f ≡ some i → At i f 0 (declarations fs) here outside E.k out
  at_ended f i e = at_field fs f 0 (declarations fs) here outside E.k E.k' (out, E.k'') i E.low E.resolves e

-- ---- a walked name in its scope

-- both readings of the reference `o` of the field `f`, with the scopes around it
record Agreed (ls ls' : List Level) (f o space name : ℕ) : Type 0 where
  d : Place
  reads : outward ls space name ≡ some d
  u : Readings.Use
  there : Readings.use_in ls' f o ≡ some u
  counts : counting u.levels u.operand ≡ some d

-- an original spot is what it means
pub meant_place : (ls : List Level) (l : Level) (o : Option Spot) (p : Place) → (o then place l) ≡ some p → (o then meant ls l) ≡ some p
unfolding ◌then◌ place meant
meant_place ls l none p e = e
meant_place ls l (some (original field at)) p e = e
meant_place ls l (some (inserted h)) p e = no_option p e

pub use_there : (l : Level) (ls : List Level) (f o : ℕ) (i : Item) (h : Head) (op : Operand) → get_elem? (originals l.fields) f ≡ some i → head_of i ≡ h → get_elem? h.operands o ≡ some op
    → Readings.use_in (l ∷ ls) f o ≡ some (record { levels = l ∷ ls; head = h; operand = op })
unfolding Readings.use_in ◌then◌
use_there l ls f o i h op e₁ e₂ e₃ = rw (e₁, e₂, e₃)

pub not_declared : (l : Level) (space name : ℕ) → find (declarations l.fields) space name ≡ none → declared l space name ≡ none
unfolding declared ◌then◌
not_declared l space name e = ap (λ (o : Option Spot). o then place l) (go (first_named (standings 0 l.fields) space name) (rw (Lookups.standings_decls 0 l.fields, e) at (found (standings 0 l.fields) space name)))
  where
    go : (o : Option Spot) → Found (of_space (standings 0 l.fields) space) none o → o ≡ none
    go none f = refl
    go (some s) f = absurd f

-- what `counted` gives for the number of a name
pub counted_first : (l : Level) (e : Env) (space x n : ℕ) (s : Spot) → declarations l.fields ≡ table_of e → find (table_of e) space x ≡ some n → first_named (standings 0 l.fields) space x ≡ some s
    → counted l space n ≡ some s
unfolding counted
counted_first l e space x n s t f g = rw (Lookups.standings_decls 0 l.fields, t, f, g) at (found (standings 0 l.fields) space x)

-- the alias counts on to where the walk ended
through_alias : (l : Level) (ls : List Level) (space x z i n : ℕ) (at : ℕ × ℕ) (p : Place) → at.0 ≡ i + 1
    → (get_elem? ls i then λ l. counted l space at.1 then place l) ≡ some p
    → counted l space n ≡ some (inserted (Rules.outer_alias space x at.0 at.1 z))
    → counting (l ∷ ls) (ref space (Num n) [] z) ≡ some p
unfolding counting meant Readings.counted_out Rules.outer_alias ◌then◌ when◌then◌else◌
through_alias l ls space x z i n at p far there e = rw (e, far ∙ add-one i) there

-- both readings of a reference, here the number `n` in the output
abbrev Both : (ls ls' : List Level) (space name n z : ℕ) → Type 0
Both ls ls' space name n z = (d : Place) × (outward ls space name ≡ some d) × (counting ls' (ref space (Num n) [] z) ≡ some d)

module _ {fs : Fields} {outside : Outside} {here : Env} {out : Fields} (w : List ℕ) (E : Ended fs outside here out) {ins outs : List Level} (Fs : Frames ins outs outside.scopes)
    (space name z : ℕ) (low : name ≤ top_name) where
  -- the name is in the table of its own scope
  read_here : (n : ℕ) → find (table_of here) space name ≡ some n → Both (level w fs ∷ ins) (level w out ∷ outs) space name n z
  unfolding outward counting ◌or_else◌
  read_here n f = go (declared (level w fs) space name) refl (rw f at (here_meets (framed E w) space name low))
    where
      go : (o : Option Place) → declared (level w fs) space name ≡ o → Meets (level w out) space (some n) o → Both (level w fs ∷ ins) (level w out ∷ outs) space name n z
      go none e m = absurd m
      go (some p) e m = (p, rw e, meant_place (level w out ∷ outs) (level w out) (counted (level w out) space n) p m)

  -- the name is found further out, and its alias is in the table
  read_further : (n x : ℕ) (at : ℕ × ℕ) → find (declarations fs) space name ≡ none → walk outside.scopes 1 space name ≡ some at
      → counted (level w out) space n ≡ some (inserted (Rules.outer_alias space x at.0 at.1 z))
      → Both (level w fs ∷ ins) (level w out ∷ outs) space name n z
  unfolding outward ◌or_else◌
  read_further n x at f e c = go (outward ins space name) refl (rw e at (walks Fs 1 space name low))
    where
      go : (o : Option Place) → outward ins space name ≡ o → Walks outs space 1 (some at) o → Both (level w fs ∷ ins) (level w out ∷ outs) space name n z
      go none q m = absurd m
      go (some p) q m = (p, rw (not_declared (level w fs) space name f, q), through_alias (level w out) outs space x z m.0 n at p m.1 m.2 c)

  -- a walked name at the operand `o` of the field `f`
  agreed : (f o : ℕ) (i : Item) → here_only (head_of i).code ≡ false → get_elem? (head_of i).operands o ≡ some (ref space (Id name) [] z)
      → At i f 0 (declarations fs) here outside E.k out → Agreed (level w fs ∷ ins) (level w out ∷ outs) f o space name
  agreed f o i c e A =
      go M.0 M.1 M.2
    where
      M : (now : Operand) × (get_elem? A.e.now.operands o ≡ some now) × Made (declarations fs) (seeing outside A.seen) space name z A.b now A.e.inserted
      M = holds_of _ (expand_head (declarations fs) (seeing outside A.seen) A.b (head_of i)) A.e (head_made (declarations fs) (seeing outside A.seen) space name z A.b (head_of i) o c e) A.expands

      number : (x : ℕ) → get_elem? A.e.now.operands o ≡ some (ref space (Id x) [] z)
          → (n : ℕ) × (find (table_of here) space x ≡ some n) × (get_elem? A.h.operands o ≡ some (ref space (Num n) [] z))
      number x g =
          let N = holds_of (λ (h : Head). Numbered here (seeing outside A.seen) space (Id x) [] z o h.operands) _ A.h (head_numbered here (seeing outside A.seen) space (Id x) [] z A.e.now o g) A.resolves in
          (N.0, named_number here.entries space x z N.0 N.1, N.2)

      make : (n : ℕ) → get_elem? A.h.operands o ≡ some (ref space (Num n) [] z)
          → Both (level w fs ∷ ins) (level w out ∷ outs) space name n z → Agreed (level w fs ∷ ins) (level w out ∷ outs) f o space name
      make n g r = record { d = r.0; reads = r.1; u = _; there = use_there (level w out) outs f o A.q.0 A.h _ A.there A.head g; counts = r.2 }

      go : (now : Operand) → get_elem? A.e.now.operands o ≡ some now → Made (declarations fs) (seeing outside A.seen) space name z A.b now A.e.inserted → Agreed (level w fs ∷ ins) (level w out ∷ outs) f o space name
      go now g (left p _) =
          let N = number name (g ∙ ap {B = Option Operand} some p) in
          make N.0 N.2 (read_here N.0 N.1)
      go now g (aliased j at f₁ w₁ b p a) =
          let N = number (fresh j) (g ∙ ap {B = Option Operand} some p) in
          let alias = Rules.outer_alias space (fresh j) at.0 at.1 z in
          let first : first_named (in_heads A.new) space (fresh j) ≡ some (inserted alias) =
          holds_of _ _ A.new (inserted_first here (seeing outside A.seen) space (fresh j) alias alias (alias_resolved here (seeing outside A.seen) space (fresh j) at.0 at.1 z) A.e.inserted a) A.adds in
          make N.0 N.2 (read_further N.0 (fresh j) at f₁ w₁
          (counted_first (level w out) here space (fresh j) N.0 (inserted alias) (framed E w).table N.1 (A.nearest space j (inserted alias) b first)))

-- ---- down the way to the scope of the reference

-- the scope that a field holds
pub record Within (gs : Fields) (outside : Outside) (i' : Item) : Type 0 where
  pub here : Env
  pub out : Fields
  pub ends : Ended gs outside here out
  pub holding : Readings.held i' ≡ some out

pub within : (i : Item) (h : Head) (gs : Fields) (here : Env) (outside : Outside) (k : ℕ) (q : Item × ℕ) → LowItem i → Readings.held i ≡ some gs → resolve_item i h here outside k ≡ ok q
    → Within gs (inward (head_of i) here outside) q.0
unfolding Readings.held resolve_scope head_of
within (plain h₀) h gs here outside k q low e eq = no_option gs e
within (holds h₀ (scope kind name fs)) h gs here outside k q low e eq =
    let s₁ = bind_inv (resolve_scope (scope kind name fs) (inward h₀ here outside) k) _ q eq in
    let E = ended kind name fs (inward h₀ here outside) k s₁.0 low.1 s₁.1 in
    subst (λ (x : Fields). Within x (inward h₀ here outside) q.0) (some_same fs gs e)
    (record {
      here = E.0;
      out = E.1;
      ends = E.2;
      holding = ap (λ (p : Item × ℕ). Readings.held p.0) (sym (ok_same _ q s₁.2)) ∙ ap (λ (s : Scope). Readings.held (holds h s)) E.3;
    })

pub around_step : (n : ℕ) (way : List ℕ) (l : Level) (outside : List Level) (i : Item) (fs : Fields) (ls : List Level) → get_elem? (originals l.fields) n ≡ some i → Readings.held i ≡ some fs
    → Readings.around way (level (l.way ++ (n ∷ [])) fs) (l ∷ outside) ≡ some ls → Readings.around (n ∷ way) l outside ≡ some ls
unfolding Readings.around ◌then◌
around_step n way l outside i fs ls e₁ e₂ e₃ = rw (e₁, e₂) e₃

-- one scope further along a way
pub around_snoc : (way : List ℕ) (n : ℕ) (l : Level) (outside : List Level) (l' : Level) (ls : List Level) (i : Item) (gs : Fields) → Readings.around way l outside ≡ some (l' ∷ ls)
    → get_elem? (originals l'.fields) n ≡ some i → Readings.held i ≡ some gs → Readings.around (way ++ (n ∷ [])) l outside ≡ some (level (l'.way ++ (n ∷ [])) gs ∷ l' ∷ ls)
unfolding Readings.around ◌then◌
around_snoc [] n l outside l' ls i gs e e₁ e₂ =
    let same : (l ∷ outside) ≡ (l' ∷ ls) = some_same _ _ e in
    let first : l ≡ l' = cc in
    let rest : outside ≡ ls = cc in
    rw (first, rest, e₁, e₂)
around_snoc (m ∷ way) n l outside l' ls i gs e e₁ e₂ =
    let s₁ = then_some (get_elem? (originals l.fields) m) _ (l' ∷ ls) e in
    let s₂ = then_some (Readings.held s₁.0) _ (l' ∷ ls) s₁.2 in
    around_step m (way ++ (n ∷ [])) l outside s₁.0 s₂.0 _ s₁.1 s₂.1 (around_snoc way n (level (l.way ++ (m ∷ [])) s₂.0) (l ∷ outside) l' ls i gs s₂.2 e₁ e₂)

pub use_inv : (l : Level) (ls : List Level) (f o : ℕ) (u : Readings.Use) → Readings.use_in (l ∷ ls) f o ≡ some u
    → (i : Item) × (get_elem? (originals l.fields) f ≡ some i) × (get_elem? (head_of i).operands o ≡ some u.operand) × (head_of i ≡ u.head)
unfolding Readings.use_in
use_inv l ls f o u e =
    let s₁ = then_some (get_elem? (originals l.fields) f) _ u e in
    let s₂ = then_some (get_elem? (head_of s₁.0).operands o) _ u s₁.2 in
    let same = some_same _ u s₂.2 in
    (s₁.0, s₁.1, s₂.1 ∙ ap {B = Option Operand} (λ (v : Readings.Use). some v.operand) same, ap (λ (v : Readings.Use). v.head) same)

agree_here : {fs : Fields} {outside : Outside} {here : Env} {out : Fields} (w : List ℕ) → Ended fs outside here out → {ins outs : List Level} → Frames ins outs outside.scopes
    → (f o : ℕ) (u : Readings.Use) (x : ℕ × ℕ) → Readings.use_in (level w fs ∷ ins) f o ≡ some u → Readings.walked u.head u.operand ≡ some x
    → Agreed (level w fs ∷ ins) (level w out ∷ outs) f o x.0 x.1
agree_here {fs} w E {ins} Fs f o u x e₁ e₂ =
    let U = use_inv (level w fs) ins f o u e₁ in
    let W = walked_ref u.head u.operand x e₂ in
    let A = at_ended E f U.0 U.1 in
    let e : get_elem? (head_of U.0).operands o ≡ some (ref x.0 (Id x.1) [] W.0) = U.2 ∙ ap {B = Option Operand} some W.1 in
    let c : here_only (head_of U.0).code ≡ false = ap (λ (h : Head). here_only h.code) U.3 ∙ W.2 in
    let l : LowOperand (ref x.0 (Id x.1) [] W.0) = low_operand (head_of U.0).operands o _ A.low_head.operands e in
    agreed w E Fs x.0 x.1 W.0 l.1 f o U.0 c e A

-- The scope at the end of a way: `ls` are it and those around it in the input, `ls'` in the output.
pub record Arrived (ls ls' : List Level) : Type 0 where
  pub fs : Fields
  pub outside : Outside
  pub here : Env
  pub out : Fields
  pub w : List ℕ
  pub ends : Ended fs outside here out
  pub ins : List Level
  pub outs : List Level
  pub frames : Frames ins outs outside.scopes
  pub was : level w fs ∷ ins ≡ ls
  pub now : level w out ∷ outs ≡ ls'

pub descend : (way : List ℕ) {fs : Fields} {outside : Outside} {here : Env} {out : Fields} (w : List ℕ) → Ended fs outside here out → {ins outs : List Level} → Frames ins outs outside.scopes
    → (ls : List Level) → Readings.around way (level w fs) ins ≡ some ls
    → (ls' : List Level) × (Readings.around way (level w out) outs ≡ some ls') × Arrived ls ls'
unfolding Readings.around
descend [] {fs} {outside} {here} {out} w E {ins} {outs} Fs ls e₁ = (
  _,
  refl,
  record { fs = fs; outside = outside; here = here; out = out; w = w; ends = E; ins = ins; outs = outs; frames = Fs; was = some_same _ ls e₁; now = refl },
)
descend (n ∷ way) {fs} {outside} {here} {out} w E {ins} {outs} Fs ls e₁ =
    let s₁ = then_some (get_elem? (originals fs) n) _ ls e₁ in
    let s₂ = then_some (Readings.held s₁.0) _ ls s₁.2 in
    let A = at_ended E n s₁.0 s₁.1 in
    let W = within s₁.0 A.h s₂.0 here (seeing outside A.seen) A.k A.q A.low_item s₂.1 A.items in
    let I = descend way {here = W.here} {out = W.out} (w ++ (n ∷ [])) W.ends (inside (pushed (framed E w) A.seen.decls) Fs) ls s₂.2 in
    (I.0, around_step n way (level w out) outs A.q.0 W.out I.0 A.there W.holding I.1, I.2)

agree_at : {ls ls' : List Level} → Arrived ls ls' → (f o : ℕ) (u : Readings.Use) (x : ℕ × ℕ) → Readings.use_in ls f o ≡ some u → Readings.walked u.head u.operand ≡ some x
    → Agreed ls ls' f o x.0 x.1
agree_at {ls} {ls'} D f o u x e₁ e₂ =
    subst (λ (v : List Level). Agreed v ls' f o x.0 x.1) D.was
    (subst (λ (v : List Level). Agreed (level D.w D.fs ∷ D.ins) v f o x.0 x.1) D.now
    (agree_here D.w D.ends D.frames f o u x (ap (λ (v : List Level). Readings.use_in v f o) D.was ∙ e₁) e₂))

-- ---- the theorem

pub use_levels : (ls : List Level) (f o : ℕ) (u : Readings.Use) → Readings.use_in ls f o ≡ some u → u.levels ≡ ls
unfolding Readings.use_in
use_levels [] f o u e = no_option u e
use_levels (l ∷ ls) f o u e =
    let s₁ = then_some (get_elem? (originals l.fields) f) _ u e in
    let s₂ = then_some (get_elem? (head_of s₁.0).operands o) _ u s₁.2 in
    ap (λ (v : Readings.Use). v.levels) (sym (some_same _ u s₂.2))

-- of a tree at the end of `base`, with these scopes around it
module _ (base : List ℕ) (around : List Level) (s : Scope) (p : Place) where
  pub walked_at_lem : (u : Readings.Use) (x : ℕ × ℕ) → Readings.use_inside base around s p ≡ some u → Readings.walked u.head u.operand ≡ some x → Readings.walked_inside base around s p ≡ some x
  unfolding Readings.walked_inside ◌then◌
  walked_at_lem u x e₁ e₂ = rw e₁ e₂

  pub outward_is : (u : Readings.Use) (x : ℕ × ℕ) (d : Place) → Readings.use_inside base around s p ≡ some u → Readings.walked u.head u.operand ≡ some x
      → outward u.levels x.0 x.1 ≡ some d → Readings.outward_inside base around s p ≡ some d
  unfolding Readings.outward_inside ◌then◌
  outward_is u x d e₁ e₂ e₃ = rw (e₁, e₂) e₃

  pub counting_is : (ls : List Level) (u : Readings.Use) (d : Place) → Readings.around p.way (level base (Readings.fields_of s)) around ≡ some ls → Readings.use_in ls p.field p.at ≡ some u
      → counting u.levels u.operand ≡ some d → Readings.counting_inside base around s p ≡ some d
  unfolding Readings.counting_inside Readings.use_inside ◌then◌
  counting_is ls u d e₁ e₂ e₃ = rw (e₁, e₂) e₃

  pub use_is : (ls : List Level) (u : Readings.Use) → Readings.around p.way (level base (Readings.fields_of s)) around ≡ some ls → Readings.use_in ls p.field p.at ≡ some u
      → Readings.use_inside base around s p ≡ some u
  unfolding Readings.use_inside ◌then◌
  use_is ls u e₁ e₂ = rw e₁ e₂

-- In an accepted tree the outward reading of every walked name is a declaration, and counting in the output gives the same one.
-- The tree lies at the end of `base`, inside scopes of which the same holds.
pub readings_agree : (rules : RuleSet) (base : List ℕ) {ins outs : List Level} {around : List Env} → Frames ins outs around → (s : Scope) (r : Scope × ℕ) (p : Place) (x : ℕ × ℕ) → LowScope s
    → resolve_inside rules around s ≡ ok r → Readings.walked_inside base ins s p ≡ some x
    → (d : Place) × (Readings.outward_inside base ins s p ≡ some d) × (Readings.counting_inside base outs r.0 p ≡ some d)
unfolding Readings.walked_inside Readings.use_inside
readings_agree rules base {ins} {outs} {around} Fs (scope kind name fs) r p x low eq w =
    let E = ended kind name fs (at_root rules around) 0 r low.1 eq in
    let s₁ = then_some (Readings.use_inside base ins (scope kind name fs) p) _ x w in
    let s₂ = then_some (Readings.around p.way (level base fs) ins) _ s₁.0 s₁.1 in
    let D = descend p.way base E.2 Fs s₂.0 s₂.1 in
    let A = agree_at D.2 p.field p.at s₁.0 x s₂.2 s₁.2 in (
      A.d,
      outward_is base ins (scope kind name fs) p s₁.0 x A.d s₁.1 s₁.2
          (ap (λ (v : List Level). outward v x.0 x.1) (use_levels s₂.0 p.field p.at s₁.0 s₂.2) ∙ A.reads),
      counting_is base outs r.0 p D.0 A.u A.d (ap (λ (t : Scope). Readings.around p.way (level base (Readings.fields_of t)) outs) E.3 ∙ D.1) A.there A.counts,
    )

-- So an accepted tree has no walked name that no scope around it declares.
pub accepted_declared : (rules : RuleSet) (base : List ℕ) {ins outs : List Level} {around : List Env} → Frames ins outs around → (s : Scope) (r : Scope × ℕ) (p : Place) (x : ℕ × ℕ) → LowScope s
    → resolve_inside rules around s ≡ ok r → Readings.walked_inside base ins s p ≡ some x → ¬ (Readings.outward_inside base ins s p ≡ none)
accepted_declared rules base Fs s r p x low eq w e = let A = readings_agree rules base Fs s r p x low eq w in no_option A.0 (sym e ∙ A.1)
