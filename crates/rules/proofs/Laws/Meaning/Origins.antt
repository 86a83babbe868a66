-- What a field of the output comes from: it is a field of the input or was inserted before one, and an inserted outer alias is that of
-- a walked name of the field.
use Rattle.std.specs.Prelude.{◌≡◌, refl, true, false}
use Rattle.std.proofs.Common.{ap, sym, ◌∙◌, subst, arith}
use Rattle.std.proofs.Math.Option.{Option, none, some, map}
use mathlib.Core.List.{List, [], ◌∷◌}
use Prim.Native.Nat.{ℕ, zero, suc}
use Rattle.std.proofs.Math.ListN.{get_elem?}
use Rattle.rules.specs.Tools.{when◌then◌else◌, only, is_in}
use Rattle.rules.specs.Rows.{Index, Num, Id}
use Rattle.rules.specs.Tree.{Declaration, Operand, ref, outer, case, Head, Fields, end, ◌▸◌, Item, plain, head_of, with_operands}
use Rattle.rules.specs.Shapes.{FOUR, here_only}
use Rattle.rules.specs.Rules
use Rattle.rules.specs.Rules.{ok, Env, Outside, onward, find, fresh, walk, expand_operand, expand_operands, expand_head, path_aliases, export_alias, outer_alias, ◌before◌, resolve_head, resolve_inserted, resolve_fields}
use Rattle.rules.specs.Readings.{is_inserted, originals}
use Rattle.rules.specs.Explainer.{items, renumbered}
use Rattle.rules.specs.Laws.ToolLaws.{if_ok_lem, All, done, ◌&◌, all_append, all_map}
use Rattle.rules.specs.Laws.Meaning.Names.{LowFields}
use Rattle.rules.proofs.Laws.Meaning.Runs
use Rattle.rules.proofs.Laws.Meaning.Runs.{AllNew, Ran, ran, ran_end}
use Rattle.rules.proofs.Laws.Meaning.StepC.{alias_resolved}
use Rattle.rules.proofs.Laws.Meaning.Lookups
use Rattle.rules.proofs.Laws.Meaning.Agree
use Rattle.rules.proofs.Laws.Meaning.Agree.{At, at_first, at_later}
use Rattle.rules.specs.Laws.Results.{bind_any, just_none, if_both, bind_eq, OkR, holds_of, bind_ok, some_same, ok_same, no_option}

-- ---- what a field of the output comes from

pub data In (h : Head) : List Head → Type 0 where
  first : {hs : List Head} → In h (h ∷ hs)
  behind : {x : Head} {hs : List Head} → In h hs → In h (x ∷ hs)

-- a field among inserted ones, the field that they stand before, and the fields behind it
data Split (hs : List Head) (i : Item) (gs : Fields) (j : ℕ) (i' : Item) : Type 0 where
  of_new : (h : Head) → In h hs → i' ≡ plain h → Split hs i gs j i'
  itself : i' ≡ i → renumbered (◌before◌ hs (i ▸ gs)) j ≡ some 0 → Split hs i gs j i'
  later : (j' : ℕ) → get_elem? (items gs) j' ≡ some i' → renumbered (◌before◌ hs (i ▸ gs)) j ≡ map suc (renumbered gs j') → Split hs i gs j i'

split : (lo hi : ℕ) (hs : List Head) (i : Item) (gs : Fields) (j : ℕ) (i' : Item) → AllNew lo hi hs → is_inserted (head_of i) ≡ false
    → get_elem? (items (◌before◌ hs (i ▸ gs))) j ≡ some i' → Split hs i gs j i'
unfolding items ◌before◌ renumbered only when◌then◌else◌
split lo hi [] i gs zero i' a o e = itself (sym (some_same i i' e)) (rw o)
split lo hi [] i gs (suc j) i' a o e = later j e (rw o)
split lo hi (h ∷ hs) i gs zero i' a o e = of_new h first (sym (some_same (plain h) i' e))
split lo hi (h ∷ hs) i gs (suc j) i' a o e = go (split lo hi hs i gs j i' a.1 o e)
  where
    new : is_inserted (head_of (plain h)) ≡ true
    new = unfold head_of in Lookups.new_inserted lo hi h a.0

    go : Split hs i gs j i' → Split (h ∷ hs) i gs (suc j) i'
    go (of_new x p q) = of_new x (behind p) q
    go (itself p q) = itself p (rw new q)
    go (later j' p q) = later j' p (rw new q)

-- the field of the input, what happened there, and whether this one was inserted there or is that field
pub data Origin {i : Item} {f n : ℕ} {ds : List Declaration} {here : Env} {outside : Outside} {b : ℕ} {out : Fields} (A : At i f n ds here outside b out) (j : ℕ) (i' : Item) : Type 0 where
  made : (h : Head) → In h A.new → i' ≡ plain h → Origin A j i'
  kept : i' ≡ A.q.0 → is_inserted (head_of i') ≡ false → renumbered out j ≡ some f → Origin A j i'

pub record From (fs : Fields) (n : ℕ) (ds : List Declaration) (here : Env) (outside : Outside) (b : ℕ) (out : Fields) (j : ℕ) (i' : Item) : Type 0 where
  pub f : ℕ
  pub i : Item
  pub there : get_elem? (originals fs) f ≡ some i
  pub A : At i f n ds here outside b out
  pub origin : Origin A j i'

pub from : (fs : Fields) (n : ℕ) (ds : List Declaration) (here : Env) (outside : Outside) (b k : ℕ) (r : Fields × ℕ) (j : ℕ) (i' : Item)
    → LowFields fs → resolve_fields fs ds here outside b k ≡ ok r → get_elem? (items r.0) j ≡ some i' → From fs n ds here outside b r.0 j i'
unfolding items
from end n ds here outside b k r j i' low eq e =
    no_option i' (rw (← ap (λ (x : Fields × ℕ). x.0) (ran_end ds here outside b k r eq)) at e)
from (i ▸ fs) n ds here outside b k r j i' low eq e =
    go (split b R.e.k R.new R.q.0 R.rs.0 j i' (Runs.ran_new R) (Agree.stays_original R low.0.decls) (subst (λ (x : Fields). get_elem? (items x) j ≡ some i') (sym out) e))
    (λ j' p. from fs (suc n) ds here (onward i outside) R.e.k R.q.1 R.rs j' i' low.2 R.goes_on_lem p)
  where
    R : Ran i fs ds here outside b k r
    R = ran i fs ds here outside b k r eq

    out : ◌before◌ R.new (R.q.0 ▸ R.rs.0) ≡ r.0
    out = ap (λ (x : Fields × ℕ). x.0) R.result

    own : originals (i ▸ fs) ≡ i ∷ originals fs
    own = Lookups.originals_original i fs (Lookups.low_original (head_of i) low.0.decls)

    next : (j' : ℕ) → renumbered (◌before◌ R.new (R.q.0 ▸ R.rs.0)) j ≡ map suc (renumbered R.rs.0 j')
        → From fs (suc n) ds here (onward i outside) R.e.k R.rs.0 j' i' → From (i ▸ fs) n ds here outside b r.0 j i'
    next j' q F = record { f = suc F.f; i = F.i; there = rw own F.there; A = at_later low R F.A; origin = onward F.origin }
      where
        onward : Origin F.A j' i' → Origin (at_later low R F.A) j i'
        onward (made h a c) = made h a c
        onward (kept a c d) = kept a c (rw out at (rw d at q))

    go : Split R.new R.q.0 R.rs.0 j i' → ((j' : ℕ) → get_elem? (items R.rs.0) j' ≡ some i' → From fs (suc n) ds here (onward i outside) R.e.k R.rs.0 j' i')
        → From (i ▸ fs) n ds here outside b r.0 j i'
    go (of_new h p q) below = record { f = 0; i = i; there = rw own; A = at_first n low R; origin = made h p q }
    go (itself p q) below = record { f = 0; i = i; there = rw own; A = at_first n low R; origin = kept p (rw p (Agree.stays_original R low.0.decls)) (rw out at q) }
    go (later j' p q) below = next j' q (below j' p)

-- ---- an inserted outer alias is that of a walked name

-- what it was made of, and what became of its reference
pub record Served (ds : List Declaration) (outside : Outside) (was now : Operand) (x : Head) : Type 0 where
  pub space : ℕ
  pub name : ℕ
  pub z : ℕ
  pub j : ℕ
  pub at : ℕ × ℕ
  pub was_ref : was ≡ ref space (Id name) [] z
  pub now_ref : now ≡ ref space (Id (fresh j)) [] z
  pub is : x ≡ outer_alias space (fresh j) at.0 at.1 z
  pub four : is_in space FOUR ≡ true
  pub absent : find ds space name ≡ none
  pub walks_to : walk outside.scopes 1 space name ≡ some at

pub record ServedIn (ds : List Declaration) (outside : Outside) (os os' : List Operand) (x : Head) : Type 0 where
  pub o : ℕ
  pub was : Operand
  pub now : Operand
  pub had : get_elem? os o ≡ some was
  pub has : get_elem? os' o ≡ some now
  pub served : Served ds outside was now x

pub record ServedBy (ds : List Declaration) (outside : Outside) (h h' : Head) (x : Head) : Type 0 where
  pub walks : here_only h.code ≡ false
  pub served : ServedIn ds outside h.operands h'.operands x

abbrev pub IfOuter : (Head → Type 0) → Head → Type 0
IfOuter P x = x.code ≡ 11 → P x

export_other : (code space new on : ℕ) (at : Index) (p z : ℕ) → ¬ (code ≡ 11) → ¬ ((export_alias code space new on at p z).code ≡ 11)
unfolding export_alias
export_other code space new on at p z h = h

paths_other : (space : ℕ) (at : Index) (p : ℕ) (ps : List ℕ) (z k : ℕ) → All (λ (x : Head). ¬ (x.code ≡ 11)) (path_aliases space at p ps z k)
unfolding path_aliases
paths_other space at p [] z k =
    if_both (λ (x : Head). ¬ (x.code ≡ 11)) _ _ _ (export_other 10 space (fresh k) 6 at p z (omega arith)) (export_other 9 space (fresh k) 10 at p z (omega arith)) & done
paths_other space at p (q ∷ ps) z k = export_other 9 10 (fresh k) 10 at p z (omega arith) & paths_other space (Id (fresh k)) q ps z (suc k)

module _ (ds : List Declaration) (outside : Outside) where
  found_served : (space name z k : ℕ) (o : Option (ℕ × ℕ)) → find ds space name ≡ none → walk outside.scopes 1 space name ≡ o
      → OkR (λ e. All (IfOuter (Served ds outside (ref space (Id name) [] z) e.now)) e.inserted) (Rules.found_at space name z k o)
  unfolding Rules.found_at Rules.as_it_is Rules.through
  found_served space name z k none f w = done
  found_served space name z k (some at) f w =
      if_ok_lem (OkR _) _ _ _ (λ t. (λ _. record {
        space = space;
        name = name;
        z = z;
        j = k;
        at = at;
        was_ref = refl;
        now_ref = refl;
        is = refl;
        four = t;
        absent = f;
        walks_to = w;
      }) & done) (λ _. tt)

  operand_served : (k : ℕ) (o : Operand) → OkR (λ e. All (IfOuter (Served ds outside o e.now)) e.inserted) (expand_operand ds outside k o)
  unfolding expand_operand Rules.as_it_is Rules.through
  operand_served k (ref space (Num n) [] z) = done
  operand_served k (ref space (Id name) [] z) =
      bind_any _ _ _ (λ u. if_ok_lem (OkR _) _ _ _ (λ _. done) (λ f. found_served space name z k (walk outside.scopes 1 space name) (just_none (find ds space name) f) refl))
  operand_served k (ref space at (p ∷ ps) z) = if_both (OkR _) _ _ _ tt (all_map (path_aliases space at p ps z k) (λ x h c. absurd (h c)) (paths_other space at p ps z k))
  operand_served k (outer space up at z) = done
  operand_served k (case name z) = done

  operands_served : (k : ℕ) (os : List Operand) → OkR (λ e. All (IfOuter (ServedIn ds outside os e.now)) e.inserted) (expand_operands ds outside k os)
  unfolding expand_operands Rules.as_it_is
  operands_served k [] = done
  operands_served k (o ∷ os) = bind_ok _ _ _ _ (operand_served k o) (λ e s. bind_ok _ _ _ _ (operands_served e.k os) (λ es ss.
      all_append e.inserted es.inserted
      (all_map e.inserted (λ x p c. record { o = 0; was = o; now = e.now; had = refl; has = refl; served = p c }) s)
      (all_map es.inserted (λ x p c. let q = p c in record { o = suc q.o; was = q.was; now = q.now; had = q.had; has = q.has; served = q.served }) ss)))

  pub head_served : (k : ℕ) (h : Head) → OkR (λ e. All (IfOuter (ServedBy ds outside h e.now)) e.inserted) (expand_head ds outside k h)
  unfolding expand_head Rules.as_it_is with_operands
  head_served k h =
      if_ok_lem (OkR _) _ _ _ (λ _. done)
      (λ f. bind_ok _ _ _ _ (operands_served k h.operands) (λ e s. all_map e.inserted (λ x p c. record { walks = f; served = p c }) s))

-- step C leaves an outer alias as it is
pub outer_stays : (here : Env) (outside : Outside) {P : Head → Type 0} → ((x : Head) → P x → resolve_head here outside x ≡ ok x) → (hs : List Head) → All (IfOuter P) hs
    → OkR (All (IfOuter P)) (resolve_inserted here outside hs)
unfolding resolve_inserted
outer_stays here outside s [] a = done
outer_stays here outside {P} s (h ∷ hs) (p & a) =
    bind_any _ _ _ (λ u. bind_eq _ _ _ (λ h' e. bind_ok _ _ _ _ (outer_stays here outside s hs a) (λ hs' b.
    (λ c. let q = p (sym (holds_of _ _ h' (Runs.head_same here outside h) e).1 ∙ c) in subst P (ok_same h h' (sym (s h q) ∙ e)) q) & b)))

pub served_stays : (here : Env) (outside : Outside) (ds : List Declaration) (h h' x : Head) → ServedBy ds outside h h' x → resolve_head here outside x ≡ ok x
served_stays here outside ds h h' x s =
    let q = s.served.served in
    subst (λ (y : Head). resolve_head here outside y ≡ ok y) (sym q.is) (alias_resolved here outside q.space (fresh q.j) q.at.0 q.at.1 q.z)

pub all_in : {P : Head → Type 0} {h : Head} {hs : List Head} → All P hs → In h hs → P h
all_in done q = elim q [ ]
all_in (p & ps) first = p
all_in (p & ps) (behind q) = all_in ps q
