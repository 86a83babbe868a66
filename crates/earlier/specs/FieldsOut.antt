-- A field of the output: the field of the input that it is or was inserted before, what the steps did there, and what stands before it.
use Rattle.std.specs.Prelude.{◌≡◌, refl, Bool, true, false, ◌||◌, ℕ, zero, suc}
use Rattle.std.proofs.Math.Path.{ap}
use Rattle.std.proofs.Common.{sym, ◌∙◌, subst}
use Rattle.std.proofs.Math.Option.{some}
use mathlib.Core.List.{List, [], ◌∷◌, ◌++◌, append_assoc}
use Rattle.std.proofs.Math.ListN.{get_elem?}
use Rattle.rules.specs.Tools.{when◌then◌else◌, only}
use Rattle.rules.specs.Tree.{Declaration, Head, Fields, end, ◌▸◌, Item, plain, head_of}
use Rattle.rules.specs.Rules.{Before, ok, Env, Outside, onward, Expanded, expand_head, heads_decls, ◌before◌, resolve_head, resolve_inserted, resolve_item, resolve_fields}
use Rattle.rules.specs.Readings.{is_inserted, originals}
use Rattle.rules.specs.Explainer.{items, renumbered}
use Rattle.rules.specs.Laws.ToolLaws.{or-true}
use Rattle.rules.specs.Laws.Results.{some_same, no_option}
use Rattle.rules.specs.Laws.Meaning.Names.{LowHead, LowFields, LowItem}
use Rattle.rules.proofs.Laws.Meaning.Lookups as lookups
use Rattle.rules.proofs.Laws.Meaning.Lookups.{has}
use Rattle.rules.proofs.Laws.Meaning.Runs as runs
use Rattle.rules.proofs.Laws.Meaning.Runs.{seeing, AllNew, Ran, ran, ran_end}
use Rattle.rules.proofs.Laws.Meaning.Agree as readings
use Rattle.rules.proofs.Laws.Meaning.Origins.{In, first, behind}
use Rattle.rules.proofs.Laws.Meaning.Unknown.{has_append}
use Rattle.rules.proofs.Laws.Meaning.Early.{firsts}

-- ---- inserted fields, the field that they stand before, and the fields behind it

-- the number `m`, where these stand before
abbrev past : List Head → (m : ℕ) → ℕ
past [] m = m
past (h ∷ hs) m = suc (past hs m)

data Split (hs : List Head) (i : Item) (gs : Fields) (j : ℕ) (i' : Item) : Type 0 where
  of_new : (h : Head) → In h hs → i' ≡ plain h → Split hs i gs j i'
  itself : i' ≡ i → j ≡ past hs 0 → Split hs i gs j i'
  later : (j' : ℕ) → get_elem? (items gs) j' ≡ some i' → j ≡ past hs (suc j') → Split hs i gs j i'

split : (hs : List Head) (i : Item) (gs : Fields) (j : ℕ) (i' : Item) → get_elem? (items (◌before◌ hs (i ▸ gs))) j ≡ some i' → Split hs i gs j i'
unfolding items ◌before◌
split [] i gs zero i' e = itself (sym (some_same i i' e)) refl
split [] i gs (suc j) i' e = later j e refl
split (h ∷ hs) i gs zero i' e = of_new h first (sym (some_same (plain h) i' e))
split (h ∷ hs) i gs (suc j) i' e = go (split hs i gs j i' e)
  where
    go : Split hs i gs j i' → Split (h ∷ hs) i gs (suc j) i'
    go (of_new x p q) = of_new x (behind p) q
    go (itself p q) = itself p (ap suc q)
    go (later j' p q) = later j' p (ap suc q)

new_in : (lo hi : ℕ) {h : Head} {hs : List Head} → AllNew lo hi hs → In h hs → is_inserted h ≡ true
new_in lo hi {h} a first = lookups.new_inserted lo hi h a.0
new_in lo hi a (behind p) = new_in lo hi a.1 p

firsts_behind : (hs : List Head) (m : ℕ) (fs : Fields) → firsts (past hs m) (◌before◌ hs fs) ≡ heads_decls hs ++ firsts m fs
unfolding firsts ◌before◌ heads_decls head_of
firsts_behind [] m fs = refl
firsts_behind (h ∷ hs) m fs = ap (λ (ds : List Declaration). h.decls ++ ds) (firsts_behind hs m fs) ∙ sym (append_assoc h.decls (heads_decls hs) (firsts m fs))

renumbered_behind : (lo hi : ℕ) (hs : List Head) (m : ℕ) (fs : Fields) → AllNew lo hi hs → renumbered (◌before◌ hs fs) (past hs m) ≡ renumbered fs m
unfolding renumbered ◌before◌ when◌then◌else◌
renumbered_behind lo hi [] m fs a = refl
renumbered_behind lo hi (h ∷ hs) m fs a =
    let new : is_inserted (head_of (plain h)) ≡ true = unfold head_of in lookups.new_inserted lo hi h a.0 in
    rw new (renumbered_behind lo hi hs m fs a.1)

-- ---- declared in a part of a list

-- what is in the first of two lists is in both together
pub has_left : (xs ys : List Declaration) (space name : ℕ) → has xs space name ≡ true → has (xs ++ ys) space name ≡ true
has_left xs ys space name e = has_append xs ys space name ∙ ap (λ (b : Bool). b || has ys space name) e

-- what is in the second of two lists is in both together
pub has_right : (xs ys : List Declaration) (space name : ℕ) → has ys space name ≡ true → has (xs ++ ys) space name ≡ true
has_right xs ys space name e = has_append xs ys space name ∙ (ap (λ (b : Bool). has xs space name || b) e ∙ or-true (has xs space name))

-- with others between
has_between : (xs ys zs : List Declaration) (space name : ℕ) → has (xs ++ zs) space name ≡ true → has (xs ++ (ys ++ zs)) space name ≡ true
has_between xs ys zs space name e = go (has xs space name) refl (sym (has_append xs zs space name) ∙ e)
  where
    go : (b : Bool) → has xs space name ≡ b → b || has zs space name ≡ true → has (xs ++ (ys ++ zs)) space name ≡ true
    go true q h = has_left xs (ys ++ zs) space name q
    go false q h = has_right xs (ys ++ zs) space name (has_right ys zs space name h)

-- ---- the field

-- it was inserted; or it is the field of the input as the steps left it, behind all that they inserted there
pub data Comes (f : ℕ) (new : List Head) (i : Item) (h : Head) (out : Fields) (j : ℕ) (i' : Item) : Type 0 where
  made : (x : Head) → In x new → is_inserted x ≡ true → i' ≡ plain x → Comes f new i h out j i'
  kept : i' ≡ i → head_of i' ≡ h → is_inserted (head_of i') ≡ false → renumbered out j ≡ some f
      → ((space name : ℕ) → has (heads_decls new) space name ≡ true → has (firsts j out) space name ≡ true) → Comes f new i h out j i'

-- field `j` of the output, `i'`: the field of the input from which it comes, and what the steps made of that one
pub record FieldOut (fs : Fields) (ds : List Declaration) (here : Env) (outside : Outside) (out : Fields) (j : ℕ) (i' : Item) : Type 0 where
  pub f : ℕ
  pub i : Item
  pub there : get_elem? (originals fs) f ≡ some i
  pub seen : Before
  pub b : ℕ
  pub k : ℕ
  pub e : Expanded Head
  pub new : List Head
  pub h : Head
  pub q : Item × ℕ
  pub expands : expand_head ds (seeing outside seen) b (head_of i) ≡ ok e
  pub adds : resolve_inserted here (seeing outside seen) e.inserted ≡ ok new
  pub resolves : resolve_head here (seeing outside seen) e.now ≡ ok h
  pub items : resolve_item i h here (seeing outside seen) k ≡ ok q
  pub low_head : LowHead (head_of i)
  pub low_item : LowItem i
  -- what is declared before the field of the input is declared before this one
  pub earlier : (space name : ℕ) → has seen.decls space name ≡ true → has (outside.before.decls ++ firsts j out) space name ≡ true
  pub comes : Comes f new q.0 h out j i'

-- the first field of the input, or one behind it
module _ {i : Item} {fs : Fields} {ds : List Declaration} {here : Env} {outside : Outside} {b k : ℕ} {r : Fields × ℕ} (low : LowFields (i ▸ fs)) (R : Ran i fs ds here outside b k r) where
  out_is : ◌before◌ R.new (R.q.0 ▸ R.rs.0) ≡ r.0
  out_is = ap (λ (x : Fields × ℕ). x.0) R.result

  own : originals (i ▸ fs) ≡ i ∷ originals fs
  own = lookups.originals_original i fs (lookups.low_original (head_of i) low.0.decls)

  firsts_are : (j m : ℕ) → j ≡ past R.new m → firsts j r.0 ≡ heads_decls R.new ++ firsts m (R.q.0 ▸ R.rs.0)
  firsts_are j m e = ap (λ (x : Fields). firsts j x) (sym out_is) ∙ (ap (λ (n : ℕ). firsts n (◌before◌ R.new (R.q.0 ▸ R.rs.0))) e ∙ firsts_behind R.new m (R.q.0 ▸ R.rs.0))

  at_first : (j : ℕ) (i' : Item) → Comes 0 R.new R.q.0 R.h r.0 j i' → FieldOut (i ▸ fs) ds here outside r.0 j i'
  at_first j i' c =
      record {
        f = 0;
        i = i;
        there = rw own;
        seen = outside.before;
        b = b;
        k = k;
        e = R.e;
        new = R.new;
        h = R.h;
        q = R.q;
        expands = R.expands;
        adds = R.adds;
        resolves = R.resolves;
        items = R.items;
        low_head = low.0;
        low_item = low.1;
        earlier = λ space name e. has_left outside.before.decls (firsts j r.0) space name e;
        comes = c;
      }

  -- the number without inserted fields
  number_is : (j m : ℕ) → j ≡ past R.new m → renumbered r.0 j ≡ renumbered (R.q.0 ▸ R.rs.0) m
  number_is j m e =
      ap (λ (x : Fields). renumbered x j) (sym out_is)
      ∙ (ap (λ (n : ℕ). renumbered (◌before◌ R.new (R.q.0 ▸ R.rs.0)) n) e ∙ renumbered_behind b R.e.k R.new m (R.q.0 ▸ R.rs.0) (runs.ran_new R))

  number_zero : renumbered (R.q.0 ▸ R.rs.0) 0 ≡ some 0
  unfolding renumbered only
  number_zero = rw (readings.stays_original R low.0.decls)

  number_suc : (m f : ℕ) → renumbered R.rs.0 m ≡ some f → renumbered (R.q.0 ▸ R.rs.0) (suc m) ≡ some (suc f)
  unfolding renumbered when◌then◌else◌
  number_suc m f e = rw (readings.stays_original R low.0.decls, e)

  itself_kept : (j : ℕ) (i' : Item) → i' ≡ R.q.0 → j ≡ past R.new 0 → Comes 0 R.new R.q.0 R.h r.0 j i'
  itself_kept j i' p q = kept p (ap head_of p ∙ runs.ran_head R) (ap (λ (x : Item). is_inserted (head_of x)) p ∙ readings.stays_original R low.0.decls) (number_is j 0 q ∙ number_zero)
      (λ space name e. ap (λ (ds : List Declaration). has ds space name) (firsts_are j 0 q) ∙ has_left (heads_decls R.new) _ space name e)

  behind_all_lem : (j j' : ℕ) → j ≡ past R.new (suc j') → firsts j r.0 ≡ heads_decls R.new ++ ((head_of i).decls ++ firsts j' R.rs.0)
  unfolding firsts
  behind_all_lem j j' e = firsts_are j (suc j') e ∙ ap (λ (ds : List Declaration). heads_decls R.new ++ (ds ++ firsts j' R.rs.0)) (runs.ran_decls R)

  at_later : (j j' : ℕ) (i' : Item) → j ≡ past R.new (suc j') → FieldOut fs ds here (onward i outside) R.rs.0 j' i' → FieldOut (i ▸ fs) ds here outside r.0 j i'
  at_later j j' i' e F =
      record {
        f = suc F.f;
        i = F.i;
        there = rw own F.there;
        seen = F.seen;
        b = F.b;
        k = F.k;
        e = F.e;
        new = F.new;
        h = F.h;
        q = F.q;
        expands = F.expands;
        adds = F.adds;
        resolves = F.resolves;
        items = F.items;
        low_head = F.low_head;
        low_item = F.low_item;
        earlier = λ space name h.
            ap (λ (ds : List Declaration). has (outside.before.decls ++ ds) space name) (behind_all_lem j j' e)
            ∙ has_between outside.before.decls (heads_decls R.new) ((head_of i).decls ++ firsts j' R.rs.0) space name
            (subst (λ (ds : List Declaration). has ds space name ≡ true) (append_assoc outside.before.decls (head_of i).decls (firsts j' R.rs.0)) (F.earlier space name h));
        comes = further F.comes;
      }
    where
      further : Comes F.f F.new F.q.0 F.h R.rs.0 j' i' → Comes (suc F.f) F.new F.q.0 F.h r.0 j i'
      further (made x p n q) = made x p n q
      further (kept p q o m n) = kept p q o (number_is j (suc j') e ∙ number_suc j' F.f m) (λ space name h.
          ap (λ (ds : List Declaration). has ds space name) (behind_all_lem j j' e)
          ∙ has_right (heads_decls R.new) _ space name (has_right (head_of i).decls _ space name (n space name h)))

-- every field of an accepted run's output comes from a field of the input
pub field_out : (fs : Fields) (ds : List Declaration) (here : Env) (outside : Outside) (b k : ℕ) (r : Fields × ℕ) (j : ℕ) (i' : Item)
    → LowFields fs → resolve_fields fs ds here outside b k ≡ ok r → get_elem? (items r.0) j ≡ some i' → FieldOut fs ds here outside r.0 j i'
unfolding items
field_out end ds here outside b k r j i' low eq e = no_option i' (rw (← ap (λ (x : Fields × ℕ). x.0) (ran_end ds here outside b k r eq)) at e)
field_out (i ▸ fs) ds here outside b k r j i' low eq e =
    let R = ran i fs ds here outside b k r eq in
    go R (split R.new R.q.0 R.rs.0 j i' (subst (λ (x : Fields). get_elem? (items x) j ≡ some i') (sym (out_is low R)) e))
    (λ j' p. field_out fs ds here (onward i outside) R.e.k R.q.1 R.rs j' i' low.2 R.goes_on_lem p)
  where
    go : (R : Ran i fs ds here outside b k r) → Split R.new R.q.0 R.rs.0 j i'
        → ((j' : ℕ) → get_elem? (items R.rs.0) j' ≡ some i' → FieldOut fs ds here (onward i outside) R.rs.0 j' i') → FieldOut (i ▸ fs) ds here outside r.0 j i'
    go R (of_new h p q) below = at_first low R j i' (made h p (new_in b R.e.k (runs.ran_new R) p) q)
    go R (itself p q) below = at_first low R j i' (itself_kept low R j i' p q)
    go R (later j' p q) below = at_later low R j j' i' q (below j' p)
