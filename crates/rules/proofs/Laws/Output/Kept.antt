-- The fields of an accepted run's output are those of its input and the inserted ones, and its inserted fields are exactly those with a
-- DECL name from 2147483648 up: leaving these out gives the fields of the input again, and each of them is an alias of step B.
use Rattle.std.specs.Prelude.{◌≡◌, Bool, true, false, ℕ, suc}
use Rattle.std.proofs.Math.Path.{refl, ap, ap₂}
use Rattle.std.proofs.Common.{sym, ◌∙◌, subst}
use Rattle.std.proofs.Math.Option.{Option, none, some}
use mathlib.Core.List.{List, [], ◌∷◌, map}
use Rattle.rules.specs.Tools.{when◌then◌else◌, is_in}
use Rattle.rules.specs.Versions.{RuleSet}
use Rattle.rules.specs.Rows.{Index, Num, Id}
use Rattle.rules.specs.Tree.{Declaration, Operand, ref, outer, case, Head, Scope, scope, Fields, end, ◌▸◌, Item, plain, holds, head_of, with_operands}
use Rattle.rules.specs.Rules
use Rattle.rules.specs.Rules.{opened, ok, Env, Outside, at_root, onward, inward, fresh, Expanded, expand_operand, expand_operands, expand_head, path_aliases, export_alias, outer_alias, resolve_operands, resolve_head, resolve_inserted, resolve_scope, resolve_fields, resolve_item, ◌before◌, resolve_inside}
use Rattle.rules.specs.Readings.{is_inserted}
use Rattle.rules.specs.Laws.ToolLaws.{false_not, All, done, ◌&◌, all_append}
use Rattle.rules.specs.Laws.Results.{OkR, bind_ok, bind_any, bind_eq, if_both, holds_of}
use Rattle.rules.specs.Laws.Meaning.Names.{LowDecls, DeclScope, DeclFields, DeclItem}
use Rattle.rules.proofs.Laws.Meaning.Runs
use Rattle.rules.proofs.Laws.Meaning.Runs.{AllNew}
use Rattle.rules.proofs.Laws.Meaning.Lookups

-- ---- what is said

-- an operand without its numbers, names and PATHs: its kind, space and place
unfoldable pub blank_operand : Operand → Operand
blank_operand (ref space at paths z) = ref space (Num 0) [] z
blank_operand (outer space up at z) = outer space (Num 0) (Num 0) z
blank_operand (case name z) = case name z

unfoldable pub blank_head : Head → Head
blank_head h = with_operands h (map blank_operand h.operands)

-- a tree with all its operands blank
unfoldable mutual
  pub blank : Scope → Scope
  blank (scope kind name fs) = scope kind name (blank_fields fs)

  pub blank_fields : Fields → Fields
  blank_fields end = end
  blank_fields (i ▸ fs) = blank_item i ▸ blank_fields fs

  pub blank_item : Item → Item
  blank_item (plain h) = plain (blank_head h)
  blank_item (holds h s) = holds (blank_head h) (blank s)

-- a tree without its inserted fields
unfoldable mutual
  pub without : Scope → Scope
  without (scope kind name fs) = scope kind name (without_fields fs)

  pub without_fields : Fields → Fields
  without_fields end = end
  without_fields (i ▸ fs) = when is_inserted (head_of i) then without_fields fs else without_item i ▸ without_fields fs

  pub without_item : Item → Item
  without_item (plain h) = plain h
  without_item (holds h s) = holds h (without s)

-- an alias as step B makes them: of code 9, 10 or 11, with one DECL of a fresh name, and it holds no scope
pub record Alias (h : Head) : Type 0 where
  pub code : is_in h.code (9 ∷ 10 ∷ 11 ∷ []) ≡ true
  pub decl : Declaration
  pub alone : h.decls ≡ decl ∷ []
  pub number : ℕ
  pub named : decl.name ≡ fresh number

abbrev pub IsAlias : Item → Type 0
IsAlias (plain h) = Alias h
IsAlias (holds h s) = ⊥

abbrev mutual
  pub AliasesScope : Scope → Type 0
  AliasesScope (scope kind name fs) = AliasesFields fs

  pub AliasesFields : Fields → Type 0
  AliasesFields end = Unit {0}
  AliasesFields (i ▸ fs) = (is_inserted (head_of i) ≡ true → IsAlias i) × AliasesItem i × AliasesFields fs

  pub AliasesItem : Item → Type 0
  AliasesItem (plain h) = Unit {0}
  AliasesItem (holds h s) = AliasesScope s

-- ---- the steps keep blank operands

abbrev Same : (os os' : List Operand) → Type 0
Same os os' = map blank_operand os' ≡ map blank_operand os

found_same : (space name z k : ℕ) (o : Option (ℕ × ℕ)) → OkR (λ e. blank_operand e.now ≡ ref space (Num 0) [] z) (Rules.found_at space name z k o)
unfolding Rules.found_at Rules.through Rules.as_it_is blank_operand
found_same space name z k none = refl
found_same space name z k (some at) = if_both (OkR (λ (e : Expanded Operand). blank_operand e.now ≡ ref space (Num 0) [] z)) _ _ _ refl tt

module _ (ds : List Declaration) (outside : Outside) where
  operand_same : (k : ℕ) (o : Operand) → OkR (λ e. blank_operand e.now ≡ blank_operand o) (expand_operand ds outside k o)
  unfolding expand_operand Rules.through Rules.as_it_is blank_operand
  operand_same k (ref space (Num n) [] z) = refl
  operand_same k (ref space (Id name) [] z) = bind_any _ _ _ (λ u. if_both (OkR (λ (e : Expanded Operand). blank_operand e.now ≡ ref space (Num 0) [] z)) _ _ _ refl (found_same space name z k _))
  operand_same k (ref space at (p ∷ ps) z) = if_both (OkR (λ (e : Expanded Operand). blank_operand e.now ≡ ref space (Num 0) [] z)) _ _ _ tt refl
  operand_same k (outer space up at z) = refl
  operand_same k (case name z) = refl

  expanded_same : (k : ℕ) (os : List Operand) → OkR (λ e. Same os e.now) (expand_operands ds outside k os)
  unfolding expand_operands Rules.as_it_is
  expanded_same k [] = refl
  expanded_same k (o ∷ os) = bind_ok _ _ _ _ (operand_same k o) (λ e p. bind_ok _ _ _ _ (expanded_same e.k os) (λ es q. ap₂ (λ (x : Operand) (xs : List Operand). x ∷ xs) p q))

  head_expanded : (k : ℕ) (h : Head) → OkR (λ e. blank_head e.now ≡ blank_head h) (expand_head ds outside k h)
  unfolding expand_head Rules.as_it_is blank_head with_operands
  head_expanded k h =
      if_both (OkR (λ (e : Expanded Head). blank_head e.now ≡ blank_head h)) _ _ _ refl (bind_ok _ _ _ _ (expanded_same k h.operands) (λ e p. ap (with_operands h) p))

outer_one : (early : Bool) (es : List Env) (fz space : ℕ) (up at : Index) (z : ℕ) → OkR (λ o. blank_operand o ≡ outer space (Num 0) (Num 0) z) (Rules.outer_numbers early es fz space up at z)
unfolding Rules.outer_numbers blank_operand
outer_one early es fz space up at z = bind_any _ _ _ (λ d. bind_any _ _ _ (λ e. bind_any _ _ _ (λ u. bind_any _ _ _ (λ n. refl))))

outer_same : (early : Bool) (es : List Env) (fz space : ℕ) (up at : Index) (z : ℕ) → OkR (λ o. blank_operand o ≡ outer space (Num 0) (Num 0) z) (Rules.resolve_outer early es fz space up at z)
unfolding Rules.resolve_outer blank_operand
outer_same early es fz space (Num d) (Num n) z = refl
outer_same early es fz space (Num d) (Id name) z = outer_one early es fz space (Num d) (Id name) z
outer_same early es fz space (Id name) at z = outer_one early es fz space (Id name) at z

module _ (here : Env) (outside : Outside) where
  resolved_same : (fz : ℕ) (seen : List ℕ) (os : List Operand) → OkR (Same os) (resolve_operands here outside fz seen os)
  unfolding resolve_operands blank_operand
  resolved_same fz seen [] = refl
  resolved_same fz seen (ref space at paths z ∷ os) = bind_any _ _ _ (λ n. bind_ok _ _ _ _ (resolved_same fz seen os) (λ os' q. ap (λ (xs : List Operand). ref space (Num 0) [] z ∷ xs) q))
  resolved_same fz seen (outer space up at z ∷ os) =
      bind_ok _ _ _ _ (outer_same outside.early (opened here outside) fz space up at z) (λ o p. bind_ok _ _ _ _ (resolved_same fz seen os) (λ os' q. ap₂ (λ (x : Operand) (xs : List Operand). x ∷ xs) p q))
  resolved_same fz seen (case name z ∷ os) = if_both (OkR _) _ _ _ tt (bind_ok _ _ _ _ (resolved_same fz (name ∷ seen) os) (λ os' q. ap (λ (xs : List Operand). case name z ∷ xs) q))

  head_resolved : (h : Head) → OkR (λ h'. blank_head h' ≡ blank_head h) (resolve_head here outside h)
  unfolding resolve_head blank_head with_operands
  head_resolved h = bind_ok _ _ _ _ (resolved_same h.z [] h.operands) (λ os p. ap (with_operands h) p)

-- ---- the codes of what is inserted

abbrev Coded : Head → Type 0
Coded h = is_in h.code (9 ∷ 10 ∷ 11 ∷ []) ≡ true

paths_coded : (space : ℕ) (at : Index) (p : ℕ) (ps : List ℕ) (z k : ℕ) → All Coded (path_aliases space at p ps z k)
unfolding path_aliases export_alias
paths_coded space at p [] z k = if_both Coded _ _ _ refl refl & done
paths_coded space at p (q ∷ ps) z k = refl & paths_coded space (Id (fresh k)) q ps z (suc k)

found_coded : (space name z k : ℕ) (o : Option (ℕ × ℕ)) → OkR (λ e. All Coded e.inserted) (Rules.found_at space name z k o)
unfolding Rules.found_at Rules.through Rules.as_it_is outer_alias
found_coded space name z k none = done
found_coded space name z k (some at) = if_both (OkR (λ (e : Expanded Operand). All Coded e.inserted)) _ _ _ (refl & done) tt

module _ (ds : List Declaration) (outside : Outside) where
  operand_coded : (k : ℕ) (o : Operand) → OkR (λ e. All Coded e.inserted) (expand_operand ds outside k o)
  unfolding expand_operand Rules.through Rules.as_it_is
  operand_coded k (ref space (Num n) [] z) = done
  operand_coded k (ref space (Id name) [] z) = bind_any _ _ _ (λ u. if_both (OkR (λ (e : Expanded Operand). All Coded e.inserted)) _ _ _ done (found_coded space name z k _))
  operand_coded k (ref space at (p ∷ ps) z) = if_both (OkR (λ (e : Expanded Operand). All Coded e.inserted)) _ _ _ tt (paths_coded space at p ps z k)
  operand_coded k (outer space up at z) = done
  operand_coded k (case name z) = done

  operands_coded : (k : ℕ) (os : List Operand) → OkR (λ e. All Coded e.inserted) (expand_operands ds outside k os)
  unfolding expand_operands Rules.as_it_is
  operands_coded k [] = done
  operands_coded k (o ∷ os) = bind_ok _ _ _ _ (operand_coded k o) (λ e p. bind_ok _ _ _ _ (operands_coded e.k os) (λ es q. all_append e.inserted es.inserted p q))

  head_coded : (k : ℕ) (h : Head) → OkR (λ e. All Coded e.inserted) (expand_head ds outside k h)
  unfolding expand_head Rules.as_it_is
  head_coded k h = if_both (OkR (λ (e : Expanded Head). All Coded e.inserted)) _ _ _ done (bind_ok _ _ _ _ (operands_coded k h.operands) (λ e p. p))

inserted_coded : (here : Env) (outside : Outside) (hs : List Head) → All Coded hs → OkR (All Coded) (resolve_inserted here outside hs)
unfolding resolve_inserted
inserted_coded here outside [] a = done
inserted_coded here outside (h ∷ hs) (c & a) =
    bind_any _ _ _ (λ u. bind_ok _ _ _ _ (Runs.head_same here outside h) (λ h' s. bind_ok _ _ _ _ (inserted_coded here outside hs a) (λ hs' b. subst (λ (x : ℕ). is_in x (9 ∷ 10 ∷ 11 ∷ []) ≡ true) (sym s.1) c & b)))

-- ---- what is inserted before a field

before_without : (lo hi : ℕ) (hs : List Head) (fs : Fields) → AllNew lo hi hs → without_fields (◌before◌ hs fs) ≡ without_fields fs
unfolding ◌before◌ without when◌then◌else◌ head_of
before_without lo hi [] fs a = refl
before_without lo hi (h ∷ hs) fs a = rw (Lookups.new_inserted lo hi h a.0) (before_without lo hi hs fs a.1)

before_aliases : (lo hi : ℕ) (hs : List Head) (fs : Fields) → AllNew lo hi hs → All Coded hs → AliasesFields fs → AliasesFields (◌before◌ hs fs)
unfolding ◌before◌
before_aliases lo hi [] fs a c r = r
before_aliases lo hi (h ∷ hs) fs a (c & cs) r = (
  λ _. record { code = c; decl = a.0.decl; alone = a.0.alone; number = a.0.number; named = a.0.named },
  tt,
  before_aliases lo hi hs fs a.1 cs r,
)

own_without : (i : Item) (fs : Fields) → is_inserted (head_of i) ≡ false → without_fields (i ▸ fs) ≡ without_item i ▸ without_fields fs
unfolding without when◌then◌else◌
own_without i fs e = rw e

blank_next : (i j : Item) (fs gs : Fields) → blank_item j ≡ blank_item i → blank_fields gs ≡ blank_fields fs → blank_fields (j ▸ gs) ≡ blank_fields (i ▸ fs)
unfolding blank
blank_next i j fs gs p q = rw (p, q)

-- ---- the whole walk

record KeptFields (fs out : Fields) : Type 0 where
  same : blank_fields (without_fields out) ≡ blank_fields fs
  aliases : AliasesFields out

record KeptItem (i j : Item) : Type 0 where
  same : blank_item (without_item j) ≡ blank_item i
  aliases : AliasesItem j

pub record Kept (s out : Scope) : Type 0 where
  -- without the inserted fields it has the input's fields, with their codes, places, DECLs, EXPORTs, and operands but for their numbers
  pub same : blank (without out) ≡ blank s
  pub aliases : AliasesScope out

plain_kept : (h₀ h : Head) → blank_head h ≡ blank_head (head_of (plain h₀)) → KeptItem (plain h₀) (plain h)
unfolding blank without head_of
plain_kept h₀ h e = record { same = ap plain e; aliases = tt }

holds_kept : (h₀ h : Head) (s s' : Scope) → blank_head h ≡ blank_head (head_of (holds h₀ s)) → Kept s s' → KeptItem (holds h₀ s) (holds h s')
unfolding blank without head_of
holds_kept h₀ h s s' e K = record { same = rw (e, K.same); aliases = K.aliases }

scope_kept' : (kind name : ℕ) (fs out : Fields) → KeptFields fs out → Kept (scope kind name fs) (scope kind name out)
unfolding blank without
scope_kept' kind name fs out K = record { same = ap (scope kind name) K.same; aliases = K.aliases }

no_fields : KeptFields end end
unfolding blank without
no_fields = record { same = refl; aliases = tt }

decls_blank : (h h' : Head) → blank_head h' ≡ blank_head h → h'.decls ≡ h.decls
unfolding blank_head with_operands
decls_blank h h' e = ap (λ (x : Head). x.decls) e

next_kept : (lo hi : ℕ) (new : List Head) (i j : Item) (fs out : Fields) → AllNew lo hi new → All Coded new → is_inserted (head_of j) ≡ false → KeptItem i j → KeptFields fs out
    → KeptFields (i ▸ fs) (◌before◌ new (j ▸ out))
next_kept lo hi new i j fs out a c e K Ks =
    record {
      same = ap blank_fields (before_without lo hi new (j ▸ out) a ∙ own_without j out e) ∙ blank_next i (without_item j) fs (without_fields out) K.same Ks.same;
      aliases = before_aliases lo hi new (j ▸ out) a c (λ t. false_not (sym e ∙ t), K.aliases, Ks.aliases);
    }

mutual
  unfolding resolve_scope

  scope_kept : (s : Scope) (outside : Outside) (k : ℕ) → DeclScope s → OkR (λ r. Kept s r.0) (resolve_scope s outside k)
  scope_kept (scope kind name fs) outside k low =
      bind_any _ _ _ (λ e. bind_ok _ _ _ _ (fields_kept fs _ e.0 outside k e.1 low) (λ r K. scope_kept' kind name fs r.0 K))

  fields_kept : (fs : Fields) (ds : List Declaration) (here : Env) (outside : Outside) (b k : ℕ) → DeclFields fs → OkR (λ r. KeptFields fs r.0) (resolve_fields fs ds here outside b k)
  fields_kept end ds here outside b k low = no_fields
  fields_kept (i ▸ fs) ds here outside b k low =
      bind_eq _ _ _ (λ e ee.
      bind_eq _ _ _ (λ new en.
      bind_ok _ _ _ _ (head_resolved here outside e.now) (λ h hs.
      let same : blank_head h ≡ blank_head (head_of i) = hs ∙ holds_of _ _ e (head_expanded ds outside b (head_of i)) ee in
      bind_eq _ _ _ (λ q eq.
      let K : KeptItem i q.0 = holds_of _ _ q (item_kept i h here outside k low.1 same) eq in
      let grown : Runs.Grown b e = holds_of _ _ e (Runs.head_grown ds outside b (head_of i)) ee in
      let news : AllNew b e.k new = holds_of _ _ new (Runs.inserted_new here outside b e.k e.inserted grown.1) en in
      let coded : All Coded e.inserted = holds_of _ _ e (head_coded ds outside b (head_of i)) ee in
      let codes : All Coded new = holds_of _ _ new (inserted_coded here outside e.inserted coded) en in
      let head : head_of q.0 ≡ h = holds_of _ _ q (Runs.item_head here outside i h k) eq in
      let own : is_inserted (head_of q.0) ≡ false = Lookups.low_original (head_of q.0) (subst LowDecls (sym (ap (λ (x : Head). x.decls) head ∙ decls_blank (head_of i) h same)) low.0) in
      bind_ok _ _ _ _ (fields_kept fs ds here (onward i outside) e.k q.1 low.2) (λ rs Ks.
      next_kept b e.k new i q.0 fs rs.0 news codes own K Ks)))))

  item_kept : (i : Item) (h : Head) (here : Env) (outside : Outside) (k : ℕ) → DeclItem i → blank_head h ≡ blank_head (head_of i)
      → OkR (λ q. KeptItem i q.0) (resolve_item i h here outside k)
  item_kept (plain h₀) h here outside k low e = plain_kept h₀ h e
  item_kept (holds h₀ s) h here outside k low e = bind_ok _ _ _ _ (scope_kept s (inward h₀ here outside) k low) (λ r K. holds_kept h₀ h s r.0 e K)

-- The output of an accepted run without its fields of fresh names is the input, but for the numbers, names and PATHs in its operands;
-- and each field of a fresh name is an alias that step B inserted.
pub kept : (rules : RuleSet) (around : List Env) (s : Scope) (r : Scope × ℕ) → DeclScope s → resolve_inside rules around s ≡ ok r → Kept s r.0
kept rules around s r low e = holds_of (λ (x : Scope × ℕ). Kept s x.0) _ r (scope_kept s (at_root rules around) 0 low) e
