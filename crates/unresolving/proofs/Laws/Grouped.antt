-- Each group is what step B makes of one reference: the one that `groups` writes down.
use Rattle.std.specs.Prelude.{◌≡◌, Bool, true, false, eqb, leb}
use Rattle.std.proofs.Math.Path.{refl}
use Rattle.std.proofs.Common.{ap, sym, ◌∙◌, subst}
use Rattle.std.proofs.Math.Option.{Option, none, some}
use mathlib.Core.List.{List, [], ◌∷◌, ◌++◌}
use Prim.Native.Nat.{ℕ, suc, ◌+◌}
use native.Mathlib.Omega.{arith}
use Rattle.std.proofs.Math.ListN.{length}
use Rattle.rules.specs.Tools.{when◌then◌else◌, is_in}
use Rattle.rules.specs.Versions.{top_name}
use Rattle.rules.specs.Rows.{Index, Num, Id}
use Rattle.rules.specs.Tree.{Declaration, Operand, ref, Head}
use Rattle.rules.specs.Shapes.{FOUR}
use Rattle.rules.specs.Rules
use Rattle.rules.specs.Rules.{ok, ◌>>=◌, Env, table_of, Outside, in_time, late_name, find, fresh, walk, Expanded, outer_alias, export_alias, path_aliases, number_in, expand_operand, resolve_inserted}
use Rattle.unresolving.specs.Back.{Group, or_zero, first_decl, first_operand, digits, index_of, served, lengthened, prepend, stands_on, links, alone, groups}
use Rattle.rules.specs.Laws.ToolLaws.{and_left, and_right, eqb-true, false_not}
use Rattle.rules.specs.Laws.RowLaws.{LegalIndex}
use Rattle.rules.specs.Laws.Results.{OkR, holds_of, bind_any, bind_ok, ok_same}
use Rattle.unresolving.proofs.Laws.Reached.{tables, number_is, name_out_lem}
use Rattle.unresolving.proofs.Laws.Divided.{outer_inserted}
use Rattle.unresolving.proofs.Laws.Aliases.{code_of, from_of, path_alias, first_space, Short, nine_high, others, first, first_makes, fresh_timely, by_number_lem, Alias, outward, exported, Aliases}

-- a declaration, and a group
abbrev pub decl : (space name z : ℕ) → Declaration
decl space name z = record { space = space; name = name; z = z }

abbrev pub group : Declaration → Operand → Group
group d o = record { decl = d; was = o }

-- ---- how many are inserted

paths_length : (space : ℕ) (at : Index) (p : ℕ) (ps : List ℕ) (z k : ℕ) → length (path_aliases space at p ps z k) ≡ suc (length ps)
unfolding path_aliases
paths_length space at p [] z k = refl
paths_length space at p (q ∷ ps) z k = ap suc (paths_length space (Id (fresh k)) q ps z (suc k))

inserted_length : (here : Env) (outside : Outside) (hs : List Head) → OkR (λ hs'. length hs' ≡ length hs) (resolve_inserted here outside hs)
unfolding resolve_inserted
inserted_length here outside [] = refl
inserted_length here outside (h ∷ hs) = bind_any _ _ _ (λ u. bind_any _ _ _ (λ h'. bind_ok _ _ _ _ (inserted_length here outside hs) (λ hs' e. ap suc e)))

module _ (Q : ℕ → Type 0) (ds : List Declaration) (here : Env) (outside : Outside) where
  -- `b ∷ hs` are what was inserted for the reference of the group
  pub data Grouped (k : ℕ) (b : Head) (hs : List Head) (g : Group) : Type 0 where
    by_name_lem : (space name z : ℕ) (at : ℕ × ℕ) → LegalIndex top_name (Id name) → is_in space FOUR ≡ true → late_name ds outside space name ≡ false → find ds space name ≡ none → walk outside.scopes 1 space name ≡ some at
        → b ≡ outer_alias space (fresh k) at.0 at.1 z → hs ≡ [] → g ≡ group (decl space (fresh k) z) (ref space (Id name) [] z) → Grouped k b hs g
    by_path : (space n p : ℕ) (ps : List ℕ) (z : ℕ) → Q space → is_in space (4 ∷ 6 ∷ []) ≡ false → Short space ps → resolve_inserted here outside (path_aliases space (Num n) p ps z k) ≡ ok (b ∷ hs)
        → g ≡ group (decl space (fresh (k + length ps)) z) (ref space (Num n) (p ∷ ps) z) → Grouped k b hs g

  -- ---- a group of one

  served_name : (space name z k : ℕ) (at : ℕ × ℕ) → walk outside.scopes 1 space name ≡ some at
      → alone (table_of here) (tables outside) (outer_alias space (fresh k) at.0 at.1 z) ≡ group (decl space (fresh k) z) (ref space (Id name) [] z)
  unfolding alone served outer_alias first_decl first_operand digits
  served_name space name z k at w = rw (name_out_lem here outside space name at w)

  served_path : (space n p z k : ℕ) → alone (table_of here) (tables outside) (path_alias space (fresh k) (Num n) p z) ≡ group (decl space (fresh (k + 0)) z) (ref space (Num n) (p ∷ []) z)
  unfolding alone served path_alias export_alias first_decl first_operand or_zero
  served_path space n p z k = let same : k + 0 ≡ k = omega arith in rw same

  one_path : (space n p z k : ℕ) → resolve_inserted here outside (path_aliases space (Num n) p [] z k) ≡ ok (path_alias space (fresh k) (Num n) p z ∷ [])
  unfolding number_in resolve_inserted first_space others
  one_path space n p z k = first_makes here outside space (Num n) p [] z k _ tt (record { n = n; number = refl; more = []; resolves = refl; is = refl })

  grouped_alone : (k : ℕ) (a : Head) → Alias Q ds outside k a → Grouped k a [] (alone (table_of here) (tables outside) a)
  grouped_alone k a (outward space name z at l four t f w i) = rw i (by_name_lem space name z at l four t f w refl refl (served_name space name z k at w))
  grouped_alone k a (exported space n p z may s i) = rw i (by_path space n p [] z may s tt (one_path space n p z k) (served_path space n p z k))

  -- ---- a group that is longer by one

  -- what a link says
  record Linked (a b : Head) : Type 0 where
    code : a.code ≡ 9
    code_b : b.code ≡ 9
    space : (first_decl a.decls).space ≡ 10
    place : a.z ≡ b.z
    stands : stands_on (table_of here) (tables outside) (first_decl a.decls).name (first_operand b.operands) ≡ true

  linked : (a b : Head) → links (table_of here) (tables outside) a b ≡ true → Linked a b
  unfolding links
  linked a b l =
      let d = first_decl a.decls in
      let t₀ = and_right (eqb a.code 9) _ l in
      let t₁ = and_right (eqb b.code 9) _ t₀ in
      let t₂ = and_right (eqb d.space 10) _ t₁ in
      record {
        code = eqb-true a.code 9 (and_left _ _ l);
        code_b = eqb-true b.code 9 (and_left _ _ t₀);
        space = eqb-true d.space 10 (and_left _ _ t₁);
        place = eqb-true a.z b.z (and_left _ _ t₂);
        stands = and_right (eqb a.z b.z) _ t₂;
      }

  no_outer_link : {X : Type 0} (x space new d n z : ℕ) → stands_on (table_of here) (tables outside) x (first_operand (outer_alias space new d n z).operands) ≡ true → X
  unfolding stands_on outer_alias first_operand
  no_outer_link x space new d n z e = false_not e

  not_nine : {X : Type 0} (space new d n z : ℕ) → (outer_alias space new d n z).code ≡ 9 → X
  unfolding outer_alias
  not_nine space new d n z e = absurd (omega arith)

  stands_on_lem : (x space new n p z : ℕ) → stands_on (table_of here) (tables outside) x (first_operand (path_alias space new (Num n) p z).operands) ≡ true → find (table_of here) (from_of space) x ≡ some n
  unfolding stands_on path_alias export_alias first_operand digits
  stands_on_lem x space new n p z e = number_is (find (table_of here) (from_of space) x) n e

  same_z : (space new n p z space' new' n' p' z' : ℕ) → (path_alias space new (Num n) p z).z ≡ (path_alias space' new' (Num n') p' z').z → z ≡ z'
  unfolding path_alias export_alias
  same_z space new n p z space' new' n' p' z' e = e

  ten : (space new n p z : ℕ) → (first_decl (path_alias space new (Num n) p z).decls).space ≡ 10 → space ≡ 10
  unfolding path_alias export_alias first_decl
  ten space new n p z e = e

  name_of : (space new n p z : ℕ) → (first_decl (path_alias space new (Num n) p z).decls).name ≡ new
  unfolding path_alias export_alias first_decl
  name_of space new n p z = refl

  code_of_lem : (space new n p z : ℕ) → (path_alias space new (Num n) p z).code ≡ code_of space
  unfolding path_alias export_alias
  code_of_lem space new n p z = refl

  still_short : (space n p : ℕ) (ps : List ℕ) (z k : ℕ) → Short space ps → (path_alias (first_space space ps) (fresh k) (Num n) p z).code ≡ 9 → leb space 6 ≡ false
  unfolding first_space
  still_short space n p [] z k h e = nine_high space (sym (code_of_lem space (fresh k) n p z) ∙ e)
  still_short space n p (q ∷ ps) z k h e = h

  longer_was : (k space n p m q z : ℕ) (ps : List ℕ)
      → group (decl space (fresh (suc k + length ps)) z) (lengthened (path_alias 10 (fresh k) (Num m) q z) (ref space (Num n) (p ∷ ps) z))
      ≡ group (decl space (fresh (k + length (p ∷ ps))) z) (ref space (Num m) (q ∷ (p ∷ ps)) z)
  unfolding lengthened path_alias export_alias first_operand index_of or_zero
  longer_was k space n p m q z ps = let same : suc k + length ps ≡ k + length (p ∷ ps) = omega arith in rw same

  longer_path : (k m q z space n p : ℕ) (ps : List ℕ) (hs : List Head) → is_in space (4 ∷ 6 ∷ []) ≡ false → find (table_of here) (from_of (first_space space ps)) (fresh k) ≡ some n
      → resolve_inserted here outside (path_aliases space (Num n) p ps z (suc k)) ≡ ok hs → resolve_inserted here outside (path_aliases space (Num m) q (p ∷ ps) z k) ≡ ok (path_alias 10 (fresh k) (Num m) q z ∷ hs)
  unfolding number_in first_space others
  longer_path k m q z space n p ps hs s f e =
      first_makes here outside space (Num m) q (p ∷ ps) z k _ tt
      (record { n = m; number = refl; more = hs; resolves = by_number_lem here outside space (fresh k) p ps z (suc k) n hs (fresh_timely here outside k) f e; is = refl })

  number_same : (space : ℕ) (n : ℕ) (z m : ℕ) → number_in here.entries space (Num n) z ≡ ok m → n ≡ m
  unfolding number_in
  number_same space n z m e = ok_same n m e

  head_same : (a b : Head) (hs hs' : List Head) → a ∷ hs ≡ b ∷ hs' → a ≡ b
  head_same a b hs hs' e = cc

  longer : (k : ℕ) (a b : Head) (hs : List Head) (g : Group) → Alias Q ds outside k a → Linked a b → Grouped (suc k) b hs g → Grouped k a (b ∷ hs) (group g.decl (lengthened a g.was))
  longer k a b hs g A L (by_name_lem space name z at l four t f w i j e) = no_outer_link _ space (fresh (suc k)) at.0 at.1 z (rw i at L.stands)
  longer k a b hs g (outward space name z at l four t f w i) L (by_path space' n p ps z' may s h c e) = not_nine space (fresh k) at.0 at.1 z (rw i at L.code)
  longer k a b hs g (exported space₁ m q z₁ may₁ s₁ i) L (by_path space n p ps z may s h c e) =
      let F = first here outside space (Num n) p ps z (suc k) (b ∷ hs) c in
      let b_is : b ≡ path_alias (first_space space ps) (fresh (suc k)) (Num F.n) p z = head_same b _ hs F.more F.is in
      let n-is : n ≡ F.n = number_same _ n z F.n F.number in
      let z_is : z₁ ≡ z = same_z space₁ (fresh k) m q z₁ (first_space space ps) (fresh (suc k)) F.n p z (ap (λ (h : Head). h.z) (sym i) ∙ (L.place ∙ ap (λ (h : Head). h.z) b_is)) in
      let ten-is : space₁ ≡ 10 = ten space₁ (fresh k) m q z₁ (ap (λ (h : Head). (first_decl h.decls).space) (sym i) ∙ L.space) in
      let named : (first_decl a.decls).name ≡ fresh k = ap (λ (h : Head). (first_decl h.decls).name) i ∙ name_of space₁ (fresh k) m q z₁ in
      let found : find (table_of here) (from_of (first_space space ps)) (fresh k) ≡ some F.n =
      stands_on_lem (fresh k) (first_space space ps) (fresh (suc k)) F.n p z (rw (named, b_is) at L.stands) in
      let a-is : a ≡ path_alias 10 (fresh k) (Num m) q z = i ∙ (ap (λ (x : ℕ). path_alias x (fresh k) (Num m) q z₁) ten-is ∙ ap (λ (x : ℕ). path_alias 10 (fresh k) (Num m) q x) z_is) in
      by_path space m q (p ∷ ps) z may s (still_short space F.n p ps z (suc k) h (ap (λ (x : Head). x.code) (sym b_is) ∙ L.code_b))
      (subst (λ (x : Head). resolve_inserted here outside (path_aliases space (Num m) q (p ∷ ps) z k) ≡ ok (x ∷ (b ∷ hs))) (sym a-is)
      (longer_path k m q z space n p ps (b ∷ hs) s (found ∙ ap {B = Option ℕ} some (sym n-is)) c))
      (rw (e, a-is) (longer_was k space n p m q z ps))

  -- ---- all groups

  pub data Split : ℕ → List Head → List Group → Type 0 where
    no_more : {k : ℕ} → Split k [] []
    next : {k : ℕ} (b : Head) (hs more : List Head) (g : Group) (gs : List Group) → Grouped k b hs g → Split (k + length (b ∷ hs)) more gs → Split k (b ∷ (hs ++ more)) (g ∷ gs)

  split_alone : (k : ℕ) (a : Head) (hs : List Head) (gs : List Group) → Alias Q ds outside k a → Split (suc k) hs gs → Split k (a ∷ hs) (alone (table_of here) (tables outside) a ∷ gs)
  split_alone k a hs gs A S =
      next a [] hs (alone (table_of here) (tables outside) a) gs (grouped_alone k a A) (subst (λ (x : ℕ). Split x hs gs) (omega arith) S)

  split_longer : (k : ℕ) (a b : Head) (hs : List Head) (gs : List Group) → Alias Q ds outside k a → links (table_of here) (tables outside) a b ≡ true → Split (suc k) (b ∷ hs) gs → Split k (a ∷ (b ∷ hs)) (prepend a gs)
  unfolding prepend
  split_longer k a b hs gs A l (next b₁ hs₁ more g gs₁ G S) =
      next a (b ∷ hs₁) more _ gs₁ (longer k a b hs₁ g A (linked a b l) G) (subst (λ (x : ℕ). Split x more gs₁) (omega arith) S)

  pub split : (k : ℕ) (hs : List Head) → Aliases Q ds outside k hs → Split k hs (groups (table_of here) (tables outside) hs)
  unfolding groups when◌then◌else◌
  split k [] A = no_more
  split k (a ∷ []) A = split_alone k a [] [] A.0 no_more
  split k (a ∷ (b ∷ hs)) A = go (links (table_of here) (tables outside) a b) refl (split (suc k) (b ∷ hs) A.1)
    where
      gs : List Group
      gs = groups (table_of here) (tables outside) (b ∷ hs)

      go : (t : Bool) → links (table_of here) (tables outside) a b ≡ t → Split (suc k) (b ∷ hs) gs → Split k (a ∷ (b ∷ hs)) (when t then prepend a gs else alone (table_of here) (tables outside) a ∷ gs)
      go true l S = split_longer k a b hs gs A.0 l S
      go false l S = split_alone k a (b ∷ hs) gs A.0 S

  -- ---- what step B makes of the reference of a group

  pub record Took (k : ℕ) (hs : List Head) (g : Group) : Type 0 where
    pub e : Expanded Operand
    pub expands : expand_operand ds outside k g.was ≡ ok e
    pub adds : resolve_inserted here outside e.inserted ≡ ok hs
    pub now : e.now ≡ ref g.decl.space (Id g.decl.name) [] g.decl.z
    pub ends : e.k ≡ k + length hs

  took_name : (k space name z : ℕ) (at : ℕ × ℕ) → is_in space FOUR ≡ true → late_name ds outside space name ≡ false → find ds space name ≡ none → walk outside.scopes 1 space name ≡ some at
      → Took k (outer_alias space (fresh k) at.0 at.1 z ∷ []) (group (decl space (fresh k) z) (ref space (Id name) [] z))
  unfolding expand_operand Rules.found_at Rules.through in_time when◌then◌else◌ ◌>>=◌
  took_name k space name z at four t f w =
      record {
        e = Rules.through space z k (outer_alias space (fresh k) at.0 at.1 z ∷ []);
        expands = rw (t, f, w, four);
        adds = outer_inserted here outside space (fresh k) at.0 at.1 z;
        now = refl;
        ends = omega arith;
      }

  took_path : (k space n p : ℕ) (ps : List ℕ) (z : ℕ) (hs : List Head) → is_in space (4 ∷ 6 ∷ []) ≡ false → resolve_inserted here outside (path_aliases space (Num n) p ps z k) ≡ ok hs
      → Took k hs (group (decl space (fresh (k + length ps)) z) (ref space (Num n) (p ∷ ps) z))
  unfolding expand_operand Rules.through when◌then◌else◌
  took_path k space n p ps z hs s c =
      let long : length hs ≡ suc (length ps) = holds_of (λ (x : List Head). length x ≡ _) _ hs (inserted_length here outside (path_aliases space (Num n) p ps z k)) c ∙ paths_length space (Num n) p ps z k in
      record {
        e = Rules.through space z (k + length ps) (path_aliases space (Num n) p ps z k);
        expands = rw s;
        adds = c;
        now = refl;
        ends = omega arith;
      }

  pub took : (k : ℕ) (b : Head) (hs : List Head) (g : Group) → Grouped k b hs g → Took k (b ∷ hs) g
  took k b hs g (by_name_lem space name z at l four t f w i j e) = rw (i, j, e) (took_name k space name z at four t f w)
  took k b hs g (by_path space n p ps z may s h c e) = rw e (took_path k space n p ps z (b ∷ hs) s c)
