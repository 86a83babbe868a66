-- What a run inserted before a field can be divided among the field's operands, in the order of their numbers.
use Rattle.std.specs.Prelude.{◌≡◌, Bool, ◌&&◌, not, ℕ, suc, ◌+◌, eqb}
use Rattle.std.proofs.Math.Path.{refl, ap, sym, subst}
use Rattle.std.proofs.Common.{◌∙◌, length-append}
use Rattle.std.proofs.Math.Bool.{true, false}
use Rattle.std.proofs.Math.Option.{Option, none, some}
use mathlib.Core.List.{List, [], ◌∷◌, ◌++◌}
use native.Mathlib.Omega.{arith}
use Rattle.std.proofs.Math.ListN.{length}
use Rattle.rules.specs.Tools.{when◌then◌else◌, is_in}
use Rattle.rules.specs.Versions.{top_name}
use Rattle.rules.specs.Rows.{Index, Num, Id}
use Rattle.rules.specs.Tree.{Declaration, Operand, ref, outer, case, Head}
use Rattle.rules.specs.Shapes.{FOUR}
use Rattle.rules.specs.Rules
use Rattle.rules.specs.Rules.{refused, ok, ◌>>=◌, Env, table_of, Outside, opened, in_time, late_name, late_instance, find, fresh, walk, Expanded, outer_alias, export_alias, path_aliases, number_in, expand_operand, expand_operands, resolve_operands, resolve_head, resolve_inserted}
use Rattle.unresolving.specs.Back.{Group, first_decl, first_operand, digits, lengthened, prepend, stands_on, links, alone, groups, is_for}
use Rattle.rules.specs.Laws.ToolLaws.{eqb_same, if_ok_lem}
use Rattle.rules.specs.Laws.RowLaws.{LegalIndex}
use Rattle.rules.specs.Laws.Results.{OkR, bind_eq, holds_of, bind_inv, ok_then, ok_same, no_result, just_none}
use Rattle.rules.proofs.Laws.Meaning.StepC.{named_number, alias_resolved}
use Rattle.unresolving.proofs.Laws.Reached.{tables, is_number_lem}
use Rattle.unresolving.proofs.Laws.Serves.{Serves, rest, keep, used, link}
use Rattle.unresolving.proofs.Laws.Shaped.{PathMay, May, AllMay, shorter}
use Rattle.unresolving.proofs.Laws.Aliases.{code_of, from_of, path_alias, first_space, first_nine, others, first, outward, exported, Aliases}

-- ---- what step B made of an operand

pub data Made (Q : ℕ → Type 0) (ds : List Declaration) (outside : Outside) (k : ℕ) (e : Expanded Operand) : Type 0 where
  stays : e.inserted ≡ [] → e.k ≡ k → Made Q ds outside k e
  named : (space name z : ℕ) (at : ℕ × ℕ) → LegalIndex top_name (Id name) → is_in space FOUR ≡ true → late_name ds outside space name ≡ false → find ds space name ≡ none → walk outside.scopes 1 space name ≡ some at
      → e ≡ Rules.through space z k (outer_alias space (fresh k) at.0 at.1 z ∷ []) → Made Q ds outside k e
  pathed : (space : ℕ) (at : Index) (p : ℕ) (ps : List ℕ) (z : ℕ) → is_in space (4 ∷ 6 ∷ []) ≡ false → PathMay Q space ps
      → e ≡ Rules.through space z (k + length ps) (path_aliases space at p ps z k) → Made Q ds outside k e

not_late : (late : Bool) (z : ℕ) → in_time late z ≡ ok tt → late ≡ false
unfolding in_time when◌then◌else◌
not_late true z e = no_result Rules.not_earlier z tt e
not_late false z e = refl

module _ (Q : ℕ → Type 0) (ds : List Declaration) (outside : Outside) where
  found_made : (space name z k : ℕ) (o : Option (ℕ × ℕ)) → LegalIndex top_name (Id name) → late_name ds outside space name ≡ false → find ds space name ≡ none → walk outside.scopes 1 space name ≡ o → OkR (Made Q ds outside k) (Rules.found_at space name z k o)
  unfolding Rules.found_at Rules.as_it_is
  found_made space name z k none l t f w = stays refl refl
  found_made space name z k (some at) l t f w = if_ok_lem (OkR (Made Q ds outside k)) _ _ _ (λ four. named space name z at l four t f w refl) (λ _. tt)

  pub operand_made : (k : ℕ) (o : Operand) → May Q o → OkR (Made Q ds outside k) (expand_operand ds outside k o)
  unfolding expand_operand Rules.as_it_is
  operand_made k (ref space (Num n) [] z) h = stays refl refl
  operand_made k (ref space (Id name) [] z) h =
      bind_eq _ _ _ (λ u t. if_ok_lem (OkR (Made Q ds outside k)) _ _ _ (λ _. stays refl refl) (λ f. found_made space name z k _ h (not_late _ z t) (just_none _ f) refl))
  operand_made k (ref space at (p ∷ ps) z) h = if_ok_lem (OkR (Made Q ds outside k)) _ _ _ (λ _. tt) (λ f. pathed space at p ps z f h refl)
  operand_made k (outer space up at z) h = stays refl refl
  operand_made k (case name z) h = stays refl refl

-- ---- step C on lists

module _ (here : Env) (outside : Outside) where
  pub record Halves (xs ys hs : List Head) : Type 0 where
    pub left : List Head
    pub right : List Head
    pub is : hs ≡ left ++ right
    pub lefts : resolve_inserted here outside xs ≡ ok left
    pub rights : resolve_inserted here outside ys ≡ ok right

  pub halves : (xs ys hs : List Head) → resolve_inserted here outside (xs ++ ys) ≡ ok hs → Halves xs ys hs
  unfolding resolve_inserted
  halves [] ys hs e = record { left = []; right = hs; is = refl; lefts = refl; rights = e }
  halves (x ∷ xs) ys hs e =
      let s₀ = bind_inv (in_time (late_instance here outside x.operands) x.z) _ hs e in
      let s₁ = bind_inv (resolve_head here outside x) _ hs s₀.2 in
      let s₂ = bind_inv (resolve_inserted here outside (xs ++ ys)) _ hs s₁.2 in
      let H = halves xs ys s₂.0 s₂.1 in
      record {
        left = s₁.0 ∷ H.left;
        right = H.right;
        is = sym (ok_same _ hs s₂.2) ∙ ap (λ (l : List Head). s₁.0 ∷ l) H.is;
        lefts = ok_then _ _ _ _ s₀.1 (ok_then _ _ _ _ s₁.1 (ok_then _ _ _ _ H.lefts refl));
        rights = H.rights;
      }

  pub both : (xs ys xs' ys' : List Head) → resolve_inserted here outside xs ≡ ok xs' → resolve_inserted here outside ys ≡ ok ys' → resolve_inserted here outside (xs ++ ys) ≡ ok (xs' ++ ys')
  unfolding resolve_inserted
  both [] ys xs' ys' e f = rw (← ok_same [] xs' e) f
  both (x ∷ xs) ys xs' ys' e f =
      let s₀ = bind_inv (in_time (late_instance here outside x.operands) x.z) _ xs' e in
      let s₁ = bind_inv (resolve_head here outside x) _ xs' s₀.2 in
      let s₂ = bind_inv (resolve_inserted here outside xs) _ xs' s₁.2 in
      rw (← ok_same _ xs' s₂.2) (ok_then _ _ _ _ s₀.1 (ok_then _ _ _ _ s₁.1 (ok_then _ _ _ _ (both xs ys s₂.0 ys' s₂.1 f) refl)))

  -- a reference becomes a number
  abbrev pub NumberOf : Operand → Operand → Type 0
  NumberOf (ref space at paths z) o' = (n : ℕ) × (number_in here.entries space at z ≡ ok n) × (o' ≡ ref space (Num n) paths z)
  NumberOf (outer space up at z) o' = Unit {0}
  NumberOf (case name z) o' = Unit {0}

  pub record Front (fz : ℕ) (o : Operand) (ns os : List Operand) : Type 0 where
    pub o' : Operand
    pub os' : List Operand
    pub seen' : List ℕ
    pub is : os ≡ o' ∷ os'
    pub behind : resolve_operands here outside fz seen' ns ≡ ok os'
    pub number : NumberOf o o'

  pub front : (fz : ℕ) (seen : List ℕ) (o : Operand) (ns os : List Operand) → resolve_operands here outside fz seen (o ∷ ns) ≡ ok os → Front fz o ns os
  unfolding resolve_operands when◌then◌else◌
  front fz seen (ref space at paths z) ns os e =
      let s₁ = bind_inv (number_in here.entries space at z) _ os e in
      let s₂ = bind_inv (resolve_operands here outside fz seen ns) _ os s₁.2 in
      record { o' = _; os' = s₂.0; seen' = seen; is = sym (ok_same _ os s₂.2); behind = s₂.1; number = (s₁.0, s₁.1, refl) }
  front fz seen (outer space up at z) ns os e =
      let s₁ = bind_inv (Rules.resolve_outer outside.early (opened here outside) fz space up at z) _ os e in
      let s₂ = bind_inv (resolve_operands here outside fz seen ns) _ os s₁.2 in
      record { o' = _; os' = s₂.0; seen' = seen; is = sym (ok_same _ os s₂.2); behind = s₂.1; number = tt }
  front fz seen (case name z) ns os e = go (not (eqb name 0) && is_in name seen) e
    where
      go : (b : Bool) → (when b then refused Rules.case_twice z else (resolve_operands here outside fz (name ∷ seen) ns >>= λ os'. ok (case name z ∷ os'))) ≡ ok os → Front fz (case name z) ns os
      go true q = no_result Rules.case_twice z os q
      go false q =
          let s = bind_inv (resolve_operands here outside fz (name ∷ seen) ns) _ os q in
          record { o' = _; os' = s.0; seen' = name ∷ seen; is = sym (ok_same _ os s.2); behind = s.1; number = tt }

-- ---- the aliases of one operand

-- an outer alias stays as it is
pub outer_inserted : (here : Env) (outside : Outside) (space new d n z : ℕ) → resolve_inserted here outside (outer_alias space new d n z ∷ []) ≡ ok (outer_alias space new d n z ∷ [])
unfolding resolve_inserted late_instance in_time outer_alias when◌then◌else◌ ◌>>=◌
outer_inserted here outside space new d n z =
    ok_then _ (λ h. resolve_inserted here outside [] >>= λ hs'. ok (h ∷ hs')) _ _ (alias_resolved here outside space new d n z) refl

module _ (here : Env) (outside : Outside) where
  -- at most one group, and that for the operand
  pub data Lone (hs : List Head) (o : Operand) : Type 0 where
    no_group : groups (table_of here) (tables outside) hs ≡ [] → Lone hs o
    one_group : (g : Group) → groups (table_of here) (tables outside) hs ≡ g ∷ [] → is_for (table_of here) (tables outside) g.decl o ≡ true → Lone hs o

  lone_none : (o : Operand) → Lone [] o
  unfolding groups
  lone_none o = no_group refl

  lone_one : (a : Head) (o : Operand) → is_for (table_of here) (tables outside) (first_decl a.decls) o ≡ true → Lone (a ∷ []) o
  unfolding groups alone
  lone_one a o t = one_group (alone (table_of here) (tables outside) a) refl t

  lone_longer : (a b : Head) (hs : List Head) (o : Operand) → links (table_of here) (tables outside) a b ≡ true → Lone (b ∷ hs) o → Lone (a ∷ (b ∷ hs)) o
  unfolding groups prepend when◌then◌else◌
  lone_longer a b hs o l (no_group e) = no_group (rw (l, e))
  lone_longer a b hs o l (one_group g e t) = one_group (record { decl = g.decl; was = lengthened a g.was }) (rw (l, e)) t

module _ (Q : ℕ → Type 0) (ds : List Declaration) (here : Env) (outside : Outside) where
  -- those of one operand, before others
  pub record Part (k k' : ℕ) (hs : List Head) (o : Operand) : Type 0 where
    aliases : (more : List Head) → Aliases Q ds outside k' more → Aliases Q ds outside k (hs ++ more)
    pub lone : Lone here outside hs o
    serves : (more : List Head) (os : List Operand) → Serves (table_of here) (tables outside) more os → Serves (table_of here) (tables outside) (hs ++ more) (o ∷ os)
    count : k' ≡ k + length hs

  for_it : (space x z n : ℕ) → find (table_of here) space x ≡ some n → is_for (table_of here) (tables outside) (record { space = space; name = x; z = z }) (ref space (Num n) [] z) ≡ true
  unfolding is_for digits
  for_it space x z n f = rw (eqb_same space, eqb_same z) (is_number_lem (find (table_of here) space x) n f)

  linked : (space x n p z y m q : ℕ) → code_of space ≡ 9 → find (table_of here) (from_of space) x ≡ some m → links (table_of here) (tables outside) (path_alias 10 x (Num n) p z) (path_alias space y (Num m) q z) ≡ true
  unfolding links stands_on path_alias export_alias code_of first_decl first_operand digits when◌then◌else◌
  linked space x n p z y m q c f = rw (c, eqb_same z) (is_number_lem (find (table_of here) (from_of space) x) m f)

  alias_part : (space n p z k x : ℕ) → Q space → is_in space (4 ∷ 6 ∷ []) ≡ false → find (table_of here) space (fresh k) ≡ some x
      → Part k (suc k) (path_alias space (fresh k) (Num n) p z ∷ []) (ref space (Num x) [] z)
  unfolding path_alias export_alias first_decl
  alias_part space n p z k x may s f =
      record {
        aliases = λ more a. (exported space n p z may s refl, a);
        lone = lone_one here outside _ _ (for_it space (fresh k) z x f);
        serves = λ more os s. used (for_it space (fresh k) z x f) s;
        count = omega arith;
      }

  paths_part : (space : ℕ) (at : Index) (p : ℕ) (ps : List ℕ) (z k last : ℕ) (hs : List Head) (x : ℕ) → last ≡ k + length ps → is_in space (4 ∷ 6 ∷ []) ≡ false → PathMay Q space ps
      → resolve_inserted here outside (path_aliases space at p ps z k) ≡ ok hs → find (table_of here) space (fresh last) ≡ some x → Part k (suc last) hs (ref space (Num x) [] z)
  unfolding resolve_inserted first_space others
  paths_part space at p [] z k last hs x l s h e f =
      let F = first here outside space at p [] z k hs e in
      let same : last ≡ k = omega arith in
      rw (F.is, ← ok_same [] F.more F.resolves, same) (alias_part space F.n p z k x h.may s (rw same at f))
  paths_part space at p (q ∷ ps) z k last hs x l s h e f =
      let F = first here outside space at p (q ∷ ps) z k hs e in
      let P = paths_part space (Id (fresh k)) q ps z (suc k) last F.more x (omega arith) s (shorter Q space q ps h) F.resolves f in
      let F₂ = first here outside space (Id (fresh k)) q ps z (suc k) F.more F.resolves in
      let m = named_number here.entries (from_of (first_space space ps)) (fresh k) z F₂.n F₂.number in
      let l₂ = linked (first_space space ps) (fresh k) F.n p z (fresh (suc k)) F₂.n q (first_nine space q ps h.short) m in
      rw F.is
      (record {
        aliases = λ more a. (exported 10 F.n p z h.ten refl refl, P.aliases more a);
        lone = rw F₂.is (lone_longer here outside _ _ F₂.more _ l₂ (rw F₂.is at P.lone));
        serves = λ more os t. rw F₂.is (link l₂ (rw F₂.is at (P.serves more os t)));
        count = omega (arith, P.count);
      })

  outer_part : (space name z k x : ℕ) (at : ℕ × ℕ) → LegalIndex top_name (Id name) → is_in space FOUR ≡ true → late_name ds outside space name ≡ false → find ds space name ≡ none → walk outside.scopes 1 space name ≡ some at → find (table_of here) space (fresh k) ≡ some x
      → Part k (suc k) (outer_alias space (fresh k) at.0 at.1 z ∷ []) (ref space (Num x) [] z)
  unfolding outer_alias first_decl
  outer_part space name z k x at l four t absent w f =
      record {
        aliases = λ more a. (outward space name z at l four t absent w refl, a);
        lone = lone_one here outside _ _ (for_it space (fresh k) z x f);
        serves = λ more os s. used (for_it space (fresh k) z x f) s;
        count = omega arith;
      }

  -- whatever step B made of it
  pub operand_part : (k : ℕ) (e : Expanded Operand) (hs : List Head) (o' : Operand) → Made Q ds outside k e → resolve_inserted here outside e.inserted ≡ ok hs → NumberOf here outside e.now o' → Part k e.k hs o'
  unfolding resolve_inserted Rules.through ◌>>=◌
  operand_part k e hs o' (stays i c) r n =
      let none_made : [] ≡ hs = ok_same [] hs (rw i at r) in
      rw (← none_made, c) (record { aliases = λ more a. a; lone = lone_none here outside o'; serves = λ more os t. keep t; count = omega arith })
  operand_part k e hs o' (named space name z at l four t a w i) r n =
      let n' = rw i at n in
      let r' = rw i at r in
      let one = outer_inserted here outside space (fresh k) at.0 at.1 z in
      let same : outer_alias space (fresh k) at.0 at.1 z ∷ [] ≡ hs = ok_same _ hs (sym one ∙ r') in
      rw (i, ← same, n'.2) (outer_part space name z k n'.0 at l four t a w (named_number here.entries space (fresh k) z n'.0 n'.1))
  operand_part k e hs o' (pathed space at p ps z s h i) r n =
      let n' = rw i at n in
      let r' = rw i at r in
      rw (i, n'.2) (paths_part space at p ps z k (k + length ps) hs n'.0 refl s h r' (named_number here.entries space (fresh (k + length ps)) z n'.0 n'.1))

  -- ---- all operands of a field

  pub record Divided (k : ℕ) (E : Expanded (List Operand)) (hs : List Head) (os : List Operand) : Type 0 where
    pub aliases : Aliases Q ds outside k hs
    pub serves : Serves (table_of here) (tables outside) hs os
    pub count : E.k ≡ k + length hs

  next : (k : ℕ) (e : Expanded Operand) (es : Expanded (List Operand)) (rows : List ℕ) (left right : List Head) (o : Operand) (os : List Operand) → Part k e.k left o → Divided e.k es right os
      → Divided k (record { inserted = e.inserted ++ es.inserted; rows = rows; now = e.now ∷ es.now; k = es.k }) (left ++ right) (o ∷ os)
  next k e es rows left right o os P D =
      record {
        aliases = P.aliases right D.aliases;
        serves = P.serves right os D.serves;
        count = omega (arith, P.count, D.count, length-append left right);
      }

  pub divided : (fz k : ℕ) (seen : List ℕ) (os : List Operand) (E : Expanded (List Operand)) (hs : List Head) (os' : List Operand) → AllMay Q os → expand_operands ds outside k os ≡ ok E
      → resolve_inserted here outside E.inserted ≡ ok hs → resolve_operands here outside fz seen E.now ≡ ok os' → Divided k E hs os'
  unfolding expand_operands resolve_inserted Rules.as_it_is
  divided fz k seen [] E hs os' h e r n =
      let same = ok_same _ E e in
      let none_made : [] ≡ hs = ok_same [] hs (rw (← same) at r) in
      rw (← none_made, ← same) (record { aliases = tt; serves = rest; count = omega arith })
  divided fz k seen (o ∷ os) E hs os' h e r n =
      let s₁ = bind_inv (expand_operand ds outside k o) _ E e in
      let s₂ = bind_inv (expand_operands ds outside s₁.0.k os) _ E s₁.2 in
      let same = ok_same _ E s₂.2 in
      let H = halves here outside s₁.0.inserted s₂.0.inserted hs (rw (← same) at r) in
      let F = front here outside fz seen s₁.0.now s₂.0.now os' (rw (← same) at n) in
      let P = operand_part k s₁.0 H.left F.o' (holds_of _ _ s₁.0 (operand_made Q ds outside k o h.0) s₁.1) H.lefts F.number in
      let D = divided fz s₁.0.k F.seen' os s₂.0 H.right F.os' h.1 s₂.1 H.rights F.behind in
      subst (λ (x : Expanded (List Operand)). Divided k x hs os') same (rw (H.is, F.is) (next k s₁.0 s₂.0 _ H.left H.right F.o' F.os' P D))
