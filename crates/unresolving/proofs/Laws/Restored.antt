-- A field of an accepted run's output, with its references restored, is expanded and resolved to that field and what stood before it.
use Rattle.std.specs.Prelude.{◌≡◌, Bool, ◌&&◌, not, ℕ, ◌+◌, ◌≤◌, eqb}
use Rattle.std.proofs.Math.Path.{refl, ap, subst}
use Rattle.std.proofs.Common.{sym, ◌∙◌}
use Rattle.std.proofs.Math.Bool.{true, false}
use Rattle.std.proofs.Math.Option.{Option, none, some}
use mathlib.Core.List.{List, [], ◌∷◌, ◌++◌, map, reverse, reverse-reverse}
use native.Mathlib.Omega.{arith}
use Rattle.std.proofs.Math.ListN.{length, length-append}
use Rattle.rules.specs.Tools.{when◌then◌else◌, is_in}
use Rattle.rules.specs.Versions.{top_name}
use Rattle.rules.specs.Rows.{Index, Num, Id}
use Rattle.rules.specs.Tree.{Declaration, Operand, ref, outer, case, Head, with_operands, operand_row}
use Rattle.rules.specs.Shapes.{here_only}
use Rattle.rules.specs.Rules
use Rattle.rules.specs.Rules.{Result, refused, ok, ◌>>=◌, Env, table_of, Outside, opened, find, Expanded, number_in, expand_operand, expand_operands, expand_head, resolve_operands, resolve_head, resolve_inserted}
use Rattle.unresolving.specs.Back.{Group, digits, groups, is_for, first_fit, restored, restored_head}
use Rattle.rules.specs.Laws.ToolLaws.{if_ok_lem, and_left, and_right, eqb-true, false_not}
use Rattle.rules.specs.Laws.Results.{OkR, if_both, holds_of, bind_inv, bind_ok, bind_any, ok_then, ok_same, no_result}
use Rattle.rules.specs.Laws.Meaning.Names.{LowOperand, LowOperands}
use Rattle.rules.proofs.Laws.Output.Numbers.{Numbered, AllNumbered, expanded_bare, operands_numbered}
use Rattle.unresolving.proofs.Laws.Reached.{tables, number_is}
use Rattle.rules.specs.Laws.Entries
use Rattle.unresolving.proofs.Laws.Serves.{Placed, placed, Assigned, no_groups, kept, put, assigned}
use Rattle.unresolving.proofs.Laws.Divided.{both, divided}
use Rattle.unresolving.proofs.Laws.Shaped.{AllMay}
use Rattle.unresolving.proofs.Laws.Led.{Leads, leads}
use Rattle.unresolving.proofs.Laws.Grouped.{Split, no_more, next, split, Took, took}

-- ---- numbers are left alone by both steps

pub kept_as_it_is : (ds : List Declaration) (outside : Outside) (k : ℕ) (o : Operand) → Numbered o → expand_operand ds outside k o ≡ ok (Rules.as_it_is o k)
unfolding expand_operand
kept_as_it_is ds outside k (ref space (Num n) [] z) p = refl
kept_as_it_is ds outside k (ref space (Num n) (m ∷ ms) z) p = absurd p
kept_as_it_is ds outside k (ref space (Id name) paths z) p = absurd p
kept_as_it_is ds outside k (outer space up at z) p = refl
kept_as_it_is ds outside k (case name z) p = refl

-- the CASE names after an operand
unfoldable after : Operand → List ℕ → List ℕ
after (ref space at paths z) seen = seen
after (outer space up at z) seen = seen
after (case name z) seen = name ∷ seen

module _ (here : Env) (outside : Outside) (fz : ℕ) where
  -- an operand of an output, before others
  record Again (seen : List ℕ) (o : Operand) (os : List Operand) : Type 0 where
    behind : resolve_operands here outside fz (after o seen) os ≡ ok os
    before : (ns : List Operand) → resolve_operands here outside fz (after o seen) ns ≡ ok os → resolve_operands here outside fz seen (o ∷ ns) ≡ ok (o ∷ os)

  tail_same : (a b : Operand) (xs ys : List Operand) → a ∷ xs ≡ b ∷ ys → xs ≡ ys
  tail_same a b xs ys e = cc

  -- what step C gave, it gives again
  outer_fixed : (early : Bool) (es : List Env) (space : ℕ) (up at : Index) (z : ℕ) → OkR (λ o. (d n : ℕ) × (o ≡ outer space (Num d) (Num n) z)) (Rules.outer_numbers early es fz space up at z)
  unfolding Rules.outer_numbers
  outer_fixed early es space up at z = bind_any _ _ _ (λ d. bind_any _ _ _ (λ e. bind_any _ _ _ (λ u. bind_any _ _ _ (λ n. (d, n, refl)))))

  outer_again : (early : Bool) (es : List Env) (space : ℕ) (up at : Index) (z : ℕ) → OkR (λ o. (d n : ℕ) × (o ≡ outer space (Num d) (Num n) z)) (Rules.resolve_outer early es fz space up at z)
  unfolding Rules.resolve_outer
  outer_again early es space (Num d) (Num n) z = (d, n, refl)
  outer_again early es space (Num d) (Id name) z = outer_fixed early es space (Num d) (Id name) z
  outer_again early es space (Id name) at z = outer_fixed early es space (Id name) at z

  abbrev Fixed : List ℕ → List Operand → Type 0
  Fixed seen os = resolve_operands here outside fz seen os ≡ ok os

  ref_fixed : (seen : List ℕ) (space n : ℕ) (paths : List ℕ) (z : ℕ) (os : List Operand) → Fixed seen os → Fixed seen (ref space (Num n) paths z ∷ os)
  unfolding resolve_operands number_in ◌>>=◌
  ref_fixed seen space n paths z os q = rw q

  outer_fixed' : (seen : List ℕ) (space d n z : ℕ) (os : List Operand) → Fixed seen os → Fixed seen (outer space (Num d) (Num n) z ∷ os)
  unfolding resolve_operands Rules.resolve_outer ◌>>=◌
  outer_fixed' seen space d n z os q = rw q

  case_fixed : (seen : List ℕ) (name z : ℕ) (os : List Operand) → (not (eqb name 0) && is_in name seen) ≡ false → Fixed (name ∷ seen) os → Fixed seen (case name z ∷ os)
  unfolding resolve_operands when◌then◌else◌ ◌>>=◌
  case_fixed seen name z os f q = rw (f, q)

  pub resolved_again : (seen : List ℕ) (os : List Operand) → OkR (λ os'. resolve_operands here outside fz seen os' ≡ ok os') (resolve_operands here outside fz seen os)
  unfolding resolve_operands
  resolved_again seen [] = refl
  resolved_again seen (ref space at paths z ∷ os) = bind_any _ _ _ (λ n. bind_ok _ _ _ _ (resolved_again seen os) (λ os' q. ref_fixed seen space n paths z os' q))
  resolved_again seen (outer space up at z ∷ os) =
      bind_ok _ _ _ _ (outer_again outside.early (opened here outside) space up at z) (λ o i. bind_ok _ _ _ _ (resolved_again seen os) (λ os' q.
      subst (λ (x : Operand). Fixed seen (x ∷ os')) (sym i.2) (outer_fixed' seen space i.0 i.1 z os' q)))
  resolved_again seen (case name z ∷ os) =
      if_ok_lem (OkR (Fixed seen)) _ _ _ (λ _. tt) (λ f. bind_ok _ _ _ _ (resolved_again (name ∷ seen) os) (λ os' q. case_fixed seen name z os' f q))

  again : (seen : List ℕ) (o : Operand) (os : List Operand) → Numbered o → resolve_operands here outside fz seen (o ∷ os) ≡ ok (o ∷ os) → Again seen o os
  unfolding resolve_operands number_in Rules.resolve_outer after when◌then◌else◌ ◌>>=◌
  again seen (ref space (Num n) [] z) os p e =
      let s = bind_inv (resolve_operands here outside fz seen os) _ _ e in
      record { behind = s.1 ∙ ap {B = Result (List Operand)} ok (tail_same _ _ s.0 os (ok_same _ _ s.2)); before = λ ns q. rw q }
  again seen (ref space (Num n) (m ∷ ms) z) os p e = absurd p
  again seen (ref space (Id name) paths z) os p e = absurd p
  again seen (outer space (Num d) (Num n) z) os p e =
      let s = bind_inv (resolve_operands here outside fz seen os) _ _ e in
      record { behind = s.1 ∙ ap {B = Result (List Operand)} ok (tail_same _ _ s.0 os (ok_same _ _ s.2)); before = λ ns q. rw q }
  again seen (outer space (Num d) (Id name) z) os p e = absurd p
  again seen (outer space (Id name) at z) os p e = absurd p
  again seen (case name z) os p e = go (not (eqb name 0) && is_in name seen) refl e
    where
      go : (b : Bool) → (not (eqb name 0) && is_in name seen) ≡ b
          → (when b then refused Rules.case_twice z else (resolve_operands here outside fz (name ∷ seen) os >>= λ os'. ok (case name z ∷ os'))) ≡ ok (case name z ∷ os) → Again seen (case name z) os
      go true t q = no_result Rules.case_twice z _ q
      go false t q =
          let s = bind_inv (resolve_operands here outside fz (name ∷ seen) os) _ _ q in
          record { behind = s.1 ∙ ap {B = Result (List Operand)} ok (tail_same _ _ s.0 os (ok_same _ _ s.2)); before = λ ns r. rw (t, r) }

  -- ---- operands with their references restored

  module _ (Q : ℕ → Type 0) (ds : List Declaration) where
    pub record Returned (k : ℕ) (os : List Operand) (hs : List Head) (os' : List Operand) (seen : List ℕ) : Type 0 where
      pub e : Expanded (List Operand)
      pub expands : expand_operands ds outside k os ≡ ok e
      pub adds : resolve_inserted here outside e.inserted ≡ ok hs
      pub resolves : resolve_operands here outside fz seen e.now ≡ ok os'
      pub ends : e.k ≡ k + length hs

    -- one that stays
    stays : (k : ℕ) (seen : List ℕ) (o : Operand) (ns os : List Operand) (hs : List Head) → Numbered o → Again seen o os → Returned k ns hs os (after o seen) → Returned k (o ∷ ns) hs (o ∷ os) seen
    unfolding expand_operands
    stays k seen o ns os hs p A R =
        record {
          e = record { inserted = [] ++ R.e.inserted; rows = map (λ (n : ℕ). length (operand_row o) + n) R.e.rows; now = o ∷ R.e.now; k = R.e.k };
          expands = ok_then _ _ (Rules.as_it_is o k) _ (kept_as_it_is ds outside k o p) (unfold Rules.as_it_is in ok_then _ _ R.e _ R.expands refl);
          adds = R.adds;
          resolves = A.before R.e.now R.resolves;
          ends = R.ends;
        }

    -- one that is restored
    pub record ForIt (g : Group) (o : Operand) : Type 0 where
      pub n : ℕ
      pub is : o ≡ ref g.decl.space (Num n) [] g.decl.z
      pub found : find (table_of here) g.decl.space g.decl.name ≡ some n

    pub for_it : (g : Group) (o : Operand) → Numbered o → is_for (table_of here) (tables outside) g.decl o ≡ true → ForIt g o
    unfolding is_for digits
    for_it g (ref space (Num n) [] z) p t =
        let d = g.decl in
        let t₁ = and_right (eqb d.space space) _ t in
        let s : d.space ≡ space = eqb-true d.space space (and_left _ _ t) in
        let z_is : d.z ≡ z = eqb-true d.z z (and_left _ _ t₁) in
        record { n = n; is = rw (s, z_is); found = rw s (number_is _ n (and_right (eqb d.z z) _ t₁)) }
    for_it g (ref space (Num n) (m ∷ ms) z) p t = absurd p
    for_it g (ref space (Id name) paths z) p t = absurd p
    for_it g (outer space up at z) p t = false_not t
    for_it g (case name z) p t = false_not t

    read_form : (k : ℕ) (seen : List ℕ) (g : Group) (o : Operand) (ns os : List Operand) (hs more : List Head) (T : Took Q ds here outside k hs g) → ForIt g o
        → Returned T.e.k ns more os seen → Returned k (g.was ∷ ns) (hs ++ more) (o ∷ os) seen
    unfolding expand_operands resolve_operands Rules.or_refused ◌>>=◌
    read_form k seen g o ns os hs more T F R =
        let number : number_in here.entries g.decl.space (Id g.decl.name) g.decl.z ≡ ok F.n = Entries.number_is here.entries g.decl.space g.decl.name g.decl.z ∙ rw F.found in
        record {
          e = record { inserted = T.e.inserted ++ R.e.inserted; rows = T.e.rows ++ map (λ (n : ℕ). length (operand_row g.was) + n) R.e.rows; now = T.e.now ∷ R.e.now; k = R.e.k };
          expands = ok_then _ _ T.e _ T.expands (ok_then _ _ R.e _ R.expands refl);
          adds = both here outside T.e.inserted R.e.inserted hs more T.adds R.adds;
          resolves = rw (T.now, F.is, number, R.resolves);
          ends = omega (arith, T.ends, R.ends, length-append hs more);
        }

    -- none of them
    unchanged : (k : ℕ) (seen : List ℕ) (os : List Operand) → AllNumbered os → resolve_operands here outside fz seen os ≡ ok os → Returned k os [] os seen
    unfolding expand_operands resolve_inserted Rules.as_it_is
    unchanged k seen [] p e = record { e = _; expands = refl; adds = refl; resolves = e; ends = omega arith }
    unchanged k seen (o ∷ os) p e =
        let A = again seen o os p.0 e in
        stays k seen o os os [] p.0 A (unchanged k (after o seen) os p.1 A.behind)

    split_none : {k : ℕ} {hs : List Head} → Split Q ds here outside k hs [] → hs ≡ []
    split_none no_more = refl

    after_ref_lem : (g : Group) (o : Operand) (seen : List ℕ) → ForIt g o → after o seen ≡ seen
    unfolding after
    after_ref_lem g o seen F = rw F.is

    pub returned : {gs : List Group} {os os' : List Operand} (k : ℕ) (seen : List ℕ) (hs : List Head) → Split Q ds here outside k hs gs → Assigned (table_of here) (tables outside) gs os os' → AllNumbered os
        → resolve_operands here outside fz seen os ≡ ok os → Returned k os' hs os seen
    returned k seen hs S no_groups p e = rw (split_none S) (unchanged k seen [] p e)
    returned k seen hs S (kept {o = o} {os = os} {os' = os'} a) p e =
        let A = again seen o os p.0 e in
        stays k seen o os' os hs p.0 A (returned k (after o seen) hs S a p.1 A.behind)
    returned k seen hs₀ (next b hs more g gs G S) (put {o = o} {os = os} {os' = os'} t a) p e =
        let A = again seen o os p.0 e in
        let F = for_it g o p.0 t in
        let T = took Q ds here outside k b hs g G in
        read_form k seen g o os' os (b ∷ hs) more T F
        (returned T.e.k seen more (subst (λ (x : ℕ). Split Q ds here outside x more gs) (sym T.ends) S) a p.1 (rw (after_ref_lem g o seen F) at A.behind))

-- ---- a field

module _ (Q : ℕ → Type 0) (ds : List Declaration) (here : Env) (outside : Outside) where
  pub record HeadBack (b : ℕ) (hs : List Head) (h : Head) (k : ℕ) : Type 0 where
    pub e : Expanded Head
    pub expands : expand_head ds outside b (restored_head (table_of here) (tables outside) hs h) ≡ ok e
    pub adds : resolve_inserted here outside e.inserted ≡ ok hs
    pub resolves : resolve_head here outside e.now ≡ ok h
    pub ends : e.k ≡ k

  no_groups_fit : (os : List Operand) → first_fit (table_of here) (tables outside) os (reverse []) ≡ os
  unfolding first_fit
  no_groups_fit [] = refl
  no_groups_fit (o ∷ os) = refl

  pub restored_none : (os : List Operand) → restored (table_of here) (tables outside) os [] ≡ os
  unfolding restored
  restored_none os = ap reverse (no_groups_fit (reverse os)) ∙ reverse-reverse os

  -- operands of its own scope alone: nothing was inserted for them
  here_back : (b : ℕ) (h : Head) (os : List Operand) → here_only h.code ≡ true → resolve_operands here outside h.z [] os ≡ ok os → HeadBack b [] (with_operands h os) b
  unfolding restored_head groups expand_head resolve_head resolve_inserted with_operands Rules.as_it_is when◌then◌else◌
  here_back b h os c e =
      record {
        e = Rules.as_it_is (with_operands h os) b;
        expands = rw (restored_none os, c);
        adds = refl;
        resolves = ok_then _ _ os _ e refl;
        ends = refl;
      }

  walked_back : (b : ℕ) (h : Head) (os : List Operand) (hs : List Head) (k : ℕ) → here_only h.code ≡ false
      → (R : Returned here outside h.z Q ds b (restored (table_of here) (tables outside) os (groups (table_of here) (tables outside) hs)) hs os []) → R.e.k ≡ k → HeadBack b hs (with_operands h os) k
  unfolding restored_head expand_head resolve_head with_operands when◌then◌else◌
  walked_back b h os hs k c R ends =
      record {
        e = record { inserted = R.e.inserted; rows = R.e.rows; now = with_operands h R.e.now; k = R.e.k };
        expands = rw c (ok_then _ _ R.e _ R.expands refl);
        adds = R.adds;
        resolves = ok_then _ _ os _ R.resolves refl;
        ends = ends;
      }

  -- ---- what a run made of a field

  -- the CASE names are an input's
  abbrev LowCase : Operand → Type 0
  LowCase (ref space at paths z) = Unit {0}
  LowCase (outer space up at z) = Unit {0}
  LowCase (case name z) = name ≤ top_name

  abbrev LowCases : List Operand → Type 0
  LowCases [] = Unit {0}
  LowCases (o ∷ os) = LowCase o × LowCases os

  low_case : (o : Operand) → LowOperand o → LowCase o
  low_case (ref space at paths z) l = tt
  low_case (outer space up at z) l = tt
  low_case (case name z) l = l

  low_cases : (os : List Operand) → LowOperands os → LowCases os
  low_cases [] l = tt
  low_cases (o ∷ os) l = (low_case o l.0, low_cases os l.1)

  found_low : (space name z k : ℕ) (o : Option (ℕ × ℕ)) → OkR (λ e. LowCase e.now) (Rules.found_at space name z k o)
  unfolding Rules.found_at Rules.through Rules.as_it_is
  found_low space name z k none = tt
  found_low space name z k (some at) = if_both (OkR (λ (e : Expanded Operand). LowCase e.now)) _ _ _ tt tt

  operand_low : (k : ℕ) (o : Operand) → LowCase o → OkR (λ e. LowCase e.now) (expand_operand ds outside k o)
  unfolding expand_operand Rules.through Rules.as_it_is
  operand_low k (ref space (Num n) [] z) l = tt
  operand_low k (ref space (Id name) [] z) l = bind_any _ _ _ (λ u. if_both (OkR (λ (e : Expanded Operand). LowCase e.now)) _ _ _ tt (found_low space name z k _))
  operand_low k (ref space at (p ∷ ps) z) l = if_both (OkR (λ (e : Expanded Operand). LowCase e.now)) _ _ _ tt tt
  operand_low k (outer space up at z) l = tt
  operand_low k (case name z) l = l

  operands_low : (k : ℕ) (os : List Operand) → LowCases os → OkR (λ e. LowCases e.now) (expand_operands ds outside k os)
  unfolding expand_operands Rules.as_it_is
  operands_low k [] l = tt
  operands_low k (o ∷ os) l = bind_ok _ _ _ _ (operand_low k o l.0) (λ e f. bind_ok _ _ _ _ (operands_low e.k os l.1) (λ es g. (f, g)))

  resolved_low : (fz : ℕ) (seen : List ℕ) (os : List Operand) → LowCases os → OkR LowOperands (resolve_operands here outside fz seen os)
  unfolding resolve_operands
  resolved_low fz seen [] l = tt
  resolved_low fz seen (ref space at paths z ∷ os) l = bind_any _ _ _ (λ n. bind_ok _ _ _ _ (resolved_low fz seen os l.1) (λ os' q. (tt, q)))
  resolved_low fz seen (outer space up at z ∷ os) l =
      bind_ok _ _ _ _ (outer_again here outside fz outside.early (opened here outside) space up at z) (λ o i. bind_ok _ _ _ _ (resolved_low fz seen os l.1) (λ os' q.
      (subst LowOperand (sym i.2) (tt, tt), q)))
  resolved_low fz seen (case name z ∷ os) l =
      if_both (OkR LowOperands) _ _ _ tt (bind_ok _ _ _ _ (resolved_low fz (name ∷ seen) os l.1) (λ os' q. (l.0, q)))

  pub data HeadMade (b k : ℕ) (h : Head) (hs : List Head) (h' : Head) : Type 0 where
    here_alone : (os : List Operand) → here_only h.code ≡ true → hs ≡ [] → k ≡ b → h' ≡ with_operands h os → LowOperands os
        → resolve_operands here outside h.z [] os ≡ ok os → HeadMade b k h hs h'
    walked : (os : List Operand) → here_only h.code ≡ false → k ≡ b + length hs → h' ≡ with_operands h os → LowOperands os
        → resolve_operands here outside h.z [] os ≡ ok os → AllNumbered os → Split Q ds here outside b hs (groups (table_of here) (tables outside) hs) → Placed (table_of here) (tables outside) (groups (table_of here) (tables outside) hs) os
        → Leads ds here outside h.operands os hs → HeadMade b k h hs h'

  pub head_made : (b : ℕ) (h : Head) (e : Expanded Head) (hs : List Head) (h' : Head) → AllMay Q h.operands → LowOperands h.operands → expand_head ds outside b h ≡ ok e
      → resolve_inserted here outside e.inserted ≡ ok hs → resolve_head here outside e.now ≡ ok h' → HeadMade b e.k h hs h'
  unfolding expand_head resolve_head resolve_inserted with_operands Rules.as_it_is when◌then◌else◌
  head_made b h e hs h' may low x a r = go (here_only h.code) refl x
    where
      go : (t : Bool) → here_only h.code ≡ t
          → (when t then ok (Rules.as_it_is h b) else (expand_operands ds outside b h.operands >>= λ e. ok (record { inserted = e.inserted; rows = e.rows; now = with_operands h e.now; k = e.k }))) ≡ ok e
          → HeadMade b e.k h hs h'
      go true c x =
          let same = ok_same _ e x in
          let s = bind_inv (resolve_operands here outside h.z [] h.operands) (λ os. ok (with_operands h os)) h' (rw (← same) at r) in
          here_alone s.0 c (sym (ok_same [] hs (rw (← same) at a))) (sym (ap (λ (y : Expanded Head). y.k) same)) (sym (ok_same _ h' s.2))
          (holds_of LowOperands _ s.0 (resolved_low h.z [] h.operands (low_cases h.operands low)) s.1)
          (holds_of _ _ s.0 (resolved_again here outside h.z [] h.operands) s.1)
      go false c x =
          let s₁ = bind_inv (expand_operands ds outside b h.operands) _ e x in
          let same = ok_same _ e s₁.2 in
          let s₂ = bind_inv (resolve_operands here outside h.z [] s₁.0.now) (λ os. ok (with_operands (with_operands h s₁.0.now) os)) h' (rw (← same) at r) in
          let D = divided Q ds here outside h.z b [] h.operands s₁.0 hs s₂.0 may s₁.1 (rw (← same) at a) s₂.1 in
          let bare = holds_of _ _ s₁.0 (expanded_bare ds outside b h.operands) s₁.1 in
          let cases-low = holds_of _ _ s₁.0 (operands_low b h.operands (low_cases h.operands low)) s₁.1 in
          let numbered = holds_of _ _ s₂.0 (operands_numbered here outside h.z [] s₁.0.now bare.0) s₂.1 in
          walked s₂.0 c (sym (ap (λ (y : Expanded Head). y.k) same) ∙ D.count) (sym (ok_same _ h' s₂.2))
          (holds_of LowOperands _ s₂.0 (resolved_low h.z [] s₁.0.now cases-low) s₂.1)
          (holds_of _ _ s₂.0 (resolved_again here outside h.z [] s₁.0.now) s₂.1)
          numbered (split Q ds here outside b hs D.aliases) (placed (table_of here) (tables outside) hs D.serves)
          (leads ds here outside Q h.z b [] h.operands s₁.0 hs s₂.0 may s₁.1 (rw (← same) at a) s₂.1 numbered)

  pub head_back : (b k : ℕ) (h : Head) (hs : List Head) (h' : Head) → HeadMade b k h hs h' → HeadBack b hs h' k
  head_back b k h hs h' (here_alone os c none_made same is low fixed) = rw (is, none_made, same) (here_back b h os c fixed)
  head_back b k h hs h' (walked os c count is low fixed numbered S P L) =
      let R = returned here outside h.z Q ds b [] hs S (assigned (table_of here) (tables outside) os (groups (table_of here) (tables outside) hs) P) numbered fixed in
      rw is (walked_back b h os hs k c R (omega (arith, R.ends, count)))
