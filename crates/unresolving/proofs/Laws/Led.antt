-- A field of two references: if the first had no PATHs, it is given none. Each group goes to the last reference that it fits, and those of
-- the second are one group.
use Rattle.std.specs.Prelude.{◌≡◌, Bool, true, false, ℕ}
use Rattle.std.proofs.Math.Path.{refl, ap, subst}
use Rattle.std.proofs.Common.{sym, ◌∙◌}
use mathlib.Core.List.{List, [], ◌∷◌, ◌++◌, append-nil, reverse}
use Rattle.rules.specs.Tools.{when◌then◌else◌}
use Rattle.rules.specs.Rows.{Num, Id}
use Rattle.rules.specs.Tree.{Declaration, Operand, ref, outer, case, Head}
use Rattle.rules.specs.Rules
use Rattle.rules.specs.Rules.{ok, Env, table_of, Outside, Expanded, outer_alias, expand_operand, expand_operands, resolve_operands, resolve_inserted}
use Rattle.unresolving.specs.Back.{Group, first_operand, served, links, alone, groups, is_for, first_fit, restored}
use Rattle.rules.specs.Laws.Results.{holds_of, bind_inv, ok_same, if_both}
use Rattle.rules.proofs.Laws.Output.Numbers.{Bare, Numbered, AllNumbered}
use Rattle.unresolving.proofs.Laws.Reached.{tables}
use Rattle.unresolving.proofs.Laws.Shaped.{May, AllMay}
use Rattle.unresolving.proofs.Laws.Divided.{Made, stays, named, pathed, operand_made, halves, front, outer_inserted, Lone, no_group, one_group, operand_part}

numbered_bare : (o : Operand) → Numbered o → Bare o
numbered_bare (ref space (Num n) [] z) p = tt
numbered_bare (ref space (Num n) (m ∷ ms) z) p = absurd p
numbered_bare (ref space (Id name) paths z) p = absurd p
numbered_bare (outer space up at z) p = tt
numbered_bare (case name z) p = tt

-- ---- two references and their groups

module _ (here : List Declaration) (outside : List (List Declaration)) (o o' : Operand) where
  -- `o` and `o'` with the references of the groups in their places: what stands first has no PATHs
  pub record Led (gs : List Group) : Type 0 where
    pub x : Operand
    pub x' : Operand
    pub is : restored here outside (o ∷ (o' ∷ [])) gs ≡ x ∷ (x' ∷ [])
    pub bare : Bare x

  led_none : Bare o → Led []
  unfolding restored first_fit
  led_none b = record { x = o; x' = o'; is = refl; bare = b }

  led_last : (g : Group) → Bare o → is_for here outside g.decl o' ≡ true → Led (g ∷ [])
  unfolding restored first_fit when◌then◌else◌
  led_last g b t = record { x = o; x' = g.was; is = rw t; bare = b }

  led_both : (g g' : Group) → Bare o → Bare g.was → is_for here outside g'.decl o' ≡ true → Led (g ∷ (g' ∷ []))
  unfolding restored first_fit when◌then◌else◌
  led_both g g' b w t =
      record {
        x = when is_for here outside g.decl o then g.was else o;
        x' = g'.was;
        is = rw t (go (is_for here outside g.decl o));
        bare = if_both Bare (is_for here outside g.decl o) g.was o w b;
      }
    where
      go : (b : Bool) → reverse (g'.was ∷ ((when b then g.was else o) ∷ [])) ≡ (when b then g.was else o) ∷ (g'.was ∷ [])
      go b = refl

  led_one : (g : Group) → Bare o → Bare g.was → Led (g ∷ [])
  led_one g b w = go (is_for here outside g.decl o') refl
    where
      first : is_for here outside g.decl o' ≡ false → restored here outside (o ∷ (o' ∷ [])) (g ∷ []) ≡ (when is_for here outside g.decl o then g.was else o) ∷ (o' ∷ [])
      first f = unfold restored first_fit when◌then◌else◌ in (rw f)

      go : (t : Bool) → is_for here outside g.decl o' ≡ t → Led (g ∷ [])
      go true t = led_last g b t
      go false f = record { x = _; x' = o'; is = first f; bare = if_both Bare (is_for here outside g.decl o) g.was o w b }

-- ---- what the first inserted

-- nothing, or one outer alias
data Headed (hs : List Head) : Type 0 where
  none_new : hs ≡ [] → Headed hs
  one_outer : (space new d n z : ℕ) → hs ≡ outer_alias space new d n z ∷ [] → Headed hs

bare_may : (Q : ℕ → Type 0) (o : Operand) → May Q o → Bare o → May (λ (s : ℕ). ⊥) o
bare_may Q (ref space (Num n) [] z) h b = tt
bare_may Q (ref space (Id name) [] z) h b = h
bare_may Q (ref space (Num n) (p ∷ ps) z) h b = absurd b
bare_may Q (ref space (Id name) (p ∷ ps) z) h b = absurd b
bare_may Q (outer space up at z) h b = tt
bare_may Q (case name z) h b = tt

module _ (ds : List Declaration) (here : Env) (outside : Outside) where
  headed : (k : ℕ) (e : Expanded Operand) (hs : List Head) → Made (λ (s : ℕ). ⊥) ds outside k e → resolve_inserted here outside e.inserted ≡ ok hs → Headed hs
  unfolding resolve_inserted Rules.through
  headed k e hs (stays i c) r = none_new (sym (ok_same [] hs (rw i at r)))
  headed k e hs (named space name z at l four t a w i) r =
      one_outer space (Rules.fresh k) at.0 at.1 z (sym (ok_same _ hs (sym (outer_inserted here outside space (Rules.fresh k) at.0 at.1 z) ∙ (rw i at r))))
  headed k e hs (pathed space at p ps z s h i) r = absurd h.may

  outer_alone : (space new d n z : ℕ) (hs : List Head)
      → groups (table_of here) (tables outside) (outer_alias space new d n z ∷ hs) ≡ alone (table_of here) (tables outside) (outer_alias space new d n z) ∷ groups (table_of here) (tables outside) hs
  unfolding groups links outer_alias when◌then◌else◌
  outer_alone space new d n z [] = refl
  outer_alone space new d n z (b ∷ hs) = refl

  outer_bare : (space new d n z : ℕ) → Bare (alone (table_of here) (tables outside) (outer_alias space new d n z)).was
  unfolding alone served outer_alias first_operand
  outer_bare space new d n z = tt

  led : (left right : List Head) (o o' : Operand) → Bare o → Headed left → Lone here outside right o' → Led (table_of here) (tables outside) o o' (groups (table_of here) (tables outside) (left ++ right))
  led left right o o' b (none_new i) (no_group e) = rw (i, e) (led_none (table_of here) (tables outside) o o' b)
  led left right o o' b (none_new i) (one_group g e t) = rw (i, e) (led_last (table_of here) (tables outside) o o' g b t)
  led left right o o' b (one_outer space new d n z i) (no_group e) =
      rw (i, outer_alone space new d n z right, e) (led_one (table_of here) (tables outside) o o' _ b (outer_bare space new d n z))
  led left right o o' b (one_outer space new d n z i) (one_group g e t) =
      rw (i, outer_alone space new d n z right, e) (led_both (table_of here) (tables outside) o o' _ g b (outer_bare space new d n z) t)

  -- the last operand
  nothing : (fz k : ℕ) (seen : List ℕ) (E : Expanded (List Operand)) (hs : List Head) (os : List Operand) → expand_operands ds outside k [] ≡ ok E
      → resolve_inserted here outside E.inserted ≡ ok hs → resolve_operands here outside fz seen E.now ≡ ok os → ([] ≡ hs) × ([] ≡ os)
  unfolding expand_operands resolve_inserted resolve_operands Rules.as_it_is
  nothing fz k seen E hs os e r n = let same = ok_same _ E e in (ok_same [] hs (rw (← same) at r), ok_same [] os (rw (← same) at n))

  pub record Last (hs : List Head) (os : List Operand) : Type 0 where
    pub o : Operand
    pub are : os ≡ o ∷ []
    lone : Lone here outside hs o

  pub last : (Q : ℕ → Type 0) (fz k : ℕ) (seen : List ℕ) (a : Operand) (E : Expanded (List Operand)) (hs : List Head) (os : List Operand) → AllMay Q (a ∷ [])
      → expand_operands ds outside k (a ∷ []) ≡ ok E → resolve_inserted here outside E.inserted ≡ ok hs → resolve_operands here outside fz seen E.now ≡ ok os → Last hs os
  unfolding expand_operands
  last Q fz k seen a E hs os m e r n =
      let s₁ = bind_inv (expand_operand ds outside k a) _ E e in
      let s₂ = bind_inv (expand_operands ds outside s₁.0.k []) _ E s₁.2 in
      let same = ok_same _ E s₂.2 in
      let H = halves here outside s₁.0.inserted s₂.0.inserted hs (rw (← same) at r) in
      let F = front here outside fz seen s₁.0.now s₂.0.now os (rw (← same) at n) in
      let N = nothing fz s₁.0.k F.seen' s₂.0 H.right F.os' s₂.1 H.rights F.behind in
      let P = operand_part Q ds here outside k s₁.0 H.left F.o' (holds_of _ _ s₁.0 (operand_made Q ds outside k a m.0) s₁.1) H.lefts F.number in
      let hs-are : hs ≡ H.left = H.is ∙ (ap (λ (l : List Head). H.left ++ l) (sym N.0) ∙ append-nil H.left) in
      record {
        o = F.o';
        are = F.is ∙ ap (λ (l : List Operand). F.o' ∷ l) (sym N.1);
        lone = subst (λ (l : List Head). Lone here outside l F.o') (sym hs-are) P.lone;
      }

  -- Of a run of two operands, the first without PATHs.
  pub record TwoLed (os : List Operand) (hs : List Head) : Type 0 where
    pub o : Operand
    pub o' : Operand
    pub are : os ≡ o ∷ (o' ∷ [])
    pub led_by : Led (table_of here) (tables outside) o o' (groups (table_of here) (tables outside) hs)

  pub two_led : (Q : ℕ → Type 0) (fz k : ℕ) (seen : List ℕ) (a a' : Operand) (E : Expanded (List Operand)) (hs : List Head) (os : List Operand) → AllMay Q (a ∷ (a' ∷ [])) → Bare a
      → expand_operands ds outside k (a ∷ (a' ∷ [])) ≡ ok E → resolve_inserted here outside E.inserted ≡ ok hs → resolve_operands here outside fz seen E.now ≡ ok os → AllNumbered os
      → TwoLed os hs
  unfolding expand_operands
  two_led Q fz k seen a a' E hs os m b e r n p =
      let s₁ = bind_inv (expand_operand ds outside k a) _ E e in
      let s₂ = bind_inv (expand_operands ds outside s₁.0.k (a' ∷ [])) _ E s₁.2 in
      let same = ok_same _ E s₂.2 in
      let H = halves here outside s₁.0.inserted s₂.0.inserted hs (rw (← same) at r) in
      let F = front here outside fz seen s₁.0.now s₂.0.now os (rw (← same) at n) in
      let L = last Q fz s₁.0.k F.seen' a' s₂.0 H.right F.os' m.1 s₂.1 H.rights F.behind in
      let os-are : os ≡ F.o' ∷ (L.o ∷ []) = F.is ∙ ap (λ (l : List Operand). F.o' ∷ l) L.are in
      let first : Headed H.left = headed k s₁.0 H.left (holds_of _ _ s₁.0 (operand_made (λ (s : ℕ). ⊥) ds outside k a (bare_may Q a m.0 b)) s₁.1) H.lefts in
      let own : Bare F.o' = numbered_bare F.o' (subst AllNumbered os-are p).0 in
      record {
        o = F.o';
        o' = L.o;
        are = os-are;
        led_by = subst (λ (l : List Head). Led (table_of here) (tables outside) F.o' L.o (groups (table_of here) (tables outside) l)) (sym H.is)
            (led H.left H.right F.o' L.o own first L.lone);
      }

  -- what is said of the operands `was`: if they are two, and if it is one
  abbrev pub Leads : (was os : List Operand) (hs : List Head) → Type 0
  Leads [] os hs = Unit {0}
  Leads (a ∷ []) os hs = Last hs os
  Leads (a ∷ (a' ∷ [])) os hs = Bare a → TwoLed os hs
  Leads (a ∷ (a' ∷ (b ∷ more))) os hs = Unit {0}

  pub leads : (Q : ℕ → Type 0) (fz k : ℕ) (seen : List ℕ) (was : List Operand) (E : Expanded (List Operand)) (hs : List Head) (os : List Operand) → AllMay Q was
      → expand_operands ds outside k was ≡ ok E → resolve_inserted here outside E.inserted ≡ ok hs → resolve_operands here outside fz seen E.now ≡ ok os → AllNumbered os
      → Leads was os hs
  leads Q fz k seen [] E hs os m e r n p = tt
  leads Q fz k seen (a ∷ []) E hs os m e r n p = last Q fz k seen a E hs os m e r n
  leads Q fz k seen (a ∷ (a' ∷ [])) E hs os m e r n p = λ b. two_led Q fz k seen a a' E hs os m b e r n p
  leads Q fz k seen (a ∷ (a' ∷ (b ∷ more))) E hs os m e r n p = tt
