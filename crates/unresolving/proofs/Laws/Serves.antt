-- Which references inserted fields serve. A written number may count to an inserted field by chance; then there are several ways to
-- divide the inserted fields among the references, and `groups` and `restored` find one if there is any.
use Rattle.std.specs.Prelude.{◌≡◌, Bool}
use Rattle.std.proofs.Math.Path.{refl}
use Rattle.std.proofs.Common.{sym, ◌∙◌}
use Rattle.std.proofs.Math.Bool.{true, false}
use mathlib.Core.List.{List, [], ◌∷◌, reverse_aux, reverse, reverse-reverse}
use Rattle.rules.specs.Tools.{when◌then◌else◌}
use Rattle.rules.specs.Tree.{Declaration, Operand, Head}
use Rattle.unresolving.specs.Back.{Group, first_decl, prepend, links, alone, groups, is_for, first_fit, restored}
use Rattle.rules.specs.Laws.ToolLaws.{false_not}

module _ (here : List Declaration) (outside : List (List Declaration)) where
  -- the inserted fields can be divided among the operands, in order: each is used by an operand or by the field behind it
  pub data Serves : List Head → List Operand → Type 0 where
    rest : {os : List Operand} → Serves [] os
    keep : {hs : List Head} {o : Operand} {os : List Operand} → Serves hs os → Serves hs (o ∷ os)
    used : {a : Head} {hs : List Head} {o : Operand} {os : List Operand} → is_for here outside (first_decl a.decls) o ≡ true → Serves hs os → Serves (a ∷ hs) (o ∷ os)
    link : {a b : Head} {hs : List Head} {os : List Operand} → links here outside a b ≡ true → Serves (b ∷ hs) os → Serves (a ∷ (b ∷ hs)) os

  -- without the first of them: the operand that used it keeps its number, or has a path that is shorter by one
  fewer : {a : Head} {hs : List Head} {os : List Operand} → Serves (a ∷ hs) os → Serves hs os
  fewer (keep s) = keep (fewer s)
  fewer (used t s) = keep s
  fewer (link l s) = s

  -- the groups have their operands, in order
  pub data Placed : List Group → List Operand → Type 0 where
    none_left : Placed [] []
    later : {gs : List Group} {o : Operand} {os : List Operand} → Placed gs os → Placed gs (o ∷ os)
    here_it_is : {g : Group} {gs : List Group} {o : Operand} {os : List Operand} → is_for here outside g.decl o ≡ true → Placed gs os → Placed (g ∷ gs) (o ∷ os)

  none_placed : (os : List Operand) → Placed [] os
  none_placed [] = none_left
  none_placed (o ∷ os) = later (none_placed os)

  placed_fewer : {g : Group} {gs : List Group} {os : List Operand} → Placed (g ∷ gs) os → Placed gs os
  placed_fewer (later p) = later (placed_fewer p)
  placed_fewer (here_it_is t p) = later p

  placed_longer : (a : Head) {gs : List Group} {os : List Operand} → Placed gs os → Placed (prepend a gs) os
  unfolding prepend
  placed_longer a none_left = none_left
  placed_longer a (later p) = later (placed_longer a p)
  placed_longer a (here_it_is t p) = here_it_is t p

  -- the first is a group of its own
  placed_alone : {a b : Head} {hs : List Head} {os : List Operand} (gs : List Group) → links here outside a b ≡ false
      → ((os' : List Operand) → Serves (b ∷ hs) os' → Placed gs os') → Serves (a ∷ (b ∷ hs)) os → Placed (alone here outside a ∷ gs) os
  unfolding alone
  placed_alone gs l below (keep s) = later (placed_alone gs l below s)
  placed_alone gs l below (used t s) = here_it_is t (below _ s)
  placed_alone gs l below (link l' s) = false_not (sym l ∙ l')

  placed_last : {a : Head} {os : List Operand} → Serves (a ∷ []) os → Placed (alone here outside a ∷ []) os
  unfolding alone
  placed_last (keep s) = later (placed_last s)
  placed_last (used {os = os} t s) = here_it_is t (none_placed os)

  pub placed : (hs : List Head) {os : List Operand} → Serves hs os → Placed (groups here outside hs) os
  unfolding groups when◌then◌else◌
  placed [] {os} s = none_placed os
  placed (a ∷ []) s = placed_last s
  placed (a ∷ (b ∷ hs)) {os} s = go (links here outside a b) refl (λ os' s'. placed (b ∷ hs) s')
    where
      gs : List Group
      gs = groups here outside (b ∷ hs)

      go : (t : Bool) → links here outside a b ≡ t → ((os' : List Operand) → Serves (b ∷ hs) os' → Placed gs os')
          → Placed (when t then prepend a gs else alone here outside a ∷ gs) os
      go true l below = placed_longer a (below os (fewer s))
      go false l below = placed_alone gs l below s

  -- ---- each group at its operand

  -- `os'` are the operands with the references of the groups in their places
  pub data Assigned : List Group → (os os' : List Operand) → Type 0 where
    no_groups : Assigned [] [] []
    kept : {gs : List Group} {o : Operand} {os os' : List Operand} → Assigned gs os os' → Assigned gs (o ∷ os) (o ∷ os')
    put : {g : Group} {gs : List Group} {o : Operand} {os os' : List Operand} → is_for here outside g.decl o ≡ true → Assigned gs os os' → Assigned (g ∷ gs) (o ∷ os) (g.was ∷ os')

  none_assigned : (os : List Operand) → Assigned [] os os
  none_assigned [] = no_groups
  none_assigned (o ∷ os) = kept (none_assigned os)

  -- from the back it is the same
  placed_reversed : {gs gs₁ : List Group} {os os₁ : List Operand} → Placed gs os → Placed gs₁ os₁ → Placed (reverse_aux gs gs₁) (reverse_aux os os₁)
  placed_reversed none_left q = q
  placed_reversed (later p) q = placed_reversed p (later q)
  placed_reversed (here_it_is t p) q = placed_reversed p (here_it_is t q)

  assigned_reversed : {gs gs₁ : List Group} {os os' os₁ os₁' : List Operand} → Assigned gs os os' → Assigned gs₁ os₁ os₁'
      → Assigned (reverse_aux gs gs₁) (reverse_aux os os₁) (reverse_aux os' os₁')
  assigned_reversed no_groups b = b
  assigned_reversed (kept a) b = assigned_reversed a (kept b)
  assigned_reversed (put t a) b = assigned_reversed a (put t b)

  placed_later : {g : Group} {gs : List Group} {o : Operand} {os : List Operand} → is_for here outside g.decl o ≡ false → Placed (g ∷ gs) (o ∷ os) → Placed (g ∷ gs) os
  placed_later f (later p) = p
  placed_later f (here_it_is t p) = false_not (sym f ∙ t)

  placed_here : {g : Group} {gs : List Group} {o : Operand} {os : List Operand} → Placed (g ∷ gs) (o ∷ os) → Placed gs os
  placed_here (later p) = placed_fewer p
  placed_here (here_it_is t p) = p

  no_operands : {gs : List Group} → Placed gs [] → Assigned gs [] []
  no_operands none_left = no_groups

  -- the first that fits will do, whichever had it
  first_assigned : (os : List Operand) (gs : List Group) → Placed gs os → Assigned gs os (first_fit here outside os gs)
  unfolding first_fit when◌then◌else◌
  first_assigned [] gs p = no_operands p
  first_assigned (o ∷ os) [] p = none_assigned (o ∷ os)
  first_assigned (o ∷ os) (g ∷ gs) p = go (is_for here outside g.decl o) refl (λ gs' q. first_assigned os gs' q)
    where
      go : (t : Bool) → is_for here outside g.decl o ≡ t → ((gs' : List Group) → Placed gs' os → Assigned gs' os (first_fit here outside os gs'))
          → Assigned (g ∷ gs) (o ∷ os) ((when t then g.was else o) ∷ first_fit here outside os (when t then gs else g ∷ gs))
      go true t below = put t (below gs (placed_here p))
      go false t below = kept (below (g ∷ gs) (placed_later t p))

  pub assigned : (os : List Operand) (gs : List Group) → Placed gs os → Assigned gs os (restored here outside os gs)
  unfolding restored
  assigned os gs p =
      let back = assigned_reversed (first_assigned (reverse os) (reverse gs) (placed_reversed p none_left)) no_groups in
      rw (reverse-reverse gs, reverse-reverse os) at back
