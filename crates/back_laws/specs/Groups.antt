-- Groups of inserted fields from the back: the last field's group, and those of the fields before it.
use Rattle.std.specs.Prelude.{◌≡◌, Bool}
use Rattle.std.proofs.Math.Path.{refl}
use Rattle.std.proofs.Common.{sym, ap, ◌∙◌}
use Rattle.std.proofs.Math.Bool.{true, false}
use mathlib.Core.List.{List, [], ◌∷◌, ◌++◌, append_assoc, reverse_aux, reverse, reverse-cons, reverse-append}
use Rattle.rules.specs.Tools.{when◌then◌else◌}
use Rattle.rules.specs.Tree.{Declaration, Operand, Head}
use Rattle.unresolving.specs.Back.{Group, first_decl, lengthened, prepend, links, alone, groups}

module _ (here : List Declaration) (outside : List (List Declaration)) where
  -- there is a group if there is a field
  record Some (gs : List Group) : Type 0 where
    first : Group
    more : List Group
    is : gs ≡ first ∷ more

  some_groups : (a : Head) (hs : List Head) → Some (groups here outside (a ∷ hs))
  unfolding groups prepend when◌then◌else◌
  some_groups a [] = record { first = alone here outside a; more = []; is = refl }
  some_groups a (b ∷ hs) = go (links here outside a b) (some_groups b hs)
    where
      go : (t : Bool) → Some (groups here outside (b ∷ hs)) → Some (when t then prepend a (groups here outside (b ∷ hs)) else alone here outside a ∷ groups here outside (b ∷ hs))
      go true s = record { first = record { decl = s.first.decl; was = lengthened a s.first.was }; more = s.more; is = rw s.is }
      go false s = record { first = alone here outside a; more = groups here outside (b ∷ hs); is = refl }

  prepend_append : (a : Head) (gs : List Group) (g : Group) → Some gs → prepend a (gs ++ (g ∷ [])) ≡ prepend a gs ++ (g ∷ [])
  unfolding prepend
  prepend_append a gs g s = rw s.is

  -- the last of these does not go on with b
  abbrev LastNot : List Head → Head → Type 0
  LastNot [] b = Unit {0}
  LastNot (x ∷ []) b = links here outside x b ≡ false
  LastNot (x ∷ (y ∷ ys)) b = LastNot (y ∷ ys) b

  last_not : (xs : List Head) (a b : Head) → links here outside a b ≡ false → LastNot (xs ++ (a ∷ [])) b
  last_not [] a b e = e
  last_not (x ∷ []) a b e = e
  last_not (x ∷ (y ∷ ys)) a b e = last_not (y ∷ ys) a b e

  -- fields that make one group, behind others
  behind : (xs : List Head) (b : Head) (tail : List Head) (g : Group) → groups here outside (b ∷ tail) ≡ g ∷ [] → LastNot xs b → groups here outside (xs ++ (b ∷ tail)) ≡ groups here outside xs ++ (g ∷ [])
  behind [] b tail g e n = e ∙ (unfold groups in refl)
  behind (x ∷ []) b tail g e n = unfold groups when◌then◌else◌ in rw (n, e)
  behind (x ∷ (y ∷ ys)) b tail g e n = go (links here outside x y) refl (behind (y ∷ ys) b tail g e n)
    where
      go : (t : Bool) → links here outside x y ≡ t → groups here outside (y ∷ (ys ++ (b ∷ tail))) ≡ groups here outside (y ∷ ys) ++ (g ∷ [])
          → groups here outside (x ∷ (y ∷ (ys ++ (b ∷ tail)))) ≡ groups here outside (x ∷ (y ∷ ys)) ++ (g ∷ [])
      go true t below = unfold groups when◌then◌else◌ in rw (t, below) (prepend_append x (groups here outside (y ∷ ys)) g (some_groups y ys))
      go false t below = unfold groups when◌then◌else◌ in rw (t, below)

  -- the last of all fields, the last first, is no part of their group
  pub parted : (hs : List Head) (a b : Head) (tail : List Head) (g : Group) → links here outside a b ≡ false → groups here outside (b ∷ tail) ≡ g ∷ []
      → groups here outside (reverse (a ∷ hs) ++ (b ∷ tail)) ≡ groups here outside (reverse (a ∷ hs)) ++ (g ∷ [])
  parted hs a b tail g n e = rw (reverse-cons a hs) (behind (reverse hs ++ (a ∷ [])) b tail g e (last_not (reverse hs) a b n))

  pub lone : (a : Head) → groups here outside (a ∷ []) ≡ alone here outside a ∷ []
  unfolding groups
  lone a = refl

  pub joined : (a b : Head) (tail : List Head) (g : Group) → links here outside a b ≡ true → groups here outside (b ∷ tail) ≡ g ∷ []
      → groups here outside (a ∷ (b ∷ tail)) ≡ record { decl = g.decl; was = lengthened a g.was } ∷ []
  unfolding groups prepend when◌then◌else◌
  joined a b tail g l e = rw (l, e)

  -- one field more at the end of those before
  pub shifted : (hs : List Head) (a : Head) (tail : List Head) → reverse (a ∷ hs) ++ tail ≡ reverse hs ++ (a ∷ tail)
  shifted hs a tail = rw (reverse-cons a hs) (append_assoc (reverse hs) (a ∷ []) tail)

  pub no_groups : groups here outside [] ≡ []
  unfolding groups
  no_groups = refl
