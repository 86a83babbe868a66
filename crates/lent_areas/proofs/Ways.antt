-- The ways through the code.
use mathlib.Core.Path.{◌≡◌, ap, ◌∙◌}
use mathlib.Core.Bool.{◌&&◌}
use mathlib.Core.List.{List}
use Prim.Native.Nat.{ℕ}
use lib.Dec.{leb}
use borrow.Author.Rules.{rules}
use Rattle.rules.specs.Versions.{Version}
use Rattle.names.specs.Table.{Slot, empty_slot}
use Rattle.clearing.specs.Cleared.{cleared}
use Rattle.resolver_with.specs.Areas.{slots_for, links_for, roomy, Cleared}

pub roomy_tests : (v : Version) (slots links a b c d e : ℕ) → slots ≡ slots_for v → links ≡ links_for v
    → (leb slots a && (leb slots b && (leb links c && (leb links d && leb slots e)))) ≡ roomy v (record { entered = a; names = b; known = c; chains = d; ends = e })
unfolding roomy
roomy_tests v slots links a b c d e p q = rw (p, q)

pub ruleset ways = (roomy_tests, rules)

pub all_cleared : (v : Version) (slots links : ℕ) → slots ≡ slots_for v → links ≡ links_for v → (e e' n n' : List Slot) (k k' c c' m m' : List ℕ)
    → e' ≡ cleared empty_slot slots e → n' ≡ cleared empty_slot slots n → k' ≡ cleared 0 links k → c' ≡ cleared 0 links c → m' ≡ cleared 0 slots m → Cleared v e e' n n' k k' c c' m m'
all_cleared v slots links p q e e' n n' k k' c c' m m' f g h i j =
    record {
      entered = f ∙ ap (λ (x : ℕ). cleared empty_slot x e) p;
      names = g ∙ ap (λ (x : ℕ). cleared empty_slot x n) p;
      known = h ∙ ap (λ (x : ℕ). cleared 0 x k) q;
      chains = i ∙ ap (λ (x : ℕ). cleared 0 x c) q;
      ends = j ∙ ap (λ (x : ℕ). cleared 0 x m) p;
    }
