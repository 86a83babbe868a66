-- The ways through what is below the run.
use mathlib.Core.Path.{◌≡◌, refl, ap, ap₂, sym, ◌∙◌}
use mathlib.Core.Logic.{◌⊎◌, inl, inr}
use mathlib.Core.List.{List, []}
use native.Mathlib.Omega.{arith}
use Prim.Native.Nat.{ℕ, ◌-◌, ◌*◌, ◌≤◌, ◌<◌}
use lib.ListN.{length, take, drop, length-drop, drop_of_length-le}
use lib.Seq.{take_all}
use borrow.Author.Rules.{rules}
use Rattle.kit.specs.Out.{◌&◌}
use Rattle.kit.proofs.Laws.{lt_or_le}
use Rattle.limits.specs.Held.{setting}
use Rattle.lent_areas.proofs.InForce.{header_long}
use Rattle.reading_laws.specs.OnBytes.{body}
use Rattle.moved_list.specs.declared.Listed.{Listed}
use Rattle.moved.specs.Run.{fronts_t}

-- eight bytes of a header stay
pub more_fits : (i size : ℕ) → size ≡ (setting i).version.header → 8 ≤ size
more_fits i size e = let h = header_long i in omega (arith, h, e)

-- from a place on, or nothing where there is less
from_least : (more a : ℕ) (l : List ℕ) → a ≡ more - (more - length l) → take (length l - a) (drop a l) ≡ drop more l
from_least more a l e = take_all (length l - a) (drop a l) (simp length-drop (omega arith)) ∙ go (lt_or_le (length l) more)
  where
    go : (length l < more) ⊎ (more ≤ length l) → drop a l ≡ drop more l
    go (inl h) = drop_of_length-le l {i = a} (omega arith) ∙ sym (drop_of_length-le l {i = more} (omega arith))
    go (inr h) = let k : a ≡ more = omega arith in ap (λ (n : ℕ). drop n l) k

pub listed_behind : (i size a b rows : ℕ) (form out moved apart m' a' : List ℕ) (r : Listed) → size ≡ (setting i).version.header → a ≡ size - 8 - (size - 8 - length form) → b ≡ size - 8 - (size - 8 - length out)
    → (r & m' & a') ≡ fronts_t (take (length form - a) (drop a form)) (take (length out - b) (drop b out)) moved apart rows → (r & m' & a') ≡ fronts_t (body (setting i) form) (body (setting i) out) moved apart rows
listed_behind i size a b rows form out moved apart m' a' r e p q h =
    let f : take (length form - a) (drop a form) ≡ body (setting i) form = from_least (size - 8) a form p ∙ ap (λ (n : ℕ). drop (n - 8) form) e in
    let o : take (length out - b) (drop b out) ≡ body (setting i) out = from_least (size - 8) b out q ∙ ap (λ (n : ℕ). drop (n - 8) out) e in
    h ∙ ap₂ (λ (x y : List ℕ). fronts_t x y moved apart rows) f o

pub ruleset ways = (more_fits, listed_behind, rules)
