-- `options::given::has` meets its contract.
use mathlib.Core.Path.{◌≡◌, refl}
use mathlib.Core.Bool.{false}
use Prim.Native.Nat.{ℕ, ◌/◌, ◌%◌}
use borrow.Author.Rules.{rules}
use lib.Dec.{eqb}
use Rattle.kit.proofs.Laws.{yes!, no!, tests}
use Rattle.options.specs.Given.{is_in}
use Rattle.options.proofs.given.has.Goals as goal

none_is : (set option : ℕ) → option ≡ 0 → false ≡ is_in set option
unfolding is_in
none_is set option h = yes! _ (omega tests) refl

one_is : (set option : ℕ) → (option ≡ 0 → ⊥) → eqb (set / option % 2) 1 ≡ is_in set option
unfolding is_in
one_is set option h = no! _ (omega tests) refl

pub returns-then-option-eq0 : goal.returns-then-option-eq0
returns-then-option-eq0 c = search (none_is, rules)

pub returns : goal.returns
returns c = search (one_is, rules)
