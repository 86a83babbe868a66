-- What step B lets pass is in time.
use Rattle.std.specs.Prelude.{◌≡◌, refl, Bool, true, false}
use mathlib.Core.List.{List, [], ◌∷◌}
use Rattle.std.proofs.Math.Option.{some}
use Prim.Native.Nat.{ℕ, zero, suc}
use Rattle.std.proofs.Math.ListN.{get_elem?}
use Rattle.rules.specs.Tools.{when◌then◌else◌, is_just}
use Rattle.rules.specs.Rows.{Id}
use Rattle.rules.specs.Tree.{Declaration, Operand, ref, Head}
use Rattle.rules.specs.Shapes.{here_only}
use Rattle.rules.specs.Rules as steps
use Rattle.rules.specs.Rules.{ok, Outside, expand_operand, expand_operands, expand_head}
use Rattle.rules.specs.Laws.Results.{OkR, bind_ok, bind_eq, bind_any, always, no_result, some_same, no_option}

-- what is not refused is not late
pub in_time_lem : (late : Bool) (z : ℕ) (u : Unit {0}) → steps.in_time late z ≡ ok u → late ≡ false
unfolding steps.in_time when◌then◌else◌
in_time_lem true z u e = no_result steps.not_earlier z u e
in_time_lem false z u e = refl

-- the walked name `name` is not late
module _ (ds : List Declaration) (outside : Outside) (space name z : ℕ) where
  -- the name is in time
  abbrev pub Timely : Type 0
  Timely = steps.late_name ds outside space name ≡ false

  operand_timely : (k : ℕ) → OkR (λ e. Timely) (expand_operand ds outside k (ref space (Id name) [] z))
  unfolding expand_operand
  operand_timely k = bind_eq _ _ _ (λ u e. always
      (when is_just (steps.find ds space name) then ok (steps.as_it_is (ref space (Id name) [] z) k) else steps.found_at space name z k (steps.walk outside.scopes 1 space name))
      (in_time_lem _ z u e))

  operands_timely : (k : ℕ) (os : List Operand) (o : ℕ) → get_elem? os o ≡ some (ref space (Id name) [] z) → OkR (λ e. Timely) (expand_operands ds outside k os)
  unfolding expand_operands
  operands_timely k [] o e = no_option _ e
  operands_timely k (x ∷ os) zero e = rw (some_same x _ e) (bind_ok _ _ _ _ (operand_timely k) (λ x' t. bind_any _ _ _ (λ xs. t)))
  operands_timely k (x ∷ os) (suc o) e = bind_any _ _ _ (λ x'. bind_ok _ _ _ _ (operands_timely x'.k os o e) (λ xs t. t))

  -- step B lets a field pass only if the walked name among its operands is in time
  pub head_timely : (k : ℕ) (h : Head) (o : ℕ) → here_only h.code ≡ false → get_elem? h.operands o ≡ some (ref space (Id name) [] z) → OkR (λ e. Timely) (expand_head ds outside k h)
  unfolding expand_head when◌then◌else◌
  head_timely k h o c e = rw c (bind_ok _ _ _ _ (operands_timely k h.operands o e) (λ es t. t))
