-- `codes::declares` meets its contract. One line for each way through the `match`: the range of codes that its tests leave.
use native.Mathlib.Omega.{arith}
use mathlib.Core.Path.{refl}
use Rattle.rules.specs.Shapes.{declares}
use Rattle.codes.specs.Values.{as_declares}
use Rattle.kit.proofs.Tables.{at_range, up}
use Rattle.codes.proofs.Laws.{declares_past}
use borrow.Author.Rules.{rules}
use Rattle.codes.proofs.declares.Goals as goal

pub returns-in-1 : goal.returns-in-1
unfolding as_declares
returns-in-1 c = at_range declares 1 1 _ refl (unfold declares in refl) (omega arith) (omega arith)

pub returns-in-4 : goal.returns-in-4
unfolding as_declares
returns-in-4 c = at_range declares 4 1 _ refl (unfold declares in refl) (omega arith) (omega arith)

pub returns-in-5 : goal.returns-in-5
unfolding as_declares
returns-in-5 c = at_range declares 5 1 _ refl (unfold declares in refl) (omega arith) (omega arith)

pub returns-in-6 : goal.returns-in-6
unfolding as_declares
returns-in-6 c = at_range declares 6 1 _ refl (unfold declares in refl) (omega arith) (omega arith)

pub returns-in-9 : goal.returns-in-9
unfolding as_declares
returns-in-9 c = at_range declares 9 1 _ refl (unfold declares in refl) (omega arith) (omega arith)

pub returns-in-10 : goal.returns-in-10
unfolding as_declares
returns-in-10 c = at_range declares 10 1 _ refl (unfold declares in refl) (omega arith) (omega arith)

pub returns-in-11 : goal.returns-in-11
unfolding as_declares
returns-in-11 c = at_range declares 11 1 _ refl (unfold declares in refl) (omega arith) (omega arith)

pub returns-in-17 : goal.returns-in-17
unfolding as_declares
returns-in-17 c = at_range declares 17 1 _ refl (unfold declares in refl) (omega arith) (omega arith)

pub returns-in-18 : goal.returns-in-18
unfolding as_declares
returns-in-18 c = at_range declares 18 1 _ refl (unfold declares in refl) (omega arith) (omega arith)

pub returns-in-19 : goal.returns-in-19
unfolding as_declares
returns-in-19 c = at_range declares 19 1 _ refl (unfold declares in refl) (omega arith) (omega arith)

pub returns-in-20 : goal.returns-in-20
unfolding as_declares
returns-in-20 c = at_range declares 20 1 _ refl (unfold declares in refl) (omega arith) (omega arith)

pub returns-in-2-to-3 : goal.returns-in-2-to-3
unfolding as_declares
returns-in-2-to-3 c = at_range declares 2 2 _ refl (unfold declares in refl) (up 1 _ (search rules) (search rules)) (search rules)

pub returns-in-7-to-8 : goal.returns-in-7-to-8
unfolding as_declares
returns-in-7-to-8 c = at_range declares 7 2 _ refl (unfold declares in refl) (up 6 _ (up 5 _ (up 4 _ (search rules) (search rules)) (search rules)) (search rules)) (search rules)

pub returns-in-12-to-16 : goal.returns-in-12-to-16
unfolding as_declares
returns-in-12-to-16 c = at_range declares 12 5 _ refl (unfold declares in refl) (up 11 _ (up 10 _ (up 9 _ (search rules) (search rules)) (search rules)) (search rules)) (search rules)

pub returns-in-21-to-23 : goal.returns-in-21-to-23
unfolding as_declares
returns-in-21-to-23 c = at_range declares 21 3 _ refl (unfold declares in refl) (up 20 _ (up 19 _ (up 18 _ (up 17 _ (search rules) (search rules)) (search rules)) (search rules)) (search rules)) (search rules)

pub returns-in_default : goal.returns-in_default
unfolding as_declares
returns-in_default c = at_range declares 0 1 _ refl (unfold declares in refl) (search rules) (search rules)

pub returns-in_default-2 : goal.returns-in_default-2
unfolding as_declares
returns-in_default-2 c = declares_past _ (search rules)
