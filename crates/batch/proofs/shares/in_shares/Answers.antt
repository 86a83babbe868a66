-- `batch::shares::in_shares` meets its contract. The invariant: what is left to do leaves what all of it leaves.
use native.Mathlib.Omega.{arith}
use Prim.Native.Nat.{◌-◌}
use borrow.Author.Rules.{rules}
use Rattle.limits.specs.Held.{setting}
use Rattle.member.proofs.Ways.{suits_same}
use Rattle.batch.proofs.Ways.{usual_at, left_turn, lefts}
use Rattle.batch.proofs.shares.in_shares.Goals as goal

pub loop-j-init : goal.loop-j-init
loop-j-init c = (search lefts, search rules, search rules, search rules, search rules, search rules, search rules, search rules, search rules, search rules)

pub loop-j-preserved : goal.loop-j-preserved
loop-j-preserved c = (left_turn (setting c.args.i) c.args.root.now c.args.members.now c.args.lengths.now c.args.outs.now c.args.answers.now _ _ _ c.loop-j.invariant.0 c.loop-j.invariant.1 (usual_at c.args.i) _ _ c.loop-j-test.true c.in_share.ensures, search rules, search rules, search rules, suits_same c.args.i _ _ _ _ _ _ _ _ _ _ c.loop-j.invariant.4 (omega (arith, c.entered-1.given)) (omega (arith, c.names-1.given)) (omega (arith, c.known-1.given)) (omega (arith, c.chains-1.given)) (omega (arith, c.ends-1.given)), search rules, search rules, search rules, search rules, search rules)

pub returns : goal.returns
returns c = search lefts
