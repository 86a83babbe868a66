-- `unresolve_with::find_input` meets its contract.
use native.Mathlib.Omega.{arith}
use Rattle.unresolve_with.proofs.Ways.{lent_unread, lent_header, lent_from, lent_not}
use borrow.Author.Rules.{rules}
use Rattle.unresolve_with.proofs.find_input.Goals as goal

pub restore_lent-at-requires : goal.restore_lent-at-requires
restore_lent-at-requires c = (lent_header c.args.i c.args.form.now _ c.read_claim.ensures _ c.in-Ok.is, c.requires.0.restored, c.requires.1.names, c.requires.1.chains)

pub returns-then-resolves_to : goal.returns-then-resolves_to
returns-then-resolves_to c = lent_from _ _ _ c.read_claim.ensures _ c.in-Ok.is c.args.restored.now c.args.again.now c.args.noted.now c.requires.0 _ _ c.restore_lent-at.ensures.0 _ c.resolves_to.ensures.0 c.resolves_to.ensures.1 c.if-resolves_to.true c.restore_lent-at.ensures.1 (omega (arith, c.restore_lent-at.auto.restored))

pub returns-in-Err : goal.returns-in-Err
returns-in-Err c = search (lent_unread, rules)

pub returns-else-resolves_to : goal.returns-else-resolves_to
returns-else-resolves_to c = lent_not _ _ _ c.read_claim.ensures _ c.in-Ok.is c.args.restored.now c.args.again.now c.args.noted.now c.requires.0 _ _ c.restore_lent-at.ensures.0 _ c.resolves_to.ensures.0 c.resolves_to.ensures.1 c.if-resolves_to.false
