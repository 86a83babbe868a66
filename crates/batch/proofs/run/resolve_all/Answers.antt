-- `batch::run::resolve_all` meets its contract.
use native.Mathlib.Omega.{arith}
use Rattle.member.proofs.Ways.{lent_left, suits_left}
use Rattle.batch.proofs.Ways.{told_batch, told_shares, told_bytes, done_batch, done_shares, done_bytes}
use Rattle.batch.proofs.run.resolve_all.Goals as goal

pub returns-then-of-ne0 : goal.returns-then-of-ne0
returns-then-of-ne0 c = record { value = told_batch c.args.i c.args.prelude.now c.args.resolved.now c.args.entered.now c.args.names.now c.args.known.now c.args.chains.now c.args.ends.now c.requires.2 _ c.resolve_at.result c.said-of.ensures _ c.resolve_at.ensures.0 c.if-of-ne0.true _ _ _ c.packed_refusal.ensures; resolved_after = lent_left c.args.i c.args.prelude.now c.args.resolved.now c.args.entered.now c.args.names.now c.args.known.now c.args.chains.now c.args.ends.now c.requires.2 _ c.resolve_at.result c.said-of.ensures _ c.resolve_at.ensures.0; outs_after = told_shares c.args.i c.args.prelude.now c.args.resolved.now c.args.entered.now c.args.names.now c.args.known.now c.args.chains.now c.args.ends.now c.requires.2 _ c.resolve_at.result c.said-of.ensures _ c.resolve_at.ensures.0 c.if-of-ne0.true _ _; answers_after = told_bytes c.args.i c.args.prelude.now c.args.resolved.now c.args.entered.now c.args.names.now c.args.known.now c.args.chains.now c.args.ends.now c.requires.2 _ c.resolve_at.result c.said-of.ensures _ c.resolve_at.ensures.0 c.if-of-ne0.true _ _ _ }

pub in_shares-requires : goal.in_shares-requires
in_shares-requires c = (c.requires.0, suits_left c.args.i c.args.prelude.now c.args.resolved.now c.args.entered.now c.args.names.now c.args.known.now c.args.chains.now c.args.ends.now c.requires.2 _ c.resolve_at.result c.said-of.ensures _ c.resolve_at.ensures.0 c.if-of-ne0.false c.shared_slice_known-1.given _ _ _ _ _ (omega (arith, c.entered-1.given)) (omega (arith, c.names-1.given)) (omega (arith, c.known-1.given)) (omega (arith, c.chains-1.given)) (omega (arith, c.ends-1.given)))

pub returns : goal.returns
returns c = record { value = done_batch c.args.i c.args.prelude.now c.args.resolved.now c.args.entered.now c.args.names.now c.args.known.now c.args.chains.now c.args.ends.now c.requires.2 _ c.resolve_at.result c.said-of.ensures _ c.resolve_at.ensures.0 c.if-of-ne0.false c.shared_slice_known-1.given _ _ _ c.packed_refusal-2.ensures; resolved_after = lent_left c.args.i c.args.prelude.now c.args.resolved.now c.args.entered.now c.args.names.now c.args.known.now c.args.chains.now c.args.ends.now c.requires.2 _ c.resolve_at.result c.said-of.ensures _ c.resolve_at.ensures.0; outs_after = done_shares c.args.i c.args.prelude.now c.args.resolved.now c.args.entered.now c.args.names.now c.args.known.now c.args.chains.now c.args.ends.now c.requires.2 _ c.resolve_at.result c.said-of.ensures _ c.resolve_at.ensures.0 c.if-of-ne0.false c.shared_slice_known-1.given c.args.members.now c.args.lengths.now _ c.args.outs.now _ c.args.answers.now _ c.rows_of.ensures c.in_shares.ensures; answers_after = done_bytes c.args.i c.args.prelude.now c.args.resolved.now c.args.entered.now c.args.names.now c.args.known.now c.args.chains.now c.args.ends.now c.requires.2 _ c.resolve_at.result c.said-of.ensures _ c.resolve_at.ensures.0 c.if-of-ne0.false c.shared_slice_known-1.given c.args.members.now c.args.lengths.now _ c.args.outs.now _ c.args.answers.now _ c.rows_of.ensures c.in_shares.ensures c.requires.1 }
