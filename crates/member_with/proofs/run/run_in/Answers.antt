-- `member_with::run::run_in` meets its contract.
use native.Mathlib.Omega.{arith}
use Rattle.member.proofs.Ways.{suits_left}
use Rattle.member_with.proofs.Ways.{lent_low, lent_answers, lent_stays, lent_inside, lent_leaves}
use Rattle.member_with.proofs.run.run_in.Goals as goal

pub of_prelude-requires : goal.of_prelude-requires
of_prelude-requires c = lent_low c.args.i c.args.prelude.now c.args.area.now c.args.entered.now c.args.names.now c.args.known.now c.args.chains.now c.args.ends.now c.requires _ c.resolve_at.result c.said-of.ensures _ c.resolve_at.ensures.0 c.if-of-ne0.true

pub returns-then-of-ne0 : goal.returns-then-of-ne0
returns-then-of-ne0 c = record { place_value = (lent_answers c.args.i c.args.prelude.now c.args.area.now c.args.entered.now c.args.names.now c.args.known.now c.args.chains.now c.args.ends.now c.requires _ c.resolve_at.result c.said-of.ensures _ c.resolve_at.ensures.0 c.if-of-ne0.true _ _ _ c.of_prelude.ensures, lent_stays c.args.i c.args.prelude.now c.args.area.now c.args.entered.now c.args.names.now c.args.known.now c.args.chains.now c.args.ends.now c.requires _ c.resolve_at.result c.said-of.ensures _ c.resolve_at.ensures.0 c.if-of-ne0.true _ _); same = record { entered = omega (arith, c.entered-1.given); names = omega (arith, c.names-1.given); known = omega (arith, c.known-1.given); chains = omega (arith, c.chains-1.given); ends = omega (arith, c.ends-1.given) } }

pub resolve_around-requires : goal.resolve_around-requires
resolve_around-requires c = suits_left c.args.i c.args.prelude.now c.args.area.now c.args.entered.now c.args.names.now c.args.known.now c.args.chains.now c.args.ends.now c.requires _ c.resolve_at.result c.said-of.ensures _ c.resolve_at.ensures.0 c.if-of-ne0.false c.shared_slice_known-1.given _ _ _ _ _ (omega (arith, c.entered-1.given)) (omega (arith, c.names-1.given)) (omega (arith, c.known-1.given)) (omega (arith, c.chains-1.given)) (omega (arith, c.ends-1.given))

pub returns : goal.returns
returns c = record { place_value = (lent_inside c.args.i c.args.prelude.now c.args.area.now c.args.entered.now c.args.names.now c.args.known.now c.args.chains.now c.args.ends.now c.requires _ c.resolve_at.result c.said-of.ensures _ c.resolve_at.ensures.0 c.if-of-ne0.false c.shared_slice_known-1.given _ c.rows_of.ensures c.args.member.now c.args.out.now _ c.resolve_around.result c.resolve_around.ensures _ c.said.ensures, lent_leaves c.args.i c.args.prelude.now c.args.area.now c.args.entered.now c.args.names.now c.args.known.now c.args.chains.now c.args.ends.now c.requires _ c.resolve_at.result c.said-of.ensures _ c.resolve_at.ensures.0 c.if-of-ne0.false c.shared_slice_known-1.given _ c.rows_of.ensures c.args.member.now c.args.out.now _ c.resolve_around.result c.resolve_around.ensures); same = record { entered = omega (arith, c.entered-1.given, c.entered-2-1.given); names = omega (arith, c.names-1.given, c.names-2-1.given); known = omega (arith, c.known-1.given, c.known-2-1.given); chains = omega (arith, c.chains-1.given, c.chains-2-1.given); ends = omega (arith, c.ends-1.given, c.ends-2-1.given) } }
