-- `inside::run::walk_inside` meets its contract.
use native.Mathlib.Omega.{arith}
use Rattle.inside.proofs.Ways.{names_free, suits_kept, walk_is}
use Rattle.inside.proofs.run.walk_inside.Goals as goal

pub enter_root-used-requires : goal.enter_root-used-requires
enter_root-used-requires c = names_free c.args.i c.args.entered.now c.args.names.now c.args.known.now c.args.chains.now c.args.ends.now c.requires _ c.zero_links.ensures

pub walk_behind-requires : goal.walk_behind-requires
walk_behind-requires c = (suits_kept c.args.i c.args.entered.now c.args.names.now c.args.known.now c.args.chains.now c.args.ends.now c.requires _ _ (omega (arith, c.names-1.given)) (omega (arith, c.chains-1.given, c.chains-2-1.given)), c.enter_root-used.ensures.1)

pub returns : goal.returns
returns c = walk_is c.args.i c.args.root.now c.args.rows.now c.args.ends.now _ _ c.args.names.now _ _ _ _ c.enter_root-used.ensures.0 c.name_of-name.ensures c.walk_behind.ensures
