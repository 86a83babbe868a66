-- `resolver_with::run::walk_in` meets its contract.
use mathlib.Core.Path.{sym}
use lib.Seq.{length-take-le}
use Rattle.resolver_with.proofs.Runs.{served_in, most_few, stacked_in, walk_whole}
use Rattle.resolver_with.proofs.run.walk_in.Goals as goal

pub slice_bounds-scopes-end : goal.slice_bounds-scopes-end
slice_bounds-scopes-end c = most_few c.args.i c.args.entered.now c.args.names.now c.args.known.now c.args.chains.now c.args.ends.now c.requires _ c.of_input-2.ensures _ c.most_scopes-most.ensures.0

pub slice_bounds-scope_walk-end : goal.slice_bounds-scope_walk-end
slice_bounds-scope_walk-end c = sym (length-take-le _ _ (most_few c.args.i c.args.entered.now c.args.names.now c.args.known.now c.args.chains.now c.args.ends.now c.requires _ c.of_input-2.ensures _ c.most_scopes-most.ensures.0))

pub scope_walk-requires : goal.scope_walk-requires
scope_walk-requires c = (served_in c.args.i c.args.entered.now c.args.names.now c.args.known.now c.args.chains.now c.args.ends.now c.requires _ _ _ c.zero_links.ensures c.zero_links-2.ensures c.starting.ensures.1, stacked_in c.args.i c.args.entered.now c.args.names.now c.args.known.now c.args.chains.now c.args.ends.now c.requires _ c.of_input-2.ensures _ c.most_scopes-most.ensures.0 _ _ c.starting.ensures.0)

pub returns : goal.returns
returns c = walk_whole c.args.i c.args.entered.now c.args.names.now c.args.known.now c.args.chains.now c.args.ends.now c.requires _ c.of_input-2.ensures _ c.most_scopes-most.ensures.0 c.args.rows.now _ _ _ _ _ _ _ _ _ c.is_early-early.ensures c.of_input.ensures c.starting.ensures.0 c.mark_ends_to.ensures c.scope_walk.ensures.0
