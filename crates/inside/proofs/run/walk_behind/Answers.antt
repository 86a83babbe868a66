-- `inside::run::walk_behind` meets its contract.
use mathlib.Core.Path.{sym}
use lib.Seq.{length-take-le}
use Rattle.inside.proofs.Ways.{most_few, served_inside, stacked_inside, walk_behind_lem}
use Rattle.inside.proofs.run.walk_behind.Goals as goal

pub slice_bounds-scopes-end : goal.slice_bounds-scopes-end
slice_bounds-scopes-end c = most_few c.args.i c.args.entered.now c.args.names.now c.args.known.now c.args.chains.now c.args.ends.now c.requires.0 _ c.of_input-2.ensures _ c.most_scopes-most.ensures.0

pub slice_bounds-scope_walk-end : goal.slice_bounds-scope_walk-end
slice_bounds-scope_walk-end c = sym (length-take-le _ _ (most_few c.args.i c.args.entered.now c.args.names.now c.args.known.now c.args.chains.now c.args.ends.now c.requires.0 _ c.of_input-2.ensures _ c.most_scopes-most.ensures.0))

pub scope_walk-requires : goal.scope_walk-requires
scope_walk-requires c = (served_inside c.args.i c.args.entered.now c.args.names.now c.args.known.now c.args.chains.now c.args.ends.now c.requires.0 _ _ _ c.zero_links.ensures c.requires.1 c.starting.ensures.1, stacked_inside c.args.i c.args.entered.now c.args.names.now c.args.known.now c.args.chains.now c.args.ends.now c.requires.0 _ c.of_input-2.ensures _ c.most_scopes-most.ensures.0 _ _ _ c.scope_of.ensures _ _ c.starting.ensures.0)

pub returns : goal.returns
returns c = walk_behind_lem c.args.i c.args.entered.now c.args.names.now c.args.known.now c.args.chains.now c.args.ends.now c.requires.0 _ c.of_input-2.ensures _ c.most_scopes-most.ensures.0 _ _ _ c.scope_of.ensures _ _ c.starting.ensures.0 c.args.rows.now _ _ _ _ _ _ _ c.is_early-early.ensures c.of_input.ensures c.mark_ends_to.ensures c.scope_walk.ensures.0
