-- `unresolve_with::give_in_tables` meets its contract.
use mathlib.Core.Path.{sym}
use native.Mathlib.Omega.{arith}
use lib.Seq.{length-take-le}
use Rattle.claim_check.proofs.Runs.{kept_front}
use Rattle.check_with.proofs.Ways.{entered_long, names_long, known_long, chains_long, ends_long, fronts_suit}
use borrow.Author.Rules.{rules}
use Rattle.unresolve_with.proofs.give_in_tables.Goals as goal

pub slice_bounds-give_found-end-2 : goal.slice_bounds-give_found-end-2
slice_bounds-give_found-end-2 c = sym (length-take-le _ _ (omega arith))

pub slice_bounds-give_found-end-4 : goal.slice_bounds-give_found-end-4
slice_bounds-give_found-end-4 c = sym (length-take-le _ _ (omega arith))

pub slice_bounds-give_found-end-6 : goal.slice_bounds-give_found-end-6
slice_bounds-give_found-end-6 c = sym (length-take-le _ _ (omega arith))

pub slice_bounds-give_found-end-8 : goal.slice_bounds-give_found-end-8
slice_bounds-give_found-end-8 c = sym (length-take-le _ _ (omega arith))

pub slice_bounds-give_found-end-10 : goal.slice_bounds-give_found-end-10
slice_bounds-give_found-end-10 c = sym (length-take-le _ _ (omega arith))

pub give_found-requires : goal.give_found-requires
give_found-requires c = (c.requires.0, fronts_suit _ _ _ _ _ _ c.requires.1 _ c.slots_for-most.ensures.0 _ c.links_for-all.ensures.0)

pub returns : goal.returns
returns c = record {
  result_value = c.give_found.ensures;
  kept = (search (kept_front, entered_long, c.requires.1, c.slots_for-most.ensures.0, c.give_found.auto.entered, rules), search (kept_front, names_long, c.requires.1, c.slots_for-most.ensures.0, c.give_found.auto.names, rules), search (kept_front, known_long, c.requires.1, c.slots_for-most.ensures.0, c.links_for-all.ensures.0, c.give_found.auto.known, rules), search (kept_front, chains_long, c.requires.1, c.slots_for-most.ensures.0, c.links_for-all.ensures.0, c.give_found.auto.chains, rules), search (kept_front, ends_long, c.requires.1, c.slots_for-most.ensures.0, c.give_found.auto.ends, rules));
}
