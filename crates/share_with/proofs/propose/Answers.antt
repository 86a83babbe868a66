-- `share_with::propose` meets its contract.
use mathlib.Core.Path.{sym}
use native.Mathlib.Omega.{arith}
use lib.Seq.{length-take-le}
use Rattle.claim_check.proofs.Runs.{kept_front}
use Rattle.check_with.proofs.Ways.{entered_long, names_long, known_long, chains_long, ends_long, fronts_suit}
use Rattle.share_with.proofs.Ways.{form_long, rows_long, marked_long, proposed_with}
use borrow.Author.Rules.{rules}
use Rattle.share_with.proofs.propose.Goals as goal

pub overflow_sub-size : goal.overflow_sub-size
overflow_sub-size c = search (form_long, rules)

pub slice_bounds-walk_marked-count : goal.slice_bounds-walk_marked-count
slice_bounds-walk_marked-count c = search (form_long, rules)

pub slice_bounds-walk_marked-end-3 : goal.slice_bounds-walk_marked-end-3
slice_bounds-walk_marked-end-3 c = sym (length-take-le _ _ (omega arith))

pub slice_bounds-walk_marked-end-5 : goal.slice_bounds-walk_marked-end-5
slice_bounds-walk_marked-end-5 c = sym (length-take-le _ _ (omega arith))

pub slice_bounds-walk_marked-end-7 : goal.slice_bounds-walk_marked-end-7
slice_bounds-walk_marked-end-7 c = sym (length-take-le _ _ (omega arith))

pub slice_bounds-walk_marked-end-9 : goal.slice_bounds-walk_marked-end-9
slice_bounds-walk_marked-end-9 c = sym (length-take-le _ _ (omega arith))

pub slice_bounds-walk_marked-end-11 : goal.slice_bounds-walk_marked-end-11
slice_bounds-walk_marked-end-11 c = sym (length-take-le _ _ (omega arith))

pub slice_bounds-walk_marked-end-13 : goal.slice_bounds-walk_marked-end-13
slice_bounds-walk_marked-end-13 c = sym (length-take-le _ _ (omega arith))

pub slice_bounds-walk_marked-end-15 : goal.slice_bounds-walk_marked-end-15
slice_bounds-walk_marked-end-15 c = sym (length-take-le _ _ (omega arith))

pub walk_marked-requires : goal.walk_marked-requires
walk_marked-requires c = (search (fronts_suit, rules), search (rows_long, rules))

pub returns : goal.returns
returns c = let links_are = c.links_for-all in
    let slots_are = c.slots_for-most in
    let bytes_are_lem = c.bytes_for-bytes in
    let args = c.args in
    let pre = c.requires in record {
      out_after = search (proposed_with, c.header_size-header.ensures.0, bytes_are_lem.ensures.0, slots_are.ensures.0, c.walk_marked.ensures);
      kept = (
        search (kept_front, bytes_are_lem.ensures.0, marked_long args.i _ args.marked.now bytes_are_lem.ensures.0 pre.2, c.marked-1.given),
        search (kept_front, slots_are.ensures.0, entered_long _ _ _ _ _ _ pre.1 _ slots_are.ensures.0, c.entered-1.given),
        search (kept_front, slots_are.ensures.0, names_long _ _ _ _ _ _ pre.1 _ slots_are.ensures.0, c.names-1.given),
        search (kept_front, links_are.ensures.0, known_long _ _ _ _ _ _ pre.1 _ slots_are.ensures.0 _ links_are.ensures.0, c.known-1.given),
        search (kept_front, links_are.ensures.0, chains_long _ _ _ _ _ _ pre.1 _ slots_are.ensures.0 _ links_are.ensures.0, c.chains-1.given),
        search (kept_front, slots_are.ensures.0, ends_long _ _ _ _ _ _ pre.1 _ slots_are.ensures.0, c.ends-1.given),
      );
    }
