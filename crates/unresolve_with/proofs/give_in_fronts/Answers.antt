-- `unresolve_with::give_in_fronts` meets its contract.
use mathlib.Core.Path.{sym}
use native.Mathlib.Omega.{arith}
use lib.Seq.{length-take-le}
use Rattle.claim_check.proofs.Runs.{kept_front}
use Rattle.unresolve_with.proofs.Ways.{restored_long, again_long, noted_long, fronts_sized}
use borrow.Author.Rules.{rules}
use Rattle.unresolve_with.proofs.give_in_fronts.Goals as goal

pub slice_bounds-give_in_tables-end-2 : goal.slice_bounds-give_in_tables-end-2
slice_bounds-give_in_tables-end-2 c = sym (length-take-le _ _ (omega arith))

pub slice_bounds-give_in_tables-end-4 : goal.slice_bounds-give_in_tables-end-4
slice_bounds-give_in_tables-end-4 c = sym (length-take-le _ _ (omega arith))

pub slice_bounds-give_in_tables-end-6 : goal.slice_bounds-give_in_tables-end-6
slice_bounds-give_in_tables-end-6 c = sym (length-take-le _ _ (omega arith))

pub give_in_tables-requires : goal.give_in_tables-requires
give_in_tables-requires c = (fronts_sized _ _ _ _ c.requires.0 _ _ _ c.input_size-input.ensures.0 c.output_size-output.ensures.0 c.notes_size-notes.ensures.0, c.requires.1)

pub returns : goal.returns
returns c = record {
  result_value = c.give_in_tables.ensures.result_value;
  kept = (search (kept_front, restored_long _ _ _ _ c.requires.0 _ _ _ c.input_size-input.ensures.0 c.output_size-output.ensures.0 c.notes_size-notes.ensures.0, c.input_size-input.ensures.0, c.give_in_tables.auto.restored, rules), search (kept_front, again_long _ _ _ _ c.requires.0 _ _ _ c.input_size-input.ensures.0 c.output_size-output.ensures.0 c.notes_size-notes.ensures.0, c.output_size-output.ensures.0, c.give_in_tables.auto.again, rules), search (kept_front, noted_long _ _ _ _ c.requires.0 _ _ _ c.input_size-input.ensures.0 c.output_size-output.ensures.0 c.notes_size-notes.ensures.0, c.notes_size-notes.ensures.0, c.give_in_tables.auto.noted, rules));
  kept_2 = c.give_in_tables.ensures.kept;
}
