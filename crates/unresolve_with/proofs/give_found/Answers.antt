-- `unresolve_with::give_found` meets its contract.
use Rattle.unresolve_with.proofs.Ways.{giving, nothing_answered, nothing_written, found_headed, found_few, found_answered, found_written}
use borrow.Author.Rules.{rules}
use Rattle.unresolve_with.proofs.give_found.Goals as goal

pub slice_bounds-give-count : goal.slice_bounds-give-count
slice_bounds-give-count c = search (c.find_input.ensures, c.in-Some.is, giving)

pub slice_bounds-give-start : goal.slice_bounds-give-start
slice_bounds-give-start c = search giving

pub give-requires : goal.give-requires
give-requires c = (found_headed c.args.i _ _ _ c.find_input.ensures _ c.in-Some.is, found_few c.args.i _ _ _ c.find_input.ensures _ c.in-Some.is)

pub returns-in-None : goal.returns-in-None
returns-in-None c = (nothing_answered c.args.i _ _ _ c.find_input.ensures c.in-None.is c.args.out.now _ c.refused.ensures, nothing_written c.args.i _ _ _ c.find_input.ensures c.in-None.is c.args.out.now)

pub returns-in-Some : goal.returns-in-Some
returns-in-Some c = (found_answered c.args.i _ _ _ c.find_input.ensures _ c.in-Some.is c.args.out.now _ _ c.give.ensures, found_written c.args.i _ _ _ c.find_input.ensures _ c.in-Some.is c.args.out.now _ _ c.give.ensures)
