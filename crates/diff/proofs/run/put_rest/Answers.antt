-- `diff::run::put_rest` meets its contract.
use borrow.Author.Rules.{rules}
use Rattle.diff.proofs.Runs.{pair_left_low, pair_right_low, pair_within, pair_room, pair_done, left_fits, right_fits, apart_done}
use Rattle.diff.specs.Run.{rest_of}
use Rattle.diff.proofs.run.put_rest.Goals as goal

pub put_pair-requires : goal.put_pair-requires
put_pair-requires c = (search (pair_left_low, rules), search (pair_right_low, rules), search (pair_within, rules), unfold rest_of in search (pair_room, rules))

pub returns-then-is_pair : goal.returns-then-is_pair
returns-then-is_pair c = unfold rest_of in search (pair_done, rules)

pub put_left-behind-requires : goal.put_left-behind-requires
put_left-behind-requires c = unfold rest_of in search (left_fits, rules)

pub put_right-requires : goal.put_right-requires
put_right-requires c = unfold rest_of in search (right_fits, rules)

pub returns : goal.returns
returns c = unfold rest_of in search (apart_done, rules)
