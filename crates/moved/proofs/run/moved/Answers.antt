-- `moved::run::moved` meets its contract.
use Rattle.moved.proofs.Whole.{whole_ways, lists_written}
use Rattle.moved.proofs.run.moved.Goals as goal

pub returns-then-moved-rows : goal.returns-then-moved-rows
returns-then-moved-rows c = search whole_ways

pub returns-then-apart-rows : goal.returns-then-apart-rows
returns-then-apart-rows c = search whole_ways

pub returns-then-refusal-ne0 : goal.returns-then-refusal-ne0
returns-then-refusal-ne0 c = search whole_ways

pub returns : goal.returns
returns c =
    let both = lists_written _ _ _ _ _ c.rows_asked-rows.ensures.0 c.if-moved-rows.false c.if-apart-rows.false c.resolve.result _ c.resolve.ensures.0 c.resolve.ensures.1 _ c.refusal_in-refusal.ensures
    c.shared_slice_known-1.given c.if-refusal-ne0.false _ _ _ c.fill_fronts.ensures in
    record { result_value = both.0; apart_after = both.1 }
