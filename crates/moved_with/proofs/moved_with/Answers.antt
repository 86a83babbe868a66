-- `moved_with::moved_with` meets its contract.
use Rattle.resolver_with.specs.Areas.{lent_of}
use Rattle.moved_with.proofs.Whole.{short_answers, short_leaves, cleared_asked, first_fits, second_fits, refused_answers, refused_leaves, listed_returns}
use Rattle.moved_with.proofs.moved_with.Goals as goal

pub returns-then-are_short : goal.returns-then-are_short
returns-then-are_short c = let args = c.args in
    let asks = c.asked_for-i.ensures in
    let are = c.rows_asked-rows.ensures.0 in
    record {
      result_value = short_answers _ args.out.now args.moved.now args.apart.now _ _ _ asks are _ c.are_short.ensures c.if-are_short.true;
      apart_after = short_leaves _ args.out.now args.moved.now args.apart.now _ _ _ asks are _ c.are_short.ensures c.if-are_short.true;
      cleared = cleared_asked _ _ asks _ _ _ _ _ _ _ _ _ _ c.clear_areas.ensures;
    }

pub returns-then-refusal-ne0 : goal.returns-then-refusal-ne0
returns-then-refusal-ne0 c = let args = c.args in
    let asks = c.asked_for-i.ensures in
    let are = c.rows_asked-rows.ensures.0 in
    let is = c.are_short.ensures in
    record {
      result_value = refused_answers _ args.out.now args.moved.now args.apart.now _ _ _ asks are _ is c.if-are_short.false c.resolve_with.result _ c.resolve_with.ensures.0 c.resolve_with.ensures.1 _ c.refusal_in-refusal.ensures c.if-refusal-ne0.true;
      apart_after = refused_leaves _ args.out.now args.moved.now args.apart.now _ _ _ asks are _ is c.if-are_short.false c.resolve_with.result _ c.resolve_with.ensures.0 c.resolve_with.ensures.1 _ c.refusal_in-refusal.ensures c.if-refusal-ne0.true;
      cleared = c.resolve_with.ensures.2;
    }

pub list_behind-requires : goal.list_behind-requires
list_behind-requires c = let args = c.args in
    let asks = c.asked_for-i.ensures in
    let are = c.rows_asked-rows.ensures.0 in
    let is = c.are_short.ensures in (
      c.rows_asked-rows.ensures.1,
      first_fits _ args.out.now args.moved.now args.apart.now (lent_of args.entered.now args.names.now args.known.now args.chains.now args.ends.now) _ _ asks are _ is c.if-are_short.false,
      second_fits _ args.out.now args.moved.now args.apart.now (lent_of args.entered.now args.names.now args.known.now args.chains.now args.ends.now) _ _ asks are _ is c.if-are_short.false,
    )

pub returns : goal.returns
returns c = let args = c.args in
    let asks = c.asked_for-i.ensures in
    let are = c.rows_asked-rows.ensures.0 in
    let is = c.are_short.ensures in
    let made = listed_returns _ args.out.now args.moved.now args.apart.now (lent_of args.entered.now args.names.now args.known.now args.chains.now args.ends.now) _ _ asks are _ is c.if-are_short.false c.resolve_with.result _ c.resolve_with.ensures.0 c.resolve_with.ensures.1 _ c.refusal_in-refusal.ensures
    c.shared_slice_known-1.given c.if-refusal-ne0.false _ _ _ c.list_behind.ensures in
    record {
      result_value = made.0;
      apart_after = made.1;
      cleared = c.resolve_with.ensures.2;
    }
