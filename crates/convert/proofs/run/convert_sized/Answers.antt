-- `convert::run::convert_sized` meets its contract.
use Rattle.convert.proofs.Ways.{sized_ways, sized_refused}
use Rattle.convert.proofs.run.convert_sized.Goals as goal

pub overflow_add-header : goal.overflow_add-header
overflow_add-header c = search sized_ways

pub returns-then-out-header : goal.returns-then-out-header
returns-then-out-header c = search sized_ways

pub returns-in_err-read_input : goal.returns-in_err-read_input
returns-in_err-read_input c =
    let version = c.requires.le_version in
    sized_refused _ version.0 version.1 _ _ _ c.requires.sized _ c.place_of.ensures _ c.header_at-header.ensures _ c.if-out-header.false _ c.read_input.ensures _ c.in_err-read_input.was _ c.from_residual.ensures.1

pub convert_form-requires : goal.convert_form-requires
convert_form-requires c = search (sized_ways, c.in_ok-read_input.was)
