-- `convert::run::convert_to` meets its contract.
use Rattle.convert.proofs.Ways.{to_ways, to_refused}
use Rattle.convert.proofs.run.convert_to.Goals as goal

pub overflow_cast-result : goal.overflow_cast-result
overflow_cast-result c = search to_ways

pub returns-in_err-read_as : goal.returns-in_err-read_as
returns-in_err-read_as c =
    let same = c.requires.to_value in
    to_refused _ _ _ c.requires.sound _ same.0 same.1 _ same.2 _ c.read_as.ensures _ c.in_err-read_as.was _ c.from_residual.ensures.1

pub returns : goal.returns
returns c = search (to_ways, c.in_ok-read_as.was)
