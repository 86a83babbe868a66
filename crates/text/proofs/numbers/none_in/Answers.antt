-- `text::numbers::none_in` meets its contract.
use Rattle.text.proofs.NumberLaws.{number_ways}
use Rattle.text.proofs.numbers.none_in.Goals as goal

pub returns : goal.returns
returns c = search number_ways
