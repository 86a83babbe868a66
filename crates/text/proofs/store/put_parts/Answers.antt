-- `text::store::put_parts` meets its contract.
use Rattle.text.proofs.TextLaws.{store_ways}
use Rattle.text.proofs.store.put_parts.Goals as goal

pub returns : goal.returns
returns c = search store_ways
