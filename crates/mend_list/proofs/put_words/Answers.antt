-- `mend_list::put_words` meets its contract.
use Rattle.mend_list.proofs.Laws.{change_ways}
use Rattle.mend_list.proofs.put_words.Goals as goal

pub returns : goal.returns
returns c = search change_ways
