-- `stores::put_word` meets its contract.
use Rattle.stores.proofs.Laws.{word_ways}
use Rattle.stores.proofs.put_word.Goals as goal

pub returns-then-end-i : goal.returns-then-end-i
returns-then-end-i c = search word_ways

pub returns-then-end-i-2 : goal.returns-then-end-i-2
returns-then-end-i-2 c = search word_ways

pub returns-then-end-i-3 : goal.returns-then-end-i-3
returns-then-end-i-3 c = search word_ways

pub returns-then-end-i-4 : goal.returns-then-end-i-4
returns-then-end-i-4 c = search word_ways

pub returns : goal.returns
returns c = search word_ways
