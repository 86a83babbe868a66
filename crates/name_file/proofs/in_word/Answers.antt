-- `name_file::in_word` meets its contract.
use Rattle.name_file.proofs.Laws.{line_ways}
use Rattle.name_file.proofs.in_word.Goals as goal

pub returns-then-is_word_byte : goal.returns-then-is_word_byte
returns-then-is_word_byte c = search line_ways

pub returns-else-is_word_byte : goal.returns-else-is_word_byte
returns-else-is_word_byte c = search line_ways
