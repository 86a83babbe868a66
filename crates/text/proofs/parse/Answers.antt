-- `text::parse` meets its contract. The invariant: the lines from here on make of the rows so far what all lines make.
use borrow.Author.Rules.{rules}
use Rattle.text.proofs.TextLaws.{text_start, text_end, text_wrong, text_many, row_room, rows_room, text_ways}
use Rattle.text.proofs.parse.Goals as goal

pub loop-from-init : goal.loop-from-init
loop-from-init c = (search (text_start, rules), search rules, search rules, search rules, search rules, search rules)

pub returns-in-Err : goal.returns-in-Err
returns-in-Err c = search (text_wrong, rules)

pub returns-then-most-rows : goal.returns-then-most-rows
returns-then-most-rows c = search (text_many, rules)

pub put_parts-requires : goal.put_parts-requires
put_parts-requires c = search (row_room, rules)

pub loop-from-preserved-in-Ok-None : goal.loop-from-preserved-in-Ok-None
loop-from-preserved-in-Ok-None c = (search text_ways, search rules, search rules, search rules, search rules, search rules)

pub loop-from-preserved : goal.loop-from-preserved
loop-from-preserved c = (search text_ways, search rules, search rules, search rules, search rules, search rules)

pub end_text-requires : goal.end_text-requires
end_text-requires c = search (rows_room, rules)

pub returns : goal.returns
returns c = search (text_end, rules)
