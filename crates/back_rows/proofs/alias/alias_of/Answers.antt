-- `back_rows::alias::alias_of` meets its contract.
use Rattle.back_rows.proofs.Ways.{making}
use Rattle.back_rows.proofs.alias.alias_of.Goals as goal

pub returns-then-decl-ne-DECL : goal.returns-then-decl-ne-DECL
returns-then-decl-ne-DECL c = search making

pub returns-then-decl-lt-FIRST_FRESH : goal.returns-then-decl-lt-FIRST_FRESH
returns-then-decl-lt-FIRST_FRESH c = search making

pub returns : goal.returns
returns c = search making
