-- `ferhevok::bindings::wnt_sheet_with` meets its contract.
use borrow.Author.Rules.{rules}
use Rattle.ferhevok.proofs.Slots.{packs_sheet}
use Rattle.ferhevok.proofs.bindings.wnt_sheet_with.Goals as goal

pub returns : goal.returns
returns c = record { value = search (packs_sheet, rules); answers_after = search rules; work_after = search rules; cleared = search rules }
