-- `ferhevok::members::wnt_member_with` meets its contract.
use Rattle.ferhevok.proofs.Called.{members}
use borrow.Author.Rules.{rules}
use Rattle.ferhevok.proofs.members.wnt_member_with.Goals as goal

pub returns : goal.returns
returns c = record { value = search members; out_after = search members; work_after = search rules; tables_cleared = search rules }
