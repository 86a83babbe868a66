-- `meanings::meaning::meant_by` meets its contract.
use Rattle.meanings.proofs.EntryLaws.{meant_ways}
use Rattle.scopes.proofs.FoundLaws.{lent_ways}
use Rattle.scopes.proofs.TableLaws.{counts_below}
use native.Mathlib.Omega.{arith}
use Rattle.meanings.proofs.meaning.meant_by.Goals as goal

pub number_at-requires : goal.number_at-requires
number_at-requires c = counts_below _ _ _ _ c.requires.0.counts (omega arith)

pub returns-then-code_at-eq-DECL : goal.returns-then-code_at-eq-DECL
returns-then-code_at-eq-DECL c = search meant_ways

pub meaning_with-requires : goal.meaning_with-requires
meaning_with-requires c = search lent_ways

pub returns-then-is_reference : goal.returns-then-is_reference
returns-then-is_reference c = search meant_ways

pub returns : goal.returns
returns c = search meant_ways
