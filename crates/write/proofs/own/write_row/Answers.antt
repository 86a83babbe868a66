-- `write::own::write_row` meets its contract.
use Rattle.write.proofs.LawsOwn.{ways}
use Rattle.write.proofs.LawsWithin.{serves, sees}
use Rattle.write.proofs.own.write_row.Goals as goal

pub returns-then-code-eq-FIELD : goal.returns-then-code-eq-FIELD
returns-then-code-eq-FIELD c = search (ways, sees)

pub returns-then-code-eq-DECL : goal.returns-then-code-eq-DECL
returns-then-code-eq-DECL c = search (ways, sees)

pub write_operand-requires : goal.write_operand-requires
write_operand-requires c = search serves

pub returns-then-code-eq-REF : goal.returns-then-code-eq-REF
returns-then-code-eq-REF c = search (ways, sees)

pub returns-then-code-eq-EXPORT : goal.returns-then-code-eq-EXPORT
returns-then-code-eq-EXPORT c = search (ways, sees)

pub write_other-requires : goal.write_other-requires
write_other-requires c = search ways

pub returns : goal.returns
returns c = search (ways, sees)
