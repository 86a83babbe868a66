-- `resolver_with::run::asked_for` meets its contract.
use Rattle.resolver_with.proofs.Asked.{ways}
use Rattle.resolver_with.proofs.run.asked_for.Goals as goal

pub loop-next-init : goal.loop-next-init
loop-next-init c = search ways

pub overflow_add-next : goal.overflow_add-next
overflow_add-next c = search ways

pub of_input-requires : goal.of_input-requires
of_input-requires c = search ways

pub header_to-requires : goal.header_to-requires
header_to-requires c = search ways

pub returns-in-Ok : goal.returns-in-Ok
returns-in-Ok c = search ways

pub returns-in-Err-Count : goal.returns-in-Err-Count
returns-in-Err-Count c = search ways

pub loop-next-smaller : goal.loop-next-smaller
loop-next-smaller c = search ways

pub loop-next-preserved : goal.loop-next-preserved
loop-next-preserved c = search ways

pub returns : goal.returns
returns c = search ways
