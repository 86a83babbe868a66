-- `read_row::step` meets its contract.
use Rattle.read_row.proofs.Steps.{step_ways}
use Rattle.read_row.proofs.step.Goals as goal

pub returns-then-not-is_sound : goal.returns-then-not-is_sound
returns-then-not-is_sound c = search step_ways

pub returns-in-1 : goal.returns-in-1
returns-in-1 c = search step_ways

pub returns-in-2 : goal.returns-in-2
returns-in-2 c = search step_ways

pub returns-in-3 : goal.returns-in-3
returns-in-3 c = search step_ways

pub returns-in-4 : goal.returns-in-4
returns-in-4 c = search step_ways

pub returns-in-5 : goal.returns-in-5
returns-in-5 c = search step_ways

pub returns-in-6 : goal.returns-in-6
returns-in-6 c = search step_ways

pub returns-in-7 : goal.returns-in-7
returns-in-7 c = search step_ways

pub returns-in-8 : goal.returns-in-8
returns-in-8 c = search step_ways

pub returns-in-9 : goal.returns-in-9
returns-in-9 c = search step_ways

pub returns-in_default : goal.returns-in_default
returns-in_default c = search step_ways
