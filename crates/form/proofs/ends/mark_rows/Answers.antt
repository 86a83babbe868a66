-- `form::ends::mark_rows` meets its contract.
use Rattle.form.proofs.MarkEnds.{ways}
use Rattle.form.proofs.ends.mark_rows.Goals as goal

pub loop-i-init : goal.loop-i-init
loop-i-init c = search ways

pub overflow_sub-i : goal.overflow_sub-i
overflow_sub-i c = search ways

pub code_at-code-requires : goal.code_at-code-requires
code_at-code-requires c = search ways

pub depth_before-depth-requires : goal.depth_before-depth-requires
depth_before-depth-requires c = search ways

pub mark_row-requires : goal.mark_row-requires
mark_row-requires c = search ways

pub loop-i-smaller : goal.loop-i-smaller
loop-i-smaller c = search ways

pub loop-i-preserved : goal.loop-i-preserved
loop-i-preserved c = search ways

pub shape_of-ends : goal.shape_of-ends
shape_of-ends c = search ways

pub shape_of-bounds : goal.shape_of-bounds
shape_of-bounds c = search ways

pub returns : goal.returns
returns c = search ways
