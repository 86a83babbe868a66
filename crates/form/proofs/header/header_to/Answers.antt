-- `form::header::header_to` meets its contract.
use Rattle.form.proofs.HeaderTests.{ways}
use Rattle.form.proofs.header.header_to.Goals as goal

pub returns-then-not-has_header : goal.returns-then-not-has_header
returns-then-not-has_header c = search ways

pub returns-then-rows-eq0 : goal.returns-then-rows-eq0
returns-then-rows-eq0 c = search ways

pub returns-then-limits-rows : goal.returns-then-limits-rows
returns-then-limits-rows c = search ways

pub returns-then-form-wide : goal.returns-then-form-wide
returns-then-form-wide c = search ways

pub returns : goal.returns
returns c = search ways
