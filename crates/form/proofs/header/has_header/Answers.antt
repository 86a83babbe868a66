-- `form::header::has_header` meets its contract.
use Rattle.form.proofs.HeaderTests.{mark_ways}
use Rattle.form.proofs.header.has_header.Goals as goal

pub returns-then-form-header : goal.returns-then-form-header
returns-then-form-header c = search mark_ways

pub returns-then-not-is_marked : goal.returns-then-not-is_marked
returns-then-not-is_marked c = search mark_ways

pub returns : goal.returns
returns c = search mark_ways
