-- `sheet::resolves_to` meets its contract.
use mathlib.Core.Path.{sym, ◌∙◌}
use Rattle.rules.specs.Versions.{base}
use Rattle.rules.proofs.Laws.InputLaws.{base_usual}
use Rattle.reading_laws.specs.OnBytes.{base_within}
use Rattle.sheet.proofs.Runs.{none_written, other_length, bytes_compared, one_header, one_long}
use Rattle.sheet.proofs.resolves_to.Goals as goal

pub returns-then-rows-eq0 : goal.returns-then-rows-eq0
returns-then-rows-eq0 c = (none_written base base_usual base_within _ 8 (one_header _) _ c.args.area.now c.shared_slice_known-1.given (one_long _ c.args.area.now c.requires) c.resolve.result c.resolve.ensures.0 _ c.rows_written-rows.ensures c.if-rows-eq0.true, c.resolve.ensures.1)

pub returns-then-resolved-bytes_of : goal.returns-then-resolved-bytes_of
returns-then-resolved-bytes_of c = (other_length base base_usual base_within _ 8 (one_header _) _ c.args.area.now c.shared_slice_known-1.given (one_long _ c.args.area.now c.requires) c.resolve.result c.resolve.ensures.0 _ c.rows_written-rows.ensures (λ h. c.if-resolved-bytes_of.true (h ∙ sym c.bytes_of.ensures)), c.resolve.ensures.1)

pub returns : goal.returns
returns c = (bytes_compared base base_usual base_within _ 8 (one_header _) _ c.args.area.now c.shared_slice_known-1.given (one_long _ c.args.area.now c.requires) c.resolve.result c.resolve.ensures.0 _ c.rows_written-rows.ensures c.if-rows-eq0.false (c.if-resolved-bytes_of.false ∙ c.bytes_of.ensures) _ c.resolve.ensures.1 _ c.begins.ensures, c.resolve.ensures.1)
