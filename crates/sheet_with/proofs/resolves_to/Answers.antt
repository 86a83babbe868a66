-- `sheet_with::resolves_to` meets its contract.
use lib.ListN.{length}
use Rattle.rules.proofs.Laws.InputLaws.{all_usual}
use Rattle.reading_laws.specs.OnBytes.{all_within}
use Rattle.sheet.proofs.Runs.{none_written, other_length, bytes_compared}
use Rattle.resolver_with.specs.Areas.{lent_of}
use Rattle.rules.specs.Versions.{all}
use Rattle.limits.specs.Held.{setting}
use mathlib.Core.Path.{refl}
use Rattle.sheet_with.proofs.Ways.{heads, long_in, said_roomy, left_roomy}
use Rattle.sheet_with.proofs.resolves_to.Goals as goal

pub returns-then-rows-eq0 : goal.returns-then-rows-eq0
returns-then-rows-eq0 c = let args = c.args in
    let asks = c.requires.0 in
    let said = said_roomy args.form.now args.i asks (lent_of args.entered.now args.names.now args.known.now args.chains.now args.ends.now) c.requires.2 c.resolve_with.result (length args.area.now) c.resolve_with.ensures.0 in
    let long = long_in args.form.now args.i asks (length args.area.now) c.requires.1 in
    let bytes = c.shared_slice_known-1.given in
    record {
      value = none_written all all_usual all_within args.form.now _ (heads args.form.now args.i asks (setting args.i).version.header refl) _ args.area.now bytes long c.resolve_with.result said _ c.rows_written-rows.ensures c.if-rows-eq0.true;
      cleared = c.resolve_with.ensures.2;
    }

pub returns-then-resolved-header_size : goal.returns-then-resolved-header_size
returns-then-resolved-header_size c = let args = c.args in
    let asks = c.requires.0 in
    let said = said_roomy args.form.now args.i asks (lent_of args.entered.now args.names.now args.known.now args.chains.now args.ends.now) c.requires.2 c.resolve_with.result (length args.area.now) c.resolve_with.ensures.0 in
    let long = long_in args.form.now args.i asks (length args.area.now) c.requires.1 in
    let bytes = c.shared_slice_known-1.given in
    record {
      value = other_length all all_usual all_within args.form.now _ (heads args.form.now args.i asks _ c.header_size.ensures.0) _ args.area.now bytes long c.resolve_with.result said _ c.rows_written-rows.ensures c.if-resolved-header_size.true;
      cleared = c.resolve_with.ensures.2;
    }

pub returns : goal.returns
returns c = let args = c.args in
    let asks = c.requires.0 in
    let said = said_roomy args.form.now args.i asks (lent_of args.entered.now args.names.now args.known.now args.chains.now args.ends.now) c.requires.2 c.resolve_with.result (length args.area.now) c.resolve_with.ensures.0 in
    let long = long_in args.form.now args.i asks (length args.area.now) c.requires.1 in
    let bytes = c.shared_slice_known-1.given in
    let left = left_roomy args.form.now args.i asks (lent_of args.entered.now args.names.now args.known.now args.chains.now args.ends.now) c.requires.2 args.area.now _ c.resolve_with.ensures.1 in
    record {
      value = bytes_compared all all_usual all_within args.form.now _ (heads args.form.now args.i asks _ c.header_size.ensures.0) _ args.area.now bytes long c.resolve_with.result said _ c.rows_written-rows.ensures c.if-rows-eq0.false c.if-resolved-header_size.false _ left _ c.begins.ensures;
      cleared = c.resolve_with.ensures.2;
    }
