-- `unresolve_with::resolves_to` meets its contract.
use Rattle.resolver.proofs.Bytes.{all_bytes}
use Rattle.unresolve_with.proofs.Ways.{lent_resolves}
use Rattle.unresolve_with.proofs.resolves_to.Goals as goal

pub returns : goal.returns
returns c = (lent_resolves _ _ _ _ _ _ c.requires c.args.input.now c.args.claim.now c.args.again.now _ _ _ _ c.unmark.ensures c.run_in.ensures c.begins_with.ensures, all_bytes _ c.shared_slice_known-1.given)
