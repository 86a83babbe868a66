-- `unresolve::run::resolves_to` meets its contract.
use Rattle.resolver.proofs.Bytes.{all_bytes}
use Rattle.unresolve.proofs.Ways.{resolves_said}
use borrow.Author.Rules.{rules}
use Rattle.unresolve.proofs.run.resolves_to.Goals as goal

pub returns : goal.returns
returns c = (search (resolves_said, rules), all_bytes _ c.shared_slice_known-1.given)
