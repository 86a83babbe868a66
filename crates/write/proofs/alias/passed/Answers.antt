-- `write::alias::passed` meets its contract.
use Rattle.write.proofs.alias.passed.Goals as goal

pub returns : goal.returns
returns c = cc
