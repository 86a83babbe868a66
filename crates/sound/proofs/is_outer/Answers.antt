use Rattle.sound.proofs.is_outer.Goals as goal

pub returns : goal.returns
returns c = cc
