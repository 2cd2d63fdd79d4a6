use Rattle.std.proofs.Common.{rules}
use Rattle.z_model.specs.Effects.{read_effect}
use Rattle.z_play.proofs.engine.Engine.read.Goals as goal

pub returns-in-Some-clause-reads : goal.returns-in-Some-clause-reads
unfolding read_effect
returns-in-Some-clause-reads c = search rules

pub returns-in-None-clause-reads : goal.returns-in-None-clause-reads
unfolding read_effect
returns-in-None-clause-reads c = search rules
