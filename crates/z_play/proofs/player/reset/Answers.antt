use Rattle.std.proofs.Common.{rules}
use Rattle.z_play.proofs.player.reset.Goals as goal

pub returns-clause-first : goal.returns-clause-first
returns-clause-first c = search rules
