use Rattle.dg_core.proofs.LostLemmas.{stays_sound, asks_kept, heads_kept}
use Rattle.dg_core.proofs.laws.rules_may_be_lost.Goals as goal

pub returns-clause-sound : goal.returns-clause-sound
returns-clause-sound c = stays_sound

pub returns-clause-asks : goal.returns-clause-asks
returns-clause-asks c = asks_kept

pub returns-clause-heads : goal.returns-clause-heads
returns-clause-heads c = heads_kept
