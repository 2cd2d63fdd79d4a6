use Rattle.dg_core.proofs.SoundLemmas.{rules_sound, initial_sound}
use Rattle.dg_core.proofs.laws.initial_cores_are_sound.Goals as goal

pub returns-clause-rules : goal.returns-clause-rules
returns-clause-rules c = rules_sound

pub returns-clause-initial : goal.returns-clause-initial
returns-clause-initial c = initial_sound
