use Rattle.dg_interp.proofs.SoundLemmas.{sound_runnable}
use Rattle.dg_interp.proofs.laws.programs_are_runnable.Goals as goal

pub returns : goal.returns
returns c = sound_runnable
