use Rattle.dg_rt.proofs.ReadingKept as kept
use Rattle.dg_rt.proofs.goals.kept_work.Goals as goal

pub returns : goal.returns
returns c = kept.kept_work
