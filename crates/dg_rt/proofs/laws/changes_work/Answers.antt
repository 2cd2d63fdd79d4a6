use Rattle.dg_rt.proofs.Reading as reading
use Rattle.dg_rt.proofs.laws.changes_work.Goals as goal

pub returns : goal.returns
returns c = reading.changes_work
