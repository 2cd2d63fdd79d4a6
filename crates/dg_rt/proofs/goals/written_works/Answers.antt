use Rattle.dg_rt.proofs.WrittenValues as values
use Rattle.dg_rt.proofs.goals.written_works.Goals as goal

pub returns : goal.returns
returns c = values.written_works
