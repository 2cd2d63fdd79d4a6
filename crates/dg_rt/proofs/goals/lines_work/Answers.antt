use Rattle.dg_rt.proofs.ReadingLines as lines
use Rattle.dg_rt.proofs.goals.lines_work.Goals as goal

pub returns : goal.returns
returns c = lines.lines_work
