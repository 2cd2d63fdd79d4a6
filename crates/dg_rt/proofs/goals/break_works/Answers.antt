use Rattle.dg_rt.proofs.BreakingLines as breaking
use Rattle.dg_rt.proofs.goals.break_works.Goals as goal

pub returns : goal.returns
returns c = breaking.break_works
