use Rattle.dg_rt.proofs.Spacing as spacing
use Rattle.dg_rt.proofs.laws.spaces_work.Goals as goal

pub returns : goal.returns
returns c = spacing.spaces_work
