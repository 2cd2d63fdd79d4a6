use Rattle.dg_rt.proofs.SplitWords as splits
use Rattle.dg_rt.proofs.goals.split_works.Goals as goal

pub returns : goal.returns
returns c = splits.split_works
