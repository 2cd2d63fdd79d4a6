use Rattle.dg_rt.proofs.Stopping as stopping
use Rattle.dg_rt.proofs.laws.unstop_works.Goals as goal

pub returns : goal.returns
returns c = stopping.unstop_works
