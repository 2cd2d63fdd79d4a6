use Rattle.dg_rt.proofs.Asking as asking
use Rattle.dg_rt.proofs.laws.ask_works.Goals as goal

pub returns : goal.returns
returns c = asking.ask_works
