use Rattle.dg_rt.proofs.Capturing as capturing
use Rattle.dg_rt.proofs.laws.capture_works.Goals as goal

pub returns : goal.returns
returns c = capturing.capture_works
