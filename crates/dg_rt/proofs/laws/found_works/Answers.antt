use Rattle.dg_rt.proofs.Finding as finding
use Rattle.dg_rt.proofs.laws.found_works.Goals as goal

pub returns : goal.returns
returns c = finding.found_works
