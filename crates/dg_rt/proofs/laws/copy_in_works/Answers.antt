use Rattle.dg_rt.proofs.CopyingIn as copying
use Rattle.dg_rt.proofs.laws.copy_in_works.Goals as goal

pub returns : goal.returns
returns c = λ p story sh has typed output drawn area m is low S st known v r fine low_r within small row from fill room. copying.copy_in_works p story sh has typed output drawn area m is low S st known v r fine room low_r within small row from fill
