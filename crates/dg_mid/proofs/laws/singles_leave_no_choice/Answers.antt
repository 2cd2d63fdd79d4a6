use Rattle.dg_mid.proofs.Single.{single_leaves}
use Rattle.dg_mid.proofs.laws.singles_leave_no_choice.Goals as goal

pub returns : goal.returns
returns c g code limits codes set closed typed k pred m steps answer among is h = single_leaves g code limits codes set closed typed k pred m steps answer among is h
