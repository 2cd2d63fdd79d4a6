use Rattle.z_model.proofs.Standing.{is_done}
use Rattle.z_model.proofs.stands_is_done.Goals as goal

pub returns : goal.returns
returns c = λ rows layout word m. is_done rows layout word m
