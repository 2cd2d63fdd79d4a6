use Rattle.z_lang.proofs.Opening.{opens}
use Rattle.z_lang.proofs.bodies_open.Goals as goal

pub returns : goal.returns
returns c = λ counts body. opens counts body
