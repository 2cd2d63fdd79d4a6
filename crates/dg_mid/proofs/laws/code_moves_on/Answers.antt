use Rattle.dg_mid.proofs.Charge.{moves_on}
use Rattle.dg_mid.proofs.laws.code_moves_on.Goals as goal

pub returns : goal.returns
returns c g code limits codes tidy typed n k lt = moves_on g code limits codes tidy typed n k lt
