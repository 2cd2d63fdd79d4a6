use Rattle.dg_once.proofs.Whole.{compiled_once}
use Rattle.dg_once.proofs.laws.closures_stand_once.Goals as goal

pub returns : goal.returns
returns c = compiled_once
