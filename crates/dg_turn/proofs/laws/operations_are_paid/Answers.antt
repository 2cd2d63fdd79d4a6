use Rattle.dg_turn.proofs.PaidOperating as paid
use Rattle.dg_turn.proofs.laws.operations_are_paid.Goals as goal

pub returns : goal.returns
returns c = paid.operations_are_paid
