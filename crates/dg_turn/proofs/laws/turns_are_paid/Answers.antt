use Rattle.dg_turn.proofs.Paid as paid
use Rattle.dg_turn.proofs.laws.turns_are_paid.Goals as goal

pub returns : goal.returns
returns c = paid.turns_are_paid
