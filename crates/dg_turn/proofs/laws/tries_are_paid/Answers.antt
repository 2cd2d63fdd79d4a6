use Rattle.dg_turn.proofs.PaidTries as proof
use Rattle.dg_turn.proofs.laws.tries_are_paid.Goals as goal

pub returns : goal.returns
returns c = proof.tries_are_paid
