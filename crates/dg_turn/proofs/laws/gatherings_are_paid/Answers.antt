use Rattle.dg_turn.proofs.PaidGathering as proof
use Rattle.dg_turn.proofs.laws.gatherings_are_paid.Goals as goal

pub returns : goal.returns
returns c = proof.gatherings_are_paid
