use Rattle.dg_turn.proofs.PaidGlobals as turn
use Rattle.dg_turn.proofs.laws.globals_are_paid.Goals as goal

pub returns : goal.returns
returns c = turn.globals_are_paid
