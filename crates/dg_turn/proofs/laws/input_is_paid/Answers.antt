use Rattle.dg_turn.proofs.PaidTyping as paid
use Rattle.dg_turn.proofs.laws.input_is_paid.Goals as goal

pub returns : goal.returns
returns c = paid.input_is_paid
