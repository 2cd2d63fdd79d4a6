use Rattle.dg_turn.proofs.PaidTexts as paid
use Rattle.dg_turn.proofs.laws.texts_are_paid.Goals as goal

pub returns : goal.returns
returns c = paid.texts_are_paid
