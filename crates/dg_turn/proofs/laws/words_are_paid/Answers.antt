use Rattle.dg_turn.proofs.PaidWording as words
use Rattle.dg_turn.proofs.laws.words_are_paid.Goals as goal

pub returns : goal.returns
returns c = words.words_are_paid
