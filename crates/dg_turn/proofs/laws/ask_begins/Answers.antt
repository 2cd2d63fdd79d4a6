use Rattle.dg_turn.proofs.Begun as begun
use Rattle.dg_turn.proofs.laws.ask_begins.Goals as goal

pub returns : goal.returns
returns c = λ t plays blocks out ts many next number rules m z are room a. begun.ask_begins t plays blocks out ts many next number rules m z are room a
