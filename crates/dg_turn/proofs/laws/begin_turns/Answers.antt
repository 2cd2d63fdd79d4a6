use Rattle.dg_turn.proofs.Beginning as beginning
use Rattle.dg_turn.proofs.laws.begin_turns.Goals as goal

pub returns : goal.returns
returns c = λ t plays blocks out rules number call key m z are is_key cut l. beginning.begin_turns t plays blocks out rules number call key m z are is_key cut l
