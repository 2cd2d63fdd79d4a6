use Rattle.dg_turn.proofs.Looking as looking
use Rattle.dg_turn.proofs.laws.select_turns.Goals as goal

pub returns : goal.returns
returns c = λ t plays out rules number call first key found m z are is_key l. looking.select_turns t plays out rules number call first key found m z are is_key l
