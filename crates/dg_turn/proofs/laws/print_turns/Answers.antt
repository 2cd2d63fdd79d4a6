use Rattle.dg_turn.proofs.PrintTurn as turn
use Rattle.dg_turn.proofs.laws.print_turns.Goals as goal

pub returns : goal.returns
returns c = turn.print_turns
