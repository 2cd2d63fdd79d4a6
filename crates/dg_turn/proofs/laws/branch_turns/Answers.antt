use Rattle.dg_turn.proofs.BranchTurn as turn
use Rattle.dg_turn.proofs.laws.branch_turns.Goals as goal

pub returns : goal.returns
returns c = turn.branch_turns
