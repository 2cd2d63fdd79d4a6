use Rattle.dg_turn.proofs.Finding as finding
use Rattle.dg_turn.proofs.laws.none_turns.Goals as goal

pub returns : goal.returns
returns c = finding.none_turns
