use Rattle.dg_turn.proofs.Finding as finding
use Rattle.dg_turn.proofs.laws.found_turns.Goals as goal

pub returns : goal.returns
returns c = finding.found_turns
