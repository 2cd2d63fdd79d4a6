use Rattle.dg_core.proofs.MatchLemmas.{rule_matches}
use Rattle.dg_core.proofs.laws.closures_match.Goals as goal

pub returns : goal.returns
returns c = rule_matches
