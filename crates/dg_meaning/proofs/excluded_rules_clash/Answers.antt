use Rattle.dg_meaning.proofs.Excluding.{excluded_rules_clash}
use Rattle.dg_meaning.proofs.excluded_rules_clash.Goals as goal

pub returns : goal.returns
returns c = excluded_rules_clash
