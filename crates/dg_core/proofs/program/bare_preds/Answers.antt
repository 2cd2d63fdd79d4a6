use Rattle.dg_core.proofs.PredLemmas.{listed_distinct}
use Rattle.dg_core.proofs.program.bare_preds.Goals as goal

pub returns-clause-distinct : goal.returns-clause-distinct
returns-clause-distinct c = listed_distinct c.args.around.now.names.now.preds.keys c.as_slice-name-items.ensures.unique
