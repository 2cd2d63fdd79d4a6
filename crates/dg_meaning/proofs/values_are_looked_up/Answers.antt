use Rattle.dg_meaning.proofs.LookUps.{walks_up, resolves}
use Rattle.dg_meaning.proofs.values_are_looked_up.Goals as goal

pub returns-clause-walks : goal.returns-clause-walks
returns-clause-walks c = walks_up

pub returns-clause-resolves : goal.returns-clause-resolves
returns-clause-resolves c = resolves
