use Rattle.dg_core.proofs.SoundLemmas.{declared_kind, declared_starts}
use Rattle.dg_core.proofs.laws.declared_values_fit.Goals as goal

pub returns-clause-kind : goal.returns-clause-kind
returns-clause-kind c = declared_kind

pub returns-clause-value : goal.returns-clause-value
returns-clause-value c = declared_starts
