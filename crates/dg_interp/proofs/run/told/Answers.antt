use Rattle.std.proofs.Common.{refl}
use Rattle.dg_interp.proofs.run.told.Goals as goal

pub returns-in-Ok-clause-told : goal.returns-in-Ok-clause-told
returns-in-Ok-clause-told g c = record { is = refl; forgets = c.in-Ok.ensures.forgets; given = c.in-Ok.ensures.ok }

pub returns-in-Err-clause-told : goal.returns-in-Err-clause-told
returns-in-Err-clause-told g c = c.in-Err.ensures.err
