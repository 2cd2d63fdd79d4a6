use Rattle.std.proofs.Common.{[], ◌∷◌}
use Rattle.dg_watch.specs.Told.{Saw}
use Rattle.dg_watch.proofs.Telling.{lost_refused}
use Rattle.dg_watch.proofs.handing.show.Goals as goal

pub returns-in-Ok-clause-ok : goal.returns-in-Ok-clause-ok
returns-in-Ok-clause-ok g c = record { told = c.in-Ok.ensures.seen; steady = c.in-Ok.ensures.cause.steady }

pub returns-in-Err-clause-err : goal.returns-in-Err-clause-err
returns-in-Err-clause-err g c =
    lost_refused g.A.Showing.watching (c.args.showing.now, c.args.sink.now) (c.seen.new.self, c.seen.new.sink) (Saw c.args.event ∷ []) c.in-Err.ensures.seen c.in-Err.ensures.cause.later c.in-Err.ensures.cause.failed c.in-Err.ensures.cause.once
