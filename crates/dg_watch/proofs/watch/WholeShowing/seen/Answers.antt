use Rattle.std.proofs.Common.{[], ◌∷◌}
use Rattle.dg_watch.specs.Told.{Saw}
use Rattle.dg_watch.specs.Watched.{watched}
use Rattle.dg_watch.proofs.Telling.{told_beside}
use Rattle.dg_watch.proofs.watch.WholeShowing.seen.Goals as goal

pub returns-clause-seen : goal.returns-clause-seen
returns-clause-seen g c =
    told_beside (watched g.W.Watch.stands g.W.Watch.test (λ w. (g.W.Sink.view w).faults)) (Saw c.args.event ∷ []) c.args.self.now c.args.self.now c.args.sink.now c.seen.new.self c.seen.result c.seen.ensures.seen
