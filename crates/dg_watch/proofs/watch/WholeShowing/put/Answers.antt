use Rattle.dg_watch.specs.Watched.{watched}
use Rattle.dg_watch.proofs.Telling.{puts_beside}
use Rattle.dg_watch.proofs.watch.WholeShowing.put.Goals as goal

pub returns-clause-puts : goal.returns-clause-puts
returns-clause-puts g c =
    puts_beside (watched g.W.Watch.stands g.W.Watch.test (λ w. (g.W.Sink.view w).faults)) c.args.self.now c.args.self.now c.args.sink.now c.put.new.self c.args.piece.now c.put.result
    (g.met.W.Watch.puts c.args.sink.now c.put.new.self c.args.piece.now c.put.result c.put.ensures.more)
