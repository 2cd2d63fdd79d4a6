use Rattle.dg_watch.specs.Plainly.{plainly}
use Rattle.dg_watch.proofs.Plain.{bytes_put}
use Rattle.dg_watch.proofs.Telling.{puts_beside}
use Rattle.dg_watch.proofs.watch.BytesShowing.put.Goals as goal

pub returns-clause-puts : goal.returns-clause-puts
returns-clause-puts g c =
    puts_beside (plainly g.K.Sink.view) c.args.self.now c.args.self.now c.args.sink.now c.put.new.self c.args.piece.now c.put.result
    (bytes_put _ g.K.Sink.view c.args.sink.now c.put.new.self c.args.piece.now c.put.result c.put.ensures.part c.put.ensures.taken c.put.ensures.room c.put.ensures.fits)
