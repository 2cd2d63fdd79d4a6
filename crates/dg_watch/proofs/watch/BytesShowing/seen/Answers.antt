use Rattle.dg_base.proofs.WrittenLemmas.{wrote_nothing}
use Rattle.dg_watch.specs.Plainly.{calm}
use Rattle.dg_watch.proofs.watch.BytesShowing.seen.Goals as goal

pub returns-clause-seen : goal.returns-clause-seen
returns-clause-seen g c = wrote_nothing (calm (g.K.Sink.view c.args._sink.now))
