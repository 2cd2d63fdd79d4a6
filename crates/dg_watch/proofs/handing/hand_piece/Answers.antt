use Rattle.std.proofs.Common.{[], ◌∷◌}
use Rattle.dg_watch.specs.Told.{took, Saw}
use Rattle.dg_watch.specs.declared.watch.CallEvent.TheVariants.{Printed}
use Rattle.dg_watch.proofs.Telling.{given_on, lost_first, lost_later}
use Rattle.dg_watch.proofs.handing.hand_piece.Goals as goal

pub returns-in-Err-clause-err : goal.returns-in-Err-clause-err
returns-in-Err-clause-err g c = lost_first g.A.Showing.watching (c.args.showing.now, c.args.sink.now) (c.hand_over.new.showing, c.hand_over.new.sink) (took c.args.bytes.now) (Saw Printed ∷ []) c.in-Err.ensures.err

pub returns-in-Ok-show-clause-ok : goal.returns-in-Ok-show-clause-ok
returns-in-Ok-show-clause-ok g c =
    given_on g.A.Showing.watching (c.args.showing.now, c.args.sink.now) (c.hand_over.new.showing, c.hand_over.new.sink) (c.show.new.showing, c.show.new.sink) (took c.args.bytes.now) (Saw Printed ∷ []) c.in-Ok.ensures.ok c.in-Ok-show.ensures.ok

pub returns-in-Err-show-clause-err : goal.returns-in-Err-show-clause-err
returns-in-Err-show-clause-err g c =
    lost_later g.A.Showing.watching (c.args.showing.now, c.args.sink.now) (c.hand_over.new.showing, c.hand_over.new.sink) (c.show.new.showing, c.show.new.sink) (took c.args.bytes.now) (Saw Printed ∷ []) c.in-Ok.ensures.ok c.in-Err-show.ensures.err
