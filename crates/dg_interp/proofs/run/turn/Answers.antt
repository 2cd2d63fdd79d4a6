use Rattle.dg_interp.proofs.Rounds.{next_told, next_broken, next_lacks, next_breaks}
use Rattle.dg_interp.proofs.run.turn.Goals as goal

pub returns-in-Ok-clause-ok : goal.returns-in-Ok-clause-ok
returns-in-Ok-clause-ok g c = next_told g.A.Showing.watching c.args.engine.now c.do_goal.new.engine c.args.output.now.printer.spacer c.do_goal.new.output.printer.spacer (c.args.output.now.printer.showing, c.args.sink.now) (c.do_goal.new.output.printer.showing, c.do_goal.new.sink) _ _ c.requires.goal (rw c.in-Ok-None.field-0-is at c.in-Ok-None.ensures.ok) c.next_goal.new.self c.told.new.engine c.told.new.output.printer.spacer c.told.ensures.spacer (c.told.new.output.printer.showing, c.told.new.sink) c.in-Ok.ending c.in-Ok.ensures.next c.told.result c.told.ensures.told

pub returns-in-Ok-clause-err : goal.returns-in-Ok-clause-err
returns-in-Ok-clause-err g c = next_broken g.A.Showing.watching c.args.engine.now c.do_goal.new.engine c.args.output.now.printer.spacer c.do_goal.new.output.printer.spacer (c.args.output.now.printer.showing, c.args.sink.now) (c.do_goal.new.output.printer.showing, c.do_goal.new.sink) _ _ c.requires.goal (rw c.in-Ok-None.field-0-is at c.in-Ok-None.ensures.ok) c.next_goal.new.self c.told.new.engine c.told.new.output.printer.spacer c.told.ensures.spacer (c.told.new.output.printer.showing, c.told.new.sink) c.in-Ok.ending c.in-Ok.ensures.next c.told.result c.told.ensures.told

pub returns-in-Ok-limit-clause-ok : goal.returns-in-Ok-limit-clause-ok
returns-in-Ok-limit-clause-ok g c =
    rw c.in-Ok-limit.is at (next_lacks g.A.Showing.watching c.args.engine.now c.do_goal.new.engine c.args.output.now.printer.spacer c.do_goal.new.output.printer.spacer (c.args.output.now.printer.showing, c.args.sink.now) (c.do_goal.new.output.printer.showing, c.do_goal.new.sink) _ _ c.requires.goal (rw c.in-Ok-None.field-0-is at c.in-Ok-None.ensures.ok) c.next_goal.new.self c.in-Err-next_goal.lack c.limit.result c.limit.ensures c.next_goal.ensures.left c.in-Err-next_goal.ensures.lacks)

pub returns-in-Err-limit-clause-err : goal.returns-in-Err-limit-clause-err
returns-in-Err-limit-clause-err g c = rw c.in-Err-limit.is at (next_breaks g.A.Showing.watching c.args.engine.now c.do_goal.new.engine c.args.output.now.printer.spacer c.do_goal.new.output.printer.spacer (c.args.output.now.printer.showing, c.args.sink.now) (c.do_goal.new.output.printer.showing, c.do_goal.new.sink) _ _ c.requires.goal (rw c.in-Ok-None.field-0-is at c.in-Ok-None.ensures.ok) c.in-Err-next_goal.lack c.limit.result c.limit.ensures)
