use Rattle.std.proofs.Common.{◌∙◌}
use Rattle.std.specs.Prelude.{Err}
use Rattle.dg_base.specs.declared.program.Goal.TheVariants.{Input}
use Rattle.dg_interp.specs.inside.Engine.{TakesAt}
use Rattle.dg_interp.proofs.Runs.{lack_from}
use Rattle.dg_interp.proofs.Doing.{goal_does, goal_breaks}
use Rattle.dg_interp.proofs.run.read_input.Goals as goal

pub returns-in-Err-clause-ok : goal.returns-in-Err-clause-ok
returns-in-Err-clause-ok g c = λ old some taken.
    goal_does g.A.Showing.watching (Input c.args.term.now) old c.args.engine.now c.args.output.now.printer.spacer (c.args.output.now.printer.showing, c.args.sink.now) _ some taken c.requires.quiet c.write_input.new.self c.outcome.new.engine c.outcome.new.output.printer.spacer c.outcome.ensures.spacer (c.outcome.new.output.printer.showing, c.outcome.new.sink) c.outcome.result c.write_input.ensures.left (Err c.lacking.result) c.outcome.ensures.comes tt
    (rw c.lacking.ensures (lack_from (TakesAt (Input c.args.term.now) c.args.engine.now) c.args.engine.now c.in-Err.full c.in-Err.ensures.full))

pub returns-in-Err-clause-err : goal.returns-in-Err-clause-err
returns-in-Err-clause-err g c = λ old some taken.
    goal_breaks g.A.Showing.watching (Input c.args.term.now) old c.args.engine.now c.args.output.now.printer.spacer (c.args.output.now.printer.showing, c.args.sink.now) _ some taken c.requires.quiet c.write_input.new.self c.outcome.new.engine c.outcome.new.output.printer.spacer c.outcome.ensures.spacer (c.outcome.new.output.printer.showing, c.outcome.new.sink) c.outcome.result c.write_input.ensures.left (Err c.lacking.result) c.outcome.ensures.comes tt

pub read_line-requires-clause-ready : goal.read_line-requires-clause-ready
read_line-requires-clause-ready g c = c.in-Ok.ensures.written.ready

pub read_line-requires-clause-into : goal.read_line-requires-clause-into
read_line-requires-clause-into g c = c.in-Ok.ensures.written.holds

pub read_line-requires-clause-quiet : goal.read_line-requires-clause-quiet
read_line-requires-clause-quiet g c = c.in-Ok.ensures.written.limits.told ∙ c.requires.quiet

pub returns-in-Ok-clause-ok : goal.returns-in-Ok-clause-ok
returns-in-Ok-clause-ok g c = λ old some taken. c.read_line.ensures.ok c.args.term.now old c.args.engine.now some taken c.in-Ok.ensures.written

pub returns-in-Ok-clause-err : goal.returns-in-Ok-clause-err
returns-in-Ok-clause-err g c = λ old some taken. c.read_line.ensures.err c.args.term.now old c.args.engine.now some taken c.in-Ok.ensures.written
