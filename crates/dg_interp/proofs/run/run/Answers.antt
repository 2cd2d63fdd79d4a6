use Rattle.std.proofs.Common.{arith}
use Rattle.dg_base.specs.declared.run.Ending.TheVariants.{StepLimit}
use Rattle.dg_interp.proofs.Runs.{run_limited}
use Rattle.dg_interp.proofs.Rounds.{goes_nowhere, goes_further, ended_reaches, broken_reaches, ended_further}
use Rattle.dg_interp.proofs.run.run.Goals as goal

pub goals-init : goal.goals-init
goals-init g c = goes_nowhere g.A.Showing.watching c.args.engine.now c.args.output.now.printer.spacer (c.args.output.now.printer.showing, c.args.sink.now) _ c.requires.ready c.requires.goal c.requires.quiet

pub goals-preserved : goal.goals-preserved
goals-preserved g c = goes_further g.A.Showing.watching c.args.engine.now c.goals.engine c.args.output.now.printer.spacer c.goals.output.printer.spacer c.turn.new.output.printer.spacer (c.args.output.now.printer.showing, c.args.sink.now) (c.goals.output.printer.showing, c.goals.sink) (c.turn.new.output.printer.showing, c.turn.new.sink) _ _ _ c.goals.invariant c.turn.new.engine (rw c.in-Ok-None.field-0-is at c.in-Ok-None.ensures.ok).0

pub returns-in-Ok-Some-clause-ok : goal.returns-in-Ok-Some-clause-ok
returns-in-Ok-Some-clause-ok g c = ended_further g.A.Showing.watching c.args.engine.now c.goals.engine c.args.output.now.printer.spacer c.goals.output.printer.spacer c.turn.new.output.printer.spacer (c.args.output.now.printer.showing, c.args.sink.now) (c.goals.output.printer.showing, c.goals.sink) (c.turn.new.output.printer.showing, c.turn.new.sink) _ _ _ c.goals.invariant c.in-Ok-Some.ending c.turn.new.engine.left (rw c.in-Ok-Some.field-0-is at c.in-Ok-Some.ensures.ok)

pub returns-in-Err-clause-err : goal.returns-in-Err-clause-err
returns-in-Err-clause-err g c = broken_reaches g.A.Showing.watching c.args.engine.now c.goals.engine c.args.output.now.printer.spacer c.goals.output.printer.spacer c.turn.new.output.printer.spacer (c.args.output.now.printer.showing, c.args.sink.now) (c.goals.output.printer.showing, c.goals.sink) (c.turn.new.output.printer.showing, c.turn.new.sink) _ _ _ c.goals.invariant c.in-Err.fault c.in-Err.ensures.err

pub returns-clause-ok : goal.returns-clause-ok
returns-clause-ok g c =
    ended_reaches g.A.Showing.watching c.args.engine.now c.goals.engine c.args.output.now.printer.spacer c.goals.output.printer.spacer c.goals.output.printer.spacer (c.args.output.now.printer.showing, c.args.sink.now) (c.goals.output.printer.showing, c.goals.sink) (c.goals.output.printer.showing, c.goals.sink) _ _ _ c.goals.invariant StepLimit c.goals.engine.left
    (run_limited g.A.Showing.watching c.goals.engine c.goals.output.printer.spacer _ _ c.goals.invariant.goal (omega (arith, c.goals-test.false)))

pub goals-smaller : goal.goals-smaller
goals-smaller g c = let h = (rw c.in-Ok-None.field-0-is at c.in-Ok-None.ensures.ok).1 in omega (arith, h)
