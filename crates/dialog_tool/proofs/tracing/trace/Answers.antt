use Rattle.std.proofs.Common.{Some, subst}
use Rattle.dg_base.specs.Written.{SinkView}
use Rattle.dialog_tool.specs.Promise.{Answers}
use Rattle.dialog_tool.specs.inside.Calls.{call}
use Rattle.dialog_tool.specs.Command.{trace as trace_command}
use Rattle.dialog_tool.specs.inside.CommandView.{task_view}
use Rattle.dialog_tool.proofs.tracing.trace.Goals as goal

pub returns-in-Ok : goal.returns-in-Ok
returns-in-Ok g c =
    let from = c.in-Ok.ensures.program in
    let traces = c.trace_program-status.ensures (g.F.Shelf.view c.args.shelf.now) (g.F.Shelf.view c.program_in.new.shelf) from.0 from.1 from.2 in
    subst (λ (before : SinkView). Answers (call (Some (trace_command (task_view c.args.task.now))) c.args.dice.now (g.F.Shelf.view c.args.shelf.now) (g.F.Shelf.view c.program_in.new.shelf)
    (g.S.Source.view c.args.input.now) (g.S.Source.view c.trace_program-status.new.input) before (g.K.Sink.view c.trace_program-status.new.out)) c.trace_program-status.result) c.in-Ok.ensures.silent traces
