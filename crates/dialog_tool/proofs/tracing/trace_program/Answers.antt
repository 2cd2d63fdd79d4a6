use Rattle.std.proofs.Common.{Err, ap, refl}
use Rattle.dialog_tool.specs.Promise.{has_traced, has_lost}
use Rattle.dialog_tool.specs.inside.CommandView.{task_view}
use Rattle.dialog_tool.proofs.TraceLemmas.{trace_comes}
use Rattle.dialog_tool.proofs.tracing.trace_program.Goals as goal

pub returns-in-Ok : goal.returns-in-Ok
returns-in-Ok g c = λ before after file f compiles.
    let traced = rw (c.thrown-dice.ensures.dice, c.limits_of.ensures) at c.in-Ok.ensures.shows in
    trace_comes _ (task_view c.args.task.now) file _ c.args.program.now _ refl f compiles (λ typed contents h. has_traced c.in-Ok.outcome c.status_of.ensures h) traced

pub returns-in-Err : goal.returns-in-Err
returns-in-Err g c = λ before after file f compiles.
    let lost = rw (c.thrown-dice.ensures.dice, c.limits_of.ensures) at c.in-Err.ensures.err in
    trace_comes _ (task_view c.args.task.now) file _ c.args.program.now _ refl f compiles (λ typed contents h. has_lost c.in-Err.fault c.status_of_fault.ensures (λ e. c.in-Err.ensures.read (ap Err e)) h) lost
