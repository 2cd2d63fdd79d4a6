use Rattle.std.proofs.Common.{refl}
use Rattle.dialog_tool.specs.inside.CommandView.{task_view}
use Rattle.dialog_tool.proofs.AnswerLemmas.{outside, run_comes, no_room_to_run}
use Rattle.dialog_tool.proofs.RunLemmas.{run_ended, run_unread, run_unwritten}
use Rattle.dialog_tool.proofs.dispatch.run_source.Goals as goal

pub returns-in-Ok : goal.returns-in-Ok
returns-in-Ok g c = λ before after file f compiles.
    let shown = rw (c.thrown-dice.ensures.dice, c.limits_of.ensures) at c.in-Ok.ensures.shows in
    run_comes _ (task_view c.args.task.now) file _ c.args.program _ refl f compiles (λ typed contents h. run_ended _ (outside contents typed) (task_view c.args.task.now) c.args.program _ c.in-Ok.outcome c.status_of.ensures h) shown

pub returns-in-Err-Read : goal.returns-in-Err-Read
returns-in-Err-Read g c = λ before after file f compiles.
    let lost = rw (c.in-Err-Read.field-0-is, c.thrown-dice.ensures.dice, c.limits_of.ensures) at c.in-Err-Read.ensures.input in
    let rose = rw c.in-Err-Read.field-0-is at c.in-Err-Read.ensures.read in
    run_comes _ (task_view c.args.task.now) file _ c.args.program _ refl f compiles (λ typed contents h. run_unread _ (outside contents typed) (task_view c.args.task.now) c.args.program _ refl (rose refl) h) (lost refl)

pub returns-in-Err-Write : goal.returns-in-Err-Write
returns-in-Err-Write g c = λ before after file f compiles.
    let lost = rw (c.in-Err-Write.field-0-is, c.thrown-dice.ensures.dice, c.limits_of.ensures) at c.in-Err-Write.ensures.output in
    run_comes _ (task_view c.args.task.now) file _ c.args.program _ refl f compiles (λ typed contents h. run_unwritten _ (outside contents typed) (task_view c.args.task.now) c.args.program _ refl h) (lost refl)

pub returns-in-Err-OutOfMemory : goal.returns-in-Err-OutOfMemory
returns-in-Err-OutOfMemory g c = λ before after file f compiles.
    let untouched = rw c.in-Err-OutOfMemory.field-0-is at c.in-Err-OutOfMemory.ensures.memory in
    no_room_to_run _ _ file (g.K.Sink.view c.run_program.new.sink) _ f (untouched refl) c.no_memory.ensures
