use Rattle.std.proofs.Common.{refl}
use Rattle.dialog_tool.specs.inside.CommandView.{task_view}
use Rattle.dialog_tool.proofs.AnswerLemmas.{story_refused, no_room}
use Rattle.dialog_tool.proofs.PlayLemmas.{play_comes}
use Rattle.dialog_tool.proofs.playing.play_file.Goals as goal

pub returns-in-Ok : goal.returns-in-Ok
returns-in-Ok g c = λ before after f.
    play_comes _ (task_view c.args.task.now) c.args.file.items _ refl f c.in-Ok.ensures.loaded.accepted (c.run_player.ensures _ before after c.args.file.items c.in-Ok.ensures.loaded)

pub returns-in-Err-Refused : goal.returns-in-Err-Refused
returns-in-Err-Refused g c = λ before after f.
    let refused = rw c.in-Err-Refused.field-0-is at c.in-Err-Refused.ensures.refused in
    story_refused _ (task_view c.args.task.now) c.args.file.items _ c.in-Err-Refused.refusal refl f (refused c.in-Err-Refused.refusal refl) refl c.refuse_story.ensures

pub returns-in-Err-OutOfMemory : goal.returns-in-Err-OutOfMemory
returns-in-Err-OutOfMemory g c = λ before after f. no_room _ _ f.kept refl c.no_memory.ensures
