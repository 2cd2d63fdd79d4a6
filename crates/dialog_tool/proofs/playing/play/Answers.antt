use Rattle.std.proofs.Common.{refl}
use Rattle.dialog_tool.specs.inside.CommandView.{task_view}
use Rattle.dialog_tool.proofs.AnswerLemmas.{story_long, story_lost, no_room}
use Rattle.dialog_tool.proofs.playing.play.Goals as goal

pub returns-in-Err-TooLong : goal.returns-in-Err-TooLong
returns-in-Err-TooLong g c =
    let long = rw c.in-Err-TooLong.field-0-is at c.in-Err-TooLong.ensures.too_long in
    story_long _ (task_view c.args.task.now) _ refl c.in-Err-TooLong.ensures.kept (long refl) refl c.refuse_story.ensures

pub returns-in-Err-Failed : goal.returns-in-Err-Failed
returns-in-Err-Failed g c =
    let failed = rw c.in-Err-Failed.field-0-is at c.in-Err-Failed.ensures.failed in
    let missing = rw c.in-Err-Failed.field-0-is at c.in-Err-Failed.ensures.sure in
    story_lost _ (task_view c.args.task.now) _ refl c.in-Err-Failed.ensures.kept (failed refl) (λ sure. missing sure refl) refl c.file_fault.ensures

pub returns-in-Err-OutOfMemory : goal.returns-in-Err-OutOfMemory
returns-in-Err-OutOfMemory g c = no_room _ _ c.in-Err-OutOfMemory.ensures.kept refl c.no_memory.ensures
