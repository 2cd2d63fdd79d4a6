use Rattle.std.proofs.Common.{refl}
use Rattle.dialog_tool.specs.inside.CommandView.{task_view}
use Rattle.dialog_tool.proofs.AnswerLemmas.{no_room}
use Rattle.dialog_tool.proofs.BuildLemmas.{built_plays}
use Rattle.dialog_tool.proofs.building.play_story.Goals as goal

pub returns-in-Ok : goal.returns-in-Ok
returns-in-Ok g c = λ before after file p f compiles has.
    built_plays _ (task_view c.args.task.now) file _ p c.args.story.items refl f compiles has (c.run_player.ensures _ before after c.args.story.items c.in-Ok.ensures.loaded)

pub returns-in-Err : goal.returns-in-Err
returns-in-Err g c = λ before after file p f compiles has. no_room _ _ f.kept refl c.no_memory.ensures
