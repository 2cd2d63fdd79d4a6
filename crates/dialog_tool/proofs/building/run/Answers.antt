use Rattle.std.proofs.Common.{◌∙◌, refl, subst, Some}
use Rattle.dg_base.specs.Written.{SinkView}
use Rattle.dialog_tool.specs.Promise.{Answers}
use Rattle.dialog_tool.specs.inside.Building.{HasNoStory}
use Rattle.dialog_tool.specs.inside.Calls.{call}
use Rattle.dialog_tool.specs.Command.{run as run_command}
use Rattle.dialog_tool.specs.inside.CommandView.{task_view}
use Rattle.dialog_tool.proofs.BuildLemmas.{none_to_run}
use Rattle.dialog_tool.proofs.building.run.Goals as goal

pub returns-in-Ok-story_of : goal.returns-in-Ok-story_of
returns-in-Ok-story_of g c =
    let from = c.in-Ok.ensures.program in
    let plays = c.play_story.ensures (g.F.Shelf.view c.args.shelf.now) (g.F.Shelf.view c.program_in.new.shelf) from.0 c.in-Ok.program from.1 from.2 c.in-Ok-story_of.ensures.story in
    subst (λ (before : SinkView). Answers (call (Some (run_command (task_view c.args.task.now))) c.args.dice.now (g.F.Shelf.view c.args.shelf.now) (g.F.Shelf.view c.program_in.new.shelf)
    (g.S.Source.view c.args.input.now) (g.S.Source.view c.play_story.new.input) before (g.K.Sink.view c.play_story.new.out)) c.play_story.result) (c.in-Ok-story_of.ensures.silent ∙ c.in-Ok.ensures.silent) plays

pub returns-in-Err-story_of : goal.returns-in-Err-story_of
returns-in-Err-story_of g c =
    let from = c.in-Ok.ensures.program in
    let none = subst (λ (before : SinkView). HasNoStory c.in-Ok.program c.args.task.now.name.now before (g.K.Sink.view c.story_of.new.out) c.in-Err-story_of.status) c.in-Ok.ensures.silent c.in-Err-story_of.ensures.none in
    none_to_run _ (task_view c.args.task.now) from.0 _ c.in-Ok.program refl from.1 from.2 refl none
