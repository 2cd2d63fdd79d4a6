use Rattle.std.proofs.Common.{◌∙◌, refl, subst, Some}
use Rattle.dg_base.specs.Written.{SinkView}
use Rattle.dialog_tool.specs.Promise.{Answers, AreItsMarks}
use Rattle.dialog_tool.specs.inside.Building.{HasNoStory}
use Rattle.dialog_tool.specs.inside.Calls.{call}
use Rattle.dialog_tool.specs.Command.{list as list_command}
use Rattle.dialog_tool.proofs.ListLemmas.{none_listed, taken_short}
use Rattle.dialog_tool.proofs.listing.list.Goals as goal

pub list_story-requires-clause-short : goal.list_story-requires-clause-short
list_story-requires-clause-short g c = taken_short c.in-Ok-story_of.built.story.items c.in-Ok-story_of.ensures.story.taken

pub list_story-requires-clause-apart : goal.list_story-requires-clause-apart
list_story-requires-clause-apart g c = c.in-Ok-story_of.ensures.built.marks.apart

pub returns-in-Ok-story_of : goal.returns-in-Ok-story_of
returns-in-Ok-story_of g c = λ dice input.
    let from = c.in-Ok.ensures.program in
    let made = c.in-Ok-story_of.ensures in
    let are : AreItsMarks c.in-Ok.program c.in-Ok-story_of.built.story.items c.in-Ok-story_of.built.marks.items = record { rules = made.built.marks.names; apart = made.built.marks.apart } in
    let lists = c.list_story.ensures (g.F.Shelf.view c.args.shelf.now) (g.F.Shelf.view c.program_in.new.shelf) c.args.name.now from.0 dice input c.in-Ok.program from.1 from.2 made.story are in
    subst (λ (before : SinkView). Answers (call (Some (list_command c.args.name.now)) dice (g.F.Shelf.view c.args.shelf.now) (g.F.Shelf.view c.program_in.new.shelf)
    input input before (g.K.Sink.view c.list_story.new.out)) c.list_story.result) (c.in-Ok-story_of.ensures.silent ∙ c.in-Ok.ensures.silent) lists

pub returns-in-Err-story_of : goal.returns-in-Err-story_of
returns-in-Err-story_of g c = λ dice input.
    let from = c.in-Ok.ensures.program in
    let none = subst (λ (before : SinkView). HasNoStory c.in-Ok.program c.args.name.now before (g.K.Sink.view c.story_of.new.out) c.in-Err-story_of.status) c.in-Ok.ensures.silent c.in-Err-story_of.ensures.none in
    none_listed _ c.args.name.now from.0 _ c.in-Ok.program refl from.1 from.2 refl none
