use Rattle.std.proofs.Common.{◌∙◌, refl, sym, subst, Some, List, ℕ}
use Rattle.dg_base.specs.Written.{SinkView}
use Rattle.dialog_tool.specs.Promise.{Answers, HasStory}
use Rattle.dialog_tool.specs.inside.Building.{HasNoStory}
use Rattle.dialog_tool.specs.inside.Calls.{call}
use Rattle.dialog_tool.specs.Command.{build as build_command}
use Rattle.dialog_tool.proofs.BuildLemmas.{handed, none_to_store}
use Rattle.dialog_tool.proofs.building.build.Goals as goal

pub returns-in-Ok-story_of : goal.returns-in-Ok-story_of
returns-in-Ok-story_of g c = λ dice input.
    let from = c.in-Ok.ensures.program in
    let command = Some (build_command c.args.name.now c.args.to.now) in
    let has = subst (λ (l : List ℕ). HasStory c.in-Ok.program l) (sym c.deref.ensures.value) c.in-Ok-story_of.ensures.story in
    let stored = c.store.ensures.stored command (g.F.Shelf.view c.args.shelf.now) c.args.name.now from.0 dice input from.1 in
    let stored_by = call command dice (g.F.Shelf.view c.args.shelf.now) (g.F.Shelf.view c.store.new.shelf) input input (g.K.Sink.view c.story_of.new.out) (g.K.Sink.view c.store.new.out) in
    let stores = handed stored_by c.args.name.now c.args.to.now from.0 _ c.in-Ok.program _ (g.F.Shelf.view c.program_in.new.shelf) refl from.1 from.2 has c.store.ensures.others stored in
    subst (λ (before : SinkView). Answers (call command dice (g.F.Shelf.view c.args.shelf.now) (g.F.Shelf.view c.store.new.shelf)
    input input before (g.K.Sink.view c.store.new.out)) c.store.result) (c.in-Ok-story_of.ensures.silent ∙ c.in-Ok.ensures.silent) stores

pub returns-in-Err-story_of : goal.returns-in-Err-story_of
returns-in-Err-story_of g c = λ dice input.
    let from = c.in-Ok.ensures.program in
    let none = subst (λ (before : SinkView). HasNoStory c.in-Ok.program c.args.name.now before (g.K.Sink.view c.story_of.new.out) c.in-Err-story_of.status) c.in-Ok.ensures.silent c.in-Err-story_of.ensures.none in
    none_to_store _ c.args.name.now c.args.to.now from.0 _ c.in-Ok.program refl from.1 from.2 refl none
