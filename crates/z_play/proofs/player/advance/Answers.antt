use Rattle.std.proofs.Common.{None, Some, refl, subst}
use Rattle.z_model.specs.declared.story.Layout.{Layout}
use Rattle.z_play.specs.View.{layout_in, machine}
use Rattle.z_play.specs.inside.Scene.{scene, given_by}
use Rattle.z_model.specs.declared.end.Effect.TheVariants.{Goes}
use Rattle.z_play.specs.inside.Acting.{Finished, Unfinished}
use Rattle.z_play.proofs.Finishing.{plain_goes}
use Rattle.dg_base.proofs.WrittenLemmas.{wrote_nothing}
use Rattle.z_play.proofs.Going.{halted_by, came_by, unread_by, cut_by}
use Rattle.z_play.proofs.player.advance.Goals as goal

pub returns-in-Err-clause-told : goal.returns-in-Err-clause-told
returns-in-Err-clause-told g c = λ typed told. halted_by (given_by (layout_in c.args.engine.now) c.args.dice.now) (scene (machine c.args.engine.now) c.args.drawn.now c.args.begun.now (g.S.Source.view c.args.source.now).left (g.K.Sink.view c.args.sink.now)) (scene (machine c.step.new.self) c.args.drawn.now c.args.begun.now (g.S.Source.view c.args.source.now).left (g.K.Sink.view c.args.sink.now)) typed c.in-Err.fault c.in-Err.ensures.stepped told refl refl (wrote_nothing (g.K.Sink.view c.args.sink.now))

pub returns-in-Ok-Goes-clause-told : goal.returns-in-Ok-Goes-clause-told
returns-in-Ok-Goes-clause-told g c = λ typed told.
    let stepped = rw c.in-Ok-Goes.field-0-is at c.in-Ok-Goes.ensures.stepped in
    came_by (given_by (layout_in c.args.engine.now) c.args.dice.now) (scene (machine c.args.engine.now) c.args.drawn.now c.args.begun.now (g.S.Source.view c.args.source.now).left (g.K.Sink.view c.args.sink.now)) (scene (machine c.step.new.self) c.args.drawn.now c.args.begun.now (g.S.Source.view c.args.source.now).left (g.K.Sink.view c.args.sink.now)) typed Goes (machine c.step.new.self) None stepped.0 (wrote_nothing (g.K.Sink.view c.args.sink.now)) refl (plain_goes (given_by (layout_in c.args.engine.now) c.args.dice.now) (machine c.step.new.self) typed c.args.drawn.now (g.S.Source.view c.args.source.now).left told)

pub returns-in-Err-print-clause-told : goal.returns-in-Err-print-clause-told
returns-in-Err-print-clause-told g c = λ typed told. cut_by (given_by (layout_in c.args.engine.now) c.args.dice.now) (scene (machine c.args.engine.now) c.args.drawn.now c.args.begun.now (g.S.Source.view c.args.source.now).left (g.K.Sink.view c.args.sink.now)) (scene (machine c.step.new.self) c.args.drawn.now c.args.begun.now (g.S.Source.view c.args.source.now).left (g.K.Sink.view c.print.new.sink)) typed c.in-Ok.effect (machine c.step.new.self) c.in-Ok.ensures.stepped.0 c.in-Ok.ensures.stepped.1 told c.in-Err-print.ensures.err

pub returns-in-Ok-finish-clause-told : goal.returns-in-Ok-finish-clause-told
returns-in-Ok-finish-clause-told g c = λ typed told.
    let finished = subst (λ (l : Layout). Finished (given_by l c.args.dice.now) c.in-Ok.effect (machine c.step.new.self) typed c.args.drawn.now c.in-Ok-finish.halt (machine c.finish.new.engine) (g.S.Source.view c.finish.new.source).left c.finish.new.drawn) c.in-Ok.ensures.kept.layout (c.in-Ok-finish.ensures.told typed told) in
    came_by (given_by (layout_in c.args.engine.now) c.args.dice.now) (scene (machine c.args.engine.now) c.args.drawn.now c.args.begun.now (g.S.Source.view c.args.source.now).left (g.K.Sink.view c.args.sink.now)) (scene (machine c.finish.new.engine) c.finish.new.drawn c.in-Ok-print.now (g.S.Source.view c.finish.new.source).left (g.K.Sink.view c.print.new.sink)) typed c.in-Ok.effect (machine c.step.new.self) c.in-Ok-finish.halt c.in-Ok.ensures.stepped.0 c.in-Ok-print.ensures.ok c.in-Ok-print.ensures.begun finished

pub returns-in-Err-finish-clause-told : goal.returns-in-Err-finish-clause-told
returns-in-Err-finish-clause-told g c = λ typed told.
    let unfinished = subst (λ (l : Layout). Unfinished (given_by l c.args.dice.now) c.in-Ok.effect (machine c.step.new.self) typed c.args.drawn.now (g.S.Source.view c.finish.new.source).left) c.in-Ok.ensures.kept.layout (c.in-Err-finish.ensures.told typed told) in
    unread_by (given_by (layout_in c.args.engine.now) c.args.dice.now) (scene (machine c.args.engine.now) c.args.drawn.now c.args.begun.now (g.S.Source.view c.args.source.now).left (g.K.Sink.view c.args.sink.now)) (scene (machine c.finish.new.engine) c.finish.new.drawn c.in-Ok-print.now (g.S.Source.view c.finish.new.source).left (g.K.Sink.view c.print.new.sink)) typed c.in-Ok.effect (machine c.step.new.self) c.in-Ok.ensures.stepped.0 c.in-Ok-print.ensures.ok c.in-Ok-print.ensures.begun unfinished

pub returns-in-Err-clause-untold : goal.returns-in-Err-clause-untold
returns-in-Err-clause-untold g c = λ left may. (left, halted_by (given_by (layout_in c.args.engine.now) c.args.dice.now) (scene (machine c.args.engine.now) c.args.drawn.now c.args.begun.now (Some left) (g.K.Sink.view c.args.sink.now)) (scene (machine c.step.new.self) c.args.drawn.now c.args.begun.now (Some left) (g.K.Sink.view c.args.sink.now)) left c.in-Err.fault c.in-Err.ensures.stepped refl refl refl (wrote_nothing (g.K.Sink.view c.args.sink.now)))

pub returns-in-Ok-Goes-clause-untold : goal.returns-in-Ok-Goes-clause-untold
returns-in-Ok-Goes-clause-untold g c = λ left may.
    let stepped = rw c.in-Ok-Goes.field-0-is at c.in-Ok-Goes.ensures.stepped in
    (left, came_by (given_by (layout_in c.args.engine.now) c.args.dice.now) (scene (machine c.args.engine.now) c.args.drawn.now c.args.begun.now (Some left) (g.K.Sink.view c.args.sink.now)) (scene (machine c.step.new.self) c.args.drawn.now c.args.begun.now (Some left) (g.K.Sink.view c.args.sink.now)) left Goes (machine c.step.new.self) None stepped.0 (wrote_nothing (g.K.Sink.view c.args.sink.now)) refl (plain_goes (given_by (layout_in c.args.engine.now) c.args.dice.now) (machine c.step.new.self) left c.args.drawn.now (Some left) refl))

pub returns-in-Err-print-clause-untold : goal.returns-in-Err-print-clause-untold
returns-in-Err-print-clause-untold g c = λ left may. (left, cut_by (given_by (layout_in c.args.engine.now) c.args.dice.now) (scene (machine c.args.engine.now) c.args.drawn.now c.args.begun.now (Some left) (g.K.Sink.view c.args.sink.now)) (scene (machine c.step.new.self) c.args.drawn.now c.args.begun.now (Some left) (g.K.Sink.view c.print.new.sink)) left c.in-Ok.effect (machine c.step.new.self) c.in-Ok.ensures.stepped.0 c.in-Ok.ensures.stepped.1 refl c.in-Err-print.ensures.err)

pub returns-in-Ok-finish-clause-untold : goal.returns-in-Ok-finish-clause-untold
returns-in-Ok-finish-clause-untold g c = λ left may.
    let source = c.in-Ok-finish.ensures.untold left may in
    let finished = subst (λ (l : Layout). Finished (given_by l c.args.dice.now) c.in-Ok.effect (machine c.step.new.self) source.0 c.args.drawn.now c.in-Ok-finish.halt (machine c.finish.new.engine) (Some left) c.finish.new.drawn) c.in-Ok.ensures.kept.layout source.1 in
    (source.0, came_by (given_by (layout_in c.args.engine.now) c.args.dice.now) (scene (machine c.args.engine.now) c.args.drawn.now c.args.begun.now (Some source.0) (g.K.Sink.view c.args.sink.now)) (scene (machine c.finish.new.engine) c.finish.new.drawn c.in-Ok-print.now (Some left) (g.K.Sink.view c.print.new.sink)) source.0 c.in-Ok.effect (machine c.step.new.self) c.in-Ok-finish.halt c.in-Ok.ensures.stepped.0 c.in-Ok-print.ensures.ok c.in-Ok-print.ensures.begun finished)

pub returns-in-Err-finish-clause-untold : goal.returns-in-Err-finish-clause-untold
returns-in-Err-finish-clause-untold g c = λ left may.
    let source = c.in-Err-finish.ensures.untold left tt in
    let unfinished = subst (λ (l : Layout). Unfinished (given_by l c.args.dice.now) c.in-Ok.effect (machine c.step.new.self) source.0 c.args.drawn.now (Some left)) c.in-Ok.ensures.kept.layout source.1 in
    (source.0, unread_by (given_by (layout_in c.args.engine.now) c.args.dice.now) (scene (machine c.args.engine.now) c.args.drawn.now c.args.begun.now (Some source.0) (g.K.Sink.view c.args.sink.now)) (scene (machine c.finish.new.engine) c.finish.new.drawn c.in-Ok-print.now (Some left) (g.K.Sink.view c.print.new.sink)) source.0 c.in-Ok.effect (machine c.step.new.self) c.in-Ok.ensures.stepped.0 c.in-Ok-print.ensures.ok c.in-Ok-print.ensures.begun unfinished)
