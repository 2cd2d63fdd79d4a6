use Rattle.std.proofs.Common.{◌+◌, ◌%◌, None, Some, length, refl, sym, subst}
use Rattle.z_model.specs.declared.end.Effect.{Effect}
use Rattle.z_model.specs.declared.end.Halt.TheVariants.{AtQuit}
use Rattle.z_play.specs.View.{layout_in, machine}
use Rattle.z_play.specs.inside.Scene.{given_by}
use Rattle.z_play.specs.inside.Acting.{Finished, Finishes}
use Rattle.z_play.proofs.Finishing.{finish_draws, finish_quits, finish_plain, is_plain, line_finished}
use Rattle.z_play.proofs.player.finish.Goals as goal

pub returns-in-Draws-clause-told : goal.returns-in-Draws-clause-told
returns-in-Draws-clause-told g c = λ typed told. subst (λ (effect : Effect). Finished (given_by (layout_in c.args.engine.now) c.args.dice.now) effect (machine c.args.engine.now) typed c.args.drawn.now None (machine c.args.engine.now) (g.S.Source.view c.args.source.now).left ((c.args.drawn.now + 1) % length c.args.dice.now)) (sym c.in-Draws.is) (finish_draws (given_by (layout_in c.args.engine.now) c.args.dice.now) (machine c.args.engine.now) typed c.args.drawn.now (g.S.Source.view c.args.source.now).left told)

pub returns-in-Quits-clause-told : goal.returns-in-Quits-clause-told
returns-in-Quits-clause-told g c = λ typed told. subst (λ (effect : Effect). Finished (given_by (layout_in c.args.engine.now) c.args.dice.now) effect (machine c.args.engine.now) typed c.args.drawn.now (Some AtQuit) (machine c.args.engine.now) (g.S.Source.view c.args.source.now).left c.args.drawn.now) (sym c.in-Quits.is) (finish_quits (given_by (layout_in c.args.engine.now) c.args.dice.now) (machine c.args.engine.now) typed c.args.drawn.now (g.S.Source.view c.args.source.now).left told)

pub returns-in-PrintsLine-clause-untold : goal.returns-in-PrintsLine-clause-untold
returns-in-PrintsLine-clause-untold g c = λ left may.
    (left, line_finished (given_by (layout_in c.args.engine.now) c.args.dice.now) c.args.effect (machine c.args.engine.now) (machine c.give_back.new.self) c.in-PrintsLine.field-0 left c.args.drawn.now c.give_back.result c.in-PrintsLine.is c.requires.can c.give_back.ensures.returned)

pub returns-in-Draws-clause-untold : goal.returns-in-Draws-clause-untold
returns-in-Draws-clause-untold g c = λ left may.
    (left, subst (λ (effect : Effect). Finished (given_by (layout_in c.args.engine.now) c.args.dice.now) effect (machine c.args.engine.now) left c.args.drawn.now None (machine c.args.engine.now) (Some left) ((c.args.drawn.now + 1) % length c.args.dice.now)) (sym c.in-Draws.is) (finish_draws (given_by (layout_in c.args.engine.now) c.args.dice.now) (machine c.args.engine.now) left c.args.drawn.now (Some left) refl))

pub returns-in-Reads-clause-untold : goal.returns-in-Reads-clause-untold
returns-in-Reads-clause-untold g c = λ left may.
    let source = c.read_line.ensures.untold c.args.dice.now left c.args.drawn.now may in
    (source.0, subst (λ (effect : Effect). Finishes c.read_line.result (given_by (layout_in c.args.engine.now) c.args.dice.now) effect (machine c.args.engine.now) source.0 c.args.drawn.now (machine c.read_line.new.engine) (Some left) c.args.drawn.now) (sym c.in-Reads.is) source.1)

pub returns-in-ReadsKey-clause-untold : goal.returns-in-ReadsKey-clause-untold
returns-in-ReadsKey-clause-untold g c = λ left may.
    let source = c.read_key.ensures.untold c.args.dice.now left c.args.drawn.now may in
    (source.0, subst (λ (effect : Effect). Finishes c.read_key.result (given_by (layout_in c.args.engine.now) c.args.dice.now) effect (machine c.args.engine.now) source.0 c.args.drawn.now (machine c.read_key.new.engine) (Some left) c.args.drawn.now) (sym c.in-ReadsKey.is) source.1)

pub returns-in-Quits-clause-untold : goal.returns-in-Quits-clause-untold
returns-in-Quits-clause-untold g c = λ left may.
    (left, subst (λ (effect : Effect). Finished (given_by (layout_in c.args.engine.now) c.args.dice.now) effect (machine c.args.engine.now) left c.args.drawn.now (Some AtQuit) (machine c.args.engine.now) (Some left) c.args.drawn.now) (sym c.in-Quits.is) (finish_quits (given_by (layout_in c.args.engine.now) c.args.dice.now) (machine c.args.engine.now) left c.args.drawn.now (Some left) refl))

pub returns-in-Goes-clause-untold : goal.returns-in-Goes-clause-untold
returns-in-Goes-clause-untold g c = λ left may.
    (left, finish_plain (given_by (layout_in c.args.engine.now) c.args.dice.now) c.args.effect (machine c.args.engine.now) left c.args.drawn.now (Some left) (is_plain c.args.effect c.in-Goes.is) refl)
