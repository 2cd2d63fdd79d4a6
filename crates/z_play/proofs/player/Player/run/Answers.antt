use Rattle.std.proofs.Common.{rules, ◌≡◌, Some, false, refl}
use Rattle.z_model.specs.Story.{layout_of, first_address, memory_of, first_machine, given_of, start_state}
use Rattle.z_play.specs.View.{layout_in, machine}
use Rattle.z_play.specs.inside.Scene.{scene}
use Rattle.z_play.proofs.Lines.{runs_as}
use Rattle.z_play.proofs.player.Player.run.Goals as goal

pub returns-clause-told : goal.returns-clause-told
returns-clause-told g c = λ typed told.
    let layout : (layout_in c.reset.new.engine) ≡ layout_of c.args.self.now = search rules in
    let first : machine c.reset.new.engine ≡ first_machine c.args.self.now c.self.inside.start = search rules in
    let whole : memory_of c.args.self.now ≡ c.args.self.now = search rules in
    let at : c.self.inside.start ≡ first_address c.args.self.now = search rules in
    c.close_run.ensures.plays (given_of c.args.self.now c.args.dice.now) (start_state c.args.self.now typed) c.args.steps (g.S.Source.view c.args.source.now).faults (g.S.Source.view c.run_steps-ended.new.source).faults
    (scene (machine c.reset.new.engine) 0 false (g.S.Source.view c.args.source.now).left (g.K.Sink.view c.args.sink.now))
    (scene (machine c.run_steps-ended.new.engine) 0 c.run_steps-ended.new.begun (g.S.Source.view c.run_steps-ended.new.source).left (g.K.Sink.view c.run_steps-ended.new.sink)) refl refl refl c.run_steps-ended.ensures.causes.read_failed
    (runs_as c.args.self.now c.args.dice.now typed (layout_in c.reset.new.engine) c.self.inside.start (machine c.reset.new.engine) c.run_steps-ended.result c.args.steps
    (scene (machine c.reset.new.engine) 0 false (g.S.Source.view c.args.source.now).left (g.K.Sink.view c.args.sink.now))
    (scene (machine c.run_steps-ended.new.engine) 0 c.run_steps-ended.new.begun (g.S.Source.view c.run_steps-ended.new.source).left (g.K.Sink.view c.run_steps-ended.new.sink)) layout whole at first
    (c.run_steps-ended.ensures.told typed told 0))

pub returns-clause-untold : goal.returns-clause-untold
returns-clause-untold g c =
    let layout : (layout_in c.reset.new.engine) ≡ layout_of c.args.self.now = search rules in
    let first : machine c.reset.new.engine ≡ first_machine c.args.self.now c.self.inside.start = search rules in
    let whole : memory_of c.args.self.now ≡ c.args.self.now = search rules in
    let at : c.self.inside.start ≡ first_address c.args.self.now = search rules in
    let ran = c.run_steps-ended.ensures.untold 0 in
    record {
      typed = ran.0;
      left = ran.1;
      plays = c.close_run.ensures.plays (given_of c.args.self.now c.args.dice.now) (start_state c.args.self.now ran.0) c.args.steps (g.S.Source.view c.args.source.now).faults (g.S.Source.view c.run_steps-ended.new.source).faults
          (scene (machine c.reset.new.engine) 0 false (Some ran.0) (g.K.Sink.view c.args.sink.now))
          (scene (machine c.run_steps-ended.new.engine) 0 c.run_steps-ended.new.begun (Some ran.1) (g.K.Sink.view c.run_steps-ended.new.sink)) refl refl refl c.run_steps-ended.ensures.causes.read_failed
          (runs_as c.args.self.now c.args.dice.now ran.0 (layout_in c.reset.new.engine) c.self.inside.start (machine c.reset.new.engine) c.run_steps-ended.result c.args.steps
          (scene (machine c.reset.new.engine) 0 false (Some ran.0) (g.K.Sink.view c.args.sink.now))
          (scene (machine c.run_steps-ended.new.engine) 0 c.run_steps-ended.new.begun (Some ran.1) (g.K.Sink.view c.run_steps-ended.new.sink)) layout whole at first
          (ran.2));
    }

pub returns-clause-causes : goal.returns-clause-causes
returns-clause-causes g c =
    c.close_run.ensures.causes (g.S.Source.view c.args.source.now) (g.S.Source.view c.run_steps-ended.new.source) (g.K.Sink.view c.args.sink.now) c.run_steps-ended.ensures.causes

pub run_steps-ended-requires-clause-recent : goal.run_steps-ended-requires-clause-recent
run_steps-ended-requires-clause-recent g c = c.clear.ensures.recent c.reset.new.engine.memory.base c.reset.new.engine.memory.bytes.items
