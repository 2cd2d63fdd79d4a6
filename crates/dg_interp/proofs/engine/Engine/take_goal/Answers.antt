use Rattle.std.proofs.Common.{subst, sym}
use Rattle.dg_choices.specs.declared.frames.Frame.{Frame}
use Rattle.dg_interp.specs.inside.Engine.{Taken}
use Rattle.dg_interp.proofs.Turns.{goal_taken}
use Rattle.dg_interp.proofs.engine.Engine.take_goal.Goals as goal

pub returns : goal.returns
returns c =
    let old = c.args.self.now in
    let left = c.take.new.left in
    let x = c.take.result.now in
    record {
      taken = subst (λ (f : Frame). Taken x old (record old { here = f; left = left })) (sym c.take.ensures.same)
          (goal_taken old x c.take.new.here.goals left c.requires.ready c.take.ensures.split c.take.ensures.counted);
    }
