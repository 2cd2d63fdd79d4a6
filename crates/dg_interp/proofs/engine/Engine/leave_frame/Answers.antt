use Rattle.std.proofs.Common.{◌∙◌, ap}
use Rattle.std.specs.Prelude.{max}
use Rattle.dg_interp.proofs.Places.{frame_left}
use Rattle.dg_interp.proofs.engine.Engine.leave_frame.Goals as goal

pub returns : goal.returns
returns c = record {
  left = frame_left c.args.self.now c.truncate.new.self c.index.result.now c.max-needed.result c.requires.ready c.requires.goals c.requires.mark c.requires.behind c.index.ensures
      (c.max-needed.ensures ∙ ap (λ n. max n c.index.result.now.behind) c.floor.ensures) c.truncate.ensures.items;
}
