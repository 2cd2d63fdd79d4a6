use Rattle.std.proofs.Common.{ℕ, subst, sym}
use Rattle.z_model.specs.Effects.{answers}
use Rattle.z_play.specs.View.{machine, layout_in}
use Rattle.z_play.specs.inside.Effects.{GivesEffect}
use Rattle.z_play.proofs.Entered.{callers_long}
use Rattle.z_play.proofs.engine.Engine.catch_frame.Goals as goal

pub returns-clause-caught : goal.returns-clause-caught
returns-clause-caught c =
    subst (λ (n : ℕ). GivesEffect c.answer.result (layout_in c.args.self.now) (machine c.answer.new.self) (answers (layout_in c.args.self.now) (machine c.args.self.now) c.args.end c.args.store n))
    (sym (callers_long c.args.self.now c.requires)) c.answer.ensures.answered
