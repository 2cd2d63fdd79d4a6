use Rattle.std.proofs.Common.{refl, sym, subst}
use Rattle.dg_base.specs.declared.program.Goal.{Goal}
use Rattle.dg_base.specs.Begins.{Begins}
use Rattle.dg_mid.specs.declared.writing.Work.{Work}
use Rattle.dg_mid.specs.Actions.{goal_of}
use Rattle.dg_mid.specs.Writing.{Moves, with_goal}
use Rattle.dg_mid.proofs.Opening.{puts_moves, begins_here}
use Rattle.dg_mid.proofs.writing.Writer.plain.Goals as goal

pub returns : goal.returns
returns c =
    let after : Work = record { ops = c.in_ok-ops.ops; goals = c.args.work.goals; levels = c.args.work.levels } in
    subst (λ (g : Goal). Moves c.args.self.now.blocks (with_goal g c.args.work) c.act.new.self.blocks after) c.in-Some.ensures
    (puts_moves c.args.self.now.blocks c.act.new.self.blocks c.args.work after (goal_of c.in-Some.action) refl refl (subst (Begins c.args.self.now.blocks) (sym c.in_ok-ops.ensures.blocks) (begins_here c.args.self.now.blocks))
    c.in_ok-ops.ensures.first)
