use Rattle.std.proofs.Common.{arith}
use Rattle.dg_base.specs.declared.program.Goal.TheVariants as goals
use Rattle.dg_mid.specs.declared.code.Op.TheVariants as op
use Rattle.dg_mid.proofs.Weights.{op_added, weight_once}
use Rattle.dg_mid.proofs.WritingLemmas.{neat_put}
use Rattle.dg_mid.proofs.Opening.{opens, open_once, begins_here}
use Rattle.dg_mid.proofs.writing.Writer.first_answer.Goals as goal

pub returns : goal.returns
returns c =
    opens c.args.self.now.blocks c.args.self.now.blocks c.args.work c.in_ok-open.field-0 c.in_ok-ops.ops.items (goals.Once c.args.inner) op.Once c.args.inner (begins_here c.args.self.now.blocks) c.in_ok-open.ensures.ops c.in_ok-open.ensures.goals c.in_ok-open.ensures.levels tt
    (λ h. neat_put c.args.self.now.blocks c.args.work.ops.items c.in_ok-ops.ops.items op.Commit c.in_ok-ops.ensures tt h)
    (λ w. omega (arith, op_added w c.args.work.ops.items c.in_ok-ops.ops.items op.Commit c.in_ok-ops.ensures, weight_once w c.args.inner))
    (open_once c.args.self.now.blocks c.args.work.ops.items c.in_ok-ops.ops.items c.args.inner c.in_ok-ops.ensures)
