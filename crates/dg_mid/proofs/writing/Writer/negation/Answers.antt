use Rattle.std.proofs.Common.{arith}
use Rattle.dg_base.specs.declared.program.Goal.TheVariants as goals
use Rattle.dg_mid.specs.declared.code.Op.TheVariants as op
use Rattle.dg_mid.proofs.Weights.{ops_reverse, op_alone, weight_not}
use Rattle.dg_mid.proofs.WritingLemmas.{neat_alone}
use Rattle.dg_mid.proofs.Opening.{opens, open_not}
use Rattle.dg_mid.proofs.writing.Writer.negation.Goals as goal

pub returns : goal.returns
returns c =
    opens c.args.self.now.blocks _ c.args.work c.in_ok-open.field-0 c.in_ok-ops.ops.items (goals.Not c.args.inner) (op.Try c.in_ok-alt.alt) c.args.inner c.in_ok-alt.ensures.blocks c.in_ok-open.ensures.ops c.in_ok-open.ensures.goals c.in_ok-open.ensures.levels tt
    (λ h. neat_alone _ c.in_ok-ops.ops.items op.Refuse c.in_ok-ops.ensures tt (c.in_ok-alt.ensures.lands.neat h).blocks_are)
    (λ w. let l = c.in_ok-alt.ensures.lands.light w in omega (arith, ops_reverse w c.args.work.ops.items, op_alone w c.in_ok-ops.ops.items op.Refuse c.in_ok-ops.ensures, weight_not w c.args.inner))
    (open_not c.args.self.now.blocks _ c.args.work.ops.items c.in_ok-ops.ops.items c.args.inner c.in_ok-alt.alt c.in_ok-alt.ensures.lands c.in_ok-ops.ensures)
