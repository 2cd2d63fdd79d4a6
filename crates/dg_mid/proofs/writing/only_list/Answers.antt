use Rattle.dg_base.specs.declared.program.Goal.TheVariants as goals
use Rattle.std.proofs.Common.{[], ◌∷◌, arith}
use Rattle.dg_mid.specs.declared.code.Op.TheVariants as op
use Rattle.dg_mid.proofs.Weights.{weight_either}
use Rattle.dg_mid.proofs.Opening.{opens, open_only, begins_here}
use Rattle.dg_mid.proofs.writing.only_list.Goals as goal

pub returns : goal.returns
returns c blocks =
    opens blocks blocks c.args.work c.in_ok-open.field-0 c.args.work.ops.items (goals.Either (c.args.list ∷ [])) op.Take c.args.list (begins_here blocks) c.in_ok-open.ensures.ops c.in_ok-open.ensures.goals c.in_ok-open.ensures.levels tt (λ h. h)
    (λ w. omega (arith, weight_either w (c.args.list ∷ [])))
    (open_only blocks c.args.work.ops.items c.args.list)
