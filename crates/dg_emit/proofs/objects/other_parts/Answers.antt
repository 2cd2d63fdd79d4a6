use Rattle.dg_emit.proofs.Chains.{drop_all}
use Rattle.dg_emit.proofs.objects.other_parts.Goals as goal

pub returns-then-leaves-le-PART : goal.returns-then-leaves-le-PART
returns-then-leaves-le-PART c = drop_all 32 c.args.leaves.now c.if-leaves-le-PART.true
