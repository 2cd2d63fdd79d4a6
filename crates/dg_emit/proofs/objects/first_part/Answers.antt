use Rattle.dg_emit.proofs.Chains.{take_all}
use Rattle.dg_emit.proofs.objects.first_part.Goals as goal

pub returns-then-leaves-le-PART : goal.returns-then-leaves-le-PART
returns-then-leaves-le-PART c = take_all 32 c.args.leaves.now c.if-leaves-le-PART.true
