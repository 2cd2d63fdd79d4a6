use Rattle.dg_chain.proofs.Ops as ops
use Rattle.dg_chain.proofs.laws.ops_make_steps.Goals as goal

pub returns : goal.returns
returns c = λ w set at turns others printed. ops.ops_make_steps w set at turns others printed
