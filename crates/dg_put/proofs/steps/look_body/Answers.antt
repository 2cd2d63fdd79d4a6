use Rattle.dg_plain.proofs.StepLemmas.{on_ok}
use Rattle.dg_put.proofs.StepLemmas.{body_off}
use Rattle.dg_put.proofs.steps.look_body.Goals as goal

pub returns : goal.returns
returns c = on_ok c.put_off.result _ _ c.put_off.ensures (body_off c.args.at _ _ _ c.args.left.now.items _ c.as_slice.ensures c.len.ensures)
