use Rattle.dg_plain.proofs.StepLemmas.{on_ok, parted}
use Rattle.dg_put.proofs.StepLemmas.{values_off}
use Rattle.dg_put.proofs.steps.look_values.Goals as goal

pub returns-in-len1-up : goal.returns-in-len1-up
returns-in-len1-up c = on_ok c.put_off_both.result _ _ c.put_off_both.ensures (values_off c.args.at c.args.values.now _ _ c.args.left.now.items _ (parted c.args.values.now c.first-item.result c.in-len1-up.len_at_least c.first-item.is))
