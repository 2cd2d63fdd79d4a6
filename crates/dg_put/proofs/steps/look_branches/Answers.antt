use Rattle.dg_plain.proofs.StepLemmas.{on_ok, parted}
use Rattle.dg_put.proofs.StepLemmas.{branches_off}
use Rattle.dg_put.proofs.steps.look_branches.Goals as goal

pub returns-in-len1-up : goal.returns-in-len1-up
returns-in-len1-up c = on_ok c.put_off_first.result _ _ c.put_off_first.ensures (branches_off c.args.at c.args.branches.now c.first-item.result _ _ _ c.args.left.now.items _ (parted c.args.branches.now c.first-item.result c.in-len1-up.len_at_least c.first-item.is) c.as_slice.ensures c.len.ensures)
