use Rattle.dg_plain.proofs.StepLemmas.{on_ok, parted}
use Rattle.std.proofs.Common.{refl}
use Rattle.dg_put.proofs.StepLemmas.{arms_two_off}
use Rattle.dg_put.proofs.steps.look_arms.Goals as goal

pub returns-in_ok-put-in-len1-up : goal.returns-in_ok-put-in-len1-up
returns-in_ok-put-in-len1-up c = on_ok c.put_off_two.result _ _ c.put_off_two.ensures (arms_two_off c.args.at c.args.arms.now c.first-item.result _ _ _ c.args.left.now.items _ _ (parted c.args.arms.now c.first-item.result c.in-len1-up.len_at_least c.first-item.is) refl refl c.in_ok-put-in-len1-up.ensures)
