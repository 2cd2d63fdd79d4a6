use Rattle.dg_base.proofs.Views.{arm_seen}
use Rattle.dg_base.proofs.WalkLemmas.{parted, arms_then, put_next}
use Rattle.dg_base.proofs.walk.take_arms.Goals as goal

pub returns-in-len1-up : goal.returns-in-len1-up
returns-in-len1-up c = put_next _ _ _ _ _ c.put_three.ensures (arms_then c.args.twice c.args.arms.now c.first-item.result _ _ _ (parted c.args.arms.now c.first-item.result c.in-len1-up.len_at_least c.first-item.is) (arm_seen c.first-item.result))
